-- Refused lines of an input, and a trace read to its end.
use Rattle.std.specs.Prelude.{ℕ, List, [], ◌∷◌, codes}
use Rattle.trace.specs.Items.{number_of}
use Rattle.trace.specs.declared.Refusal.{Refusal}
use Rattle.caches.specs.Caches.{History}
use Rattle.rendering.specs.Lines.{titled, ended}
use Rattle.report.specs.declared.RefusedLine.{RefusedLine}

abbrev pub refused_line : ℕ → Refusal → RefusedLine
refused_line line x = record { line = line; number = number_of x }

-- what is written of a refused line, without its line feed and as a line
abbrev pub refused_shown : RefusedLine → List ℕ
refused_shown x = titled (codes "refused") (x.line ∷ (x.number ∷ []))

abbrev pub refused_text : RefusedLine → List ℕ
refused_text x = ended (refused_shown x)

-- a trace read to its end: its refused lines in order, and its accepted references
pub record Reading : Type 0 where
  pub refused : List RefusedLine
  pub history : History

abbrev pub refused_too : RefusedLine → Reading → Reading
refused_too x r = record { refused = x ∷ r.refused; history = r.history }
