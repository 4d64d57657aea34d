-- An input by its lines.
use Rattle.std.specs.Prelude.{ℕ, cond, List, [], ◌∷◌, length, Ok, Err, Result, nat_lt}
use Rattle.trace.specs.Text.{pieces}
use Rattle.trace.specs.declared.Refusal.TheVariants.{Form, CutOff, Input}
use Rattle.report.specs.Refused.{refused_line}
use Rattle.report.specs.declared.RefusedLine.{RefusedLine}

-- Line 1, and the pieces of what follows it: with nothing after line 1's line feed, that is an empty piece.
abbrev pub first_line_of : List (List ℕ) → Result (List ℕ × List (List ℕ)) RefusedLine
first_line_of [] = Err (refused_line 1 Form)
first_line_of ([] ∷ []) = Err (refused_line 1 Form)
first_line_of ((b ∷ bs) ∷ []) = Err (refused_line 1 CutOff)
first_line_of (l ∷ (next ∷ ls)) = Ok (l, next ∷ ls)

abbrev pub input_lines : List ℕ → Result (List ℕ × List (List ℕ)) RefusedLine
input_lines bytes = cond (nat_lt 65536 (length bytes)) (Err (refused_line 0 Input)) (first_line_of (pieces 10 bytes))
