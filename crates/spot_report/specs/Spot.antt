-- The report of a spot check, in the words of the separate caches: no table is named here.
use Rattle.std.specs.Prelude.{ℕ, zero, suc, ◌+◌, cond, List, [], ◌∷◌, ◌++◌, Ok, Err, codes, Result}
use Rattle.setmap.specs.Mapping.{Mapping}
use Rattle.trace.specs.Items.{Item, reference, bad}
use Rattle.trace.specs.Refusals.{outside}
use Rattle.trace.specs.Text.{Parsed, pieces, line_items}
use Rattle.trace.specs.declared.Refusal.TheVariants.{Processor}
use Rattle.caches.specs.Caches.{History}
use Rattle.single.specs.declared.Settings.{Settings}
use Rattle.single.specs.Calls.{settings_refusal}
use Rattle.single.specs.Runs.{access, tallies}
use Rattle.rendering.specs.Lines.{joined}
use Rattle.report.specs.Inputs.{input_lines}
use Rattle.report.specs.Refused.{refused_line, Reading, refused_too}
use Rattle.report.specs.Reports.{Content, alone, whole, only, unless_settings, content_text}
use Rattle.report.specs.Settings.{mapping}
use Rattle.report.specs.declared.RefusedLine.{RefusedLine}
use Rattle.spot_report.specs.declared.Chosen.{Chosen}
use Rattle.spot_report.specs.declared.Row.{Row}
use Rattle.spot_report.specs.Settings.{chosen}

-- a trace read to its end, from a line on and after some accepted references
abbrev pub reading : Settings → ℕ → List Item → History → Reading
reading s line [] h = record { refused = []; history = h }
reading s line (bad x ∷ items) h = refused_too (refused_line line x) (reading s (line + 1) items h)
reading s line (reference r ∷ items) h =
    cond (outside 1 s.processors r.processor)
    (refused_too (refused_line line Processor) (reading s (line + 1) items h))
    (reading s (line + 1) items (access s r ∷ h))

-- a line for each of the first n processors
abbrev pub rows : Mapping → Settings → History → ℕ → List Row
rows m s h zero = []
rows m s h (suc n) = rows m s h n ++ (record { processor = suc n; tallies = tallies m s (suc n) h } ∷ [])

abbrev pub spotted_on : Mapping → Settings → List Item → Content Row
spotted_on m s items =
    let read = reading s 2 items [] in
    whole read.refused (rows m s read.history s.processors)

abbrev pub first_line : Parsed Chosen → List Item → Content Row
first_line (Err x) items = only 1 x
first_line (Ok x) items = unless_settings (settings_refusal (mapping x.map) x.settings) (spotted_on (mapping x.map) x.settings items)

abbrev pub lines_content : Result (List ℕ × List (List ℕ)) RefusedLine → Content Row
lines_content (Err x) = alone x
lines_content (Ok (l, ls)) = first_line (chosen (pieces 44 l)) (line_items ls)

-- the report of an input
abbrev pub spot_check : List ℕ → Content Row
spot_check bytes = lines_content (input_lines bytes)

-- ---- the text of a report

abbrev pub heading : List ℕ
heading = codes "processor,references,hits,drops"

-- what is written of a row, without its line feed
abbrev pub row_shown : Row → List ℕ
row_shown x = joined (x.processor ∷ (x.tallies.references ∷ (x.tallies.hits ∷ (x.tallies.drops ∷ []))))

abbrev pub text_of : Content Row → List ℕ
text_of c = content_text heading row_shown c
