-- The evening sheet of an input, in the words of the separate caches: no table and no stack is named here.
use Rattle.std.specs.Prelude.{ℕ, ◌+◌, ◌*◌, Bool, cond, not, ◌&&◌, ◌||◌, List, [], ◌∷◌, length, Some, None, Ok, Err, Option, Result, ◌==◌, nat_lt}
use Rattle.setmap.specs.Mapping.{Mapping}
use Rattle.trace.specs.Items.{Item, reference, bad, block_of}
use Rattle.trace.specs.Refusals.{outside}
use Rattle.trace.specs.Text.{Parsed, pieces, line_items}
use Rattle.trace.specs.declared.Reference.{Reference}
use Rattle.trace.specs.declared.Refusal.{Refusal}
use Rattle.trace.specs.declared.Refusal.TheVariants.{Setting, Level, ShortTable, Processor, Blocks}
use Rattle.caches.specs.Caches.{History, among}
use Rattle.stack_theory.specs.Stacks.{met}
use Rattle.tables.specs.declared.Settings.{Settings}
use Rattle.tables.specs.Tables.{row}
use Rattle.tables.specs.Calls.{unlimited}
use Rattle.theory.specs.Runs.{access}
use Rattle.report.specs.Inputs.{input_lines}
use Rattle.report.specs.Refused.{refused_line, Reading, refused_too}
use Rattle.report.specs.Reports.{Content, alone, whole, only, unless_settings, content_text}
use Rattle.report.specs.Settings.{mapping}
use Rattle.report.specs.declared.RefusedLine.{RefusedLine}
use Rattle.sheet_report.specs.declared.Chosen.{Chosen}
use Rattle.sheets.specs.declared.Row.{Row}
use Rattle.sheets.specs.Settings.{settings_of}
use Rattle.sheets.specs.Sheets.{rows, heading, row_shown}
use Rattle.sheet_report.specs.Settings.{chosen}

-- why a reference is refused after the accepted ones, if it is: its processor, or a block too many
abbrev pub verdict : Settings → History → Reference → Option Refusal
verdict s h r =
    cond (outside 1 s.processors r.processor) (Some Processor)
    (cond (not (among (block_of s.shift r.address) (met h)) && length (met h) == s.blocks) (Some Blocks) None)

-- a trace read to its end, from a line on and after some accepted references
abbrev pub reading : Settings → ℕ → List Item → History → Reading
reading s line [] h = record { refused = []; history = h }
reading s line (bad x ∷ items) h = refused_too (refused_line line x) (reading s (line + 1) items h)
reading s line (reference r ∷ items) h =
    elim (verdict s h r) [
      | None ↦ reading s (line + 1) items (access s r ∷ h)
      | Some x ↦ refused_too (refused_line line x) (reading s (line + 1) items h)
    ]

-- why the settings are refused, where 5,120 entries, 256 known blocks, 4,096 marks and 8,192 counters are lent
abbrev pub too_large : Settings → Bool
too_large s = nat_lt 5120 (s.processors * s.entries) || (nat_lt 256 s.blocks || (nat_lt 4096 (s.processors * s.blocks) || nat_lt 8192 (s.processors * row s)))

abbrev pub settings_refusal : Mapping → Settings → Option Refusal
settings_refusal m s = cond (unlimited s) (Some Setting) (cond (nat_lt m.levels s.levels) (Some Level) (cond (too_large s) (Some ShortTable) None))

abbrev pub studied : Mapping → Settings → List Item → Content Row
studied m s items =
    let read = reading s 2 items [] in
    whole read.refused (rows m read.history s.levels s.ways s.processors)

abbrev pub first_line : Parsed Chosen → List Item → Content Row
first_line (Err x) items = only 1 x
first_line (Ok x) items =
    let m = mapping x.map in
    let s = settings_of x.sizes in
    unless_settings (settings_refusal m s) (studied m s items)

abbrev pub lines_content : Result (List ℕ × List (List ℕ)) RefusedLine → Content Row
lines_content (Err x) = alone x
lines_content (Ok (l, ls)) = first_line (chosen (pieces 44 l)) (line_items ls)

-- the evening sheet of an input
abbrev pub evening : List ℕ → Content Row
evening bytes = lines_content (input_lines bytes)

-- ---- the text of a sheet

abbrev pub text_of : Content Row → List ℕ
text_of c = content_text heading row_shown c
