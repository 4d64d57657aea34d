-- A trace that comes in pieces: what a grid has read of it.
use Rattle.std.specs.Prelude.{◌≡◌, ℕ, ◌^◌, ◌≤◌, cond, List, [], ◌++◌, length, Some, None, vec_items, Option, nat_lt}
use Rattle.setmap.specs.Mapping.{Mapping}
use Rattle.setmap.specs.declared.SetMap.{Ghosts}
use Rattle.trace.specs.declared.Refusal.{Refusal}
use Rattle.trace.specs.declared.Refusal.TheVariants.{Setting, Level}
use Rattle.tables.specs.declared.Settings.{Settings}
use Rattle.tables.specs.Calls.{unlimited}
use Rattle.report.specs.Refused.{Reading}
use Rattle.report.specs.declared.RefusedLine.{RefusedLine}
use Rattle.sheets.specs.Sheets.{reading}
use Rattle.sheets.specs.Studies.{HasAccepted}
use Rattle.cutting.specs.declared.Form.{Form}
use Rattle.cutting.specs.Cutting.{items_of, WholeItems, LeftOver}
use Rattle.grid_report.specs.declared.Grid.{Grid}
use Rattle.grid_report.specs.declared.errors.OpenError.{OpenError}
use Rattle.grid_report.specs.declared.errors.OpenError.TheVariants as opening
use Rattle.grid_report.specs.declared.errors.ReadError.{ReadError}
use Rattle.grid_report.specs.declared.errors.ReadError.TheVariants as reading_on

-- why the settings are refused: the tables are as long as they ask for
abbrev pub grid_refusal : Mapping → Settings → Option Refusal
grid_refusal m s = cond (unlimited s) (Some Setting) (cond (nat_lt m.levels s.levels) (Some Level) None)

abbrev pub NotOpened : Mapping → Settings → OpenError → Type 0
NotOpened m s (opening.Refused x) = grid_refusal m s ≡ Some x
NotOpened m s opening.NoMemory = Unit {0}

-- so much, items and bytes, is too long, or there is no memory
abbrev pub NotRead : ℕ → ReadError → Type 0
NotRead n reading_on.TooLong = 2 ^ 64 ≤ n
NotRead n reading_on.NoMemory = Unit {0}

-- a trace in this form, read from its first item on
abbrev pub trace_reading : Settings → Form → List ℕ → Reading
trace_reading s form bytes = reading s 1 (items_of form bytes) []

-- The grid was given these bytes and has answered these refused items: it holds no more than a piece of an item, and all before was put to its study, counted and answered.
abbrev pub HasRead : {M : Type 0} {G : Ghosts M} → Mapping → Grid M G → List ℕ → List RefusedLine → Type 0
HasRead m g bytes refused =
    (front : List ℕ) × (bytes ≡ front ++ vec_items g.held) × WholeItems g.form front × LeftOver g.form (vec_items g.held)
    × (g.count ≡ length (items_of g.form front))
    × (refused ≡ (trace_reading g.study.settings g.form front).refused)
    × HasAccepted m g.study (trace_reading g.study.settings g.form front).history
