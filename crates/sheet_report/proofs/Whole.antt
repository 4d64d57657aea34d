-- A whole sheet: from the set-up to the rows.
use Rattle.std.proofs.Common.{◌≡◌, ◌≤◌, List, [], length, refl, ap, ◌∙◌, arith}
use Rattle.setmap.specs.Mapping.{Mapping}
use Rattle.setmap.specs.declared.SetMap.{Ghosts}
use Rattle.trace.specs.Items.{Item}
use Rattle.caches.specs.Caches.{History}
use Rattle.tables.specs.declared.Settings.{Settings}
use Rattle.report.specs.declared.RefusedLine.{RefusedLine}
use Rattle.sheets.specs.declared.Row.{Row}
use Rattle.sheets.specs.declared.owning.SheetStudy.{SheetStudy}
use Rattle.sheets.specs.Sheets.{rows}
use Rattle.sheets.specs.Studies.{HasAccepted, PutThrough}
use Rattle.report.specs.Reports.{whole}
use Rattle.sheet_report.specs.Evening.{reading, studied}
use Rattle.sheet_report.proofs.Readings.{reading_same}

-- what a study without references makes of a trace
pub put_whole : {M : Type 0} {G : Ghosts M} (m : Mapping) (s : Settings) (before after : SheetStudy M G) (items : List Item) (refused : List RefusedLine) (v : List Row)
    → before.settings ≡ s → after.settings ≡ s → length items ≤ 65536 → HasAccepted m before [] → PutThrough m before after items 2 refused
    → ((h : History) → HasAccepted m after h → v ≡ rows m h after.settings.levels after.settings.ways after.settings.processors) → whole refused v ≡ studied m s items
put_whole m s before after items refused v es es' few none through shown =
    let put = through [] none in
    let same = reading_same before.settings 2 items [] (omega arith) in
    ap (λ y. whole y v) (put.1 ∙ ap (λ y. y.refused) same)
    ∙ ap (whole (reading before.settings 2 items []).refused) (shown _ put.0 ∙ ap (λ y. rows m y.history after.settings.levels after.settings.ways after.settings.processors) same)
    ∙ rw (es, es') refl
