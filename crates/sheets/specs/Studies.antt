-- What a study with tables of its own has accepted.
use Rattle.std.specs.Prelude.{◌≡◌, ℕ, List}
use Rattle.setmap.specs.Mapping.{Mapping}
use Rattle.setmap.specs.declared.SetMap.{Ghosts}
use Rattle.trace.specs.Items.{Item}
use Rattle.caches.specs.Caches.{History}
use Rattle.tables.specs.Tables.{Tables}
use Rattle.study.specs.Steps.{kept_of}
use Rattle.report.specs.declared.RefusedLine.{RefusedLine}
use Rattle.sheets.specs.declared.owning.SheetStudy.{SheetStudy}
use Rattle.sheets.specs.Sheets.{reading}
use Rattle.sheets.specs.Steps.{lists_of, Reached}

-- some calls after a set-up on a map of this meaning have led to the study as it stands, and these references were accepted on the way
abbrev pub HasAccepted : {M : Type 0} {G : Ghosts M} → Mapping → SheetStudy M G → History → Type 0
HasAccepted m x h = (t₀ : Tables) × Reached m x.settings t₀ h (kept_of x.study.known x.study.accepted) (lists_of x.tables)

-- From one to the other, some items were put to the study, the first of them by the number `line`: it has accepted what a reading accepts, and these lines were refused.
abbrev pub PutThrough : {M : Type 0} {G : Ghosts M} → Mapping → (before after : SheetStudy M G) → List Item → (line : ℕ) → List RefusedLine → Type 0
PutThrough m before after items line refused =
    (h : History) → HasAccepted m before h
    → HasAccepted m after (reading before.settings line items h).history × (refused ≡ (reading before.settings line items h).refused)
