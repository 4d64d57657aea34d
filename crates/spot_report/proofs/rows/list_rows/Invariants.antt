use Rattle.std.proofs.Common.{◌≡◌, ◌-◌, vec_items}
use Rattle.caches.specs.Caches.{History}
use Rattle.single.specs.Calls.{Tables}
use Rattle.single.specs.Lent.{lent}
use Rattle.single.specs.Runs.{AsSeparate}
use Rattle.spot_report.specs.Spot.{rows}
use Rattle.spot_report.specs.Steps.{Reached}
use Rattle.spot_report.proofs.rows.list_rows.Given as goal

abbrev pub invariant-loop-processor : goal.invariant-loop-processor
invariant-loop-processor g l =
    let m = g.M.SetMap.meaning l.cache.setup.map in
    let s = l.cache.setup.settings in
    (t₀ : Tables) (h : History) → AsSeparate m s → Reached m s t₀ h l.cache.accepted (lent l.tables) → vec_items l.rows ≡ rows m s h (l.processor - 1)
