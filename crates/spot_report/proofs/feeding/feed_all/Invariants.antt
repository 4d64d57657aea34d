use Rattle.std.proofs.Common.{◌≡◌, ◌+◌, ◌++◌, length, vec_items}
use Rattle.caches.specs.Caches.{History}
use Rattle.single.specs.Calls.{Tables}
use Rattle.single.specs.Lent.{lent, SameSlices}
use Rattle.spot_report.specs.Spot.{reading}
use Rattle.spot_report.specs.Steps.{standing_of, Reached}
use Rattle.spot_report.proofs.Underway.{Underway}
use Rattle.spot_report.proofs.Turns.{Room}
use Rattle.spot_report.proofs.feeding.feed_all.Given as goal

abbrev pub invariant-loop-fault : goal.invariant-loop-fault
invariant-loop-fault g l =
    let m = g.M.SetMap.meaning l.initial.cache.setup.map in
    let s = l.initial.cache.setup.settings in
    let items₀ = g.S.Source.items l.initial.source in
    let n₀ = g.S.Source.answered l.initial.source in
    let items = g.S.Source.items l.source in
    let n = g.S.Source.answered l.source in
    record {
      setup : l.cache.setup ≡ l.initial.cache.setup;
      same : SameSlices l.initial.tables l.tables;
      room : Room (standing_of items n l.cache.accepted (lent l.tables));
      underway : (t₀ : Tables) (h : History) → Reached m s t₀ h l.initial.cache.accepted (lent l.initial.tables)
          → Underway m s t₀ (reading s (n₀ + 1) items₀ h).history (vec_items l.initial.refused ++ (reading s (n₀ + 1) items₀ h).refused) items (n + 1) l.cache.accepted (lent l.tables) (vec_items l.refused);
    }

abbrev pub decreases-loop-fault : goal.decreases-loop-fault
decreases-loop-fault g l = length (g.S.Source.items l.source)
