use Rattle.std.proofs.Common.{◌≡◌, true, length}
use Rattle.tables.specs.Bulk.{standing_of}
use Rattle.tables.specs.Lent.{lent, SameSlices}
use Rattle.tables.proofs.Bulk.{Underway}
use Rattle.order.specs.Order.{InOrder}
use Rattle.study.specs.Steps.{kept_of}
use Rattle.study.proofs.open.OpenStudy.feed_to_end.Given as goal

abbrev pub invariant-loop : goal.invariant-loop
invariant-loop g l =
    let e = l.initial in
    (l.self.setup ≡ e.self.setup)
    × SameSlices e.tables l.tables
    × (l.ordered ≡ true → InOrder l.self.setup.settings l.self.known (lent l.tables))
    × Underway (g.M.SetMap.meaning e.self.setup.map) e.self.setup.settings
    (standing_of (kept_of e.self.known e.self.accepted) (lent e.tables) (g.S.Source.items e.source) (g.S.Source.answered e.source) (g.K.Sink.taken e.faults))
    (standing_of (kept_of l.self.known l.self.accepted) (lent l.tables) (g.S.Source.items l.source) (g.S.Source.answered l.source) (g.K.Sink.taken l.faults))

abbrev pub decreases-loop : goal.decreases-loop
decreases-loop g l = length (g.S.Source.items l.source)
