use Rattle.std.proofs.Common.{◌≡◌, ◌-◌, IfSome}
use Rattle.study.specs.Steps.{KnownInOrder}
use Rattle.tables.specs.Calls.{others_write_all}
use Rattle.tables.specs.Lent.{lent, SameSlices}
use Rattle.study.proofs.setup.Setup.write_all.Given as goal

abbrev pub invariant-loop-p : goal.invariant-loop-p
invariant-loop-p g l =
    (lent l.tables ≡ others_write_all (g.M.SetMap.meaning l.self.map) l.self.settings l.w l.spot.block l.spot.place (l.p - 1) (lent l.initial.tables))
    × SameSlices l.initial.tables l.tables
    × IfSome l.ordered (λ n. KnownInOrder l.self.settings n l.spot (lent l.tables))
