use Rattle.std.proofs.Common.{◌-◌}
use Rattle.study.specs.Steps.{RowsInOrder}
use Rattle.tables.specs.Lent.{lent}
use Rattle.study.proofs.setup.Setup.rows_in_order.Given as goal

abbrev pub invariant-loop-p : goal.invariant-loop-p
invariant-loop-p g l = RowsInOrder l.self.settings l.n (lent l.tables) (l.p - 1)
