use Rattle.std.proofs.Common.{◌≡◌, length}
use Rattle.order.specs.Order.{Distinct}
use Rattle.order.proofs.Stacks.{Passed}
use Rattle.order.proofs.rows.row_in_order.Given as goal

abbrev pub invariant-loop-e : goal.invariant-loop-e
invariant-loop-e l = (length l.seen ≡ 4096) × (Distinct l.known → Passed l.known l.marks l.es l.seen l.rest)

abbrev pub decreases-loop-e : goal.decreases-loop-e
decreases-loop-e l = length l.rest
