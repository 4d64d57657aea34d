use Rattle.std.proofs.Common.{rules, refl}
use Rattle.order.proofs.Stacks.{none_passed, block_passed}
use Rattle.order.proofs.rows.row_in_order.Goals as goal

pub loop-e-init : goal.loop-e-init
loop-e-init c = (refl, λ d. none_passed c.args.known.now c.args.marks.now c.args.es.now 4096)

pub loop-e-preserved-else-not-see : goal.loop-e-preserved-else-not-see
loop-e-preserved-else-not-see c = search (rules, block_passed)
