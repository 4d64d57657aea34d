use Rattle.order.proofs.Kept.{own_in_order, write_in_order, write_skipped}
use Rattle.order.proofs.order_is_kept.Goals as goal

pub returns : goal.returns
returns c = (own_in_order, write_in_order, write_skipped)
