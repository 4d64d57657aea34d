use Rattle.std.proofs.Common.{arith}
use Rattle.stack.proofs.Raises.{raise_within, raise_past}
use Rattle.stack.proofs.touch.raise.Goals as goal

pub returns-then-to-rest : goal.returns-then-to-rest
returns-then-to-rest c = raise_within c.args.q c.args.to c.args.rest c.args.es.now _ _ c.if-to-rest.true c.requires.1.0 c.bring_to_front.ensures c.move_up.ensures

pub returns-else-to-rest : goal.returns-else-to-rest
returns-else-to-rest c = raise_past c.args.q c.args.to c.args.rest c.stack_end-end.result c.args.es.now _ (omega (arith, c.requires)) c.stack_end-end.ensures.is (omega (arith, c.requires)) c.bring_to_front-else-to-rest.ensures
