use Rattle.std.proofs.Common.{◌∙◌, arith}
use Rattle.stack.proofs.Raises.{moves_up, not_moved}
use Rattle.stack.proofs.touch.move_up.Goals as goal

pub returns-then-to-rest : goal.returns-then-to-rest
returns-then-to-rest c =
    c.clear.ensures
    ∙ moves_up c.args.to c.args.rest c.stack_end-end.result c.args.es.now c.copy_within.new.self c.requires.0 c.requires.1 c.stack_end-end.ensures.is c.stack_end-end.ensures.within c.copy_within.ensures.after

pub returns-else-to-rest : goal.returns-else-to-rest
returns-else-to-rest c = not_moved c.args.to c.args.rest c.args.es.now (omega (arith, c.requires))
