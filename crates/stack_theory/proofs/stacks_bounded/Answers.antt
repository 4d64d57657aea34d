use Rattle.stack_theory.proofs.Bound.{stacks_bounded}
use Rattle.stack_theory.proofs.stacks_bounded.Goals as goal

pub returns : goal.returns
returns c = stacks_bounded
