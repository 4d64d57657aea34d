use Rattle.stack_theory.proofs.Simulation.{positions_tell}
use Rattle.stack_theory.proofs.positions_tell.Goals as goal

pub returns : goal.returns
returns c = positions_tell
