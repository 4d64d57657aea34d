use Rattle.theory.proofs.Theorem.{faithful}
use Rattle.theory.proofs.every_run_is_faithful.Goals as goal

pub returns : goal.returns
returns c = faithful
