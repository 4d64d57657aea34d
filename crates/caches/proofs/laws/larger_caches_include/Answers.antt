use Rattle.caches.proofs.Inclusion.{inclusion}
use Rattle.caches.proofs.laws.larger_caches_include.Goals as goal

pub returns : goal.returns
returns c = inclusion
