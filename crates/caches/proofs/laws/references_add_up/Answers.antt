use Rattle.caches.proofs.Pasts.{adds_up}
use Rattle.caches.proofs.laws.references_add_up.Goals as goal

pub returns : goal.returns
returns c = adds_up
