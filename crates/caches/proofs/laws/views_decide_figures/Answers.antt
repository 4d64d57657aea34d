use Rattle.caches.proofs.Viewed.{views_decide}
use Rattle.caches.proofs.laws.views_decide_figures.Goals as goal

pub returns : goal.returns
returns c = views_decide
