use Rattle.caches.proofs.Viewed.{views_tell}
use Rattle.caches.proofs.laws.views_tell_figures.Goals as goal

pub returns : goal.returns
returns c = views_tell
