use Rattle.std.proofs.Common.{◌∙◌}
use Rattle.setmap.specs.Shares.{shared_self}
use Rattle.setmap.proofs.levels_of.Goals as goal

pub returns : goal.returns
returns g c = c.shared_levels.ensures ∙ shared_self (g.M.SetMap.meaning c.args.map.now) 0
