use Rattle.single.proofs.Worlds.{as_separate}
use Rattle.single.proofs.cache.SingleCache.set_up_on.Goals as goal

pub returns-in_err-setup-clause-faithful : goal.returns-in_err-setup-clause-faithful
returns-in_err-setup-clause-faithful g c = as_separate (g.M.SetMap.meaning c.args.map) (g.met.M.SetMap.lawful c.args.map) c.args.s

pub returns-in-Err-clause-faithful : goal.returns-in-Err-clause-faithful
returns-in-Err-clause-faithful g c = as_separate (g.M.SetMap.meaning c.args.map) (g.met.M.SetMap.lawful c.args.map) c.args.s

pub returns-clause-faithful : goal.returns-clause-faithful
returns-clause-faithful g c = as_separate (g.M.SetMap.meaning c.args.map) (g.met.M.SetMap.lawful c.args.map) c.args.s
