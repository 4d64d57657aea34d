use Rattle.stack.proofs.Thins.{Thin}
use Rattle.stack.proofs.touch.thin.Given as goal

abbrev pub invariant-loop-at : goal.invariant-loop-at
invariant-loop-at g l = Thin (g.M.SetMap.meaning l.map) l.q l.initial.es l.at l.es l.to l.given
