use Rattle.std.proofs.Common.{◌≡◌, ◌+◌, ◌-◌, ◌≤◌, length, take, drop}
use Rattle.stack.specs.Walk.{stop, Tallied}
use Rattle.stack.proofs.walk.count_above.Given as goal

abbrev pub invariant-loop-entry : goal.invariant-loop-entry
invariant-loop-entry g l = record {
  within : l.place ≤ length l.es;
  goes_on : l.place + stop l.q (drop l.place l.es) ≡ stop l.q l.es;
  tallied : Tallied (g.M.SetMap.meaning l.map) l.q (take l.place l.es) (record { sharing = l.sharing; markers = l.markers; stays = l.stays; given = l.given });
}

abbrev pub decreases-loop-entry : goal.decreases-loop-entry
decreases-loop-entry g l = length l.es - l.place
