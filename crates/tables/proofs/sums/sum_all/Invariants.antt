use Rattle.std.proofs.Common.{◌≡◌, ◌-◌, ◌*◌, ◌^◌, ◌≤◌, min, take, sum}
use Rattle.tables.proofs.sums.sum_all.Given as goal

abbrev pub invariant-loop-c : goal.invariant-loop-c
invariant-loop-c l = (l.total ≡ min (sum (take l.c-index l.row)) (2 ^ 64 - 1)) × (l.total ≤ l.c-index * 2 ^ 32)
