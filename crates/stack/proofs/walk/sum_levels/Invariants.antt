use Rattle.std.proofs.Common.{◌≡◌, ℕ, ◌+◌, ◌<◌, ◌≤◌, length, get_or, drop, sum}
use Rattle.stack.proofs.walk.sum_levels.Given as goal

abbrev pub invariant-loop-i : goal.invariant-loop-i
invariant-loop-i l =
    (l.above ≡ sum (drop (l.i + 1) l.sharing))
    × ((k : ℕ) → l.i ≤ k → k < 17 → get_or l.positions k 0 ≡ sum (drop (k + 1) l.sharing) + get_or l.markers k 0 + 1)
    × (length l.positions ≡ 17)
