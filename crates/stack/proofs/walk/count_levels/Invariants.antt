use Rattle.std.proofs.Common.{◌≡◌, ℕ, ◌+◌, ◌<◌, ◌≤◌, cond, get_or}
use Rattle.levels.specs.Levels.{has}
use Rattle.stack.proofs.walk.count_levels.Given as goal

abbrev pub invariant-loop-i : goal.invariant-loop-i
invariant-loop-i l =
    ((k : ℕ) → k < l.i → get_or l.counts k 0 ≡ get_or l.initial.counts k 0 + cond (has l.levels k) 1 0)
    × ((k : ℕ) → l.i ≤ k → get_or l.counts k 0 ≡ get_or l.initial.counts k 0)
