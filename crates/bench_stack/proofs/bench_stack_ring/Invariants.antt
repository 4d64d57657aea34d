use Rattle.std.proofs.Common.{◌≡◌, length}
use Rattle.bench_stack.specs.Ring.{stretch, total}
use Rattle.bench_stack.proofs.bench_stack_ring.Given as goal

abbrev pub invariant-loop-i : goal.invariant-loop-i
invariant-loop-i l = (l.es ≡ stretch l.ring l.i) × (length l.es ≡ 2048) × (l.sum ≡ total l.ring l.i)
