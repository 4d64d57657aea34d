-- The steps of a ring's references.
use Rattle.std.proofs.Common.{◌≡◌, ℕ, ◌+◌, ◌%◌, ◌^◌, ◌<◌, List, Some, None, Option, ap, add-one}
use Rattle.stack.proofs.Stops.{position_is}
use Rattle.setmap.specs.Maps.{bit_choice}
use Rattle.trace.specs.declared.Block.{Block}
use Rattle.stack.specs.declared.Entry.{Entry}
use Rattle.stack.specs.declared.walk.Walk.{Walk}
use Rattle.stack.specs.Touch.{after, Answered}
use Rattle.bench_stack.specs.Ring.{nth_block, stretch, or_none, told, total, read_at}

pub stretch_more : (blocks n : ℕ) → stretch blocks (n + 1) ≡ after bit_choice (nth_block blocks n) (stretch blocks n)
unfolding stretch
stretch_more blocks n = ap (stretch blocks) (add-one n)

pub total_more : (blocks n : ℕ) → total blocks (n + 1) ≡ (total blocks n + told (nth_block blocks n) (n % 17) (stretch blocks n)) % 2 ^ 64
unfolding total
total_more blocks n = ap (total blocks) (add-one n)

pub read_is : (q : Block) (i : ℕ) (es : List Entry) (r : Option Walk) → i < 17 → Answered bit_choice q es r → read_at i r ≡ told q i es
read_is q i es None l a = rw a
read_is q i es (Some w) l a = rw a.0 (ap or_none (position_is bit_choice q es w i a.1 l))
