-- References to the blocks of a ring, one after the other.
use Rattle.std.specs.Prelude.{ℕ, zero, suc, ◌+◌, ◌%◌, ◌^◌, cond, List, replicate, Some, None, Option}
use Rattle.setmap.specs.Maps.{bit_choice}
use Rattle.trace.specs.declared.Block.{Block}
use Rattle.stack.specs.declared.Entry.{Entry}
use Rattle.stack.specs.declared.Entry.TheVariants.{Empty}
use Rattle.stack.specs.declared.walk.Walk.{Walk}
use Rattle.stack.specs.Stack.{stack, position}
use Rattle.stack.specs.Walk.{position_at}
use Rattle.stack.specs.Touch.{has_room, after}

-- the block of the n-th reference, in a ring of so many blocks
abbrev pub nth_block : (blocks n : ℕ) → Block
nth_block blocks n = record { number = n % blocks }

-- the stretch after n references
unfoldable pub stretch : (blocks n : ℕ) → List Entry
stretch blocks zero = replicate 2048 Empty
stretch blocks (suc n) = after bit_choice (nth_block blocks n) (stretch blocks n)

abbrev pub or_none : Option ℕ → ℕ
or_none None = 0
or_none (Some n) = n

-- the position at a level that a reference to q answers, or 0 where it finds none
abbrev pub told : Block → (level : ℕ) → List Entry → ℕ
told q i es = cond (has_room bit_choice q es) (or_none (position bit_choice q i (stack es))) 0

-- the sum of what n references answer, each at a level of its own
unfoldable pub total : (blocks n : ℕ) → ℕ
total blocks zero = 0
total blocks (suc n) = (total blocks n + told (nth_block blocks n) (n % 17) (stretch blocks n)) % 2 ^ 64

-- what is read of an answer
abbrev pub read_at : (level : ℕ) → Option Walk → ℕ
read_at i None = 0
read_at i (Some w) = or_none (position_at i w)
