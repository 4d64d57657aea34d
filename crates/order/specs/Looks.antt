-- What a bulk feed looks at to see whether tables are in order.
use Rattle.std.specs.Prelude.{Bool, true, false, not, ◌&&◌, List, [], ◌∷◌, length, nat_le}
use Rattle.trace.specs.declared.Block.{Block as MemoryBlock}
use Rattle.caches.specs.Caches.{among}
use Rattle.stack.specs.declared.Entry.{Entry}
use Rattle.stack.specs.declared.Entry.TheVariants.{Empty, Block, Marker}
use Rattle.tables.specs.declared.Mark.{Mark}
use Rattle.order.specs.Order.{held_mark}

-- whether no block stands twice
abbrev pub no_repeat : List MemoryBlock → Bool
no_repeat [] = true
no_repeat (b ∷ bs) = not (among b bs) && no_repeat bs

abbrev pub all_empty : List Entry → Bool
all_empty [] = true
all_empty (Empty ∷ es) = all_empty es
all_empty (Block b ∷ es) = false
all_empty (Marker b v ∷ es) = false

-- whether each block of the stack is marked as held, stands there once and is none of those seen, and behind the stack all is empty
abbrev pub stack_in_order : (known : List MemoryBlock) (marks : List Mark) (seen : List MemoryBlock) → List Entry → Bool
stack_in_order K M seen [] = true
stack_in_order K M seen (Empty ∷ es) = all_empty es
stack_in_order K M seen (Block b ∷ es) = held_mark K M b && (not (among b seen) && stack_in_order K M (b ∷ seen) es)
stack_in_order K M seen (Marker b v ∷ es) = stack_in_order K M seen es

-- one processor's stretch and marks; a study knows 4,096 blocks at most
abbrev pub row_in_order : (known : List MemoryBlock) (marks : List Mark) → List Entry → Bool
row_in_order K M es = nat_le (length K) 4096 && stack_in_order K M [] es
