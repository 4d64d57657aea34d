-- The marker stack of one processor.
use Rattle.std.specs.Prelude.{ℕ, ◌+◌, ◌-◌, Bool, false, cond, ◌&&◌, List, [], ◌∷◌, ◌++◌, length, drop, replicate, Some, None, Option, nat_le, nat_lt}
use Rattle.setmap.specs.Mapping.{Mapping, shared}
use Rattle.trace.specs.Items.{same}
use Rattle.trace.specs.declared.Block.{Block as MemoryBlock}
use Rattle.stack.specs.declared.Entry.{Entry}
use Rattle.stack.specs.declared.Entry.TheVariants.{Empty, Block, Marker}
use Rattle.levels.specs.declared.Levels.{Levels}
use Rattle.levels.specs.Levels.{has, below, both, either, less, is_none, no_level}

-- the stack is what stands before the first empty entry
abbrev pub stack : List Entry → List Entry
stack [] = []
stack (Empty ∷ es) = []
stack (Block b ∷ es) = Block b ∷ stack es
stack (Marker b v ∷ es) = Marker b v ∷ stack es

-- whether an entry counts for q at a level
abbrev pub counts : Mapping → MemoryBlock → (level : ℕ) → Entry → Bool
counts m q i Empty = false
counts m q i (Block b) = nat_lt i (shared m q.number b.number)
counts m q i (Marker b v) = has v i && nat_lt i (shared m q.number b.number)

abbrev pub is_block : MemoryBlock → Entry → Bool
is_block q Empty = false
is_block q (Block b) = same b q
is_block q (Marker b v) = false

abbrev pub later : Option ℕ → ℕ → Option ℕ
later None n = None
later (Some k) n = Some (k + n)

-- the position of q at a level: how many entries count for it, from the top down to q itself; none where q is absent
abbrev pub position : Mapping → MemoryBlock → (level : ℕ) → List Entry → Option ℕ
position m q i [] = None
position m q i (e ∷ es) = cond (is_block q e) (Some 1) (later (position m q i es) (cond (counts m q i e) 1 0))

-- whether a position is at most d
abbrev pub within : Option ℕ → ℕ → Bool
within None d = false
within (Some k) d = nat_le k d

-- a marker, or nothing where no level is left
abbrev pub marker : MemoryBlock → Levels → List Entry
marker b v = cond (is_none v) [] (Marker b v ∷ [])

-- the levels that a marker gives up to q: those at which it counts for q and which no marker above gave up
unfoldable pub gives : Mapping → MemoryBlock → Levels → MemoryBlock → Levels → Levels
gives m q given b v = less (both v (below (shared m q.number b.number))) given

-- what an own reference to q leaves of the stack under the new top, where the markers above gave up `given`
abbrev pub left : Mapping → MemoryBlock → Levels → List Entry → List Entry
left m q given [] = []
left m q given (Empty ∷ es) = Empty ∷ left m q given es
left m q given (Block b ∷ es) = cond (same b q) (marker q given ++ es) (Block b ∷ left m q given es)
left m q given (Marker b v ∷ es) = marker b (less v (gives m q given b v)) ++ left m q (either given (gives m q given b v)) es

-- the stack after an own reference to q
abbrev pub touched : Mapping → MemoryBlock → List Entry → List Entry
touched m q s = Block q ∷ left m q no_level s

-- the stack after another processor's write of q, in a study of so many levels
abbrev pub dropped : ℕ → MemoryBlock → List Entry → List Entry
dropped levels q [] = []
dropped levels q (e ∷ es) = cond (is_block q e) (Marker q (below levels) ∷ es) (e ∷ dropped levels q es)

-- A stretch whose stack has become s: places that the stack gave up are empty, and those past it keep.
abbrev pub restack : List Entry → List Entry → List Entry
restack s stretch = s ++ (replicate (length (stack stretch) - length s) Empty ++ drop (length s + (length (stack stretch) - length s)) stretch)
