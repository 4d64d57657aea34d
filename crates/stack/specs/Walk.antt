-- What a walk down a stretch for a block finds.
use Rattle.std.specs.Prelude.{◌≡◌, ℕ, suc, ◌+◌, ◌<◌, ◌≤◌, Bool, true, false, cond, List, [], ◌∷◌, ◌++◌, length, take, drop, Some, None, Ok, Err, Option, Result, sum, count_by, nat_lt, slice_index}
use Rattle.setmap.specs.Mapping.{Mapping}
use Rattle.trace.specs.Items.{same}
use Rattle.trace.specs.declared.Block.{Block as MemoryBlock}
use Rattle.levels.specs.declared.Levels.{Levels}
use Rattle.levels.specs.Levels.{either, less, no_level}
use Rattle.stack.specs.declared.Entry.{Entry}
use Rattle.stack.specs.declared.Entry.TheVariants.{Empty, Block, Marker}
use Rattle.stack.specs.declared.walk.Tally.{Tally}
use Rattle.stack.specs.declared.walk.Walk.{Walk}
use Rattle.stack.specs.Stack.{stack, counts, marker, gives, position}

-- whether a walk for q stops at an entry
abbrev pub ends : MemoryBlock → Entry → Bool
ends q Empty = true
ends q (Block b) = same b q
ends q (Marker b v) = false

-- the place of the first entry that is q or empty, or the length
abbrev pub stop : MemoryBlock → List Entry → ℕ
stop q [] = 0
stop q (e ∷ es) = cond (ends q e) 0 (suc (stop q es))

-- the entries above that place
abbrev pub above : MemoryBlock → List Entry → List Entry
above q es = take (stop q es) es

-- whether a list begins with a block
abbrev pub begins : List Entry → Bool
begins [] = false
begins (Empty ∷ es) = false
begins (Block b ∷ es) = true
begins (Marker b v ∷ es) = false

-- whether q stands in the stack
abbrev pub stands_in : MemoryBlock → List Entry → Bool
stands_in q es = begins (drop (stop q es) es)

-- what the markers of a list give up to q besides g, and what is left of the list then
abbrev pub gathered : Mapping → MemoryBlock → Levels → List Entry → Levels
gathered m q g [] = g
gathered m q g (Empty ∷ es) = gathered m q g es
gathered m q g (Block b ∷ es) = gathered m q g es
gathered m q g (Marker b v ∷ es) = gathered m q (either g (gives m q g b v)) es

abbrev pub thinned : Mapping → MemoryBlock → Levels → List Entry → List Entry
thinned m q g [] = []
thinned m q g (Empty ∷ es) = Empty ∷ thinned m q g es
thinned m q g (Block b ∷ es) = Block b ∷ thinned m q g es
thinned m q g (Marker b v ∷ es) = marker b (less v (gives m q g b v)) ++ thinned m q (either g (gives m q g b v)) es

-- where a walk for q stops: at q, or where it is absent at the stack's end
abbrev pub stopped : MemoryBlock → List Entry → Result ℕ ℕ
stopped q es = cond (stands_in q es) (Ok (stop q es)) (Err (stop q es))

-- the place of a stop, and the place past the block that was found
abbrev pub place_of : Result ℕ ℕ → ℕ
place_of (Ok place) = place
place_of (Err end) = end

abbrev pub past_stop : Result ℕ ℕ → ℕ
past_stop (Ok place) = place + 1
past_stop (Err end) = end

-- a position, if the block was found
abbrev pub if_found : Result ℕ ℕ → ℕ → Option ℕ
if_found (Ok place) n = Some n
if_found (Err end) n = None

-- the position that a walk gives at a level; none past those it knows
abbrev pub position_at : (level : ℕ) → Walk → Option ℕ
position_at i w = cond (nat_lt i (length w.positions)) (if_found w.stop (slice_index w.positions i)) None

-- what is counted of some entries: blocks by how many levels they share with q, markers by level
pub record Tallied (m : Mapping) (q : MemoryBlock) (es : List Entry) (t : Tally) : Type 0 where
  pub given_is : t.given ≡ gathered m q no_level es
  pub stays_is : t.stays ≡ length (thinned m q no_level es)
  pub counted : (i : ℕ) → i < 17 → sum (drop (i + 1) t.sharing) + slice_index t.markers i ≡ count_by (counts m q i) es
  pub few : (i : ℕ) → i < 17 → sum t.sharing + slice_index t.markers i ≤ length es
  pub wide : length t.sharing ≡ 18
  pub deep : length t.markers ≡ 17

-- Where a walk for q stopped, what the markers above give up, how many entries stay above then,
-- and how many entries count from the top down to q itself, at each level: its position.
pub record Walked (m : Mapping) (q : MemoryBlock) (es : List Entry) (w : Walk) : Type 0 where
  pub stop_is : w.stop ≡ stopped q es
  pub given_is : w.given ≡ gathered m q no_level (above q es)
  pub stays_is : w.stays ≡ length (thinned m q no_level (above q es))
  pub counted : (i : ℕ) → i < 17 → slice_index w.positions i ≡ count_by (counts m q i) (above q es) + 1
  pub positioned : (i : ℕ) → i < 17 → position m q i (stack es) ≡ if_found w.stop (slice_index w.positions i)
  pub seventeen : length w.positions ≡ 17
