-- Tables in order: what a bulk feed looks for once, and then keeps from reference to reference.
use Rattle.std.specs.Prelude.{◌≡◌, ℕ, ◌+◌, ◌-◌, ◌<◌, ◌≤◌, Bool, true, false, cond, ◌&&◌, List, [], ◌∷◌, ◌++◌, length, take, replicate, slice_index_or}
use Rattle.places.specs.Parts.{part, start}
use Rattle.trace.specs.declared.Block.{Block}
use Rattle.caches.specs.Caches.{among}
use Rattle.stack.specs.declared.Entry.{Entry}
use Rattle.stack.specs.declared.Entry.TheVariants.{Empty}
use Rattle.stack.specs.Stack.{stack, is_block}
use Rattle.tables.specs.declared.Mark.{Mark}
use Rattle.tables.specs.declared.Mark.TheVariants.{Never, Held, Lost}
use Rattle.tables.specs.declared.Settings.{Settings}
use Rattle.tables.specs.Tables.{Tables, stretch}
use Rattle.tables.specs.Calls.{place_of}

-- how often a block stands among some entries
abbrev pub times : Block → List Entry → ℕ
times b [] = 0
times b (e ∷ es) = cond (is_block b e) 1 0 + times b es

abbrev pub is_held : Mark → Bool
is_held Never = false
is_held Held = true
is_held Lost = false

-- whether a block is one of the known ones and marked as held
abbrev pub held_mark : (known : List Block) (marks : List Mark) → Block → Bool
held_mark K M b = among b K && is_held (slice_index_or M (place_of b K) Never)

-- One processor's stretch and marks, where these blocks are known: behind the stack all is empty,
-- and a block that stands in the stack stands there once, is known and is marked as held.
pub record Orderly (known : List Block) (es : List Entry) (marks : List Mark) : Type 0 where
  pub cleared : es ≡ stack es ++ replicate (length es - length (stack es)) Empty
  pub once : (b : Block) → times b (stack es) ≤ cond (held_mark known marks b) 1 0

-- wherever a block stands, that is its first place
abbrev pub Distinct : List Block → Type 0
Distinct K = (k : ℕ) (b : Block) → k < length K → slice_index_or K k b ≡ b → place_of b K ≡ k

-- the tables of a study that knows the first n blocks of its table
pub record InOrder (s : Settings) (n : ℕ) (t : Tables) : Type 0 where
  pub few : n ≤ s.blocks
  pub distinct : Distinct (take n t.known)
  pub rows : (p : ℕ) → 1 ≤ p → p ≤ s.processors → Orderly (take n t.known) (stretch s p t) (part (start s.blocks p) s.blocks t.marks)
