-- What the steps of a reference leave.
use Rattle.std.specs.Prelude.{◌≡◌, ℕ, ◌+◌, ◌-◌, ◌^◌, ◌<◌, ◌≤◌, Bool, true, false, cond, List, [], ◌∷◌, ◌++◌, length, take, Some, None, Ok, Err, Option, Result, ◌==◌, nat_lt}
use Rattle.places.specs.Parts.{part, put, start}
use Rattle.setmap.specs.Mapping.{Mapping}
use Rattle.trace.specs.Items.{block_of}
use Rattle.trace.specs.declared.Block.{Block}
use Rattle.trace.specs.declared.Reference.{Reference}
use Rattle.trace.specs.declared.Refusal.{Refusal}
use Rattle.trace.specs.declared.Refusal.TheVariants.{Entries, ShortTable}
use Rattle.trace.specs.declared.Fault.{Fault}
use Rattle.trace.specs.declared.Fed.{Fed}
use Rattle.trace.specs.declared.Fed.TheVariants.{Accepted}
use Rattle.trace.specs.declared.Layer.TheVariants.{Study}
use Rattle.stack.specs.declared.Entry.{Entry}
use Rattle.stack.specs.declared.walk.Walk.{Walk}
use Rattle.stack.specs.Stack.{stack, touched, restack}
use Rattle.stack.specs.Walk.{Walked}
use Rattle.tables.specs.declared.Settings.{Settings}
use Rattle.tables.specs.Tables.{Tables, stretch}
use Rattle.tables.specs.Calls.{Kept, short, place_of, no_more_entries, reference_refusal, question_refusal}
use Rattle.order.specs.Order.{Orderly, InOrder}
use Rattle.study.specs.declared.blocks.Spot.{Spot}
use Rattle.study.specs.Limits.{Long}

-- what an open study keeps besides its settings
abbrev pub kept_of : (known accepted : ℕ) → Kept
kept_of known accepted = record { known = known; accepted = accepted }

-- processor p's stretch of the entries
abbrev pub own_part : Settings → ℕ → List Entry → List Entry
own_part s p es = part (start s.entries p) s.entries es

-- the entries with processor p's stretch put anew
abbrev pub with_part : Settings → ℕ → List Entry → List Entry → List Entry
with_part s p ys es = put (start s.entries p) s.entries ys es

-- An own reference of processor p to q, in its stretch: where the stack would not fit there is no walk, and nothing is altered.
abbrev pub Touched : Mapping → Settings → ℕ → Block → (before : List Entry) → Option Walk → (after : List Entry) → Type 0
Touched m s p q es None after = (nat_lt s.entries (length (touched m q (stack (own_part s p es)))) ≡ true) × (after ≡ es)
Touched m s p q es (Some w) after =
    (nat_lt s.entries (length (touched m q (stack (own_part s p es)))) ≡ false)
    × Walked m q (own_part s p es) w × (after ≡ with_part s p (restack (touched m q (stack (own_part s p es))) (own_part s p es)) es)

-- Work that only full entries refuse: it is done, or the tables are as they were.
abbrev pub UnlessFull : (full : Bool) (before done : Tables) → Result (Unit {0}) Refusal → (after : Tables) → Type 0
UnlessFull full t done (Ok x) u = (full ≡ false) × (u ≡ done)
UnlessFull full t done (Err x) u = (full ≡ true) × (x ≡ Entries) × (u ≡ t)

-- A reference that nothing but full entries can refuse any more, with its block and the block's place among the known ones.
pub record Placed (m : Mapping) (s : Settings) (kept : Kept) (t : Tables) (r : Reference) (b : Spot) : Type 0 where
  pub long : Long s t
  pub low : 1 ≤ r.processor
  pub high : r.processor ≤ s.processors
  pub below : kept.accepted < 2 ^ 32 - 1
  pub block_is : b.block ≡ block_of s.shift r.address
  pub place_is : b.place ≡ place_of b.block (take kept.known t.known)
  pub place_lt : b.place < s.blocks
  pub unrefused : reference_refusal m s kept t r ≡ cond (no_more_entries m s t r.processor b.block) (Some Entries) None

-- Where a reference stands before its work: at its block's place, or at its first refusal.
abbrev pub Found : Mapping → Settings → Kept → Tables → Reference → Result Spot Refusal → Type 0
Found m s kept t r (Ok b) = Placed m s kept t r b
Found m s kept t r (Err x) = reference_refusal m s kept t r ≡ Some x

-- how many blocks are known after a reference to the one at place k: one more, where the place is new
abbrev pub known_then : (known k : ℕ) → ℕ
known_then n k = cond (k == n) (n + 1) n

-- the tables are in order, where the first n blocks are known, and a block is one of these, at its place
abbrev pub KnownInOrder : Settings → (n : ℕ) → Spot → Tables → Type 0
KnownInOrder s n b t = InOrder s n t × (b.place < n) × (b.place ≡ place_of b.block (take n t.known))

-- What a reference to a block leaves of tables in order: they are in order still, and the block is known at its place then.
abbrev pub LeftInOrder : Settings → (known : ℕ) → Spot → Result (Unit {0}) Refusal → Tables → Type 0
LeftInOrder s n b (Ok x) u = KnownInOrder s (known_then n b.place) b u
LeftInOrder s n b (Err x) u = InOrder s n u

-- the first processors' stretches and marks are in order, where the first n blocks are known
abbrev pub RowsInOrder : Settings → (n : ℕ) → Tables → (processors : ℕ) → Type 0
RowsInOrder s n t most = (p : ℕ) → 1 ≤ p → p ≤ most → Orderly (take n t.known) (stretch s p t) (part (start s.blocks p) s.blocks t.marks)

-- Whether a feed's tables are long enough, or its fault.
abbrev pub NotShort : Settings → Tables → Result (Unit {0}) Fault → Type 0
NotShort s t (Ok x) = short s t ≡ false
NotShort s t (Err f) = (short s t ≡ true) × (f ≡ record { refusal = ShortTable; item = 0; layer = Study })

-- What is left of a feed's answer once its fault, if it has one, is handed on: the answer, as after an accepted item where there was one, or the fault that was not taken.
abbrev pub HandedOn : List Fault → Result Fed Fault → Result Fed Fault → List Fault → Type 0
HandedOn before (Ok x) r after = (r ≡ Ok x) × (after ≡ before)
HandedOn before (Err f) (Ok x) after = (x ≡ Accepted) × (after ≡ before ++ (f ∷ []))
HandedOn before (Err f) (Err g) after = (g ≡ f) × (after ≡ before)

-- the refusal of a question, none of which looks at the map
abbrev pub refused_question : Settings → Tables → (p level ways : ℕ) → Option Refusal
refused_question s t p i d = question_refusal (record { levels = 0; sets = λ _. 0; set = λ _ _. 0 }) s t p i d
