-- Worked references: what the rules give on examples, each small enough to be followed by hand.
use Rattle.std.specs.Prelude.{◌≡◌, ℕ, ◌*◌, true, false, List, [], ◌∷◌, ◌++◌, reverse, length, replicate, Some, None, Ok, Err, Option}
use Rattle.setmap.specs.Mapping.{Mapping, shared}
use Rattle.setmap.specs.Maps.{bit_choice, thirds}
use Rattle.trace.specs.declared.Operation.{Operation}
use Rattle.trace.specs.declared.Operation.TheVariants.{Read, Write}
use Rattle.trace.specs.declared.Refusal.TheVariants.{Entries}
use Rattle.caches.specs.declared.Figures.{Figures}
use Rattle.caches.specs.Caches.{Access, History, figures, holding}
use Rattle.stack.specs.declared.Entry.{Entry}
use Rattle.stack.specs.declared.Entry.TheVariants.{Empty}
use Rattle.stack.specs.Stack.{stack, position}
use Rattle.stack.specs.Worked.{blk, WorkedReference}
use Rattle.tables.specs.declared.Mark.TheVariants.{Never}
use Rattle.tables.specs.declared.Settings.{Settings}
use Rattle.tables.specs.Tables.{Tables, stretch}
use Rattle.theory.specs.Runs.{Fronts, Call, referring, closing, count_asked, Said, of_reference, of_feed, of_holds, of_count, World, run}

-- ---- lists of calls on a study of two processors, two levels and two ways, with so many entries

abbrev settings : ℕ → Settings
settings entries = record { processors = 2; shift = 0; levels = 2; ways = 2; blocks = 8; entries = entries }

abbrev tables : ℕ → Tables
tables entries = record { entries = replicate (2 * entries) Empty; known = replicate 8 (blk 77); marks = replicate 16 Never; counters = replicate 22 9 }

-- each call is passed the whole tables
abbrev whole : Fronts
whole = record { entries = 1000; known = 1000; marks = 1000; counters = 1000 }

abbrev pub reads : (p address : ℕ) → Call
reads p a = referring whole (record { processor = p; operation = Read; address = a })

abbrev pub writes : (p address : ℕ) → Call
writes p a = referring whole (record { processor = p; operation = Write; address = a })

-- where calls lead, the first one written first
abbrev pub after : Mapping → ℕ → List Call → Option World
after m entries calls = run m (settings entries) (tables entries) (reverse calls)

-- processor 1's stack
abbrev pub stack_then : Option World → List Entry
stack_then None = []
stack_then (Some w) = stack (stretch (settings 16) 1 w.tables)

abbrev newest : List Said → Option Said
newest [] = None
newest (x ∷ xs) = Some x

abbrev pub last_answer : Option World → Option Said
last_answer None = None
last_answer (Some w) = newest w.said

-- the figures that the last call answered
abbrev pub counted_last : Option Said → Option Figures
counted_last None = None
counted_last (Some (of_reference a)) = None
counted_last (Some (of_feed f)) = None
counted_last (Some (of_holds h p i d b a)) = None
counted_last (Some (of_count h p i d (Ok x))) = Some x
counted_last (Some (of_count h p i d (Err x))) = None

-- in the order of a sheet's line
abbrev pub six : (references hits drops cold lost replaced : ℕ) → Figures
six a b c d e f = record { references = a; hits = b; drops = c; cold = d; lost = e; replaced = f }

-- ---- histories for the separate caches, the first reference written first

abbrev pub access : ℕ → Operation → ℕ → Access
access p o b = record { processor = p; operation = o; block = blk b }

abbrev pub history : List Access → History
history accesses = reverse accesses

-- ---- the examples

-- reads of 8, 2, 7, 0, 4, 3, 5, 6 by one processor
abbrev pub eight_reads : List Call
eight_reads = reads 1 8 ∷ (reads 1 2 ∷ (reads 1 7 ∷ (reads 1 0 ∷ (reads 1 4 ∷ (reads 1 3 ∷ (reads 1 5 ∷ (reads 1 6 ∷ [])))))))

-- 1 reads 0, 1 and 2, and 2 writes 2
abbrev pub dropped_two : List Call
dropped_two = reads 1 0 ∷ (reads 1 1 ∷ (reads 1 2 ∷ (writes 2 2 ∷ [])))

abbrev pub dropped_two_history : History
dropped_two_history = history (access 1 Read 0 ∷ (access 1 Read 1 ∷ (access 1 Read 2 ∷ (access 2 Write 2 ∷ []))))

-- the example of the sheet: the last reference is refused, then the study is closed
abbrev pub sheet_calls : List Call
sheet_calls = dropped_two ++ (reads 1 0 ∷ (reads 1 3 ∷ (reads 1 2 ∷ (reads 3 0 ∷ (closing ∷ [])))))

abbrev pub sheet_history : History
sheet_history = history (access 1 Read 0 ∷ (access 1 Read 1 ∷ (access 1 Read 2 ∷ (access 2 Write 2 ∷ (access 1 Read 0 ∷ (access 1 Read 3 ∷ (access 1 Read 2 ∷ [])))))))

-- a line of the sheet: the study counts these, and so do the separate caches
abbrev pub SheetLine : (p level ways : ℕ) → Figures → Type 0
SheetLine p i d x = (counted_last (last_answer (after bit_choice 16 (sheet_calls ++ (count_asked whole p i d ∷ [])))) ≡ Some x) × (figures bit_choice p i d sheet_history ≡ x)

pub record WorkedRules : Type 0 where
  -- blocks share their first levels
  pub shared_levels : (shared bit_choice 5 13 ≡ 4) × (shared bit_choice 5 9 ≡ 3) × (shared bit_choice 5 5 ≡ 17) × (shared thirds 1 13 ≡ 3) × (shared thirds 1 3 ≡ 0)
  -- two markers above block 5 give up levels to it
  pub markers : WorkedReference
  -- after eight reads, the position of 2 at levels 0, 1 and 2
  pub positions : (position bit_choice (blk 2) 0 (stack_then (after bit_choice 16 eight_reads)) ≡ Some 7) × (position bit_choice (blk 2) 1 (stack_then (after bit_choice 16 eight_reads)) ≡ Some 4) × (position bit_choice (blk 2) 2 (stack_then (after bit_choice 16 eight_reads)) ≡ Some 2)
  -- after the write of 2, a read of 0 finds it at positions 3 and 2
  pub past_a_marker : (position bit_choice (blk 0) 0 (stack_then (after bit_choice 16 dropped_two)) ≡ Some 3) × (position bit_choice (blk 0) 1 (stack_then (after bit_choice 16 dropped_two)) ≡ Some 2)
  -- so it hits with two ways at level 1 only
  pub one_hit : (holding bit_choice 1 0 1 (blk 0) dropped_two_history ≡ false) × (holding bit_choice 1 0 2 (blk 0) dropped_two_history ≡ false) × (holding bit_choice 1 1 1 (blk 0) dropped_two_history ≡ false) × (holding bit_choice 1 1 2 (blk 0) dropped_two_history ≡ true)
  -- a read of 1 instead finds it at positions 2 and 1, and leaves four entries: 4 are enough, 3 are not
  pub four_entries : (position bit_choice (blk 1) 0 (stack_then (after bit_choice 16 dropped_two)) ≡ Some 2) × (position bit_choice (blk 1) 1 (stack_then (after bit_choice 16 dropped_two)) ≡ Some 1) × (length (stack_then (after bit_choice 16 (dropped_two ++ (reads 1 1 ∷ [])))) ≡ 4) × (last_answer (after bit_choice 4 (dropped_two ++ (reads 1 1 ∷ []))) ≡ Some (of_reference (Ok tt))) × (last_answer (after bit_choice 3 (dropped_two ++ (reads 1 1 ∷ []))) ≡ Some (of_reference (Err Entries)))
  -- a drop makes room: 0 is still held when 2 comes after the write of 1, and not when it comes before
  pub room : (holding bit_choice 1 0 2 (blk 0) (history (access 1 Read 0 ∷ (access 1 Read 1 ∷ (access 2 Write 1 ∷ (access 1 Read 2 ∷ []))))) ≡ true) × (holding bit_choice 1 0 2 (blk 0) (history (access 1 Read 0 ∷ (access 1 Read 1 ∷ (access 1 Read 2 ∷ (access 2 Write 1 ∷ []))))) ≡ false)
  -- a processor's own write of what it holds is a hit and drops nothing
  pub own_write : figures bit_choice 1 0 1 (history (access 1 Read 0 ∷ (access 1 Write 0 ∷ []))) ≡ six 2 1 0 1 0 0
  -- a write before the first reference drops nothing, and that reference is cold
  pub write_before : figures bit_choice 1 0 1 (history (access 2 Write 0 ∷ (access 1 Read 0 ∷ []))) ≡ six 1 0 0 1 0 0
  -- thirds, reads of 0, 3 and 1: the position of 0 at levels 0 and 1
  pub by_thirds : (position thirds (blk 0) 0 (stack_then (after thirds 16 (reads 1 0 ∷ (reads 1 3 ∷ (reads 1 1 ∷ []))))) ≡ Some 2) × (position thirds (blk 0) 1 (stack_then (after thirds 16 (reads 1 0 ∷ (reads 1 3 ∷ (reads 1 1 ∷ []))))) ≡ Some 1)
  -- the sheet of the example
  pub first_processor : SheetLine 1 0 1 (six 6 0 1 4 1 1) × SheetLine 1 0 2 (six 6 0 1 4 1 1) × SheetLine 1 1 1 (six 6 0 1 4 1 1) × SheetLine 1 1 2 (six 6 1 1 4 1 0)
  pub second_processor : SheetLine 2 0 1 (six 1 0 0 1 0 0) × SheetLine 2 0 2 (six 1 0 0 1 0 0) × SheetLine 2 1 1 (six 1 0 0 1 0 0) × SheetLine 2 1 2 (six 1 0 0 1 0 0)
