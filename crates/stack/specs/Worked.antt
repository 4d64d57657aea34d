-- A worked reference, by bit choice and with five levels.
use Rattle.std.specs.Prelude.{◌≡◌, ℕ, ◌+◌, ◌^◌, List, [], ◌∷◌}
use Rattle.setmap.specs.Maps.{bit_choice}
use Rattle.trace.specs.declared.Block.{Block as MemoryBlock}
use Rattle.levels.specs.declared.Levels.{Levels}
use Rattle.stack.specs.declared.Entry.{Entry}
use Rattle.stack.specs.declared.Entry.TheVariants.{Block, Marker}
use Rattle.stack.specs.Stack.{touched}

abbrev bits_of : List ℕ → ℕ
bits_of [] = 0
bits_of (i ∷ is) = 2 ^ i + bits_of is

abbrev pub at_levels : List ℕ → Levels
at_levels is = record { bits = bits_of is }

abbrev pub blk : ℕ → MemoryBlock
blk n = record { number = n }

-- markers of 13 and 9 above the block 5
abbrev pub met_before : List Entry
met_before = Marker (blk 13) (at_levels (0 ∷ (3 ∷ (4 ∷ [])))) ∷ (Marker (blk 9) (at_levels (0 ∷ (1 ∷ (4 ∷ [])))) ∷ (Block (blk 5) ∷ []))

-- 13 counts for 5 at levels 0 and 3 and gives them up; 9 then gives up level 1 alone; 5 leaves a marker with these in its old place
abbrev pub met_after : List Entry
met_after =
    Block (blk 5)
    ∷ (Marker (blk 13) (at_levels (4 ∷ []))
    ∷ (Marker (blk 9) (at_levels (0 ∷ (4 ∷ [])))
    ∷ (Marker (blk 5) (at_levels (0 ∷ (1 ∷ (3 ∷ [])))) ∷ [])))

abbrev pub WorkedReference : Type 0
WorkedReference = touched bit_choice (blk 5) met_before ≡ met_after
