-- What an own reference leaves of a stretch, and the parts of its work.
use Rattle.std.specs.Prelude.{◌≡◌, ℕ, ◌+◌, ◌-◌, max, Bool, true, false, cond, List, [], ◌∷◌, ◌++◌, length, take, drop, replicate, Some, None, Option, nat_le}
use Rattle.setmap.specs.Mapping.{Mapping}
use Rattle.trace.specs.declared.Block.{Block as MemoryBlock}
use Rattle.levels.specs.Levels.{no_level}
use Rattle.stack.specs.declared.Entry.{Entry}
use Rattle.stack.specs.declared.Entry.TheVariants.{Empty, Block}
use Rattle.stack.specs.declared.walk.Walk.{Walk}
use Rattle.stack.specs.Stack.{stack, marker, touched, restack}
use Rattle.stack.specs.Walk.{stop, above, stands_in, gathered, thinned, Walked}

-- whether the stack after an own reference to q fits into the stretch
abbrev pub has_room : Mapping → MemoryBlock → List Entry → Bool
has_room m q es = nat_le (length (touched m q (stack es))) (length es)

-- the stretch after an own reference to q: as it was, where the stack would not fit
abbrev pub after : Mapping → MemoryBlock → List Entry → List Entry
after m q es = cond (has_room m q es) (restack (touched m q (stack es)) es) es

-- the answer to an own reference to q: none exactly where the stack would not fit
abbrev pub Answered : Mapping → MemoryBlock → List Entry → Option Walk → Type 0
Answered m q es None = has_room m q es ≡ false
Answered m q es (Some w) = (has_room m q es ≡ true) × Walked m q es w

-- ---- the parts

-- a list whose first entries have become xs
abbrev pub over : List Entry → List Entry → List Entry
over xs es = xs ++ drop (length xs) es

-- the part from `from` to `end` made empty
abbrev pub cleared : (from end : ℕ) → List Entry → List Entry
cleared from end es = take from es ++ (replicate (length (take (end - from) (drop from es))) Empty ++ drop (end - from) (drop from es))

-- the stack from `rest` on moved up to `to`, and the places that it gave up made empty
abbrev pub moved_up : (to rest : ℕ) → List Entry → List Entry
moved_up to rest es = take to es ++ (stack (drop rest es) ++ (replicate (rest - to) Empty ++ drop (rest + length (stack (drop rest es))) es))

-- q on top of the first `to` entries and of the stack from `rest` on
abbrev pub raised : MemoryBlock → (to rest : ℕ) → List Entry → List Entry
raised q to rest es =
    Block q ∷ (take to es ++ (stack (drop rest es) ++ (replicate (rest - (to + 1)) Empty ++ drop (max (to + 1) rest + length (stack (drop rest es))) es)))

-- what stands above the stack's rest under the new top, and where that rest begins
abbrev pub packed : Mapping → MemoryBlock → List Entry → List Entry
packed m q es = thinned m q no_level (above q es) ++ cond (stands_in q es) (marker q (gathered m q no_level (above q es))) []

abbrev pub resumes : MemoryBlock → List Entry → ℕ
resumes q es = cond (stands_in q es) (stop q es + 1) (stop q es)
