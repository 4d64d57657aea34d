-- The marker stack of a processor after a history, and what it tells of the processor's caches.
use Rattle.std.specs.Prelude.{◌≡◌, ℕ, ◌*◌, ◌<◌, ◌≤◌, cond, List, [], ◌∷◌, ◌++◌, length}
use Rattle.setmap.specs.Mapping.{Mapping, Lawful}
use Rattle.trace.specs.Items.{writes}
use Rattle.trace.specs.declared.Block.{Block}
use Rattle.caches.specs.Caches.{History, among, own, holding}
use Rattle.stack.specs.declared.Entry.{Entry}
use Rattle.stack.specs.Stack.{touched, dropped, position, within}

-- in a study of so many levels: an own reference touches the stack, and another's write drops the block from it
abbrev pub stack_of : Mapping → (levels p : ℕ) → History → List Entry
stack_of m levels p [] = []
stack_of m levels p (a ∷ before) =
    cond (own p a) (touched m a.block (stack_of m levels p before))
    (cond (writes a.operation) (dropped levels a.block (stack_of m levels p before)) (stack_of m levels p before))

-- the blocks that a history names, each once, in the order of their first reference
abbrev pub met : History → List Block
met [] = []
met (a ∷ before) = cond (among a.block (met before)) (met before) (met before ++ (a.block ∷ []))

-- The cache of a level with so many ways holds a block exactly if the block's position at the level in the stack is at most the ways.
abbrev pub PositionsTell : Type 0
PositionsTell =
    (m : Mapping) → Lawful m → (levels : ℕ) → levels ≤ m.levels → levels ≤ 32
    → (p level ways : ℕ) (b : Block) (h : History) → level < levels → holding m p level ways b h ≡ within (position m b level (stack_of m levels p h)) ways

-- A stack never has more entries than the levels times the blocks referred to.
abbrev pub StacksBounded : Type 0
StacksBounded =
    (m : Mapping) → Lawful m → (levels : ℕ) → 1 ≤ levels → levels ≤ m.levels → levels ≤ 32
    → (p : ℕ) (h : History) → length (stack_of m levels p h) ≤ levels * length (met h)
