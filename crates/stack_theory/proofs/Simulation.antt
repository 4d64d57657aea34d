-- At each level and set the stack of a processor lists what the cache of that level alone holds.
use Rattle.std.proofs.Common.{◌≡◌, ℕ, zero, suc, ◌<◌, true, false, cond, not, ◌&&◌, eqb, List, [], ◌∷◌, ◌++◌, take, Some, None, Option, sym, refl, ap, ◌∙◌, arith}
use Rattle.std.proofs.lemmas.Bool.{lt-ltb}
use Rattle.setmap.specs.Mapping.{Mapping, Lawful, shared}
use Rattle.setmap.specs.Shares.{shares_test}
use Rattle.trace.specs.Items.{writes}
use Rattle.trace.specs.declared.Block.{Block as MemoryBlock}
use Rattle.trace.proofs.Blocks.{same_equal}
use Rattle.caches.specs.Caches.{Access, History, among, without, own, used, listed, holding}
use Rattle.levels.specs.declared.Levels.{Levels}
use Rattle.levels.specs.Levels.{has, either, less, no_level}
use Rattle.levels.proofs.Bits.{has_both, has_either, has-less, has_none, has-below}
use Rattle.stack.specs.declared.Entry.{Entry}
use Rattle.stack.specs.declared.Entry.TheVariants.{Empty, Block, Marker}
use Rattle.stack.specs.Stack.{marker, gives, left, touched, dropped, position, later, within}
use Rattle.stack_theory.specs.Stacks.{stack_of, PositionsTell}
use Rattle.stack_theory.proofs.Cells.{Cell, blk, hole, blocks_in, fill, fill-true, fill-used, further, placed, placed-within}

-- what stands in the stack for one set at one level
abbrev pub cells : Mapping → (level set : ℕ) → List Entry → List Cell
cells m i s [] = []
cells m i s (Empty ∷ S) = cells m i s S
cells m i s (Block b ∷ S) = cond (eqb (m.set i b.number) s) (blk b ∷ cells m i s S) (cells m i s S)
cells m i s (Marker b v ∷ S) = cond (has v i && eqb (m.set i b.number) s) (hole ∷ cells m i s S) (cells m i s S)

module _ (m : Mapping) (law : Lawful m) (i : ℕ) (l : i < m.levels) (f : i < 32) where
  gives-has : (q b : MemoryBlock) (v w : Levels) → has (gives m q w b v) i ≡ (has v i && eqb (m.set i q.number) (m.set i b.number) && not (has w i))
  unfolding gives
  gives-has q b v w = rw (has-less, has_both, has-below (shared m q.number b.number) i f, shares_test m law i q.number b.number l)

  module _ (s : ℕ) where
    cells-marker : (b : MemoryBlock) (v : Levels) (S : List Entry) → cells m i s (marker b v ++ S) ≡ cells m i s (Marker b v ∷ S)
    cells-marker b v S = let z = has_none v i in grind arith

    -- an own reference to a block of the set, and to one of another set
    cells_left : (q : MemoryBlock) (w : Levels) (S : List Entry) → m.set i q.number ≡ s → cells m i s (left m q w S) ≡ fill q (has w i) (cells m i s S)
    cells_left q w [] e = refl
    cells_left q w (Empty ∷ S) e = cells_left q w S e
    cells_left q w (Block b ∷ S) e =
        let ih = cells_left q w S e in
        let k = cells-marker q w S in
        let x = same_equal b q in
        grind arith
    cells_left q w (Marker b v ∷ S) e =
        let y = gives m q w b v in
        let ih = cells_left q (either w y) S e in
        let k = cells-marker b (less v y) (left m q (either w y) S) in
        let g = gives-has q b v w in
        let o = has_either w y i in
        let n = has-less v y i in
        grind arith

    cells_left_other : (q : MemoryBlock) (w : Levels) (S : List Entry) → (m.set i q.number ≡ s → ⊥) → cells m i s (left m q w S) ≡ cells m i s S
    cells_left_other q w [] e = refl
    cells_left_other q w (Empty ∷ S) e = cells_left_other q w S e
    cells_left_other q w (Block b ∷ S) e =
        let ih = cells_left_other q w S e in
        let k = cells-marker q w S in
        let x = same_equal b q in
        grind arith
    cells_left_other q w (Marker b v ∷ S) e =
        let y = gives m q w b v in
        let ih = cells_left_other q (either w y) S e in
        let k = cells-marker b (less v y) (left m q (either w y) S) in
        let g = gives-has q b v w in
        let n = has-less v y i in
        grind arith

    pub cells-touched : (q : MemoryBlock) (S : List Entry) → cells m i s (touched m q S) ≡ cond (eqb (m.set i q.number) s) (blk q ∷ fill q false (cells m i s S)) (cells m i s S)
    cells-touched q S =
        let z = has_none no_level i refl in
        let k = cells_left q no_level S in
        let n = cells_left_other q no_level S in
        grind arith

    -- another's write
    fill_other : (q : MemoryBlock) (S : List Entry) → (m.set i q.number ≡ s → ⊥) → fill q true (cells m i s S) ≡ cells m i s S
    fill_other q [] e = refl
    fill_other q (Empty ∷ S) e = fill_other q S e
    fill_other q (Block b ∷ S) e =
        let ih = fill_other q S e in
        let x = same_equal b q in
        grind arith
    fill_other q (Marker b v ∷ S) e = let ih = fill_other q S e in grind arith

    pub cells-dropped : (levels : ℕ) → i < levels → (q : MemoryBlock) (S : List Entry) → cells m i s (dropped levels q S) ≡ fill q true (cells m i s S)
    cells-dropped levels k q [] = refl
    cells-dropped levels k q (Empty ∷ S) = cells-dropped levels k q S
    cells-dropped levels k q (Block b ∷ S) =
        let ih = cells-dropped levels k q S in
        let o = fill_other q S in
        let n = has-below levels i f in
        let z = lt-ltb i levels k in
        let x = same_equal b q in
        grind arith
    cells-dropped levels k q (Marker b v ∷ S) = let ih = cells-dropped levels k q S in grind arith

    -- what one access makes of the cache's list is what it makes of the first cells
    simulated_step : (levels : ℕ) → i < levels → (p : ℕ) (a : Access) (S : List Entry) (n : ℕ) (xs : List MemoryBlock) → xs ≡ blocks_in (take (suc n) (cells m i s S))
        → cond (own p a) (cond (eqb (m.set i a.block.number) s) (used (suc n) a.block xs) xs) (cond (writes a.operation) (without a.block xs) xs)
        ≡ blocks_in (take (suc n) (cells m i s (cond (own p a) (touched m a.block S) (cond (writes a.operation) (dropped levels a.block S) S))))
    simulated_step levels j p a S n xs e =
        let L = cells m i s S in
        let t = cells-touched a.block S in
        let u = fill-used a.block L n in
        let d = cells-dropped levels j a.block S in
        let w = fill-true a.block L (suc n) in
        grind arith

    simulated : (levels : ℕ) → i < levels → (p : ℕ) (h : History) (n : ℕ) → listed m p i (suc n) s h ≡ blocks_in (take (suc n) (cells m i s (stack_of m levels p h)))
    simulated levels j p [] n = refl
    simulated levels j p (a ∷ h) n = simulated_step levels j p a (stack_of m levels p h) n (listed m p i (suc n) s h) (simulated levels j p h n)

  listed-zero : (p s : ℕ) (h : History) → listed m p i 0 s h ≡ []
  listed-zero p s [] = refl
  listed-zero p s (a ∷ h) = let ih = listed-zero p s h in grind arith

  pub simulation : (levels : ℕ) → i < levels → (p ways s : ℕ) (h : History) → listed m p i ways s h ≡ blocks_in (take ways (cells m i s (stack_of m levels p h)))
  simulation levels j p zero s h = listed-zero p s h
  simulation levels j p (suc n) s h = simulated s levels j p h n

  later_none : (o : Option ℕ) → later o 0 ≡ o
  later_none None = refl
  later_none (Some k) = grind arith

  later_one : (o : Option ℕ) → later o 1 ≡ further o
  later_one None = refl
  later_one (Some k) = refl

  -- the position of a block is its place among the cells of its set
  position-placed : (q : MemoryBlock) (S : List Entry) → position m q i S ≡ placed q (cells m i (m.set i q.number) S)
  position-placed q [] = refl
  position-placed q (Empty ∷ S) =
      let ih = position-placed q S in
      let z = later_none (position m q i S) in
      grind arith
  position-placed q (Block b ∷ S) =
      let ih = position-placed q S in
      let k = shares_test m law i q.number b.number l in
      let z = later_none (position m q i S) in
      let o = later_one (position m q i S) in
      let x = same_equal b q in
      grind arith
  position-placed q (Marker b v ∷ S) =
      let ih = position-placed q S in
      let k = shares_test m law i q.number b.number l in
      let z = later_none (position m q i S) in
      let o = later_one (position m q i S) in
      grind arith

  pub hit : (levels : ℕ) → i < levels → (p ways : ℕ) (q : MemoryBlock) (h : History) → holding m p i ways q h ≡ within (position m q i (stack_of m levels p h)) ways
  hit levels j p ways q h =
      let s = m.set i q.number in
      let S = stack_of m levels p h in
      ap (among q) (simulation levels j p ways s h) ∙ placed-within q (cells m i s S) ways ∙ ap (λ o. within o ways) (sym (position-placed q S))

pub positions_tell : PositionsTell
positions_tell m law levels few small p i ways b h l = hit m law i (omega arith) (omega arith) levels l p ways b h
