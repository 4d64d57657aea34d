-- One set of one level has no more cells than there are blocks of that set among those referred to.
use Rattle.std.proofs.Common.{◌≡◌, ℕ, ◌<◌, ◌≤◌, true, false, cond, eqb, ◌⊎◌, List, [], ◌∷◌, length, refl, ap, ◌∙◌, inl, inr, zero-le, arith}
use Rattle.std.proofs.lemmas.List.{take_all}
use Rattle.std.proofs.lemmas.Bool.{both_ways}
use Rattle.setmap.specs.Mapping.{Mapping, Lawful}
use Rattle.trace.specs.Items.{writes}
use Rattle.trace.specs.declared.Block.{Block}
use Rattle.trace.proofs.Blocks.{same_refl, same_equal}
use Rattle.caches.specs.Caches.{Access, History, among, without, own, listed}
use Rattle.caches.proofs.Inclusion.{inset, inset-among}
use Rattle.caches.proofs.Listed.{listed_step, listed_in}
use Rattle.caches.proofs.Pasts.{Distinct, distinct_listed}
use Rattle.caches.proofs.Used.{without-less, among-without, among-without_other, among-used}
use Rattle.stack.specs.declared.Entry.{Entry}
use Rattle.stack.specs.Stack.{touched, dropped}
use Rattle.stack_theory.specs.Stacks.{stack_of}
use Rattle.stack_theory.proofs.Cells.{Cell, blk, blocks_in, fill, fill-true-length, fill-false-length}
use Rattle.stack_theory.proofs.Simulation.{cells, cells-touched, cells-dropped, simulation}

-- the stack after one more access, from what each kind of access makes of it
pub stack_step : (P : List Entry → Type 0) (m : Mapping) (levels p : ℕ) (a : Access) (S : List Entry)
    → P (touched m a.block S) → P (dropped levels a.block S) → P S
    → P (cond (own p a) (touched m a.block S) (cond (writes a.operation) (dropped levels a.block S) S))
stack_step P m levels p a S x y z =
    elim (own p a) as (λ t. P (cond t (touched m a.block S) (cond (writes a.operation) (dropped levels a.block S) S))) [
      | true ↦ x
      | false ↦ elim (writes a.operation) as (λ t. P (cond t (dropped levels a.block S) S)) [ true ↦ y | false ↦ z ]
    ]

abbrev Inside : List Block → List Block → Type 0
Inside K xs = (b : Block) → among b xs ≡ true → among b K ≡ true

inside_without : (x : Block) (xs K : List Block) → among x xs ≡ false → Inside K (x ∷ xs) → Inside (without x K) xs
inside_without x xs K n f b e =
    let k = f b in
    let o = among-without_other x b K in
    let y = same_equal x b in
    grind arith

-- different blocks that are all in K are no more than K
pigeon : (xs K : List Block) → Distinct xs → Inside K xs → length xs ≤ length K
pigeon [] K d f = zero-le
pigeon (x ∷ xs) K d f =
    let here : among x K ≡ true = f x (let r = same_refl x in grind arith) in
    omega (arith, pigeon xs (without x K) d.1 (inside_without x xs K d.0 f), without-less x K here)

-- every block of the history is in K
abbrev pub Covers : List Block → History → Type 0
Covers K [] = Unit {0}
Covers K (a ∷ h) = (among a.block K ≡ true) × Covers K h

listed_inside : (m : Mapping) (p i ways s : ℕ) (K : List Block) (h : History) → Covers K h → Inside K (listed m p i ways s h)
listed_inside m p i ways s K [] c b = λ e. absurd (both_ways false refl e)
listed_inside m p i ways s K (a ∷ h) c b =
    let L = listed m p i ways s h in
    let ih = listed_inside m p i ways s K h c.1 b in
    listed_step (λ xs. among b xs ≡ true → among b K ≡ true) m p i ways s a L
    (λ here e. (let k = among-used ways a.block b L in let x = same_equal a.block b in let y = c.0 in grind arith))
    (λ e. ih (among-without a.block b L e))
    ih

module _ (m : Mapping) (law : Lawful m) (i : ℕ) (l : i < m.levels) (f : i < 32) (s levels : ℕ) (j : i < levels) (p : ℕ) where
  -- the blocks of the cells are what a cache with a way for each cell lists
  blocks_few : (K : List Block) (h : History) → Covers K h → length (blocks_in (cells m i s (stack_of m levels p h))) ≤ length (inset m i s K)
  blocks_few K h c =
      let L = cells m i s (stack_of m levels p h) in
      let ways = length L in
      let xs = listed m p i ways s h in
      let e : xs ≡ blocks_in L = simulation m law i l f levels j p ways s h ∙ ap blocks_in (take_all ways L (omega arith)) in
      let inside : Inside (inset m i s K) xs = λ b n. inset-among m i s b K (listed_in m p i ways s h b n) (listed_inside m p i ways s K h c b n) in
      omega (arith, pigeon xs (inset m i s K) (distinct_listed m p i ways s h) inside, ap length e)

  -- there are more cells than before only where none is a hole
  grown : (a : Access) (h : History)
      → (length (cells m i s (stack_of m levels p (a ∷ h))) ≤ length (cells m i s (stack_of m levels p h)))
      ⊎ (length (blocks_in (cells m i s (stack_of m levels p (a ∷ h)))) ≡ length (cells m i s (stack_of m levels p (a ∷ h))))
  grown a h =
      let q = a.block in
      let S = stack_of m levels p h in
      let L = cells m i s S in
      let P : List Cell → Type 0 = λ M. (length M ≤ length L) ⊎ (length (blocks_in M) ≡ length M) in
      let filled : P (blk q ∷ fill q false L) = elim (fill-false-length q L) [ inl k ↦ inl (omega arith) | inr k ↦ inr (omega arith) ] in
      stack_step (λ T. P (cells m i s T)) m levels p a S
      (rw (cells-touched m law i l f s q S) (elim (eqb (m.set i q.number) s) as (λ t. P (cond t (blk q ∷ fill q false L) L)) [ true ↦ filled | false ↦ inl (omega arith) ]))
      (rw (cells-dropped m law i l f s levels j q S) (inl (omega (arith, fill-true-length q L))))
      (inl (omega arith))

  pub room : (K : List Block) (h : History) → Covers K h → length (cells m i s (stack_of m levels p h)) ≤ length (inset m i s K)
  room K [] c = zero-le
  room K (a ∷ h) c =
      let ih = room K h c.1 in
      elim (grown a h) [ inl k ↦ omega arith | inr k ↦ omega (arith, blocks_few K (a ∷ h) c) ]
