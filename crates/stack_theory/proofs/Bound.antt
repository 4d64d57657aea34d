-- A stack has at most one entry for each level and each block that was referred to.
use Rattle.std.proofs.Common.{◌≡◌, ℕ, ◌+◌, ◌*◌, ◌^◌, ◌<◌, ◌≤◌, Bool, true, false, cond, List, [], ◌∷◌, ◌++◌, length, refl, zero-le, arith, pow_pos}
use Rattle.setmap.specs.Mapping.{Mapping, Lawful, shared}
use Rattle.trace.specs.Items.{same}
use Rattle.trace.specs.declared.Block.{Block as MemoryBlock}
use Rattle.trace.proofs.Blocks.{same_refl}
use Rattle.caches.specs.Caches.{History, among}
use Rattle.caches.specs.Views.{sum_to}
use Rattle.caches.proofs.Counting.{sum_none, sum_one, sum_mono, sum_at_most, sum_grows}
use Rattle.caches.proofs.Inclusion.{inset}
use Rattle.levels.specs.declared.Levels.{Levels}
use Rattle.levels.specs.Levels.{has, below, both, either, less, no_level}
use Rattle.levels.proofs.Bits.{both_lt, less_lt, either_lt, below_lt, below_some, some_level}
use Rattle.stack.specs.declared.Entry.{Entry}
use Rattle.stack.specs.declared.Entry.TheVariants.{Empty, Block, Marker}
use Rattle.stack.specs.Stack.{marker, gives, left, dropped}
use Rattle.stack_theory.specs.Stacks.{stack_of, met, StacksBounded}
use Rattle.stack_theory.proofs.Held.{stack_step, Covers, room}
use Rattle.stack_theory.proofs.Simulation.{cells}

-- ---- every entry has a level

-- no empty entry, and each marker with a level, of the first n
abbrev pub Sound : ℕ → List Entry → Type 0
Sound n [] = Unit {0}
Sound n (Empty ∷ S) = ⊥
Sound n (Block b ∷ S) = Sound n S
Sound n (Marker b v ∷ S) = (v.bits ≡ 0 → ⊥) × (v.bits < 2 ^ n) × Sound n S

marker_sound : (n : ℕ) (b : MemoryBlock) (v : Levels) (S : List Entry) → v.bits < 2 ^ n → Sound n S → Sound n (marker b v ++ S)
marker_sound n b v S l a = grind arith

gives_lt : (m : Mapping) (n : ℕ) (q b : MemoryBlock) (v w : Levels) → v.bits < 2 ^ n → (gives m q w b v).bits < 2 ^ n
unfolding gives
gives_lt m n q b v w l =
    let k = below (shared m q.number b.number) in
    less_lt n (both v k) w (both_lt n v k l)

left_sound : (m : Mapping) (n : ℕ) (q : MemoryBlock) (w : Levels) (S : List Entry) → w.bits < 2 ^ n → Sound n S → Sound n (left m q w S)
left_sound m n q w [] l a = tt
left_sound m n q w (Empty ∷ S) l a = a
left_sound m n q w (Block b ∷ S) l a =
    let ih = left_sound m n q w S l a in
    let k = marker_sound n q w S l a in
    grind arith
left_sound m n q w (Marker b v ∷ S) l a =
    let y = gives m q w b v in
    marker_sound n b (less v y) (left m q (either w y) S) (less_lt n v y a.1)
    (left_sound m n q (either w y) S (either_lt n w y l (gives_lt m n q b v w a.1)) a.2)

-- how many entries have a level
abbrev entries_at : ℕ → List Entry → ℕ
entries_at i [] = 0
entries_at i (Empty ∷ S) = entries_at i S
entries_at i (Block b ∷ S) = entries_at i S + 1
entries_at i (Marker b v ∷ S) = entries_at i S + cond (has v i) 1 0

module _ (levels : ℕ) (some : 1 ≤ levels) (few : levels ≤ 32) where
  dropped_sound : (q : MemoryBlock) (S : List Entry) → Sound levels S → Sound levels (dropped levels q S)
  dropped_sound q [] a = tt
  dropped_sound q (Empty ∷ S) a = absurd a
  dropped_sound q (Block b ∷ S) a =
      let ih = dropped_sound q S a in
      let k = below_some levels few some in
      let m = below_lt levels few in
      grind arith
  dropped_sound q (Marker b v ∷ S) a = (a.0, a.1, dropped_sound q S a.2)

  pub sound : (m : Mapping) (p : ℕ) (h : History) → Sound levels (stack_of m levels p h)
  sound m p [] = tt
  sound m p (a ∷ h) =
      let S = stack_of m levels p h in
      let ih = sound m p h in
      stack_step (Sound levels) m levels p a S (left_sound m levels a.block no_level S (pow_pos levels) ih) (dropped_sound a.block S ih) ih

  -- so the entries are no more than those of all levels together
  spread : (S : List Entry) → Sound levels S → length S ≤ sum_to levels (λ i. entries_at i S)
  spread [] a = zero-le
  spread (Empty ∷ S) a = absurd a
  spread (Block b ∷ S) a =
      omega (arith, spread S a, sum_grows levels (λ i. entries_at i S) (λ i. entries_at i S + 1) (λ i. omega arith) 0 some (omega arith))
  spread (Marker b v ∷ S) a =
      let r = some_level levels v a.1 a.0 in
      let n = r.2 in
      omega (arith, spread S a.2, sum_grows levels (λ i. entries_at i S) (λ i. entries_at i (Marker b v ∷ S)) (λ i. grind arith) r.0 r.1 (grind arith))

-- ---- each level has at most as many entries as there are blocks

module _ (m : Mapping) (i : ℕ) (N : ℕ) (inside : (b : ℕ) → m.set i b < N) where
  -- the entries of a level, and the blocks of a list, by sets
  cells-sum : (S : List Entry) → entries_at i S ≡ sum_to N (λ s. length (cells m i s S))
  cells-sum [] = sum_none N
  cells-sum (Empty ∷ S) = cells-sum S
  cells-sum (Block b ∷ S) =
      let f : ℕ → ℕ = λ s. length (cells m i s S) in
      omega (arith, cells-sum S, sum_one N (m.set i b.number) 1 f (λ s. length (cells m i s (Block b ∷ S))) (λ s. grind arith) (inside b.number))
  cells-sum (Marker b v ∷ S) =
      let f : ℕ → ℕ = λ s. length (cells m i s S) in
      omega (arith, cells-sum S, sum_one N (m.set i b.number) (cond (has v i) 1 0) f (λ s. length (cells m i s (Marker b v ∷ S))) (λ s. grind arith) (inside b.number))

  inset-sum : (K : List MemoryBlock) → length K ≡ sum_to N (λ s. length (inset m i s K))
  inset-sum [] = sum_none N
  inset-sum (b ∷ K) =
      let f : ℕ → ℕ = λ s. length (inset m i s K) in
      omega (arith, inset-sum K, sum_one N (m.set i b.number) 1 f (λ s. length (inset m i s (b ∷ K))) (λ s. grind arith) (inside b.number))

module _ (m : Mapping) (law : Lawful m) (levels : ℕ) (some : 1 ≤ levels) (most : levels ≤ m.levels) (few : levels ≤ 32) (p : ℕ) (K : List MemoryBlock) (h : History) (c : Covers K h) where
  level_bound : (i : ℕ) → i < levels → entries_at i (stack_of m levels p h) ≤ length K
  level_bound i l =
      let S = stack_of m levels p h in
      let N = m.sets i in
      let inside : (b : ℕ) → m.set i b < N = λ b. law.within i b (omega arith) in
      omega (
        arith,
        cells-sum m i N inside S,
        inset-sum m i N inside K,
        sum_mono N (λ s. length (cells m i s S)) (λ s. length (inset m i s K)) (λ s. room m law i (omega arith) (omega arith) s levels l p K h c),
      )

  pub bound : length (stack_of m levels p h) ≤ levels * length K
  bound =
      let S = stack_of m levels p h in
      omega (arith, spread levels some few S (sound levels some few m p h), sum_at_most levels (length K) (λ i. entries_at i S) level_bound)

-- ---- the blocks referred to

pub among_push : (b c : MemoryBlock) (K : List MemoryBlock) → among c (K ++ (b ∷ [])) ≡ cond (among c K) true (same b c)
among_push b c [] = grind arith
among_push b c (x ∷ K) = let ih = among_push b c K in grind arith

covers_push : (b : MemoryBlock) (K : List MemoryBlock) (h : History) → Covers K h → Covers (K ++ (b ∷ [])) h
covers_push b K [] c = tt
covers_push b K (a ∷ h) c = (let e = among_push b a.block K in let k = c.0 in grind arith, covers_push b K h c.1)

pub covers : (h : History) → Covers (met h) h
covers [] = tt
covers (a ∷ h) = go (among a.block (met h)) refl (covers h)
  where
    go : (t : Bool) → among a.block (met h) ≡ t → Covers (met h) h → Covers (cond t (met h) (met h ++ (a.block ∷ []))) (a ∷ h)
    go true e c = (e, c)
    go false e c =
        let x = among_push a.block a.block (met h) in
        let y = same_refl a.block in
        (grind arith, covers_push a.block (met h) h c)

pub stacks_bounded : StacksBounded
stacks_bounded m law levels some most few p h = bound m law levels some most few p (met h) h (covers h)
