-- What a cache lists of one set of a later level is the front of what a cache of that level lists.
use Rattle.std.proofs.Common.{◌≡◌, ℕ, zero, suc, ◌<◌, ◌≤◌, true, false, cond, eqb, List, [], ◌∷◌, length, take, filter, refl, ◌∙◌, inl, inr, arith, length-take}
use Rattle.std.proofs.lemmas.List.Sums.{length-filter, count_by-le-length}
use Rattle.std.proofs.lemmas.Bool.{cases_eq, eq-eqb, ne_eqb, both_ways, and_parts, and_from}
use Rattle.setmap.specs.Mapping.{Mapping, Lawful}
use Rattle.setmap.specs.Shares.{down}
use Rattle.trace.specs.Items.{writes}
use Rattle.trace.specs.declared.Block.{Block}
use Rattle.trace.proofs.Blocks.{same_equal}
use Rattle.caches.specs.Caches.{Access, History, among, without, own, others_write, used, listed, holding}
use Rattle.caches.specs.Includes.{Includes}
use Rattle.caches.proofs.Used.{used_is}
use Rattle.caches.proofs.Listed.{listed-short}
use Rattle.caches.proofs.Tallies.{tally_mono}

abbrev Front : List Block → List Block → Type 0
Front [] ys = Unit {0}
Front (x ∷ xs) [] = ⊥
Front (x ∷ xs) (y ∷ ys) = (x ≡ y) × Front xs ys

front_take : (n : ℕ) (xs ys : List Block) → length xs ≤ n → Front xs ys → Front xs (take n ys)
front_take n [] ys l f = tt
front_take n (x ∷ xs) [] l f = absurd f
front_take zero (x ∷ xs) (y ∷ ys) l f = absurd (omega arith)
front_take (suc n) (x ∷ xs) (y ∷ ys) l f = (f.0, front_take n xs ys (omega arith) f.1)

front_trans : (xs ys zs : List Block) → Front xs ys → Front ys zs → Front xs zs
front_trans [] ys zs f k = tt
front_trans (x ∷ xs) [] zs f k = absurd f
front_trans (x ∷ xs) (y ∷ ys) [] f k = absurd k
front_trans (x ∷ xs) (y ∷ ys) (z ∷ zs) f k = (f.0 ∙ k.0, front_trans xs ys zs f.1 k.1)

front_without : (b : Block) (xs ys : List Block) → Front xs ys → Front (without b xs) (without b ys)
front_without b [] ys f = tt
front_without b (x ∷ xs) [] f = absurd f
front_without b (x ∷ xs) (y ∷ ys) f =
    let ih = front_without b xs ys f.1 in
    let e = f.0 in
    let g = f.1 in
    grind arith

front_among : (b : Block) (xs ys : List Block) → Front xs ys → among b xs ≡ true → among b ys ≡ true
front_among b [] ys f m = absurd (both_ways false refl m)
front_among b (x ∷ xs) [] f m = absurd f
front_among b (x ∷ xs) (y ∷ ys) f m =
    let ih = front_among b xs ys f.1 in
    let e = f.0 in
    grind arith

-- the blocks of a list that belong to a set
abbrev pub inset : Mapping → (level set : ℕ) → List Block → List Block
inset m j t = filter (λ b. eqb (m.set j b.number) t)

module _ (m : Mapping) (j t : ℕ) where
  pub inset-among : (b : Block) (xs : List Block) → m.set j b.number ≡ t → among b xs ≡ true → among b (inset m j t xs) ≡ true
  inset-among b [] e n = n
  inset-among b (x ∷ xs) e n =
      let ih = inset-among b xs e in
      let k = same_equal x b in
      grind arith

  -- a block of another set is not among them
  without-inset : (b : Block) (xs : List Block) → (m.set j b.number ≡ t → ⊥) → without b (inset m j t xs) ≡ inset m j t xs
  without-inset b [] n = refl
  without-inset b (x ∷ xs) n =
      let ih = without-inset b xs n in
      let k = same_equal x b in
      grind arith

  inset-without : (b : Block) (xs : List Block) → inset m j t (without b xs) ≡ without b (inset m j t xs)
  inset-without b [] = refl
  inset-without b (x ∷ xs) =
      let ih = inset-without b xs in
      let o = without-inset b xs in
      let k = same_equal x b in
      grind arith

  inset-take : (n : ℕ) (xs : List Block) → Front (inset m j t (take n xs)) (inset m j t xs)
  inset-take zero xs = tt
  inset-take (suc n) [] = tt
  inset-take (suc n) (x ∷ xs) =
      let ih = inset-take n xs in
      elim (eqb (m.set j x.number) t) as (λ c. Front (cond c (x ∷ inset m j t (take n xs)) (inset m j t (take n xs))) (cond c (x ∷ inset m j t xs) (inset m j t xs))) [
        | true ↦ (refl, ih)
        | false ↦ ih
      ]

  inset-short : (n : ℕ) (xs : List Block) → length (inset m j t (take n xs)) ≤ n
  inset-short n xs =
      let test = λ (b : Block). eqb (m.set j b.number) t in
      omega (arith, length-filter test (take n xs), count_by-le-length test (take n xs), length-take n xs)

  -- set s of level i has every block that set t of level j has
  module _ (i s D E : ℕ) (finer : (b : Block) → m.set j b.number ≡ t → m.set i b.number ≡ s) (l : D ≤ E) where
    step_in : (b : Block) (L M : List Block) → m.set j b.number ≡ t → Front (inset m j t L) M
        → Front (inset m j t (take D (b ∷ without b L))) (take E (b ∷ without b M))
    step_in b L M e f =
        let N = b ∷ without b L in
        let k : inset m j t N ≡ b ∷ without b (inset m j t L) = (let n = inset-without b L in grind arith) in
        let f' : Front (inset m j t N) (b ∷ without b M) = rw k (refl, front_without b (inset m j t L) M f) in
        let z : length (inset m j t (take D N)) ≤ E = omega (arith, inset-short D N) in
        front_take E (inset m j t (take D N)) (b ∷ without b M) z (front_trans (inset m j t (take D N)) (inset m j t N) (b ∷ without b M) (inset-take D N) f')

    step_out : (b : Block) (L M : List Block) → (m.set j b.number ≡ t → ⊥) → Front (inset m j t L) M → Front (inset m j t (take D (b ∷ without b L))) M
    step_out b L M n f =
        let N = b ∷ without b L in
        let k : inset m j t N ≡ inset m j t L = (let x = inset-without b L in let y = without-inset b L n in grind arith) in
        let f' : Front (inset m j t N) M = rw k f in
        front_trans (inset m j t (take D N)) (inset m j t N) M (inset-take D N) f'

    -- an own reference, whichever of the two sets the block belongs to
    step_own : (b : Block) (L M : List Block) → length L ≤ D → length M ≤ E → Front (inset m j t L) M
        → Front (inset m j t (cond (eqb (m.set i b.number) s) (used D b L) L)) (cond (eqb (m.set j b.number) t) (used E b M) M)
    step_own b L M x y f =
        elim (cases_eq (m.set j b.number) t) [
          | inl e ↦ rw (eq-eqb (m.set j b.number) t e, eq-eqb (m.set i b.number) s (finer b e), used_is D b L x, used_is E b M y) (step_in b L M e f)
          | inr n ↦ rw (ne_eqb (m.set j b.number) t n)
              (elim (eqb (m.set i b.number) s) as (λ c. Front (inset m j t (cond c (used D b L) L)) M) [ true ↦ rw (used_is D b L x) (step_out b L M n f) | false ↦ f ])
        ]

    step : (p : ℕ) (a : Access) (L M : List Block) → length L ≤ D → length M ≤ E → Front (inset m j t L) M
        → Front (inset m j t (cond (own p a) (cond (eqb (m.set i a.block.number) s) (used D a.block L) L) (cond (writes a.operation) (without a.block L) L)))
        (cond (own p a) (cond (eqb (m.set j a.block.number) t) (used E a.block M) M) (cond (writes a.operation) (without a.block M) M))
    step p a L M x y f =
        elim (own p a) as (λ c. Front (inset m j t (cond c (cond (eqb (m.set i a.block.number) s) (used D a.block L) L) (cond (writes a.operation) (without a.block L) L)))
        (cond c (cond (eqb (m.set j a.block.number) t) (used E a.block M) M) (cond (writes a.operation) (without a.block M) M))) [
          | true ↦ step_own a.block L M x y f
          | false ↦ elim (writes a.operation) as (λ c. Front (inset m j t (cond c (without a.block L) L)) (cond c (without a.block M) M)) [
            | true ↦ rw (inset-without a.block L) (front_without a.block (inset m j t L) M f)
            | false ↦ f
          ]
        ]

    front : (p : ℕ) (h : History) → Front (inset m j t (listed m p i D s h)) (listed m p j E t h)
    front p [] = tt
    front p (a ∷ h) = step p a (listed m p i D s h) (listed m p j E t h) (listed-short m p i D s h) (listed-short m p j E t h) (front p h)

holding_more : (m : Mapping) → Lawful m → (p i j D E : ℕ) → i ≤ j → j < m.levels → D ≤ E
    → (b : Block) (h : History) → holding m p i D b h ≡ true → holding m p j E b h ≡ true
holding_more m law p i j D E l k n b h e =
    let t = m.set j b.number in
    let s = m.set i b.number in
    let L = listed m p i D s h in
    let finer : (c : Block) → m.set j c.number ≡ t → m.set i c.number ≡ s = λ c d. down m law j i c.number b.number l k d in
    front_among b (inset m j t L) (listed m p j E t h) (front m j t i s D E finer n p h) (inset-among m j t b L refl e)

pub inclusion : (m : Mapping) → Lawful m → (h : History) → Includes m h
inclusion m law h p i j D E l k o n =
    let more = holding_more m law p i j D E l k n in (
      λ b. more b h,
      tally_mono _ _ (λ a before e. (let q = and_parts (own p a) (holding m p i D a.block before) e in and_from (own p a) (holding m p j E a.block before) q.0 (more a.block before q.1))) h,
      tally_mono _ _ (λ a before e. (let q = and_parts (others_write p a) (holding m p i D a.block before) e in and_from (others_write p a) (holding m p j E a.block before) q.0 (more a.block before q.1))) h,
    )
