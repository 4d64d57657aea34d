-- What the list of a set keeps to through every history.
use Rattle.std.proofs.Common.{◌≡◌, ℕ, ◌≤◌, true, false, cond, eqb, List, [], ◌∷◌, length, sym, refl, ap, ◌∙◌, inl, inr, zero-le, arith}
use Rattle.std.proofs.lemmas.Bool.{cases_eq, cases_Bool, eq-eqb, ne_eqb, both_ways, cond-true, cond-false}
use Rattle.setmap.specs.Mapping.{Mapping}
use Rattle.trace.specs.Items.{same, writes}
use Rattle.trace.specs.declared.Block.{Block}
use Rattle.trace.proofs.Blocks.{same_equal}
use Rattle.caches.specs.Caches.{Access, History, among, without, own, used, listed}
use Rattle.caches.proofs.Used.{without-short, without_absent, used-short, among-without, among-used}

-- a cache's list after one more access, from what each kind of access makes of it
pub listed_step : (P : List Block → Type 0) (m : Mapping) (p i D s : ℕ) (a : Access) (L : List Block)
    → (m.set i a.block.number ≡ s → P (used D a.block L)) → P (without a.block L) → P L
    → P (cond (own p a) (cond (eqb (m.set i a.block.number) s) (used D a.block L) L) (cond (writes a.operation) (without a.block L) L))
listed_step P m p i D s a L x y z =
    elim (own p a) as (λ t. P (cond t (cond (eqb (m.set i a.block.number) s) (used D a.block L) L) (cond (writes a.operation) (without a.block L) L))) [
      | true ↦ elim (cases_eq (m.set i a.block.number) s) [
        | inl e ↦ rw (eq-eqb (m.set i a.block.number) s e) (x e)
        | inr e ↦ rw (ne_eqb (m.set i a.block.number) s e) z
      ]
      | false ↦ elim (writes a.operation) as (λ t. P (cond t (without a.block L) L)) [ true ↦ y | false ↦ z ]
    ]

-- it has at most as many blocks as there are ways
pub listed-short : (m : Mapping) (p i D s : ℕ) (h : History) → length (listed m p i D s h) ≤ D
listed-short m p i D s [] = zero-le
listed-short m p i D s (a ∷ h) =
    let L = listed m p i D s h in
    let ih = listed-short m p i D s h in
    listed_step (λ xs. length xs ≤ D) m p i D s a L (λ e. used-short D a.block L ih) (omega (arith, without-short a.block L)) ih

-- its blocks belong to the set
pub listed_in : (m : Mapping) (p i D s : ℕ) (h : History) (b : Block) → among b (listed m p i D s h) ≡ true → m.set i b.number ≡ s
listed_in m p i D s [] b = λ e. absurd (both_ways false refl e)
listed_in m p i D s (a ∷ h) b =
    let L = listed m p i D s h in
    let ih = listed_in m p i D s h b in
    listed_step (λ xs. among b xs ≡ true → m.set i b.number ≡ s) m p i D s a L
    (λ here e. elim (cases_Bool (same a.block b)) [
      | inl k ↦ sym (ap (λ (c : Block). m.set i c.number) (same_equal a.block b k)) ∙ here
      | inr k ↦ ih (among-used D a.block b L k e)
    ])
    (λ e. ih (among-without a.block b L e))
    ih

-- the list after each kind of access
module _ (m : Mapping) (p i D k : ℕ) (a : Access) (h : History) where
  pub listed_own : own p a ≡ true → m.set i a.block.number ≡ k → listed m p i D k (a ∷ h) ≡ used D a.block (listed m p i D k h)
  listed_own o e = cond-true (own p a) _ _ o ∙ cond-true (eqb (m.set i a.block.number) k) _ _ (eq-eqb (m.set i a.block.number) k e)

  pub listed_own_elsewhere : own p a ≡ true → (m.set i a.block.number ≡ k → ⊥) → listed m p i D k (a ∷ h) ≡ listed m p i D k h
  listed_own_elsewhere o n = cond-true (own p a) _ _ o ∙ cond-false (eqb (m.set i a.block.number) k) _ _ (ne_eqb (m.set i a.block.number) k n)

  pub listed_write : own p a ≡ false → writes a.operation ≡ true → listed m p i D k (a ∷ h) ≡ without a.block (listed m p i D k h)
  listed_write o w = cond-false (own p a) _ _ o ∙ cond-true (writes a.operation) _ _ w

  pub listed_write_elsewhere : own p a ≡ false → writes a.operation ≡ true → (m.set i a.block.number ≡ k → ⊥) → listed m p i D k (a ∷ h) ≡ listed m p i D k h
  listed_write_elsewhere o w n =
      listed_write o w
      ∙ without_absent a.block (listed m p i D k h) (elim (cases_Bool (among a.block (listed m p i D k h))) [ inl e ↦ absurd (n (listed_in m p i D k h a.block e)) | inr e ↦ e ])

  pub listed_read : own p a ≡ false → writes a.operation ≡ false → listed m p i D k (a ∷ h) ≡ listed m p i D k h
  listed_read o w = cond-false (own p a) _ _ o ∙ cond-false (writes a.operation) _ _ w
