-- Which levels two blocks share.
use Rattle.std.specs.Prelude.{◌≡◌, ℕ, zero, suc, ◌+◌, ◌<◌, ◌≤◌, Bool, true, ◌==◌, nat_eq, nat_lt, refl}
use Rattle.std.proofs.Common.{sym, ap, ◌∙◌, inl, inr, arith}
use Rattle.std.proofs.lemmas.Bool.{cases_eq, cases_lt, cases_order, eq-eqb, ne_eqb, eqb-true, lt-ltb, le-ltb, ltb-true}
use Rattle.setmap.specs.Mapping.{Mapping, Lawful, passing, shared}

-- a level below those that pass, passes
passing_at : (test : ℕ → Bool) (n i k : ℕ) → k < passing test n i → test (i + k) ≡ true
passing_at test zero i k l = absurd (omega arith)
passing_at test (suc n) i zero l = let e : i + 0 ≡ i = omega arith in grind arith
passing_at test (suc n) i (suc k) l =
    let e : suc i + k ≡ i + suc k = omega arith in
    let ih = passing_at test n (suc i) k in
    grind arith

-- a level up to which all pass is below those that pass
passing_all : (test : ℕ → Bool) (n i k : ℕ) → k < n → ((j : ℕ) → j ≤ k → test (i + j) ≡ true) → k < passing test n i
passing_all test zero i k l h = omega arith
passing_all test (suc n) i zero l h =
    let e : i + 0 ≡ i = omega arith in
    let x = h 0 (omega arith) in
    grind arith
passing_all test (suc n) i (suc k) l h =
    let e : i + 0 ≡ i = omega arith in
    let x = h 0 (omega arith) in
    let ih = passing_all test n (suc i) k (omega arith) (λ j m. (let e' : suc i + j ≡ i + suc j = omega arith in ap test e' ∙ h (suc j) (omega arith))) in
    grind arith

passing_few : (test : ℕ → Bool) (n i : ℕ) → passing test n i ≤ n
passing_few test zero i = omega arith
passing_few test (suc n) i = let ih = passing_few test n (suc i) in grind arith

pub shared_few : (m : Mapping) (a b : ℕ) → shared m a b ≤ m.levels
shared_few m a b = passing_few (λ i. nat_eq (m.set i a) (m.set i b)) m.levels 0

-- a block shares every level with itself
pub shared_self : (m : Mapping) (a : ℕ) → shared m a a ≡ m.levels
shared_self m a = all m.levels 0
  where
    all : (n i : ℕ) → passing (λ i. nat_eq (m.set i a) (m.set i a)) n i ≡ n
    all zero i = refl
    all (suc n) i = rw (eq-eqb (m.set i a) (m.set i a) refl) (ap suc (all n (suc i)))

pub shared_same : (m : Mapping) (a b : ℕ) → a ≡ b → shared m a b ≡ m.levels
shared_same m a b e = ap (λ x. shared m a x) (sym e) ∙ shared_self m a

module _ (m : Mapping) (law : Lawful m) where
  same_at : (i j a b : ℕ) → i ≡ j → m.set j a ≡ m.set j b → m.set i a ≡ m.set i b
  same_at i j a b e k = rw e k

  -- blocks that share a set at one level share one at each level below
  pub down : (j i a b : ℕ) → i ≤ j → j < m.levels → m.set j a ≡ m.set j b → m.set i a ≡ m.set i b
  down zero i a b l k e = same_at i 0 a b (omega arith) e
  down (suc j) i a b l k e =
      let f : j + 1 ≡ suc j = omega arith in
      elim (cases_eq i (suc j)) [
        | inl p ↦ same_at i (suc j) a b p e
        | inr p ↦ down j i a b (omega arith) (omega arith) (law.refines j a b (omega arith) (same_at (j + 1) (suc j) a b f e))
      ]

  -- the shared levels are exactly those at which the sets are equal
  pub shares_test : (i a b : ℕ) → i < m.levels → nat_lt i (shared m a b) ≡ (m.set i a == m.set i b)
  shares_test i a b l =
      let t : ℕ → Bool = λ k. nat_eq (m.set k a) (m.set k b) in
      elim (cases_eq (m.set i a) (m.set i b)) [
        | inl e ↦
            (let at : (j : ℕ) → j ≤ i → t (0 + j) ≡ true = λ j k. (let z : 0 + j ≡ j = omega arith in ap t z ∙ eq-eqb (m.set j a) (m.set j b) (down i j a b k l e)) in
            lt-ltb i (shared m a b) (passing_all t m.levels 0 i l at) ∙ sym (eq-eqb (m.set i a) (m.set i b) e))
        | inr n ↦
            le-ltb i (shared m a b) (elim (cases_lt i (shared m a b)) [
              | inl k ↦ absurd (n (eqb-true (m.set i a) (m.set i b) (let z : 0 + i ≡ i = omega arith in sym (ap t z) ∙ passing_at t m.levels 0 i k)))
              | inr k ↦ k
            ])
            ∙ sym (ne_eqb (m.set i a) (m.set i b) n)
      ]

  -- so a number with that property is the number of shared levels
  pub shared_is : (a b r : ℕ) → r ≤ m.levels → ((i : ℕ) → i < m.levels → (i < r → m.set i a ≡ m.set i b) × (m.set i a ≡ m.set i b → i < r)) → r ≡ shared m a b
  shared_is a b r few exact =
      let n = shared m a b in
      elim (cases_order r n) [
        | inl e ↦ e
        | inr (inl l) ↦
            (let o : r < m.levels = omega (arith, shared_few m a b) in
            let e = eqb-true (m.set r a) (m.set r b) (sym (shares_test r a b o) ∙ lt-ltb r n l) in
            absurd (omega (arith, (exact r o).1 e)))
        | inr (inr l) ↦
            (let o : n < m.levels = omega arith in
            let e = (exact n o).0 l in
            absurd (omega (arith, ltb-true n n (shares_test n a b o ∙ eq-eqb (m.set n a) (m.set n b) e))))
      ]
