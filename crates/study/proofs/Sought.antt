-- A block's place among the first n known ones, as the library answers it.
use Rattle.std.proofs.Common.{◌≡◌, ℕ, suc, ◌+◌, ◌<◌, ◌≤◌, Bool, cond, ltb, List, length, take, Some, None, Option, refl, ap, ◌∙◌, inl, inr, arith, length-take}
use Rattle.std.proofs.lemmas.Bool.{cases_Bool, ltb-true, ltb-false, lt-ltb, le-ltb, cond-true, cond-false}
use Rattle.std.proofs.lemmas.List.Recursion.{is_position_or_len}
use Rattle.std.specs.List.{position, position_or_len}
use Rattle.std.specs.Option.{is_some, unwrap_or}
use Rattle.places.specs.Place.{place}
use Rattle.places.proofs.Places.{place-within}
use Rattle.trace.specs.Items.{same}
use Rattle.trace.specs.declared.Block.{Block}
use Rattle.tables.specs.Calls.{place_of}

place_is : {X : Type 0} (p : X → Bool) (xs : List X) → place p xs ≡ position_or_len p xs
place_is p xs = is_position_or_len (place p) p refl (λ x ys. let e : suc (place p ys) ≡ 1 + place p ys = omega arith in ap (cond (p x) 0) e) xs

abbrev Sought : List Block → (n : ℕ) → Block → Option ℕ → Type 0
Sought K n q (Some k) = (k < n) × (k ≡ place_of q (take n K))
Sought K n q None = n ≡ place_of q (take n K)

sought : (K : List Block) (n : ℕ) (q : Block) → n ≤ length K → (o : Option ℕ) → o ≡ position (λ b. same b q) (take n K) → Sought K n q o
sought K n q l None e =
    let at = position_or_len (λ b. same b q) (take n K) in
    let is = place_is (λ b. same b q) (take n K) in
    let most = place-within (λ b. same b q) (take n K) in
    let long = length-take n K in
    elim (cases_Bool (ltb at (length (take n K)))) [
      | inl t ↦ let z : ◌≡◌ {A = Option ℕ} None (Some at) = e ∙ cond-true _ _ _ t in cc
      | inr f ↦ omega (arith, ltb-false at (length (take n K)) f)
    ]
sought K n q l (Some k) e =
    let at = position_or_len (λ b. same b q) (take n K) in
    let is = place_is (λ b. same b q) (take n K) in
    let long = length-take n K in
    elim (cases_Bool (ltb at (length (take n K)))) [
      | inl t ↦ (
          let z : ◌≡◌ {A = Option ℕ} (Some k) (Some at) = e ∙ cond-true _ _ _ t in
          let y : k ≡ at = cc in
          (omega (arith, ltb-true at (length (take n K)) t), omega arith))
      | inr f ↦ let z : ◌≡◌ {A = Option ℕ} (Some k) None = e ∙ cond-false _ _ _ f in cc
    ]

module _ (K : List Block) (n : ℕ) (q : Block) (l : n ≤ length K) where
  pub place_or : (o : Option ℕ) → o ≡ position (λ b. same b q) (take n K) → (r : ℕ) → r ≡ unwrap_or o n → r ≡ place_of q (take n K)
  place_or None e r u = u ∙ sought K n q l None e
  place_or (Some k) e r u = u ∙ (sought K n q l (Some k) e).1

  pub is_known : (o : Option ℕ) → o ≡ position (λ b. same b q) (take n K) → ltb (place_of q (take n K)) n ≡ is_some o
  is_known None e = le-ltb (place_of q (take n K)) n (omega (arith, sought K n q l None e))
  is_known (Some k) e = let y = sought K n q l (Some k) e in lt-ltb (place_of q (take n K)) n (omega (arith, y.0, y.1))
