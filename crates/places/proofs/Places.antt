-- The first place whose element passes a test, and a loop that looks for it.
use Rattle.std.proofs.Common.{◌≡◌, ℕ, suc, ◌+◌, ◌<◌, ◌≤◌, Bool, true, false, cond, List, [], ◌∷◌, length, get_or, drop, sym, arith}
use Rattle.std.proofs.lemmas.List.{at_drop_more, at_drop_all}
use Rattle.places.specs.Place.{place}

module _ {X : Type 0} (t : X → Bool) where
  pub place-within : (xs : List X) → place t xs ≤ length xs
  place-within [] = omega arith
  place-within (x ∷ xs) = let ih = place-within xs in grind arith

  module _ (s : List X) (i : ℕ) (inv : i + place t (drop i s) ≡ place t s) where
    pub stops : (x : X) → i < length s → x ≡ get_or s i x → t x ≡ true → i ≡ place t s
    stops x h g p =
        let e : place t (drop i s) ≡ cond (t (get_or s i x)) 0 (suc (place t (drop (i + 1) s))) = at_drop_more (place t) s i x h in
        let u = rw (sym g, p) at e in
        omega arith

    pub goes_on : (x : X) → i < length s → x ≡ get_or s i x → t x ≡ false → (i + 1) + place t (drop (i + 1) s) ≡ place t s
    goes_on x h g p =
        let e : place t (drop i s) ≡ cond (t (get_or s i x)) 0 (suc (place t (drop (i + 1) s))) = at_drop_more (place t) s i x h in
        let u = rw (sym g, p) at e in
        omega arith

    pub ends : length s ≤ i → i ≡ place t s
    ends h =
        let e : place t (drop i s) ≡ 0 = at_drop_all (place t) s i h in
        omega arith
