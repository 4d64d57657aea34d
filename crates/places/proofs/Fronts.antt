-- Lists with an element brought to the front.
use Rattle.std.proofs.Common.{◌≡◌, ℕ, ◌+◌, ◌<◌, ◌≤◌, List, ◌∷◌, ◌++◌, length, get_or, take, drop, sym}
use Rattle.std.proofs.lemmas.List.{drop_all, take_all, append-nil, drop_more}
use Rattle.places.specs.Moves.{fronted}

module _ {X : Type 0} (xs : List X) (at : ℕ) where
  pub fronted_past : length xs ≤ at → xs ≡ fronted at xs
  fronted_past h = simp (drop_all at xs h, take_all at xs h, append-nil)

  pub fronted_inside : (x : X) → at < length xs → x ≡ get_or xs at x → fronted at xs ≡ x ∷ (take at xs ++ drop (at + 1) xs)
  fronted_inside x h e = simp (drop_more xs at x h, sym e)
