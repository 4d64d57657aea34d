-- Lists after one element was moved.
use Rattle.std.specs.Prelude.{ℕ, ◌+◌, cond, List, [], ◌∷◌, ◌++◌, length, take, drop, nat_lt}

-- the element at `at` first, then the others in their order; the list itself where there is none at `at`
abbrev pub fronted : {X : Type 0} → ℕ → List X → List X
fronted at xs = take 1 (drop at xs) ++ (take at xs ++ drop 1 (drop at xs))

-- the others in their order, then x, for the element at `at`; the list itself where there is none at `at`
abbrev pub closed : {X : Type 0} → ℕ → X → List X → List X
closed at x xs = cond (nat_lt at (length xs)) (take at xs ++ (drop (at + 1) xs ++ x ∷ [])) xs
