-- The first place whose element passes a test.
use Rattle.std.specs.Prelude.{ℕ, suc, Bool, cond, List, [], ◌∷◌}

-- the length where no element passes
abbrev pub place : {X : Type 0} → (X → Bool) → List X → ℕ
place t [] = 0
place t (x ∷ xs) = cond (t x) 0 (suc (place t xs))
