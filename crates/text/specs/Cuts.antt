-- Where bytes are cut: before and after the first byte `at`.
use Rattle.std.specs.Prelude.{◌≡◌, ℕ, zero, suc, ◌+◌, List, [], ◌∷◌, length, ◌==◌}
use Rattle.std.specs.List.{before_first, after_first}
use Rattle.trace.specs.Text.{pieces}

-- all of it where there is no such byte
abbrev pub upto : ℕ → List ℕ → List ℕ
upto at bs = before_first (λ b. b == at) bs

-- nothing where there is no such byte
abbrev pub past : ℕ → List ℕ → List ℕ
past at bs = after_first (λ b. b == at) bs

-- n pieces, each cut off the front of what the one before left
abbrev pub parts : ℕ → ℕ → List ℕ → List (List ℕ)
parts zero at bs = []
parts (suc n) at bs = upto at bs ∷ parts n at (past at bs)

-- the first byte `at` of bs stands between front and back
abbrev pub Parted : ℕ → (bs front back : List ℕ) → Type 0
Parted at bs front back = (pieces at bs ≡ front ∷ pieces at back) × (length front + 1 + length back ≡ length bs)

-- there is no byte `at` in bs
abbrev pub Whole : ℕ → List ℕ → Type 0
Whole at bs = pieces at bs ≡ bs ∷ []
