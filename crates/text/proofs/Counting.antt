-- How many pieces there are, and which.
use Rattle.std.proofs.Common.{◌≡◌, ◌==◌, ℕ, zero, suc, ◌<◌, List, ◌∷◌, length, refl, ap, ◌∙◌, inl, inr, arith}
use Rattle.std.proofs.lemmas.List.Splits.{length-slice_split}
use Rattle.text.specs.Cuts.{upto, past, parts}
use Rattle.text.proofs.Seeking.{cut}
use Rattle.trace.specs.Text.{pieces}

pub some_piece : (at : ℕ) (bs : List ℕ) → 0 < length (pieces at bs)
some_piece at bs = omega (arith, length-slice_split (λ b. b == at) bs)

-- pieces of known number are cut off one by one
pub pieces-parts : (n at : ℕ) (bs : List ℕ) → n ≡ length (pieces at bs) → pieces at bs ≡ parts n at bs
pieces-parts zero at bs e = let p = some_piece at bs in absurd (omega arith)
pieces-parts (suc zero) at bs e =
    elim (cut at bs) [
      | inl c ↦ let p = some_piece at (past at bs) in absurd (omega (arith, ap length c.0))
      | inr c ↦ rw (c.0, c.1) refl
    ]
pieces-parts (suc (suc n)) at bs e =
    elim (cut at bs) [
      | inl c ↦ let more = pieces-parts (suc n) at (past at bs) (omega (arith, ap length c.0)) in c.0 ∙ ap (λ (xs : List (List ℕ)). upto at bs ∷ xs) more
      | inr c ↦ absurd (omega (arith, ap length c.0))
    ]
