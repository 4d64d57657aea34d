-- Records: six bytes each.
use Rattle.std.proofs.Common.{◌≡◌, ℕ, ◌-◌, ◌%◌, ◌<◌, List, [], ◌∷◌, length, take, drop, refl, ap, inl, inr, arith}
use Rattle.std.proofs.lemmas.List.{length-take-le, length-drop}
use Rattle.trace.specs.Items.{Item}
use Rattle.trace.specs.Records.{record_of}
use Rattle.trace.specs.Text.{item}
use Rattle.cutting.specs.Cutting.{WholeItems, LeftOver}
use Rattle.cutting.specs.declared.Form.TheVariants.{Records}

pub sixes_whole : (front : List ℕ) → length front % 6 ≡ 0 → WholeItems Records front
sixes_whole [] h later = refl
sixes_whole (p ∷ []) h later = absurd (omega arith)
sixes_whole (p ∷ (o ∷ [])) h later = absurd (omega arith)
sixes_whole (p ∷ (o ∷ (a ∷ []))) h later = absurd (omega arith)
sixes_whole (p ∷ (o ∷ (a ∷ (b ∷ [])))) h later = absurd (omega arith)
sixes_whole (p ∷ (o ∷ (a ∷ (b ∷ (c ∷ []))))) h later = absurd (omega arith)
sixes_whole (p ∷ (o ∷ (a ∷ (b ∷ (c ∷ (d ∷ rest)))))) h later =
    ap (λ (is : List Item). item (record_of p o a b c d) ∷ is) (sixes_whole rest (omega arith) later)

few_left : (rest : List ℕ) → length rest < 6 → LeftOver Records rest
few_left [] h = inl refl
few_left (p ∷ []) h = inr refl
few_left (p ∷ (o ∷ [])) h = inr refl
few_left (p ∷ (o ∷ (a ∷ []))) h = inr refl
few_left (p ∷ (o ∷ (a ∷ (b ∷ [])))) h = inr refl
few_left (p ∷ (o ∷ (a ∷ (b ∷ (c ∷ []))))) h = inr refl
few_left (p ∷ (o ∷ (a ∷ (b ∷ (c ∷ (d ∷ rest)))))) h = absurd (omega arith)

pub front_sixes : (bs : List ℕ) → length (take (length bs - length bs % 6) bs) % 6 ≡ 0
front_sixes bs = let l = length-take-le (length bs - length bs % 6) bs (omega arith) in rw l (omega arith)

pub records_left : (bs : List ℕ) → LeftOver Records (drop (length bs - length bs % 6) bs)
records_left bs =
    let n = length bs - length bs % 6 in
    few_left (drop n bs) (omega (arith, length-drop n bs))
