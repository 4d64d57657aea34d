-- The binary form of a trace: six bytes for each reference.
use Rattle.std.specs.Prelude.{ℕ, ◌+◌, ◌*◌, ◌^◌, cond, List, [], ◌∷◌, Ok, Err, ◌==◌}
use Rattle.trace.specs.Items.{Item, bad}
use Rattle.trace.specs.Text.{Parsed, ◌then◌, item}
use Rattle.trace.specs.declared.Operation.{Operation}
use Rattle.trace.specs.declared.Operation.TheVariants.{Read, Write, Fetch}
use Rattle.trace.specs.declared.Reference.{Reference}
use Rattle.trace.specs.declared.Refusal.TheVariants.{Form, CutOff}

abbrev pub code : ℕ → Parsed Operation
code o = cond (o == 0) (Ok Read) (cond (o == 1) (Ok Write) (cond (o == 2) (Ok Fetch) (Err Form)))

-- processor, operation, then the address, highest byte first
abbrev pub record_of : (p o a b c d : ℕ) → Parsed Reference
record_of p o a b c d = code o then λ x. Ok (record { processor = p; operation = x; address = ((a * 2 ^ 8 + b) * 2 ^ 8 + c) * 2 ^ 8 + d })

-- six bytes are an item; one to five at the end are one more, cut off
abbrev pub record_items : List ℕ → List Item
record_items [] = []
record_items (p ∷ (o ∷ (a ∷ (b ∷ (c ∷ (d ∷ rest)))))) = item (record_of p o a b c d) ∷ record_items rest
record_items (p ∷ []) = bad CutOff ∷ []
record_items (p ∷ (o ∷ [])) = bad CutOff ∷ []
record_items (p ∷ (o ∷ (a ∷ []))) = bad CutOff ∷ []
record_items (p ∷ (o ∷ (a ∷ (b ∷ [])))) = bad CutOff ∷ []
record_items (p ∷ (o ∷ (a ∷ (b ∷ (c ∷ []))))) = bad CutOff ∷ []
