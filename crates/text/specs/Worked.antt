-- Worked traces in text.
use Rattle.std.specs.Prelude.{◌≡◌, ℕ, List, [], ◌∷◌, ◌++◌, codes}
use Rattle.trace.specs.Items.{bad}
use Rattle.trace.specs.Text.{text_items}
use Rattle.trace.specs.declared.Refusal.TheVariants.{Form, Size, CutOff}

-- a leading zero, an address that is too large, and a line without its line feed
abbrev pub worked_bytes : List ℕ
worked_bytes = codes "01,r,0" ++ (10 ∷ (codes "1,r,4294967296" ++ (10 ∷ codes "1,r,0")))

abbrev pub Worked : Type 0
Worked = (text_items [] ≡ []) × (text_items worked_bytes ≡ bad Form ∷ (bad Size ∷ (bad CutOff ∷ [])))
