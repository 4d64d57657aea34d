-- A worked example of the binary form.
use Rattle.std.specs.Prelude.{◌≡◌, ℕ, List, [], ◌∷◌}
use Rattle.trace.specs.Items.{reference}
use Rattle.trace.specs.Records.{record_items}
use Rattle.trace.specs.declared.Operation.TheVariants.{Write}

abbrev pub worked_bytes : List ℕ
worked_bytes = 0x01 ∷ (0x01 ∷ (0x00 ∷ (0x00 ∷ (0x10 ∷ (0x00 ∷ [])))))

-- processor 1 writes at address 4096
abbrev pub Worked : Type 0
Worked = record_items worked_bytes ≡ reference (record { processor = 1; operation = Write; address = 4096 }) ∷ []
