-- Faults of a record, with the item that they are told by.
use Rattle.std.specs.Prelude.{ℕ, Ok, Err, Result}
use Rattle.trace.specs.Text.{Parsed}
use Rattle.trace.specs.declared.Fault.{Fault}
use Rattle.trace.specs.declared.Layer.TheVariants.{Source}
use Rattle.records.specs.declared.faults.RecordFault.{RecordFault}

-- a refusal, in the record of that count
abbrev pub in_record : {A : Type 0} → ℕ → Parsed A → Result A RecordFault
in_record n (Ok x) = Ok x
in_record n (Err refusal) = Err (record { refusal = refusal; item = n })

-- the same as a source tells it
abbrev pub of_source : RecordFault → Fault
of_source e = record { refusal = e.refusal; item = e.item; layer = Source }
