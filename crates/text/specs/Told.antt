-- What the faults of this crate tell, in the refusals of a trace.
use Rattle.std.specs.Prelude.{◌≡◌, ℕ, List, length, Ok, Err, Result, ◌≢◌}
use Rattle.trace.specs.Text.{Parsed, line_of}
use Rattle.trace.specs.declared.Reference.{Reference}
use Rattle.trace.specs.declared.Refusal.{Refusal}
use Rattle.trace.specs.declared.Refusal.TheVariants as refusal
use Rattle.trace.specs.declared.Fault.{Fault}
use Rattle.trace.specs.declared.Layer.TheVariants.{Source}
use Rattle.text.specs.declared.faults.Wrong.{Wrong}
use Rattle.text.specs.declared.faults.Wrong.TheVariants.{Form, Size}
use Rattle.text.specs.declared.faults.FieldFault.{FieldFault}
use Rattle.text.specs.declared.faults.LineFault.{LineFault}
use Rattle.text.specs.declared.faults.LineFault.TheVariants.{Fields, Field, CutOff}

abbrev pub refusal_of : Wrong → Refusal
refusal_of Form = refusal.Form
refusal_of Size = refusal.Size

-- too few or too many fields are a fault of form
abbrev pub line_refusal : LineFault → Refusal
line_refusal (Fields n) = refusal.Form
line_refusal (Field e) = refusal_of e.wrong
line_refusal (CutOff n) = refusal.CutOff

abbrev pub line_item : LineFault → ℕ
line_item (Fields n) = n
line_item (Field e) = e.item
line_item (CutOff n) = n

-- a line's fault as the source tells it
abbrev pub told : LineFault → Fault
told e = record { refusal = line_refusal e; item = line_item e; layer = Source }

-- a field of item n is refused as p says
abbrev pub Refused : {A : Type 0} → Parsed A → ℕ → FieldFault → Type 0
Refused p n e = (p ≡ Err (refusal_of e.wrong)) × (e.item ≡ n)

-- What is read of the fields of item n: the reference, or the fault of their number, or of one of them.
abbrev pub LineRead : ℕ → List (List ℕ) → Result Reference LineFault → Type 0
LineRead n fields (Ok x) = line_of fields ≡ Ok x
LineRead n fields (Err (Fields i)) = (line_of fields ≡ Err refusal.Form) × (i ≡ n) × (length fields ≢ 3)
LineRead n fields (Err (Field e)) = Refused (line_of fields) n e × (length fields ≡ 3)
LineRead n fields (Err (CutOff i)) = ⊥
