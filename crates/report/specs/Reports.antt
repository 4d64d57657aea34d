-- What a report says, and what is written of it.
use Rattle.std.specs.Prelude.{◌≡◌, ℕ, List, ◌++◌, Some, None, Ok, Err, codes, vec_items, Option, Result}
use Rattle.std.specs.List.{flat_map}
use Rattle.trace.specs.declared.Refusal.{Refusal}
use Rattle.rendering.specs.Lines.{ended, heading_text}
use Rattle.report.specs.Refused.{refused_line, refused_shown, refused_text}
use Rattle.report.specs.declared.RefusedLine.{RefusedLine}
use Rattle.report.specs.declared.Report.{Report}
use Rattle.report.specs.declared.ReportError.{ReportError}
use Rattle.report.specs.declared.ReportError.TheVariants.{Refused, NoMemory}

-- a refusal alone, or the refused lines and then the rows
pub data Content (R : Type 0) : Type 0 where
  alone : RefusedLine → Content R
  whole : List RefusedLine → List R → Content R

abbrev pub only : {R : Type 0} → ℕ → Refusal → Content R
only line x = alone (refused_line line x)

abbrev pub unless_settings : {R : Type 0} → Option Refusal → Content R → Content R
unless_settings None c = c
unless_settings (Some x) c = only 1 x

-- this is what is answered; want of memory tells nothing of it
abbrev pub Answered : {R : Type 0} → Content R → Result (Report R) ReportError → Type 0
Answered c (Ok x) = whole (vec_items x.refused) (vec_items x.rows) ≡ c
Answered c (Err (Refused x)) = alone x ≡ c
Answered c (Err (NoMemory e)) = Unit {0}

abbrev pub error_shown : ReportError → List ℕ
error_shown (Refused x) = refused_shown x
error_shown (NoMemory e) = codes "there is not enough memory for the report"

-- ---- what is written, where the rows stand below a heading and each has a text

abbrev pub report_text : {R : Type 0} → (heading : List ℕ) → (R → List ℕ) → List RefusedLine → List R → List ℕ
report_text heading text refused rows = flat_map refused_text refused ++ (heading_text heading ++ flat_map (λ x. ended (text x)) rows)

abbrev pub content_text : {R : Type 0} → (heading : List ℕ) → (R → List ℕ) → Content R → List ℕ
content_text heading text (alone x) = refused_text x
content_text heading text (whole xs ys) = report_text heading text xs ys

-- of an answer; want of memory has no text
abbrev pub told_text : {R : Type 0} → (heading : List ℕ) → (R → List ℕ) → Result (Report R) ReportError → Option (List ℕ)
told_text heading text (Ok x) = Some (report_text heading text (vec_items x.refused) (vec_items x.rows))
told_text heading text (Err (Refused x)) = Some (refused_text x)
told_text heading text (Err (NoMemory e)) = None
