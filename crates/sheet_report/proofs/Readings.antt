-- Below 2^32 - 1 references the sheet's reading is that of the study, which refuses one more than those.
use Rattle.std.proofs.Common.{◌≡◌, ℕ, ◌+◌, ◌-◌, ◌^◌, ◌<◌, List, [], ◌∷◌, length, eqb, Some, None, Option, refl, ap, ◌∙◌, arith}
use Rattle.std.proofs.lemmas.Bool.{cond-false, ne_eqb}
use Rattle.trace.specs.Items.{Item, reference, bad}
use Rattle.trace.specs.declared.Reference.{Reference}
use Rattle.trace.specs.declared.Refusal.{Refusal}
use Rattle.caches.specs.Caches.{History}
use Rattle.tables.specs.declared.Settings.{Settings}
use Rattle.theory.specs.Runs.{access}
use Rattle.report.specs.Refused.{refused_line, Reading, refused_too}
use Rattle.sheets.specs.Sheets as study
use Rattle.sheet_report.specs.Evening.{verdict, reading}

module _ (s : Settings) where
  pub verdict_same : (h : History) (r : Reference) → length h < 2 ^ 32 - 1 → study.verdict s h r ≡ verdict s h r
  verdict_same h r few = cond-false (eqb (length h) (2 ^ 32 - 1)) _ _ (ne_eqb (length h) (2 ^ 32 - 1) (λ e. omega arith))

  by_verdict : (line : ℕ) (r : Reference) (items : List Item) (h : History) (v : Option Refusal) → study.reading s (line + 1) items (access s r ∷ h) ≡ reading s (line + 1) items (access s r ∷ h)
      → study.reading s (line + 1) items h ≡ reading s (line + 1) items h
      → ◌≡◌ {A = Reading}
      (elim v [ None ↦ study.reading s (line + 1) items (access s r ∷ h) | Some x ↦ refused_too (refused_line line x) (study.reading s (line + 1) items h) ])
      (elim v [ None ↦ reading s (line + 1) items (access s r ∷ h) | Some x ↦ refused_too (refused_line line x) (reading s (line + 1) items h) ])
  by_verdict line r items h None taken passed = taken
  by_verdict line r items h (Some x) taken passed = ap (refused_too (refused_line line x)) passed

  pub reading_same : (line : ℕ) (items : List Item) (h : History) → length h + length items < 2 ^ 32 - 1 → study.reading s line items h ≡ reading s line items h
  reading_same line [] h few = refl
  reading_same line (bad x ∷ items) h few = ap (refused_too (refused_line line x)) (reading_same (line + 1) items h (omega arith))
  reading_same line (reference r ∷ items) h few =
      ap (λ v. elim v [ None ↦ study.reading s (line + 1) items (access s r ∷ h) | Some x ↦ refused_too (refused_line line x) (study.reading s (line + 1) items h) ]) (verdict_same h r (omega arith))
      ∙ by_verdict line r items h (verdict s h r) (reading_same (line + 1) items (access s r ∷ h) (omega arith)) (reading_same (line + 1) items h (omega arith))
