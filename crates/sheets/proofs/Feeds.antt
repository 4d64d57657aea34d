-- A bulk feed, item by item, is a reading: it accepts the same references and refuses the same lines.
use Rattle.std.proofs.Common.{◌≡◌, ℕ, ◌+◌, ◌*◌, ◌≤◌, false, List, [], ◌∷◌, ◌++◌, map, length, Some, None, Ok, Err, Option, Result, sym, refl, ap, ◌∙◌, subst, arith}
use Rattle.std.proofs.lemmas.List.{append-nil, append_assoc, map_push}
use Rattle.std.proofs.lemmas.Bool.Decides.{nat_tests}
use Rattle.setmap.specs.Mapping.{Mapping, Lawful}
use Rattle.trace.specs.Items.{Item, reference, bad}
use Rattle.trace.specs.declared.Fault.{Fault}
use Rattle.trace.specs.declared.Reference.{Reference}
use Rattle.trace.specs.declared.Refusal.{Refusal}
use Rattle.caches.specs.Caches.{History}
use Rattle.tables.specs.declared.Settings.{Settings}
use Rattle.trace.specs.declared.Fed.{Fed}
use Rattle.tables.specs.Tables.{Tables}
use Rattle.tables.specs.Calls.{Kept, short, reference_refusal, outcome, accepted_reference, fed_answer, fed_item, fed}
use Rattle.tables.specs.Bulk.{Standing, faulted, fed_all}
use Rattle.tables.proofs.Bulk.{fed_long}
use Rattle.theory.specs.Runs.{access, remembered_fed}
use Rattle.theory.proofs.Places.{Long}
use Rattle.theory.proofs.Steps.{allowed, referenced_stands}
use Rattle.theory.proofs.Worlds.{run_good}
use Rattle.report.specs.Refused.{refused_line, Reading, refused_too}
use Rattle.report.specs.declared.RefusedLine.{RefusedLine}
use Rattle.sheets.specs.Sheets.{reading, fault_line}
use Rattle.sheets.specs.Steps.{Reached}
use Rattle.sheets.proofs.Runs.{reached_fed}
use Rattle.sheets.proofs.Verdicts.{agree}

-- the lines that an answer refuses
abbrev told : Result Fed Fault → List RefusedLine
told (Ok x) = []
told (Err f) = fault_line f ∷ []

-- a reading, after these lines were refused
abbrev pub after_lines : List RefusedLine → Reading → Reading
after_lines xs r = record { refused = xs ++ r.refused; history = r.history }

faulted_lines : (fs : List Fault) (a : Result Fed Fault) → map fault_line (faulted fs a) ≡ map fault_line fs ++ told a
faulted_lines fs (Ok x) = sym (append-nil (map fault_line fs))
faulted_lines fs (Err f) = map_push fault_line fs f

-- tables that are long enough are not short
pub not_short : (s : Settings) (t : Tables) → Long s t → short s t ≡ false
not_short s t l = grind (arith, nat_tests)

-- each item is answered
pub fed_count : (m : Mapping) (s : Settings) (kept : Kept) (t : Tables) (items later : List Item) (n : ℕ) (fs : List Fault) → (fed_all m s kept t items later n fs).answered ≡ n + length items
fed_count m s kept t [] later n fs = omega arith
fed_count m s kept t (x ∷ items) later n fs =
    let o = fed m s kept t (x ∷ (items ++ later)) n in
    omega (arith, fed_count m s o.kept o.tables items later (n + 1) (faulted fs o.answer))

module _ (m : Mapping) (law : Lawful m) (s : Settings) (wide : s.levels * s.blocks ≤ s.entries) (t₀ : Tables) where
  -- one item
  module _ (h : History) (kept : Kept) (t : Tables) (reached : Reached m s t₀ h kept t) (long : short s t ≡ false) (n : ℕ) where
    stays_long : (x : Option Refusal) (r : Reference) → reference_refusal m s kept t r ≡ x → short s (outcome x kept t (accepted_reference m s kept t r)).tables ≡ false
    stays_long (Some y) r e = long
    stays_long None r e =
        let g = run_good m law s t₀ reached.0 _ reached.2 in
        not_short s _ (referenced_stands m s g.fit.some g.fit.most h kept t r g.stands (allowed m s kept t r e)).0

    item_long : (x : Item) → short s (fed_item m s kept t x (n + 1)).tables ≡ false
    item_long (bad x) = long
    item_long (reference r) = stays_long (reference_refusal m s kept t r) r refl

    abbrev answer_by : Reference → Option Refusal → Result Fed Fault
    answer_by r x = fed_answer (n + 1) (outcome x kept t (accepted_reference m s kept t r)).answer

    by_refusal : (r : Reference) (items later : List Item) (x : Option Refusal)
        → elim x [ None ↦ reading s ((n + 1) + 1) items (access s r ∷ h) | Some y ↦ refused_too (refused_line (n + 1) y) (reading s ((n + 1) + 1) items h) ]
        ≡ after_lines (told (answer_by r x)) (reading s ((n + 1) + 1) items (remembered_fed s (reference r ∷ later) (answer_by r x) h))
    by_refusal r items later None = refl
    by_refusal r items later (Some y) = refl

    item_read : (x : Item) (items later : List Item)
        → reading s (n + 1) (x ∷ items) h
        ≡ after_lines (told (fed_item m s kept t x (n + 1)).answer) (reading s ((n + 1) + 1) items (remembered_fed s (x ∷ later) (fed_item m s kept t x (n + 1)).answer h))
    item_read (bad x) items later = refl
    item_read (reference r) items later =
        ap (λ y. elim y [ None ↦ reading s ((n + 1) + 1) items (access s r ∷ h) | Some z ↦ refused_too (refused_line (n + 1) z) (reading s ((n + 1) + 1) items h) ])
        (sym (agree m law s wide t₀ h kept t reached long r))
        ∙ by_refusal r items later (reference_refusal m s kept t r)

  -- where a bulk feed of these items leads
  pub record Led (items : List Item) (h : History) (n : ℕ) (fs : List Fault) (z : Standing) : Type 0 where
    pub reached : Reached m s t₀ (reading s (n + 1) items h).history z.kept z.tables
    pub lines : map fault_line z.faults ≡ map fault_line fs ++ (reading s (n + 1) items h).refused

  pub led : (items : List Item) (h : History) (kept : Kept) (t : Tables) (n : ℕ) (fs : List Fault) → Reached m s t₀ h kept t → short s t ≡ false
      → Led items h n fs (fed_all m s kept t items [] n fs)
  led [] h kept t n fs reached long = record { reached = reached; lines = sym (append-nil (map fault_line fs)) }
  led (x ∷ items) h kept t n fs reached long =
      let later = items ++ [] in
      let o = fed m s kept t (x ∷ later) n in
      let first : o ≡ fed_item m s kept t x (n + 1) = fed_long m s kept t (x ∷ later) n long in
      let h' = remembered_fed s (x ∷ later) o.answer h in
      let rest = reading s ((n + 1) + 1) items h' in
      let next = led items h' o.kept o.tables (n + 1) (faulted fs o.answer) (reached_fed m s t₀ h kept t reached (x ∷ later) n)
      (subst (λ y. short s y.tables ≡ false) (sym first) (item_long h kept t reached long n x)) in
      let read : reading s (n + 1) (x ∷ items) h ≡ after_lines (told o.answer) rest =
      subst (λ y. reading s (n + 1) (x ∷ items) h ≡ after_lines (told y.answer) (reading s ((n + 1) + 1) items (remembered_fed s (x ∷ later) y.answer h))) (sym first) (item_read h kept t reached long n x items later) in
      let z = fed_all m s o.kept o.tables items [] (n + 1) (faulted fs o.answer) in
      record {
        reached = subst (λ H. Reached m s t₀ H z.kept z.tables) (sym (ap (λ y. y.history) read)) next.reached;
        lines = next.lines ∙ ap (λ ys. ys ++ rest.refused) (faulted_lines fs o.answer) ∙ append_assoc (map fault_line fs) (told o.answer) rest.refused
            ∙ sym (ap (λ y. map fault_line fs ++ y.refused) read);
      }
