-- A study that stands for its history refuses a reference just where the sheet's verdict does.
use Rattle.std.proofs.Common.{◌≡◌, ◌-◌, ◌*◌, ◌^◌, ◌≤◌, Bool, true, false, cond, not, ◌&&◌, eqb, List, ◌∷◌, length, Some, None, Err, Option, refl, ap, ◌∙◌, subst, arith}
use Rattle.std.proofs.lemmas.Bool.{cond-false}
use Rattle.std.proofs.lemmas.Bool.Decides.{nat_tests}
use Rattle.setmap.specs.Mapping.{Mapping, Lawful}
use Rattle.trace.specs.Items.{block_of}
use Rattle.trace.specs.Refusals.{outside}
use Rattle.trace.specs.declared.Block.{Block}
use Rattle.trace.specs.declared.Reference.{Reference}
use Rattle.trace.specs.declared.Refusal.{Refusal}
use Rattle.trace.specs.declared.Refusal.TheVariants.{Processor, Blocks, Entries, References}
use Rattle.caches.specs.Caches.{History, among}
use Rattle.stack_theory.specs.Stacks.{met}
use Rattle.tables.specs.declared.Settings.{Settings}
use Rattle.tables.specs.Tables.{Tables}
use Rattle.tables.specs.Calls.{Kept, place_of, short, no_more_known, no_more_entries, reference_refusal, outcome, accepted_reference, referenced}
use Rattle.theory.specs.Runs.{referring, of_reference, step}
use Rattle.theory.specs.Faithful.{HasRoom}
use Rattle.theory.proofs.Known.{place_in, place_out}
use Rattle.theory.proofs.Worlds.{run_good}
use Rattle.sheets.specs.Sheets.{verdict}
use Rattle.sheets.specs.Steps.{Reached}
use Rattle.sheets.proofs.Runs.{all_of, front_all}

-- a block is not among the known ones exactly where it would be the next
unknown : (b : Block) (K : List Block) → eqb (place_of b K) (length K) ≡ not (among b K)
unknown b K =
    let there = place_in b K in
    let not_there = place_out b K in
    grind (arith, nat_tests)

-- a reference is judged by the count of those accepted, its processor, the known blocks and the entries
abbrev judged : (references processor blocks entries : Bool) → Option Refusal
judged a b c d = cond a (Some References) (cond b (Some Processor) (cond c (Some Blocks) (cond d (Some Entries) None)))

without_entries : (a b c d : Bool) → (judged a b c d ≡ Some Entries → ⊥) → judged a b c d ≡ judged a b c false
without_entries true b c d never = refl
without_entries false true c d never = refl
without_entries false false true d never = refl
without_entries false false false true never = absurd (never refl)
without_entries false false false false never = refl

module _ (m : Mapping) (law : Lawful m) (s : Settings) (wide : s.levels * s.blocks ≤ s.entries) (t₀ : Tables) (h : History) (kept : Kept) (t : Tables) (reached : Reached m s t₀ h kept t)
    (long : short s t ≡ false) (r : Reference) where
  abbrev q : Block
  q = block_of s.shift r.address

  abbrev full : Bool
  full = not (among q (met h)) && eqb (length (met h)) s.blocks

  known_same : no_more_known s kept t q ≡ full
  known_same =
      let k = (run_good m law s t₀ reached.0 _ reached.2).stands in
      ap (λ xs. eqb (place_of q xs) kept.known && eqb kept.known s.blocks) k.known
      ∙ ap (λ n. eqb (place_of q (met h)) n && eqb n s.blocks) k.count ∙ ap (λ b. b && eqb (length (met h)) s.blocks) (unknown q (met h))

  -- there is always room in the stack
  never_full : reference_refusal m s kept t r ≡ Some Entries → ⊥
  never_full e =
      let c = referring (all_of t) r in
      let g = ((run_good m law s t₀ (c ∷ reached.0) _ (ap (step m s c) reached.2)).has_room wide).0 in
      let answer : (referenced m s kept t r).answer ≡ Err Entries = ap (λ x. (outcome x kept t (accepted_reference m s kept t r)).answer) e in
      subst (λ y. HasRoom (of_reference y)) (ap (λ u. (referenced m s kept u r).answer) (front_all t) ∙ answer) g refl

  judged_by : reference_refusal m s kept t r ≡ judged (eqb (length h) (2 ^ 32 - 1)) (outside 1 s.processors r.processor) full (no_more_entries m s t r.processor q)
  judged_by =
      let accepted = (run_good m law s t₀ reached.0 _ reached.2).stands.accepted in
      cond-false (short s t) _ _ long ∙ rw (accepted, known_same) refl

  pub agree : reference_refusal m s kept t r ≡ verdict s h r
  agree =
      judged_by ∙ without_entries (eqb (length h) (2 ^ 32 - 1)) (outside 1 s.processors r.processor) full (no_more_entries m s t r.processor q) (λ e. never_full (judged_by ∙ e))
