-- A bulk feed, item by item.
use Rattle.std.proofs.Common.{◌≡◌, ℕ, ◌+◌, ◌<◌, false, List, [], ◌∷◌, ◌++◌, length, drop, Ok, Err, Result, sym, refl, ap, ◌∙◌, subst, inr, append_assoc, arith}
use Rattle.std.proofs.lemmas.List.{append-nil}
use Rattle.std.proofs.lemmas.Bool.{cond-false}
use Rattle.setmap.specs.Mapping.{Mapping}
use Rattle.trace.specs.Items.{Item, reference, bad}
use Rattle.trace.specs.declared.Fault.{Fault}
use Rattle.trace.specs.declared.Refusal.{Refusal}
use Rattle.trace.specs.declared.Fed.{Fed}
use Rattle.trace.specs.declared.Fed.TheVariants.{End}
use Rattle.tables.specs.declared.Settings.{Settings}
use Rattle.tables.specs.Tables.{Tables}
use Rattle.tables.specs.Calls.{Kept, short, fed, fed_first, fed_answer, referenced}
use Rattle.tables.specs.Bulk.{Standing, standing_of, faulted, fed_all, FedThrough}

-- some of the items have been fed, and these are still to come
abbrev pub Underway : Mapping → Settings → (before now : Standing) → Type 0
Underway m s before now =
    (done : List Item) × (before.items ≡ done ++ now.items) × (now ≡ fed_all m s before.kept before.tables done now.items before.answered before.faults)

-- one feed more
abbrev after_feed : Mapping → Settings → Standing → Item → (later : List Item) → Standing
after_feed m s z x later =
    let o = fed m s z.kept z.tables (x ∷ later) z.answered in
    standing_of o.kept o.tables later (z.answered + 1) (faulted z.faults o.answer)

fed_push : (m : Mapping) (s : Settings) (kept : Kept) (t : Tables) (xs : List Item) (x : Item) (later : List Item) (n : ℕ) (fs : List Fault)
    → fed_all m s kept t (xs ++ (x ∷ [])) later n fs ≡ after_feed m s (fed_all m s kept t xs (x ∷ later) n fs) x later
fed_push m s kept t [] x later n fs = refl
fed_push m s kept t (y ∷ xs) x later n fs =
    let o = fed m s kept t (y ∷ (xs ++ (x ∷ later))) n in
    fed_push m s o.kept o.tables xs x later (n + 1) (faulted fs o.answer)

pub fed_long : (m : Mapping) (s : Settings) (kept : Kept) (t : Tables) (items : List Item) (n : ℕ) → short s t ≡ false → fed m s kept t items n ≡ fed_first m s kept t items n
fed_long m s kept t items n l = cond-false (short s t) _ _ l

fed_is : (n : ℕ) (a : Result (Unit {0}) Refusal) → Ok End ≡ fed_answer n a → ⊥
fed_is n (Ok x) e = let z : ◌≡◌ {A = ℕ} 0 1 = cc in omega arith
fed_is n (Err x) e = let z : ◌≡◌ {A = ℕ} 0 1 = cc in omega arith

-- the end is answered where no item is left
pub ended : (m : Mapping) (s : Settings) (kept : Kept) (t : Tables) (items : List Item) (n : ℕ) → Ok End ≡ (fed_first m s kept t items n).answer → items ≡ []
ended m s kept t [] n e = refl
ended m s kept t (reference r ∷ items) n e = absurd (fed_is (n + 1) (referenced m s kept t r).answer e)
ended m s kept t (bad x ∷ items) n e = let z : ◌≡◌ {A = ℕ} 0 1 = cc in absurd (omega arith)

-- a fault that was not taken is answered
pub stopped : (m : Mapping) (s : Settings) (before : Standing) (kept : Kept) (t : Tables) (items : List Item) (n : ℕ) (fs : List Fault) (f : Fault) (r : Result (Unit {0}) Fault)
    → short s before.tables ≡ false → r ≡ Err f → Underway m s before (standing_of kept t items n (fs ++ (f ∷ []))) → FedThrough m s before (standing_of kept t items n fs) r
stopped m s before kept t items n fs f r l e u = subst (FedThrough m s before (standing_of kept t items n fs)) (sym e) (inr (l, u))

pub fault_goes_on : (a : Result Fed Fault) (f : Fault) → a ≡ Err f → a ≡ Ok End → ⊥
fault_goes_on a f x y = let z : ◌≡◌ {A = ℕ} 0 1 = cc in omega arith

-- A feed after which m, s and the like are the same, though they stand in another place.
module _ (m m₁ : Mapping) (s s₁ : Settings) (em : m₁ ≡ m) (es : s₁ ≡ s) (before : Standing) (kept kept' : Kept) (t t' : Tables) (fs : List Fault) (n n' : ℕ) (a : Result Fed Fault) where
  -- what a feed answers and leaves
  pub record Step (items items' : List Item) : Type 0 where
    pub answer : a ≡ (fed_first m₁ s₁ kept t items n).answer
    pub keeps : kept' ≡ (fed_first m₁ s₁ kept t items n).kept
    pub tables : t' ≡ (fed_first m₁ s₁ kept t items n).tables
    pub left : items' ≡ drop 1 items
    pub answered : n' + length items' ≡ n + length items

  same_first : (items : List Item) → fed_first m₁ s₁ kept t items n ≡ fed_first m s kept t items n
  same_first items = ap (λ x. fed_first x s₁ kept t items n) em ∙ ap (λ y. fed_first m y kept t items n) es

  pub not_ended : (items items' : List Item) → Step items items' → (a ≡ Ok End → ⊥) → 0 < length items
  not_ended [] items' e x = absurd (x e.answer)
  not_ended (y ∷ items) items' e x = omega arith

  pub fewer : (items items' : List Item) → Step items items' → (a ≡ Ok End → ⊥) → length items' < length items
  fewer [] items' e x = absurd (x e.answer)
  fewer (y ∷ items) items' e x = omega (arith, ap length e.left)

  -- one item more
  pub turn : (items items' : List Item) (fs' : List Fault) → Step items items' → short s t ≡ false → (a ≡ Ok End → ⊥) → fs' ≡ faulted fs a
      → Underway m s before (standing_of kept t items n fs) → Underway m s before (standing_of kept' t' items' n' fs')
  turn [] items' fs' e l no_end ef u = absurd (no_end e.answer)
  turn (x ∷ items) items' fs' e l no_end ef u =
      let done = u.0 in
      let is : items' ≡ items = e.left in
      let one : n' ≡ n + 1 = omega (arith, e.answered, ap length is) in
      let o = fed m s kept t (x ∷ items) n in
      let first : fed_first m₁ s₁ kept t (x ∷ items) n ≡ o = same_first (x ∷ items) ∙ sym (fed_long m s kept t (x ∷ items) n l) in
      let ea : a ≡ o.answer = e.answer ∙ ap (λ z. z.answer) first in
      let ek : kept' ≡ o.kept = e.keeps ∙ ap (λ z. z.kept) first in
      let et : t' ≡ o.tables = e.tables ∙ ap (λ z. z.tables) first in
      let next : standing_of kept' t' items n' fs' ≡ standing_of o.kept o.tables items (n + 1) (faulted fs o.answer) =
      λ i. standing_of (ek i) (et i) items (one i) ((ef ∙ ap (faulted fs) ea) i) in
      let whole : after_feed m s (standing_of kept t (x ∷ items) n fs) x items ≡ fed_all m s before.kept before.tables (done ++ (x ∷ [])) items before.answered before.faults =
      ap (λ z. after_feed m s z x items) u.2 ∙ sym (fed_push m s before.kept before.tables done x items before.answered before.faults) in
      subst (λ ys. Underway m s before (standing_of kept' t' ys n' fs')) (sym is)
      (done ++ (x ∷ []), u.1 ∙ sym (append_assoc done (x ∷ []) items), next ∙ whole)

  -- the end
  pub at_end : (items items' : List Item) → Step items items' → a ≡ Ok End → Underway m s before (standing_of kept t items n fs)
      → standing_of kept' t' items' n' fs ≡ fed_all m s before.kept before.tables before.items [] before.answered before.faults
  at_end [] items' e x u =
      let is : items' ≡ [] = e.left in
      let one : n' ≡ n = omega (arith, e.answered, ap length is) in
      let same : standing_of kept' t' items' n' fs ≡ standing_of kept t [] n fs = λ i. standing_of (e.keeps i) (e.tables i) (is i) (one i) fs in
      let all : before.items ≡ u.0 = u.1 ∙ append-nil u.0 in
      same ∙ u.2 ∙ ap (λ ys. fed_all m s before.kept before.tables ys [] before.answered before.faults) (sym all)
  at_end (y ∷ items) items' e x u =
      let none : y ∷ items ≡ [] = ended m₁ s₁ kept t (y ∷ items) n (sym x ∙ e.answer) in
      let z : ◌≡◌ {A = ℕ} 0 1 = cc in
      absurd (omega arith)
