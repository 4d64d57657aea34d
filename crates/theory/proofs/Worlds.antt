-- The invariant holds wherever a list of calls leads.
use Rattle.std.proofs.Common.{◌≡◌, ℕ, ◌+◌, ◌-◌, ◌*◌, ◌^◌, ◌≤◌, Bool, true, false, cond, ◌&&◌, ◌||◌, eqb, ltb, List, [], ◌∷◌, ◌++◌, length, take, Some, None, Err, Option, sym, refl, ap, ◌∙◌, subst, inl, inr, mul-le-mul_left, arith}
use Rattle.std.specs.List.{AllByRecursion}
use Rattle.std.proofs.lemmas.List.{length_push}
use Rattle.std.proofs.lemmas.Bool.{cases_eq, cases_Bool, eq-eqb, or_parts, ltb-true, ltb-false, cond-true}
use Rattle.setmap.specs.Mapping.{Mapping, Lawful}
use Rattle.trace.specs.Items.{Item, reference, bad, block_of}
use Rattle.trace.specs.declared.Block.{Block}
use Rattle.trace.specs.declared.Reference.{Reference}
use Rattle.trace.specs.declared.Refusal.{Refusal}
use Rattle.trace.specs.declared.Refusal.TheVariants.{Setting, Level, ShortTable, Processor, Blocks, Entries, References}
use Rattle.trace.specs.declared.Fault.{Fault}
use Rattle.trace.specs.declared.Layer.TheVariants.{Source, Study}
use Rattle.caches.specs.declared.Figures.{Figures}
use Rattle.caches.specs.Caches.{History, own, among, figures}
use Rattle.stack.specs.Stack.{stack, touched, position, within}
use Rattle.tables.specs.declared.Settings.{Settings}
use Rattle.trace.specs.declared.Fed.{Fed}
use Rattle.tables.specs.Tables.{Tables, cleared, stretch}
use Rattle.tables.specs.Calls.{Kept, Values, case_of, Outcome, short, set_up_refusal, place_of, reference_refusal, accepted_reference, outcome, fed, fed_first, fed_answer, question_refusal, read_off}
use Rattle.trace.specs.Refusals.{outside, unless_refused}
use Rattle.theory.specs.Runs.{Fronts, front, behind, Call, referring, feeding, holding_asked, closing, count_asked, of_reference, of_feed, of_holds, of_count, World, access, remembered, remembered_fed, after_set_up, when_open, when_closed, step, run}
use Rattle.theory.specs.Faithful.{AsCaches, HasRoom}
use Rattle.stack_theory.proofs.Bound.{bound, covers}
use Rattle.stack_theory.specs.Stacks.{stack_of, met}
use Rattle.theory.proofs.Known.{place_out}
use Rattle.theory.proofs.Rows.{stack_is}
use Rattle.theory.proofs.Places.{long, marks_of, counters_of}
use Rattle.theory.proofs.Stands.{Stands, stands_front, stands_behind, behind_front, stands_cleared}
use Rattle.theory.proofs.Steps.{inside, first_none, not_both, allowed, referenced_stands}
use Rattle.theory.proofs.Asked.{Asked, asked, held_is, counted_is}

-- what an accepted set-up says of the settings
pub record Fit (m : Mapping) (s : Settings) : Type 0 where
  pub some : 1 ≤ s.levels
  pub most : s.levels ≤ 32
  pub offered : s.levels ≤ m.levels

pub record Good (m : Mapping) (s : Settings) (w : World) : Type 0 where
  pub fit : Fit m s
  pub stands : Stands m s w.history w.kept w.tables
  pub as_caches : AllByRecursion (AsCaches m) w.said
  pub has_room : s.levels * s.blocks ≤ s.entries → AllByRecursion HasRoom w.said

-- ---- the set-up

fit : (m : Mapping) (s : Settings) (t : Tables) → set_up_refusal m s t ≡ None → Fit m s
fit m s t e =
    let v : Values = record { map = m; settings = s; kept = record { known = 0; accepted = 0 }; tables = t; processor = 0; block = record { number = 0 }; level = 0; ways = 0 } in
    let f₁ = first_none case_of Setting (Level ∷ (ShortTable ∷ [])) v e in
    let f₂ = first_none case_of Level (ShortTable ∷ []) v f₁.1 in
    let g₁ = or_parts (outside 1 64 s.processors) (outside 0 12 s.shift || (outside 1 17 s.levels || (outside 1 16 s.ways || (outside 1 4096 s.blocks || outside 1 69632 s.entries)))) f₁.0 in
    let g₂ = or_parts (outside 0 12 s.shift) (outside 1 17 s.levels || (outside 1 16 s.ways || (outside 1 4096 s.blocks || outside 1 69632 s.entries))) g₁.1 in
    let g₃ = or_parts (outside 1 17 s.levels) (outside 1 16 s.ways || (outside 1 4096 s.blocks || outside 1 69632 s.entries)) g₂.1 in
    let i = inside 1 17 s.levels g₃.0 in
    record { some = i.0; most = omega (arith, i.1); offered = ltb-false m.levels s.levels f₂.0 }

some_inj : (x y : World) → Some x ≡ Some y → x ≡ y
some_inj x y e = cc

none_some : (x : World) → ◌≡◌ {A = Option World} None (Some x) → ⊥
none_some x e = let z : ◌≡◌ {A = ℕ} 0 1 = cc in omega arith

set_up_good : (m : Mapping) (s : Settings) (t : Tables) (w : World) → after_set_up m s t ≡ Some w → Good m s w
set_up_good m s t w = go (set_up_refusal m s t) refl
  where
    go : (x : Option Refusal) → set_up_refusal m s t ≡ x
        → elim x [ None ↦ Some (record { history = []; said = []; still_open = true; kept = record { known = 0; accepted = 0 }; tables = cleared s t }) | Some n ↦ None ] ≡ Some w → Good m s w
    go None e f = subst (Good m s) (some_inj _ w f) (record { fit = fit m s t e; stands = stands_cleared m s t; as_caches = tt; has_room = λ x. tt })
    go (Some n) e f = absurd (none_some w f)

-- ---- no reference finds the stack too long

first_entries : (a b c d e : Bool) → cond a (Some ShortTable) (cond b (Some References) (cond c (Some Processor) (cond d (Some Blocks) (cond e (Some Entries) None)))) ≡ Some Entries
    → (a ≡ false) × (c ≡ false) × (d ≡ false) × (e ≡ true)
first_entries true b c d e x = let z : ◌≡◌ {A = ℕ} 0 1 = cc in absurd (omega arith)
first_entries false true c d e x = let z : ◌≡◌ {A = ℕ} 0 1 = cc in absurd (omega arith)
first_entries false false true d e x = let z : ◌≡◌ {A = ℕ} 0 1 = cc in absurd (omega arith)
first_entries false false false true e x = let z : ◌≡◌ {A = ℕ} 0 1 = cc in absurd (omega arith)
first_entries false false false false true x = (refl, refl, refl, refl)
first_entries false false false false false x = let z : ◌≡◌ {A = ℕ} 0 1 = cc in absurd (omega arith)

met_most : (q : Block) (K : List Block) (n : ℕ) → length K ≤ n → (place_of q K ≡ length K → length K ≡ n → ⊥) → length (cond (among q K) K (K ++ (q ∷ []))) ≤ n
met_most q K n l f =
    elim (cases_Bool (among q K)) [
      | inl e ↦ rw e l
      | inr e ↦ rw e (elim (cases_eq (length K) n) [ inl x ↦ absurd (f (place_out q K e) x) | inr x ↦ omega (arith, length_push K q) ])
    ]

module _ (m : Mapping) (law : Lawful m) (s : Settings) (fits : Fit m s) where
  no_entries : s.levels * s.blocks ≤ s.entries → (h : History) (kept : Kept) (f : Fronts) (t : Tables) (r : Reference) → Stands m s h kept t
      → reference_refusal m s kept (front f t) r ≡ Some Entries → ⊥
  no_entries wide h kept f t r k e =
      let q = block_of s.shift r.address in
      let p = r.processor in
      let u = front f t in
      let a = access s r in
      let x = first_entries (short s u) (eqb kept.accepted (2 ^ 32 - 1)) (outside 1 s.processors p)
      (eqb (place_of q (take kept.known u.known)) kept.known && eqb kept.known s.blocks) (ltb s.entries (length (touched m q (stack (stretch s p u))))) e in
      let l = long s u x.0 in
      let ku = stands_front m s h kept f t l k in
      let i = inside 1 s.processors p x.1 in
      let st : stack (stretch s p u) ≡ stack_of m s.levels p h = stack_is m s fits.some fits.most p h (stretch s p u) (marks_of s p u) (counters_of s p u) (ku.rows p i.0 i.1) in
      let top : stack_of m s.levels p (a ∷ h) ≡ touched m q (stack (stretch s p u)) = cond-true (own p a) _ _ (eq-eqb p p refl) ∙ ap (touched m q) (sym st) in
      let nb = not_both (place_of q (take kept.known u.known)) kept.known kept.known s.blocks x.2 in
      let few : length (met (a ∷ h)) ≤ s.blocks =
      met_most q (met h) s.blocks (omega (arith, ku.count, ku.few)) (λ y z. nb (ap (place_of q) ku.known ∙ y ∙ sym ku.count) (ku.count ∙ z)) in
      let b = bound m law s.levels fits.some fits.offered fits.most p (met (a ∷ h)) (a ∷ h) (covers (a ∷ h)) in
      omega (arith, b, ap length top, mul-le-mul_left s.levels few, ltb-true s.entries (length (touched m q (stack (stretch s p u)))) x.3)

  -- ---- a reference

  module _ (w : World) (g : Good m s w) (f : Fronts) where
    put_back : Stands m s w.history w.kept (behind f w.tables (front f w.tables))
    put_back = subst (Stands m s w.history w.kept) (sym (behind_front f w.tables)) g.stands

    accepted_stands : (r : Reference) → reference_refusal m s w.kept (front f w.tables) r ≡ None
        → Stands m s (access s r ∷ w.history) (accepted_reference m s w.kept (front f w.tables) r).kept (behind f w.tables (accepted_reference m s w.kept (front f w.tables) r).tables)
    accepted_stands r e =
        let t = w.tables in
        let ok = allowed m s w.kept (front f t) r e in
        let n = referenced_stands m s fits.some fits.most w.history w.kept (front f t) r (stands_front m s w.history w.kept f t ok.long g.stands) ok in
        stands_behind m s (access s r ∷ w.history) (accepted_reference m s w.kept (front f t) r).kept f t (accepted_reference m s w.kept (front f t) r).tables n.0 n.1

    abbrev after_reference : Reference → Option Refusal → World
    after_reference r x =
        let o = outcome x w.kept (front f w.tables) (accepted_reference m s w.kept (front f w.tables) r) in
        record { history = remembered s r o.answer w.history; said = of_reference o.answer ∷ w.said; still_open = true; kept = o.kept; tables = behind f w.tables o.tables }

    reference_good : (r : Reference) (x : Option Refusal) → reference_refusal m s w.kept (front f w.tables) r ≡ x → Good m s (after_reference r x)
    reference_good r None e =
        record { fit = fits; stands = accepted_stands r e; as_caches = (tt, g.as_caches); has_room = λ y. (tt, g.has_room y) }
    reference_good r (Some n) e =
        record {
          fit = fits;
          stands = put_back;
          as_caches = (tt, g.as_caches);
          has_room = λ y. (λ z. no_entries y w.history w.kept f w.tables r g.stands (e ∙ ap Some z), g.has_room y);
        }

    -- ---- a feed

    abbrev after_feed : List Item → Outcome Fed Fault → World
    after_feed items o =
        record { history = remembered_fed s items o.answer w.history; said = of_feed o.answer ∷ w.said; still_open = true; kept = o.kept; tables = behind f w.tables o.tables }

    fed_refused : (items : List Item) (x : Fault) → (s.levels * s.blocks ≤ s.entries → x.layer ≡ Study → x.refusal ≡ Entries → ⊥)
        → Good m s (after_feed items (record { answer = Err x; kept = w.kept; tables = front f w.tables }))
    fed_refused [] x n = record { fit = fits; stands = put_back; as_caches = (tt, g.as_caches); has_room = λ y. (n y, g.has_room y) }
    fed_refused (bad z ∷ items) x n = record { fit = fits; stands = put_back; as_caches = (tt, g.as_caches); has_room = λ y. (n y, g.has_room y) }
    fed_refused (reference z ∷ items) x n = record { fit = fits; stands = put_back; as_caches = (tt, g.as_caches); has_room = λ y. (n y, g.has_room y) }

    abbrev fed_outcome : Reference → ℕ → Option Refusal → Outcome Fed Fault
    fed_outcome r n x =
        let o = outcome x w.kept (front f w.tables) (accepted_reference m s w.kept (front f w.tables) r) in
        record { answer = fed_answer n o.answer; kept = o.kept; tables = o.tables }

    fed_reference : (r : Reference) (items : List Item) (n : ℕ) (x : Option Refusal) → reference_refusal m s w.kept (front f w.tables) r ≡ x → Good m s (after_feed (reference r ∷ items) (fed_outcome r n x))
    fed_reference r items n None e = record { fit = fits; stands = accepted_stands r e; as_caches = (tt, g.as_caches); has_room = λ y. (tt, g.has_room y) }
    fed_reference r items n (Some z) e =
        fed_refused (reference r ∷ items) (record { refusal = z; item = n; layer = Study })
        (λ y a b. no_entries y w.history w.kept f w.tables r g.stands (e ∙ ap Some b))

    fed_long : (items : List Item) (n : ℕ) → Good m s (after_feed items (fed_first m s w.kept (front f w.tables) items n))
    fed_long [] n = record { fit = fits; stands = put_back; as_caches = (tt, g.as_caches); has_room = λ y. (tt, g.has_room y) }
    fed_long (bad x ∷ items) n =
        fed_refused (bad x ∷ items) (record { refusal = x; item = n + 1; layer = Source }) (λ y a b. (let z : ◌≡◌ {A = ℕ} 0 1 = cc in omega arith))
    fed_long (reference r ∷ items) n = fed_reference r items (n + 1) (reference_refusal m s w.kept (front f w.tables) r) refl

    feed_good : (items : List Item) (n : ℕ) → Good m s (after_feed items (fed m s w.kept (front f w.tables) items n))
    feed_good items n =
        elim (short s (front f w.tables)) as (λ b. Good m s (after_feed items (cond b (record { answer = Err (record { refusal = ShortTable; item = 0; layer = Study }); kept = w.kept; tables = front f w.tables })
        (fed_first m s w.kept (front f w.tables) items n)))) [
          | true ↦ fed_refused items (record { refusal = ShortTable; item = 0; layer = Study }) (λ y a b. (let z : ◌≡◌ {A = ℕ} 0 1 = cc in omega arith))
          | false ↦ fed_long items n
        ]

    -- ---- questions

    pub asked_stands : (p i d : ℕ) → Asked s (front f w.tables) p i d → Stands m s w.history w.kept (front f w.tables)
    asked_stands p i d q = stands_front m s w.history w.kept f w.tables q.long g.stands

    holds_answer : (p i d : ℕ) (b : Block) (x : Option Refusal) → question_refusal m s (front f w.tables) p i d ≡ x
        → AsCaches m (of_holds w.history p i d b (unless_refused x (ltb (place_of b (take w.kept.known (front f w.tables).known)) w.kept.known && within (position m b i (stack (stretch s p (front f w.tables)))) d)))
    holds_answer p i d b None e =
        let q = asked m s (front f w.tables) p i d e in
        held_is m law s fits.some fits.most fits.offered w.history w.kept (front f w.tables) (asked_stands p i d q) p i d q b
    holds_answer p i d b (Some n) e = tt

    count_answer : (p i d : ℕ) (v : Figures) (x : Option Refusal) → question_refusal m s (front f w.tables) p i d ≡ x
        → (Asked s (front f w.tables) p i d → v ≡ figures m p i d w.history) → AsCaches m (of_count w.history p i d (unless_refused x v))
    count_answer p i d v None e k = k (asked m s (front f w.tables) p i d e)
    count_answer p i d v (Some n) e k = tt

    pub figures_are : (p i d : ℕ) (q : Asked s (front f w.tables) p i d) → read_off s (front f w.tables) p i d ≡ figures m p i d w.history
    figures_are p i d q = counted_is m law s fits.some fits.most fits.offered w.history w.kept (front f w.tables) (asked_stands p i d q) p i d q

  -- ---- any call

  open_good : (c : Call) (v w : World) → Good m s v → when_open m s c v ≡ Some w → Good m s w
  open_good (referring f r) v w g e = subst (Good m s) (some_inj _ w e) (reference_good v g f r (reference_refusal m s v.kept (front f v.tables) r) refl)
  open_good (feeding f items n) v w g e = subst (Good m s) (some_inj _ w e) (feed_good v g f items n)
  open_good (holding_asked f p i d b) v w g e =
      subst (Good m s) (some_inj _ w e)
      (record {
        fit = fits;
        stands = g.stands;
        as_caches = (holds_answer v g f p i d b (question_refusal m s (front f v.tables) p i d) refl, g.as_caches);
        has_room = λ y. (tt, g.has_room y);
      })
  open_good closing v w g e = subst (Good m s) (some_inj _ w e) (record { fit = fits; stands = g.stands; as_caches = g.as_caches; has_room = g.has_room })
  open_good (count_asked f p i d) v w g e = absurd (none_some w e)

  closed_good : (c : Call) (v w : World) → Good m s v → when_closed m s c v ≡ Some w → Good m s w
  closed_good (referring f r) v w g e = absurd (none_some w e)
  closed_good (feeding f items n) v w g e = absurd (none_some w e)
  closed_good (holding_asked f p i d b) v w g e = absurd (none_some w e)
  closed_good closing v w g e = absurd (none_some w e)
  closed_good (count_asked f p i d) v w g e =
      subst (Good m s) (some_inj _ w e)
      (record {
        fit = fits;
        stands = g.stands;
        as_caches = (count_answer v g f p i d (read_off s (front f v.tables) p i d) (question_refusal m s (front f v.tables) p i d) refl (figures_are v g f p i d), g.as_caches);
        has_room = λ y. (tt, g.has_room y);
      })

step_good : (m : Mapping) → Lawful m → (s : Settings) (c : Call) (v w : World) → Good m s v → step m s c (Some v) ≡ Some w → Good m s w
step_good m law s c v w g = go v.still_open
  where
    go : (b : Bool) → elim b [ true ↦ when_open m s c v | false ↦ when_closed m s c v ] ≡ Some w → Good m s w
    go true e = open_good m law s g.fit c v w g e
    go false e = closed_good m law s g.fit c v w g e

pub run_good : (m : Mapping) → Lawful m → (s : Settings) (t : Tables) (calls : List Call) (w : World) → run m s t calls ≡ Some w → Good m s w
run_good m law s t [] w e = set_up_good m s t w e
run_good m law s t (c ∷ calls) w e = go (run m s t calls) (λ v. run_good m law s t calls v) e
  where
    go : (x : Option World) → ((v : World) → x ≡ Some v → Good m s v) → step m s c x ≡ Some w → Good m s w
    go None k f = absurd (none_some w f)
    go (Some v) k f = step_good m law s c v w (k v refl) f
