-- A trace on its way through the cache: what is still to come leads to the same end.
use Rattle.std.proofs.Common.{◌≡◌, ℕ, ◌+◌, ◌-◌, ◌^◌, ◌<◌, false, List, [], ◌∷◌, ◌++◌, length, take, drop, Some, None, Ok, Err, Option, sym, ap, ◌∙◌, subst, inl, inr, arith}
use Rattle.std.proofs.lemmas.List.{take_all, drop_all, append-nil, append_assoc}
use Rattle.std.proofs.lemmas.Bool.{cases_Bool}
use Rattle.setmap.specs.Mapping.{Mapping}
use Rattle.trace.specs.Items.{Item, reference, bad}
use Rattle.trace.specs.Refusals.{outside}
use Rattle.trace.specs.declared.Fault.{Fault}
use Rattle.trace.specs.declared.Layer.TheVariants.{Source, Study}
use Rattle.trace.specs.declared.Reference.{Reference}
use Rattle.trace.specs.declared.Refusal.{Refusal}
use Rattle.trace.specs.declared.Refusal.TheVariants.{Processor}
use Rattle.caches.specs.Caches.{History}
use Rattle.single.specs.declared.Settings.{Settings}
use Rattle.single.specs.declared.lent.LentTables.{LentTables}
use Rattle.single.specs.Lent.{lent, SameSlices}
use Rattle.single.specs.Calls.{Tables, short, applied, reference_refusal, Outcome, outcome}
use Rattle.single.specs.Runs.{Fronts, front, behind, referring, Said, of_reference, World, access, remembered, step}
use Rattle.report.specs.declared.RefusedLine.{RefusedLine}
use Rattle.trace.specs.declared.Fed.TheVariants.{Accepted, End}
use Rattle.report.specs.Refused.{refused_line}
use Rattle.spot_report.specs.Spot.{reading}
use Rattle.spot_report.specs.Steps.{fed_answer, fed_accepted, fed_tables, Reached}
use Rattle.spot_report.proofs.Feeds.{only_processor}

-- whether tables are short tells by their lengths alone
pub long_after : (m m₁ : Mapping) (s s₁ : Settings) (t u : LentTables) → m₁ ≡ m → s₁ ≡ s → SameSlices t u → short m s (lent t) ≡ false → short m₁ s₁ (lent u) ≡ false
long_after m m₁ s s₁ t u em es same l = rw (em, es, same.frames_length, same.counters_length) l

-- ---- a call that is passed the whole tables

abbrev pub all_of : Tables → Fronts
all_of t = record { frames = length t.frames; counters = length t.counters }

pub front_all : (t : Tables) → front (all_of t) t ≡ t
front_all t =
    ap (λ xs. record { frames = xs; counters = take (length t.counters) t.counters }) (take_all (length t.frames) t.frames (omega arith))
    ∙ ap (λ xs. record { frames = t.frames; counters = xs }) (take_all (length t.counters) t.counters (omega arith))

behind_all : (t u : Tables) → behind (all_of t) t u ≡ u
behind_all t u =
    ap (λ xs. record { frames = u.frames ++ xs; counters = u.counters ++ drop (length t.counters) t.counters }) (drop_all (length t.frames) t.frames (omega arith))
    ∙ ap (λ xs. record { frames = xs; counters = u.counters ++ drop (length t.counters) t.counters }) (append-nil u.frames)
    ∙ ap (λ xs. record { frames = u.frames; counters = u.counters ++ xs }) (drop_all (length t.counters) t.counters (omega arith))
    ∙ ap (λ xs. record { frames = u.frames; counters = xs }) (append-nil u.counters)

module _ (m : Mapping) (s : Settings) (t₀ : Tables) where
  -- one accepted reference more
  module _ (h : History) (said : List Said) (k : ℕ) (t : Tables) (r : Reference) where
    abbrev next : Option World
    next = Some (record { history = access s r ∷ h; said = of_reference (Ok tt) ∷ said; accepted = k + 1; tables = applied m s t r })

    abbrev world_after : Outcome → Option World
    world_after o = Some (record { history = remembered s r o.answer h; said = of_reference o.answer ∷ said; accepted = o.accepted; tables = behind (all_of t) t o.tables })

    called : reference_refusal m s k t r.processor ≡ None → step m s (referring (all_of t) r) (Some (record { history = h; said = said; accepted = k; tables = t })) ≡ next
    called e =
        ap (λ u. world_after (outcome m s k u r (reference_refusal m s k u r.processor))) (front_all t)
        ∙ ap (λ x. world_after (outcome m s k t r x)) e
        ∙ ap (λ u. Some (record { history = access s r ∷ h; said = of_reference (Ok tt) ∷ said; accepted = k + 1; tables = u })) (behind_all t (applied m s t r))

  reached_more : (h : History) (k : ℕ) (t : Tables) (r : Reference) → reference_refusal m s k t r.processor ≡ None → Reached m s t₀ h k t → Reached m s t₀ (access s r ∷ h) (k + 1) (applied m s t r)
  reached_more h k t r e (calls, said, run_is) =
      (referring (all_of t) r ∷ calls, of_reference (Ok tt) ∷ said, ap (step m s (referring (all_of t) r)) run_is ∙ called h said k t r e)

  -- ---- what a feed does to a trace underway

  -- towards the history H and the refused lines R
  abbrev pub Underway : (H : History) (R : List RefusedLine) (items : List Item) (line k : ℕ) (t : Tables) (refused : List RefusedLine) → Type 0
  Underway H R items line k t refused =
      (h : History) × Reached m s t₀ h k t × ((reading s line items h).history ≡ H) × (refused ++ (reading s line items h).refused ≡ R)

  module _ (H : History) (R refused : List RefusedLine) (line k n : ℕ) (t : Tables) where
    pub underway_end : (items : List Item) → Ok End ≡ fed_answer s items n → Underway H R items line k t refused
        → Reached m s t₀ H (fed_accepted s items k) (fed_tables m s items t) × (refused ≡ R)
    underway_end [] e (h, reached, to, lines) = (subst (λ x. Reached m s t₀ x k t) to reached, sym (append-nil refused) ∙ lines)
    underway_end (bad x ∷ items) e u = cc
    underway_end (reference r ∷ items) e u =
        elim (cases_Bool (outside 1 s.processors r.processor)) [
          | inl o ↦ (let f = rw o at e in absurd cc)
          | inr o ↦ (let f = rw o at e in absurd cc)
        ]

    pub underway_accepted : (items : List Item) → short m s t ≡ false → k < 2 ^ 32 - 1 → Ok Accepted ≡ fed_answer s items n → Underway H R items line k t refused
        → Underway H R (drop 1 items) (line + 1) (fed_accepted s items k) (fed_tables m s items t) refused
    underway_accepted [] long room e u = cc
    underway_accepted (bad x ∷ items) long room e u = cc
    underway_accepted (reference r ∷ items) long room e (h, reached, to, lines) =
        elim (cases_Bool (outside 1 s.processors r.processor)) [
          | inl o ↦ (let f = rw o at e in absurd cc)
          | inr o ↦ (let none : reference_refusal m s k t r.processor ≡ None = only_processor m s k t r long room ∙ rw o in rw o (access s r ∷ h, reached_more h k t r none reached, rw o at to, rw o at lines))
        ]

    -- a refused line more, where the line is the item's number
    module _ (same_line : n ≡ line) where
      one_line : (x : Refusal) (f : Fault) (rest : List RefusedLine) → f.refusal ≡ x → f.item ≡ n → refused ++ (refused_line line x ∷ rest) ≡ R → (refused ++ (refused_line f.item f.refusal ∷ [])) ++ rest ≡ R
      one_line x f rest a b e =
          append_assoc refused (refused_line f.item f.refusal ∷ []) rest
          ∙ ap (λ y. refused ++ (refused_line f.item y ∷ rest)) a
          ∙ ap (λ i. refused ++ (refused_line i x ∷ rest)) (b ∙ same_line) ∙ e

      pub underway_fault : (items : List Item) (f : Fault) → Err f ≡ fed_answer s items n → Underway H R items line k t refused
          → Underway H R (drop 1 items) (line + 1) (fed_accepted s items k) (fed_tables m s items t) (refused ++ (refused_line f.item f.refusal ∷ []))
      underway_fault [] f e u = cc
      underway_fault (bad x ∷ items) f e (h, reached, to, lines) =
          let is : f ≡ record { refusal = x; item = n; layer = Source } = cc in
          (h, reached, to, one_line x f (reading s (line + 1) items h).refused (ap (λ y. y.refusal) is) (ap (λ y. y.item) is) lines)
      underway_fault (reference r ∷ items) f e (h, reached, to, lines) =
          elim (cases_Bool (outside 1 s.processors r.processor)) [
            | inl o ↦ (let is : f ≡ record { refusal = Processor; item = n; layer = Study } = (let d = rw o at e in cc) in
                rw o (h, reached, rw o at to, one_line Processor f (reading s (line + 1) items h).refused (ap (λ y. y.refusal) is) (ap (λ y. y.item) is) (rw o at lines)))
            | inr o ↦ (let d = rw o at e in absurd cc)
          ]
