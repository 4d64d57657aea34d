-- Every list of calls keeps the tables standing for the accepted references, so each answer is the separate cache's.
use Rattle.std.proofs.Common.{◌≡◌, ℕ, ◌+◌, ◌-◌, ◌^◌, ◌<◌, ◌≤◌, Bool, true, false, cond, eqb, ltb, leb, List, [], ◌∷◌, length, get_or, Some, None, Option, sym, refl, ap, ◌∙◌, subst, arith}
use Rattle.std.specs.List.{AllByRecursion}
use Rattle.std.proofs.lemmas.Bool.{ltb-false, leb-false, eqb-false, or_parts}
use Rattle.setmap.specs.Mapping.{Mapping, Lawful}
use Rattle.trace.specs.Refusals.{outside, unless_refused}
use Rattle.trace.specs.declared.Reference.{Reference}
use Rattle.trace.specs.declared.Refusal.{Refusal}
use Rattle.trace.specs.declared.Refusal.TheVariants.{Setting, Level, ShortTable, Processor, References}
use Rattle.caches.specs.Caches.{History, figures}
use Rattle.single.specs.declared.Settings.{Settings}
use Rattle.single.specs.declared.Tallies.{Tallies}
use Rattle.single.specs.Calls.{Tables, level_in, references_at, hits_at, drops_at, short, unlimited, set_up_refusal, reference_refusal, question_refusal, cleared, outcome, applied}
use Rattle.single.specs.Runs.{Fronts, front, behind, Call, referring, asking, of_reference, of_question, World, access, remembered, after_set_up, after_call, step, run, tallies, AsCache, AsSeparate}
use Rattle.single.specs.Limits.{Long}
use Rattle.single.proofs.Apart.{long, long_alike}
use Rattle.single.proofs.Stands.{Stands, applied_stands, stands_front, stands_behind, behind_front, stands_cleared}

pub record Good (m : Mapping) (s : Settings) (w : World) : Type 0 where
  pub level : level_in m s ≡ s.level
  pub stands : Stands m s w.history w.accepted w.tables
  pub as_cache : AllByRecursion (AsCache m s) w.said

-- ---- what no refusal says

pub no_first : (a b c : Bool) (x y z : Refusal) → cond a (Some x) (cond b (Some y) (cond c (Some z) None)) ≡ None → (a ≡ false) × (b ≡ false) × (c ≡ false)
no_first true b c x y z e = cc
no_first false true c x y z e = cc
no_first false false true x y z e = cc
no_first false false false x y z e = (refl, refl, refl)

no_second : (a b : Bool) (x y : Refusal) → cond a (Some x) (cond b (Some y) None) ≡ None → (a ≡ false) × (b ≡ false)
no_second true b x y e = cc
no_second false true x y e = cc
no_second false false x y e = (refl, refl)

pub inside : (low high n : ℕ) → outside low high n ≡ false → (low ≤ n) × (n ≤ high)
inside low high n e = let a = or_parts (ltb n low) (ltb high n) e in (ltb-false n low a.0, ltb-false high n a.1)

module _ (m : Mapping) (law : Lawful m) (s : Settings) where
  -- ---- a reference

  here : (q : ℕ) → m.set (level_in m s) q < m.sets (level_in m s)
  here q = let x = law.some_level in law.within (level_in m s) q (omega arith)

  accepted_stands : (h : History) (n : ℕ) (t : Tables) (r : Reference) → Stands m s h n t → reference_refusal m s n t r.processor ≡ None
      → Long m s (applied m s t r) × Stands m s (access s r ∷ h) (n + 1) (applied m s t r)
  accepted_stands h n t r k e =
      let x = no_first (short m s t) (eqb n (2 ^ 32 - 1)) (outside 1 s.processors r.processor) ShortTable References Processor e in
      let l = long m s t x.0 in
      let i = inside 1 s.processors r.processor x.2 in
      let ne = eqb-false n (2 ^ 32 - 1) x.1 in
      let few : length h < 2 ^ 32 - 1 = omega (arith, k.count, k.most) in
      let v = applied_stands m s (access s r) h few (here (access s r).block.number) i.0 i.1 t l k.rows in (
        long_alike m s t (applied m s t r) l v.alike,
        record { rows = v.rows; count = omega (arith, k.count); most = omega (arith, k.count) },
      )

  module _ (w : World) (g : Good m s w) (f : Fronts) where
    abbrev after_reference : Reference → Option Refusal → World
    after_reference r x =
        let o = outcome m s w.accepted (front f w.tables) r x in
        record { history = remembered s r o.answer w.history; said = of_reference o.answer ∷ w.said; accepted = o.accepted; tables = behind f w.tables o.tables }

    reference_good : (r : Reference) (x : Option Refusal) → reference_refusal m s w.accepted (front f w.tables) r.processor ≡ x → Good m s (after_reference r x)
    reference_good r None e =
        let t = w.tables in
        let z = no_first (short m s (front f t)) (eqb w.accepted (2 ^ 32 - 1)) (outside 1 s.processors r.processor) ShortTable References Processor e in
        let k = accepted_stands w.history w.accepted (front f t) r (stands_front m s w.history w.accepted f t (long m s (front f t) z.0) g.stands) e in
        record {
          level = g.level;
          stands = stands_behind m s (access s r ∷ w.history) (w.accepted + 1) f t (applied m s (front f t) r) k.0 k.1;
          as_cache = (tt, g.as_cache);
        }
    reference_good r (Some x) e =
        record {
          level = g.level;
          stands = subst (Stands m s w.history w.accepted) (sym (behind_front m s f w.tables)) g.stands;
          as_cache = (tt, g.as_cache);
        }

    -- ---- a question

    abbrev counted : ℕ → Tallies
    counted p =
        let c = (front f w.tables).counters in
        record { references = get_or c (references_at p) 0; hits = get_or c (hits_at p) 0; drops = get_or c (drops_at p) 0 }

    counted_is : (p : ℕ) → question_refusal m s (front f w.tables) p ≡ None → counted p ≡ tallies m s p w.history
    counted_is p e =
        let t = front f w.tables in
        let x = no_second (short m s t) (outside 1 s.processors p) ShortTable Processor e in
        let i = inside 1 s.processors p x.1 in
        let r = (stands_front m s w.history w.accepted f w.tables (long m s t x.0) g.stands).rows p i.0 i.1 in
        let u = r.references in
        let v = r.hits in
        let y = r.drops in
        let z : counted p ≡ (let fig = figures m p (level_in m s) s.ways w.history in record { references = fig.references; hits = fig.hits; drops = fig.drops }) = cc in
        z ∙ ap (λ i'. let fig = figures m p i' s.ways w.history in record { references = fig.references; hits = fig.hits; drops = fig.drops }) g.level

    answer_is : (p : ℕ) (x : Option Refusal) → question_refusal m s (front f w.tables) p ≡ x → AsCache m s (of_question w.history p (unless_refused x (counted p)))
    answer_is p None e = counted_is p e
    answer_is p (Some x) e = tt

  -- ---- any call

  call_good : (c : Call) (w : World) → Good m s w → Good m s (after_call m s c w)
  call_good (referring f r) w g = reference_good w g f r (reference_refusal m s w.accepted (front f w.tables) r.processor) refl
  call_good (asking f p) w g =
      record { level = g.level; stands = g.stands; as_cache = (answer_is w g f p (question_refusal m s (front f w.tables) p) refl, g.as_cache) }

  set_up_good : (t : Tables) (x : Option Refusal) (w : World) → set_up_refusal m s t ≡ x → after_set_up s m t x ≡ Some w → Good m s w
  set_up_good t (Some x) w e k = cc
  set_up_good t None w e k =
      let x = no_first (unlimited s) (leb m.levels s.level) (short m s t) Setting Level ShortTable e in
      let y = leb-false m.levels s.level x.1 in
      let made : record { history = []; said = []; accepted = 0; tables = cleared m s t } ≡ w = cc in
      subst (Good m s) made (record { level = omega arith; stands = stands_cleared m s t; as_cache = tt })

  run_good : (t : Tables) (calls : List Call) (w : World) → run m s t calls ≡ Some w → Good m s w
  run_good t [] w e = set_up_good t (set_up_refusal m s t) w refl e
  run_good t (c ∷ calls) w e = go (run m s t calls) (λ v. run_good t calls v) e
    where
      go : (x : Option World) → ((v : World) → x ≡ Some v → Good m s v) → step m s c x ≡ Some w → Good m s w
      go None k f = cc
      go (Some v) k f = let made : after_call m s c v ≡ w = cc in subst (Good m s) made (call_good c v (k v refl))

  pub as_separate : AsSeparate m s
  as_separate t calls w e = (run_good t calls w e).as_cache
