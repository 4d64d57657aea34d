-- Where the tables stand for a history, questions are answered as by the separate caches.
use Rattle.std.proofs.Common.{◌≡◌, ℕ, suc, ◌+◌, ◌-◌, ◌*◌, ◌<◌, ◌≤◌, false, ◌&&◌, ltb, leb, List, [], ◌∷◌, length, get_or, take, Some, None, sum, Option, sym, refl, ap, ◌∙◌, ap₂, inl, inr, arith}
use Rattle.std.proofs.lemmas.Bool.{cases_Bool, lt-ltb, le-ltb, leb-false, lt-leb, or_parts}
use Rattle.setmap.specs.Mapping.{Mapping, Lawful}
use Rattle.trace.specs.declared.Block.{Block}
use Rattle.trace.specs.declared.Refusal.TheVariants.{ShortTable, Processor, Question}
use Rattle.caches.specs.Caches.{History, own, others_write, among, holding, tally, figures}
use Rattle.stack.specs.Stack.{stack, position, within}
use Rattle.tables.specs.declared.Settings.{Settings}
use Rattle.tables.specs.Tables.{Tables, row, stretch, hits_from, drops_from}
use Rattle.places.specs.Parts.{part, start}
use Rattle.tables.specs.Calls.{Kept, Values, case_of, read_off, place_of, question_refusal, summed}
use Rattle.trace.specs.Refusals.{outside}
use Rattle.caches.specs.Views.{sum_to}
use Rattle.places.proofs.Portions.{rows, part_in, get_d_part}
use Rattle.stack_theory.specs.Stacks.{stack_of, met}
use Rattle.stack_theory.proofs.Simulation.{hit}
use Rattle.theory.proofs.Scores.{Positive, position_positive}
use Rattle.caches.proofs.Pasts.{held_past, adds_up}
use Rattle.theory.proofs.Known.{place_in, place_out, past_never}
use Rattle.theory.proofs.Counts.{twice, hit_test, drop_test, sum_part, sum-tallies, tally_same}
use Rattle.theory.proofs.Rows.{stack_is}
use Rattle.theory.proofs.Places.{Long, long, RowAt, counters_of, marks_of}
use Rattle.theory.proofs.Stands.{Stands}
use Rattle.theory.proofs.Steps.{inside, first_none}

pub record Asked (s : Settings) (t : Tables) (p i d : ℕ) : Type 0 where
  pub long : Long s t
  pub lo : 1 ≤ p
  pub hi : p ≤ s.processors
  pub level : i < s.levels
  pub some : 1 ≤ d
  pub most : d ≤ s.ways

pub asked : (m : Mapping) (s : Settings) (t : Tables) (p i d : ℕ) → question_refusal m s t p i d ≡ None → Asked s t p i d
asked m s t p i d e =
    let v : Values = record { map = m; settings = s; kept = record { known = 0; accepted = 0 }; tables = t; processor = p; block = record { number = 0 }; level = i; ways = d } in
    let f₁ = first_none case_of ShortTable (Processor ∷ (Question ∷ [])) v e in
    let f₂ = first_none case_of Processor (Question ∷ []) v f₁.1 in
    let f₃ = first_none case_of Question [] v f₂.1 in
    let g = or_parts (leb s.levels i) (outside 1 s.ways d) f₃.0 in
    record {
      long = long s t f₁.0;
      lo = (inside 1 s.processors p f₂.0).0;
      hi = (inside 1 s.processors p f₂.0).1;
      level = leb-false s.levels i g.0;
      some = (inside 1 s.ways d g.1).0;
      most = (inside 1 s.ways d g.1).1;
    }

known_test : (b : Block) (K : List Block) → ltb (place_of b K) (length K) ≡ among b K
known_test b K =
    elim (cases_Bool (among b K)) [
      | inl e ↦ lt-ltb (place_of b K) (length K) (place_in b K e) ∙ sym e
      | inr e ↦ le-ltb (place_of b K) (length K) (omega (arith, place_out b K e)) ∙ sym e
    ]

-- a block that no reference named is not held
unknown : (m : Mapping) (p i d : ℕ) (b : Block) (h : History) → (among b (met h) && holding m p i d b h) ≡ holding m p i d b h
unknown m p i d b h =
    let x = held_past m p i d (m.set i b.number) b h in
    let y = past_never p b h in
    elim (cases_Bool (among b (met h))) [
      | inl e ↦ rw e
      | inr e ↦ rw e (elim (cases_Bool (holding m p i d b h)) [
        | inl f ↦ (let u = x f in let v = y e in let z : ◌≡◌ {A = ℕ} 0 1 = cc in absurd (omega arith))
        | inr f ↦ sym f
      ])
    ]

within_none : (o : Option ℕ) → Positive o → within o 0 ≡ false
within_none None a = refl
within_none (Some k) a = lt-leb k 0 (omega arith)

module _ (m : Mapping) (law : Lawful m) (s : Settings) (some : 1 ≤ s.levels) (most : s.levels ≤ 32) (offered : s.levels ≤ m.levels)
    (h : History) (kept : Kept) (t : Tables) (k : Stands m s h kept t) (p i d : ℕ) (q : Asked s t p i d) where
  r : RowAt m s p h t
  r = k.rows p q.lo q.hi

  stack_here : stack (stretch s p t) ≡ stack_of m s.levels p h
  stack_here = stack_is m s some most p h (stretch s p t) (marks_of s p t) (counters_of s p t) r

  hit_here : (b : Block) (before : History) → within (position m b i (stack_of m s.levels p before)) d ≡ holding m p i d b before
  hit_here b before = sym (hit m law i (omega (arith, q.level)) (omega (arith, q.level)) s.levels q.level p d b before)

  pub held_is : (b : Block) → (ltb (place_of b (take kept.known t.known)) kept.known && within (position m b i (stack (stretch s p t))) d) ≡ holding m p i d b h
  held_is b =
      let x : ltb (place_of b (take kept.known t.known)) kept.known ≡ among b (met h) = ap₂ (λ K n. ltb (place_of b K) n) k.known k.count ∙ known_test b (met h) in
      let y : within (position m b i (stack (stretch s p t))) d ≡ holding m p i d b h = ap (λ S. within (position m b i S) d) stack_here ∙ hit_here b h in
      ap₂ ◌&&◌ x y ∙ unknown m p i d b h

  -- the first d counters of the level, in the zone that begins at z
  zone : (z : ℕ) (g : ℕ → ℕ) → z + (i * s.ways + d) ≤ row s → ((j : ℕ) → j < d → get_or (counters_of s p t) (z + (i * s.ways + j)) 0 ≡ g j)
      → sum (part (start (row s) p + z + i * s.ways) d t.counters) ≡ sum_to d g
  zone z g l e =
      let a = start (row s) p in
      let size = part_in p s.processors (row s) q.lo q.hi in
      sum_part (a + z + i * s.ways) d t.counters g (omega (arith, q.long.counters))
      (λ j lj.
      (let f : a + z + i * s.ways + j ≡ a + (z + (i * s.ways + j)) = omega arith in
      ap (λ x. get_or t.counters x 0) f ∙ sym (get_d_part a (row s) (z + (i * s.ways + j)) t.counters 0 (omega arith)) ∙ e j lj))

  hits_are : summed s (hits_from s p) i d t.counters ≡ (figures m p i d h).hits
  hits_are =
      let w = rows i s.levels s.ways q.level in
      zone 3 (λ j. tally (hit_test m s.levels p i (suc j)) h) (omega (arith, twice s, q.most)) (λ j l. r.counts.hits i j q.level (omega (arith, q.most)))
      ∙ sum-tallies (own p) (λ a before. position m a.block i (stack_of m s.levels p before)) (λ a before. within_none (position m a.block i (stack_of m s.levels p before)) (position_positive m a.block i (stack_of m s.levels p before))) d h
      ∙ tally_same (λ a before. own p a && within (position m a.block i (stack_of m s.levels p before)) d) (λ a before. own p a && holding m p i d a.block before) h
      (λ a before. ap (λ x. own p a && x) (hit_here a.block before))

  drops_are : summed s (drops_from s p) i d t.counters ≡ (figures m p i d h).drops
  drops_are =
      let w = rows i s.levels s.ways q.level in
      zone (3 + s.levels * s.ways) (λ j. tally (drop_test m s.levels p i (suc j)) h) (omega (arith, twice s, q.most)) (λ j l. r.counts.drops i j q.level (omega (arith, q.most)))
      ∙ sum-tallies (others_write p) (λ a before. position m a.block i (stack_of m s.levels p before)) (λ a before. within_none (position m a.block i (stack_of m s.levels p before)) (position_positive m a.block i (stack_of m s.levels p before))) d h
      ∙ tally_same (λ a before. others_write p a && within (position m a.block i (stack_of m s.levels p before)) d) (λ a before. others_write p a && holding m p i d a.block before) h
      (λ a before. ap (λ x. others_write p a && x) (hit_here a.block before))

  counter_at : (j : ℕ) → j < 3 → get_or t.counters (start (row s) p + j) 0 ≡ get_or (counters_of s p t) j 0
  counter_at j l = sym (get_d_part (start (row s) p) (row s) j t.counters 0 (omega arith))

  refs_are : get_or t.counters (start (row s) p) 0 ≡ (figures m p i d h).references
  refs_are =
      let z : start (row s) p ≡ start (row s) p + 0 = omega arith in
      ap (λ x. get_or t.counters x 0) z ∙ counter_at 0 (omega arith) ∙ r.counts.refs

  cold_are : get_or t.counters (start (row s) p + 1) 0 ≡ (figures m p i d h).cold
  cold_are = counter_at 1 (omega arith) ∙ r.counts.cold

  lost_are : get_or t.counters (start (row s) p + 2) 0 ≡ (figures m p i d h).lost
  lost_are = counter_at 2 (omega arith) ∙ r.counts.lost

  replaced_are : get_or t.counters (start (row s) p) 0 - (summed s (hits_from s p) i d t.counters + (get_or t.counters (start (row s) p + 1) 0 + get_or t.counters (start (row s) p + 2) 0)) ≡ (figures m p i d h).replaced
  replaced_are = omega (arith, refs_are, hits_are, cold_are, lost_are, adds_up m h p i d)

  pub counted_is : read_off s t p i d ≡ figures m p i d h
  counted_is = λ x. record { references = refs_are x; hits = hits_are x; drops = drops_are x; cold = cold_are x; lost = lost_are x; replaced = replaced_are x }
