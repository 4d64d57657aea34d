-- Each counter of a row is a tally over the history.
use Rattle.std.proofs.Common.{◌≡◌, ℕ, zero, suc, ◌+◌, ◌-◌, ◌*◌, ◌^◌, ◌<◌, ◌≤◌, Bool, true, false, cond, not, ◌&&◌, List, [], ◌∷◌, ◌++◌, length, get_or, take, drop, Some, None, sum, Option, sym, refl, ap, ◌∙◌, inl, inr, mul_assoc, arith, length-drop, get_or-drop, take-suc}
use Rattle.std.proofs.lemmas.List.Sums.{fold_push}
use Rattle.setmap.specs.Mapping.{Mapping}
use Rattle.trace.specs.Items.{writes}
use Rattle.caches.specs.Caches.{Access, History, own, others_write, tally, Past, never, held, lost, past, is_never, is_lost}
use Rattle.stack.specs.Stack.{position, within}
use Rattle.tables.specs.declared.Mark.{Mark}
use Rattle.tables.specs.declared.Mark.TheVariants.{Never, Held, Lost}
use Rattle.tables.specs.declared.Settings.{Settings}
use Rattle.tables.specs.Tables.{row}
use Rattle.places.specs.Parts.{part, more}
use Rattle.tables.specs.Calls.{scores}
use Rattle.caches.specs.Views.{sum_to}
use Rattle.caches.proofs.Tallies.{tally-short}
use Rattle.places.proofs.Portions.{rows, length_more, more_at, more_out, length_part}
use Rattle.stack_theory.specs.Stacks.{stack_of}
use Rattle.theory.proofs.Scores.{found, scores_at, scores-out}
use Rattle.theory.proofs.Known.{mark_of}

abbrev pub Test : Type 0
Test = Access → History → Bool

abbrev pub ref_test : ℕ → Test
ref_test p a before = own p a

abbrev pub cold_test : ℕ → Test
cold_test p a before = own p a && is_never (past p a.block before)

abbrev pub lost_test : ℕ → Test
lost_test p a before = own p a && is_lost (past p a.block before)

-- an own reference, or another's write, that finds its block at position k
abbrev pub hit_test : Mapping → (levels p i k : ℕ) → Test
hit_test m levels p i k a before = own p a && found k (position m a.block i (stack_of m levels p before))

abbrev pub drop_test : Mapping → (levels p i k : ℕ) → Test
drop_test m levels p i k a before = others_write p a && found k (position m a.block i (stack_of m levels p before))

-- a row has its three counters, and two for each level and position
pub twice : (s : Settings) → row s ≡ s.levels * s.ways + s.levels * s.ways + 3
twice s = omega (arith, mul_assoc 2 s.levels s.ways)

-- what each counter of a row stands for
pub record Counts (m : Mapping) (s : Settings) (p : ℕ) (h : History) (C : List ℕ) : Type 0 where
  pub refs : get_or C 0 0 ≡ tally (ref_test p) h
  pub cold : get_or C 1 0 ≡ tally (cold_test p) h
  pub lost : get_or C 2 0 ≡ tally (lost_test p) h
  pub hits : (i k : ℕ) → i < s.levels → k < s.ways → get_or C (3 + (i * s.ways + k)) 0 ≡ tally (hit_test m s.levels p i (suc k)) h
  pub drops : (i k : ℕ) → i < s.levels → k < s.ways → get_or C (3 + s.levels * s.ways + (i * s.ways + k)) 0 ≡ tally (drop_test m s.levels p i (suc k)) h

-- the counter of cold and of lost references, in the processor's own row
abbrev pub past_more : Mark → List ℕ → List ℕ
past_more Never cs = more 1 cs
past_more Held cs = cs
past_more Lost cs = more 2 cs

pub past_more-length : (k : Mark) (cs : List ℕ) → length (past_more k cs) ≡ length cs
past_more-length Never cs = length_more 1 cs
past_more-length Held cs = refl
past_more-length Lost cs = length_more 2 cs

past_more-out : (k : Mark) (cs : List ℕ) (x : ℕ) → (x ≡ 1 → ⊥) → (x ≡ 2 → ⊥) → get_or (past_more k cs) x 0 ≡ get_or cs x 0
past_more-out Never cs x e f = more_out 1 x cs e
past_more-out Held cs x e f = refl
past_more-out Lost cs x e f = more_out 2 x cs f

past_more_cold : (x : Past) (cs : List ℕ) → 3 ≤ length cs → get_or cs 1 0 < 2 ^ 32 - 1 → get_or (past_more (mark_of x) cs) 1 0 ≡ get_or cs 1 0 + cond (is_never x) 1 0
past_more_cold never cs l f = more_at 1 cs (omega arith) f
past_more_cold held cs l f = omega arith
past_more_cold lost cs l f = omega (arith, more_out 2 1 cs (λ e. omega arith))

past_more_lost : (x : Past) (cs : List ℕ) → 3 ≤ length cs → get_or cs 2 0 < 2 ^ 32 - 1 → get_or (past_more (mark_of x) cs) 2 0 ≡ get_or cs 2 0 + cond (is_lost x) 1 0
past_more_lost never cs l f = omega (arith, more_out 1 2 cs (λ e. omega arith))
past_more_lost held cs l f = omega arith
past_more_lost lost cs l f = more_at 2 cs (omega arith) f

if_true : (o : Bool) → o ≡ true → ◌≡◌ {A = ℕ} (cond o 1 0) 1
if_true o e = grind arith

if_false : (o : Bool) → o ≡ false → ◌≡◌ {A = ℕ} (cond o 1 0) 0
if_false o e = grind arith

if_own : (o t : Bool) → o ≡ true → ◌≡◌ {A = ℕ} (cond (o && t) 1 0) (cond t 1 0)
if_own true t e = refl
if_own false t e = grind arith

if_own_not : (o w t : Bool) → o ≡ true → ◌≡◌ {A = ℕ} (cond ((not o && w) && t) 1 0) 0
if_own_not true w t e = refl
if_own_not false w t e = grind arith

if_not : (o t : Bool) → o ≡ false → ◌≡◌ {A = ℕ} (cond (o && t) 1 0) 0
if_not false t e = refl
if_not true t e = grind arith

if_other : (o w t : Bool) → o ≡ false → w ≡ true → ◌≡◌ {A = ℕ} (cond ((not o && w) && t) 1 0) (cond t 1 0)
if_other false true t e f = refl
if_other false false t e f = grind arith
if_other true w t e f = grind arith

if_neither : (o w t : Bool) → o ≡ false → w ≡ false → ◌≡◌ {A = ℕ} (cond ((not o && w) && t) 1 0) 0
if_neither false false t e f = refl
if_neither false true t e f = grind arith
if_neither true w t e f = grind arith

module _ (m : Mapping) (s : Settings) (p : ℕ) (a : Access) (h : History) (C : List ℕ) (k : Counts m s p h C) (size : length C ≡ row s) (few : length h < 2 ^ 32 - 1) where
  pub counts_own : own p a ≡ true → Counts m s p (a ∷ h) (scores m s 3 a.block (stack_of m s.levels p h) s.levels (past_more (mark_of (past p a.block h)) (more 0 C)))
  counts_own e =
      let b = a.block in
      let S = stack_of m s.levels p h in
      let x = past p b h in
      let C₁ = more 0 C in
      let C₂ = past_more (mark_of x) C₁ in
      let l₁ : length C₁ ≡ length C = length_more 0 C in
      let l₂ : length C₂ ≡ length C₁ = past_more-length (mark_of x) C₁ in
      record {
        refs =
            scores-out m s 3 b S s.levels C₂ 0 (inl (omega arith)) ∙ past_more-out (mark_of x) C₁ 0 (λ z. omega arith) (λ z. omega arith)
            ∙ more_at 0 C (omega (arith, twice s)) (omega (arith, k.refs, tally-short (ref_test p) h))
            ∙ omega (arith, k.refs, if_true (own p a) e);
        cold =
            scores-out m s 3 b S s.levels C₂ 1 (inl (omega arith))
            ∙ past_more_cold x C₁ (omega (arith, twice s)) (omega (arith, more_out 0 1 C (λ z. omega arith), k.cold, tally-short (cold_test p) h))
            ∙ omega (arith, more_out 0 1 C (λ z. omega arith), k.cold, if_own (own p a) (is_never x) e);
        lost =
            scores-out m s 3 b S s.levels C₂ 2 (inl (omega arith))
            ∙ past_more_lost x C₁ (omega (arith, twice s)) (omega (arith, more_out 0 2 C (λ z. omega arith), k.lost, tally-short (lost_test p) h))
            ∙ omega (arith, more_out 0 2 C (λ z. omega arith), k.lost, if_own (own p a) (is_lost x) e);
        hits = λ i j u v.
            (let r = rows i s.levels s.ways u in
            let same : get_or C₂ (3 + (i * s.ways + j)) 0 ≡ get_or C (3 + (i * s.ways + j)) 0 =
            past_more-out (mark_of x) C₁ (3 + (i * s.ways + j)) (λ z. omega arith) (λ z. omega arith) ∙ more_out 0 (3 + (i * s.ways + j)) C (λ z. omega arith) in
            scores_at m s 3 b S s.levels C₂ i j u v (omega (arith, twice s)) (omega (arith, k.hits i j u v, tally-short (hit_test m s.levels p i (suc j)) h))
            ∙ omega (arith, k.hits i j u v, if_own (own p a) (found (suc j) (position m b i S)) e));
        drops = λ i j u v.
            (let at = 3 + s.levels * s.ways + (i * s.ways + j) in
            scores-out m s 3 b S s.levels C₂ at (inr (omega arith))
            ∙ past_more-out (mark_of x) C₁ at (λ z. omega arith) (λ z. omega arith) ∙ more_out 0 at C (λ z. omega arith)
            ∙ omega (arith, k.drops i j u v, if_own_not (own p a) (writes a.operation) (found (suc j) (position m b i S)) e));
      }

  pub counts_write : own p a ≡ false → writes a.operation ≡ true → Counts m s p (a ∷ h) (scores m s (3 + s.levels * s.ways) a.block (stack_of m s.levels p h) s.levels C)
  counts_write e w =
      let b = a.block in
      let S = stack_of m s.levels p h in
      let from = 3 + s.levels * s.ways in
      record {
        refs = scores-out m s from b S s.levels C 0 (inl (omega arith)) ∙ omega (arith, k.refs, if_false (own p a) e);
        cold = scores-out m s from b S s.levels C 1 (inl (omega arith)) ∙ omega (arith, k.cold, if_not (own p a) (is_never (past p b h)) e);
        lost = scores-out m s from b S s.levels C 2 (inl (omega arith)) ∙ omega (arith, k.lost, if_not (own p a) (is_lost (past p b h)) e);
        hits = λ i j u v.
            (let r = rows i s.levels s.ways u in
            scores-out m s from b S s.levels C (3 + (i * s.ways + j)) (inl (omega arith))
            ∙ omega (arith, k.hits i j u v, if_not (own p a) (found (suc j) (position m b i S)) e));
        drops = λ i j u v.
            (let r = rows i s.levels s.ways u in
            scores_at m s from b S s.levels C i j u v (omega (arith, twice s)) (omega (arith, k.drops i j u v, tally-short (drop_test m s.levels p i (suc j)) h))
            ∙ omega (arith, k.drops i j u v, if_other (own p a) (writes a.operation) (found (suc j) (position m b i S)) e w));
      }

  pub counts_read : own p a ≡ false → writes a.operation ≡ false → Counts m s p (a ∷ h) C
  counts_read e w =
      let b = a.block in
      let S = stack_of m s.levels p h in
      record {
        refs = omega (arith, k.refs, if_false (own p a) e);
        cold = omega (arith, k.cold, if_not (own p a) (is_never (past p b h)) e);
        lost = omega (arith, k.lost, if_not (own p a) (is_lost (past p b h)) e);
        hits = λ i j u v. omega (arith, k.hits i j u v, if_not (own p a) (found (suc j) (position m b i S)) e);
        drops = λ i j u v. omega (arith, k.drops i j u v, if_neither (own p a) (writes a.operation) (found (suc j) (position m b i S)) e w);
      }

-- ---- sums of counters

pub tally_same : (t u : Test) (h : History) → ((a : Access) (before : History) → t a before ≡ u a before) → tally t h ≡ tally u h
tally_same t u [] e = refl
tally_same t u (a ∷ h) e = omega (arith, tally_same t u h e, ap {B = ℕ} (λ x. cond x 1 0) (e a h))

tally_add : (t u v : Test) (h : History) → ((a : Access) (before : History) → cond (t a before) 1 0 ≡ cond (u a before) 1 0 + cond (v a before) 1 0) → tally t h ≡ tally u h + tally v h
tally_add t u v [] e = refl
tally_add t u v (a ∷ h) e = omega (arith, tally_add t u v h e, e a h)

tally_none : (t : Test) (h : History) → ((a : Access) (before : History) → t a before ≡ false) → tally t h ≡ 0
tally_none t [] e = refl
tally_none t (a ∷ h) e = omega (arith, tally_none t h e, ap {B = ℕ} (λ x. cond x 1 0) (e a h))

within_more : (c : Bool) (o : Option ℕ) (d : ℕ) → cond (c && within o (suc d)) 1 0 ≡ cond (c && within o d) 1 0 + cond (c && found (suc d) o) 1 0
within_more false o d = refl
within_more true None d = refl
within_more true (Some k) d = grind arith

pub sum-tallies : (c : Access → Bool) (at : Access → History → Option ℕ) → ((a : Access) (before : History) → within (at a before) 0 ≡ false)
    → (d : ℕ) (h : History) → sum_to d (λ k. tally (λ a before. c a && found (suc k) (at a before)) h) ≡ tally (λ a before. c a && within (at a before) d) h
sum-tallies c at z zero h = sym (tally_none (λ a before. c a && within (at a before) 0) h (λ a before. (let k = z a before in elim (c a) as (λ t. (t && within (at a before) 0) ≡ false) [ true ↦ k | false ↦ refl ])))
sum-tallies c at z (suc d) h =
    omega (
      arith,
      sum-tallies c at z d h,
      tally_add (λ a before. c a && within (at a before) (suc d)) (λ a before. c a && within (at a before) d) (λ a before. c a && found (suc d) (at a before)) h
          (λ a before. within_more (c a) (at a before) d),
    )

sum_push : (xs : List ℕ) (x : ℕ) → sum (xs ++ (x ∷ [])) ≡ sum xs + x
sum_push xs x = fold_push (λ a y. a + y) 0 xs x

pub sum_part : (a d : ℕ) (cs : List ℕ) (f : ℕ → ℕ) → a + d ≤ length cs → ((k : ℕ) → k < d → get_or cs (a + k) 0 ≡ f k) → sum (part a d cs) ≡ sum_to d f
sum_part a zero cs f l e = refl
sum_part a (suc d) cs f l e =
    let ih = sum_part a d cs f (omega arith) (λ k j. e k (omega arith)) in
    let z : length (part a (suc d) cs) ≡ suc d = length_part a (suc d) cs l in
    let g : d < length (drop a cs) = omega (arith, length-drop a cs) in
    ap sum (take-suc (drop a cs) d 0 g) ∙ sum_push (take d (drop a cs)) (get_or (drop a cs) d 0) ∙ omega (arith, get_or-drop a cs d 0, e d (omega arith))
