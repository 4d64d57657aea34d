-- The tables of all processors: the sets' frames and the counters lie apart, so a change to one leaves the others.
use Rattle.std.proofs.Common.{◌≡◌, ℕ, ◌+◌, ◌-◌, ◌*◌, ◌^◌, ◌<◌, ◌≤◌, Bool, true, false, cond, ltb, ◌⊎◌, List, length, get_or, Option, refl, ◌∙◌, inl, inr, arith}
use Rattle.std.proofs.lemmas.Bool.{cases_eq, cases_lt, ltb-false, or_parts}
use Rattle.places.specs.Parts.{part, put, start, more}
use Rattle.places.proofs.Portions.{rows, part_in, apart, part_put, part_put-out, length-put, length_more, more_at, more_out}
use Rattle.setmap.specs.Mapping.{Mapping}
use Rattle.trace.specs.declared.Block.{Block}
use Rattle.single.specs.declared.Settings.{Settings}
use Rattle.single.specs.Calls.{Tables, level_in, cache_frames, frames_needed, set_start, short}
use Rattle.single.specs.Limits.{Long}

pub long : (m : Mapping) (s : Settings) (t : Tables) → short m s t ≡ false → Long m s t
long m s t e =
    let a = or_parts (ltb (length t.frames) (frames_needed m s)) (ltb (length t.counters) (s.processors * 3)) e in
    record { frames = ltb-false (length t.frames) (frames_needed m s) a.0; counters = ltb-false (length t.counters) (s.processors * 3) a.1 }

-- tables of the same lengths
pub record Alike (t u : Tables) : Type 0 where
  pub frames : length u.frames ≡ length t.frames
  pub counters : length u.counters ≡ length t.counters

pub alike_trans : (t u v : Tables) → Alike t u → Alike u v → Alike t v
alike_trans t u v a b = record { frames = b.frames ∙ a.frames; counters = b.counters ∙ a.counters }

pub long_alike : (m : Mapping) (s : Settings) (t u : Tables) → Long m s t → Alike t u → Long m s u
long_alike m s t u l a = record { frames = omega (arith, l.frames, a.frames); counters = omega (arith, l.counters, a.counters) }

-- ---- the frames

module _ (m : Mapping) (s : Settings) where
  pub set_in : (p k : ℕ) → 1 ≤ p → p ≤ s.processors → k < m.sets (level_in m s) → set_start m s p k + s.ways ≤ frames_needed m s
  set_in p k lo hi l = omega (arith, part_in p s.processors (cache_frames m s) lo hi, rows k (m.sets (level_in m s)) s.ways l)

  same_start : (p q k j : ℕ) → p ≡ q → (set_start m s q k + s.ways ≤ set_start m s q j) ⊎ (set_start m s q j + s.ways ≤ set_start m s q k)
      → (set_start m s p k + s.ways ≤ set_start m s q j) ⊎ (set_start m s q j + s.ways ≤ set_start m s p k)
  same_start p q k j e o = rw e o

  sets_apart : (p q k j : ℕ) → 1 ≤ p → 1 ≤ q → k < m.sets (level_in m s) → j < m.sets (level_in m s) → (p ≡ q → k ≡ j → ⊥)
      → (set_start m s p k + s.ways ≤ set_start m s q j) ⊎ (set_start m s q j + s.ways ≤ set_start m s p k)
  sets_apart p q k j lp lq lk lj n =
      let x = rows k (m.sets (level_in m s)) s.ways lk in
      let y = rows j (m.sets (level_in m s)) s.ways lj in
      elim (cases_eq p q) [
        | inl e ↦ same_start p q k j e (elim (cases_lt k j) [
          | inl l ↦ inl (omega (arith, rows k j s.ways l))
          | inr l ↦ inr (omega (arith, rows j k s.ways (elim (cases_lt j k) [ inl z ↦ z | inr z ↦ absurd (n e (omega arith)) ])))
        ])
        | inr e ↦ elim (apart p q (cache_frames m s) lp lq e) [ inl l ↦ inl (omega arith) | inr l ↦ inr (omega arith) ]
      ]

  module _ (p k : ℕ) (lo : 1 ≤ p) (hi : p ≤ s.processors) (l : k < m.sets (level_in m s)) (fs ys : List (Option Block)) (long_enough : frames_needed m s ≤ length fs) (size : length ys ≡ s.ways) where
    within : set_start m s p k + s.ways ≤ length fs
    within = omega (arith, set_in p k lo hi l)

    pub put_there : part (set_start m s p k) s.ways (put (set_start m s p k) s.ways ys fs) ≡ ys
    put_there = part_put (set_start m s p k) s.ways ys fs size (omega (arith, within))

    pub put_elsewhere : (q j : ℕ) → 1 ≤ q → j < m.sets (level_in m s) → (p ≡ q → k ≡ j → ⊥) → part (set_start m s q j) s.ways (put (set_start m s p k) s.ways ys fs) ≡ part (set_start m s q j) s.ways fs
    put_elsewhere q j lq lj n =
        part_put-out (set_start m s p k) (set_start m s q j) s.ways ys fs size within (elim (sets_apart p q k j lo lq l lj n) [ inl z ↦ inr z | inr z ↦ inl z ])

    pub put-length : length (put (set_start m s p k) s.ways ys fs) ≡ length fs
    put-length = length-put (set_start m s p k) s.ways ys fs size within

-- ---- the counters

-- one more at a counter where a test holds
pub more_if_length : (b : Bool) (x : ℕ) (cs : List ℕ) → length (cond b (more x cs) cs) ≡ length cs
more_if_length true x cs = length_more x cs
more_if_length false x cs = refl

pub more_if_at : (b : Bool) (x : ℕ) (cs : List ℕ) → x < length cs → get_or cs x 0 < 2 ^ 32 - 1 → get_or (cond b (more x cs) cs) x 0 ≡ get_or cs x 0 + cond b 1 0
more_if_at true x cs l f = more_at x cs l f
more_if_at false x cs l f = omega arith

pub more_if_out : (b : Bool) (x y : ℕ) (cs : List ℕ) → (y ≡ x → ⊥) → get_or (cond b (more x cs) cs) y 0 ≡ get_or cs y 0
more_if_out true x y cs n = more_out x y cs n
more_if_out false x y cs n = refl

-- the counters of two processors are apart
pub counters_apart : (p q i j : ℕ) → 1 ≤ p → 1 ≤ q → (p ≡ q → ⊥) → i < 3 → j < 3 → start 3 q + j ≡ start 3 p + i → ⊥
counters_apart p q i j lp lq n li lj e = elim (apart p q 3 lp lq n) [ inl l ↦ omega arith | inr l ↦ omega arith ]
