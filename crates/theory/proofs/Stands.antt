-- The invariant: tables and what is kept stand for a history. It looks at parts alone, so it holds of front parts too.
use Rattle.std.proofs.Common.{◌≡◌, ℕ, zero, suc, ◌+◌, ◌-◌, ◌*◌, ◌^◌, ◌≤◌, false, List, [], length, get_or, take, drop, replicate, refl, ap, ◌∙◌, zero-le, arith, take-append-drop, length-take}
use lib.ListN.{length-replicate}
use Rattle.std.proofs.lemmas.List.{take-take, take-append-le, take-replicate, drop-replicate}
use Rattle.std.proofs.lemmas.Bool.{both_ways}
use Rattle.setmap.specs.Mapping.{Mapping}
use Rattle.caches.specs.Caches.{History}
use Rattle.stack.specs.declared.Entry.TheVariants.{Empty}
use Rattle.tables.specs.declared.Mark.TheVariants.{Never}
use Rattle.tables.specs.declared.Settings.{Settings}
use Rattle.tables.specs.Tables.{Tables, row, cleared}
use Rattle.places.specs.Parts.{part, put, start}
use Rattle.tables.specs.Calls.{Kept}
use Rattle.theory.specs.Runs.{Fronts, front, behind}
use Rattle.places.proofs.Portions.{part_in, part_front, part_before}
use Rattle.stack_theory.specs.Stacks.{met}
use Rattle.theory.proofs.Rows.{Row}
use Rattle.theory.proofs.Places.{Long, KeptPart, RowAt, moved, row_kept}

pub record Stands (m : Mapping) (s : Settings) (h : History) (kept : Kept) (t : Tables) : Type 0 where
  pub known : take kept.known t.known ≡ met h
  pub count : kept.known ≡ length (met h)
  pub few : kept.known ≤ s.blocks
  pub accepted : kept.accepted ≡ length h
  pub most : length h ≤ 2 ^ 32 - 1
  pub rows : (p : ℕ) → 1 ≤ p → p ≤ s.processors → RowAt m s p h t

-- ---- a front part, and the whole again

front_size : {A : Type 0} (a n f N : ℕ) (xs : List A) → a + n ≤ N → N ≤ length (take f xs) → a + n ≤ f
front_size a n f N xs l k = omega (arith, length-take f xs)

front_kept : (s : Settings) (f : Fronts) (t : Tables) → Long s (front f t) → (p : ℕ) → 1 ≤ p → p ≤ s.processors → KeptPart s p t (front f t)
front_kept s f t l p lo hi =
    record {
      entries = part_front (start s.entries p) s.entries f.entries t.entries (front_size (start s.entries p) s.entries f.entries (s.processors * s.entries) t.entries (part_in p s.processors s.entries lo hi) l.entries);
      marks = part_front (start s.blocks p) s.blocks f.marks t.marks (front_size (start s.blocks p) s.blocks f.marks (s.processors * s.blocks) t.marks (part_in p s.processors s.blocks lo hi) l.marks);
      counters = part_front (start (row s) p) (row s) f.counters t.counters (front_size (start (row s) p) (row s) f.counters (s.processors * row s) t.counters (part_in p s.processors (row s) lo hi) l.counters);
    }

pub stands_front : (m : Mapping) (s : Settings) (h : History) (kept : Kept) (f : Fronts) (t : Tables) → Long s (front f t) → Stands m s h kept t → Stands m s h kept (front f t)
stands_front m s h kept f t l k =
    record {
      known = take-take kept.known f.known t.known (omega (arith, k.few, l.known, length-take f.known t.known)) ∙ k.known;
      count = k.count;
      few = k.few;
      accepted = k.accepted;
      most = k.most;
      rows = λ p lo hi. row_kept m s p h t (front f t) (front_kept s f t l p lo hi) (k.rows p lo hi);
    }

behind_kept : (s : Settings) (f : Fronts) (t u : Tables) → Long s u → (p : ℕ) → 1 ≤ p → p ≤ s.processors → KeptPart s p u (behind f t u)
behind_kept s f t u l p lo hi =
    record {
      entries = part_before (start s.entries p) s.entries u.entries (drop f.entries t.entries) (omega (arith, part_in p s.processors s.entries lo hi, l.entries));
      marks = part_before (start s.blocks p) s.blocks u.marks (drop f.marks t.marks) (omega (arith, part_in p s.processors s.blocks lo hi, l.marks));
      counters = part_before (start (row s) p) (row s) u.counters (drop f.counters t.counters) (omega (arith, part_in p s.processors (row s) lo hi, l.counters));
    }

pub stands_behind : (m : Mapping) (s : Settings) (h : History) (kept : Kept) (f : Fronts) (t u : Tables) → Long s u → Stands m s h kept u → Stands m s h kept (behind f t u)
stands_behind m s h kept f t u l k =
    record {
      known = take-append-le kept.known u.known (drop f.known t.known) (omega (arith, k.few, l.known)) ∙ k.known;
      count = k.count;
      few = k.few;
      accepted = k.accepted;
      most = k.most;
      rows = λ p lo hi. row_kept m s p h u (behind f t u) (behind_kept s f t u l p lo hi) (k.rows p lo hi);
    }

-- what is put back unchanged is the table
pub behind_front : (f : Fronts) (t : Tables) → behind f t (front f t) ≡ t
behind_front f t =
    let a = take-append-drop f.entries t.entries in
    let b = take-append-drop f.known t.known in
    let c = take-append-drop f.marks t.marks in
    let d = take-append-drop f.counters t.counters in
    λ i. record { entries = a i; known = b i; marks = c i; counters = d i }

-- ---- the set-up

replicate_part : {A : Type 0} (N a n : ℕ) (x : A) → a + n ≤ N → part a n (replicate N x) ≡ replicate n x
replicate_part N a n x l = ap (take n) (drop-replicate a N x) ∙ take-replicate n (N - a) x (omega arith)

cleared_part : {A : Type 0} (N a n : ℕ) (x : A) (xs : List A) → a + n ≤ N → part a n (put 0 N (replicate N x) xs) ≡ replicate n x
cleared_part N a n x xs l = part_before a n (replicate N x) (drop (0 + N) xs) (omega (arith, length-replicate N x)) ∙ replicate_part N a n x l

getD_all : {A : Type 0} (n j : ℕ) (x : A) → get_or (replicate n x) j x ≡ x
getD_all zero j x = refl
getD_all (suc n) zero x = refl
getD_all (suc n) (suc j) x = getD_all n j x

cleared_row : (m : Mapping) (s : Settings) (p : ℕ) → Row m s p [] (replicate s.entries Empty) (replicate s.blocks Never) (replicate (row s) 0)
cleared_row m s p =
    let e : s.entries ≡ s.entries - 0 = omega arith in
    record {
      entries = ap (λ n. replicate n Empty) e;
      room = zero-le;
      marks = record { known = λ c x. absurd (both_ways false refl x); fresh = λ j l. getD_all s.blocks j Never };
      counts = record {
        refs = getD_all (row s) 0 0;
        cold = getD_all (row s) 1 0;
        lost = getD_all (row s) 2 0;
        hits = λ i k u v. getD_all (row s) (3 + (i * s.ways + k)) 0;
        drops = λ i k u v. getD_all (row s) (3 + s.levels * s.ways + (i * s.ways + k)) 0;
      };
    }

pub stands_cleared : (m : Mapping) (s : Settings) (t : Tables) → Stands m s [] (record { known = 0; accepted = 0 }) (cleared s t)
stands_cleared m s t =
    record {
      known = refl;
      count = refl;
      few = zero-le;
      accepted = refl;
      most = zero-le;
      rows = λ p lo hi.
          moved m s p [] _ _ _ _ _ _
          (cleared_part (s.processors * s.entries) (start s.entries p) s.entries Empty t.entries (part_in p s.processors s.entries lo hi))
          (cleared_part (s.processors * s.blocks) (start s.blocks p) s.blocks Never t.marks (part_in p s.processors s.blocks lo hi))
          (cleared_part (s.processors * row s) (start (row s) p) (row s) 0 t.counters (part_in p s.processors (row s) lo hi))
          (cleared_row m s p);
    }
