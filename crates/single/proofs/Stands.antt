-- The tables stand for a history: all processors' rows do. It looks only at what the cache uses, so it survives front parts.
use Rattle.std.proofs.Common.{◌≡◌, ℕ, zero, suc, ◌+◌, ◌-◌, ◌*◌, ◌^◌, ◌<◌, ◌≤◌, true, false, cond, List, [], ◌∷◌, ◌++◌, length, get_or, take, drop, replicate, None, sym, refl, ap, ◌∙◌, subst, inl, inr, arith}
use Rattle.std.proofs.lemmas.List.{length-take, length-replicate, get_or-take, get_or_append_left, get_or-replicate, drop-replicate, take-replicate, take-append-drop}
use Rattle.std.proofs.lemmas.Bool.{cases_eq, cases_Bool, eq-eqb, ne_eqb}
use Rattle.places.specs.Parts.{part, put, start}
use Rattle.places.proofs.Portions.{part_in, part_front, part_before}
use Rattle.setmap.specs.Mapping.{Mapping}
use Rattle.trace.specs.Items.{writes}
use Rattle.trace.specs.declared.Block.{Block}
use Rattle.caches.specs.Caches.{Access, History, own}
use Rattle.single.specs.declared.Settings.{Settings}
use Rattle.single.specs.Calls.{Tables, level_in, set_of, set_start, frames_needed, cleared, own_reference, others_write_to, others_write_all}
use Rattle.single.specs.Runs.{Fronts, front, behind}
use Rattle.single.specs.Limits.{Long}
use Rattle.single.proofs.Apart.{Alike, alike_trans, long_alike, set_in}
use Rattle.single.proofs.Rows.{Row, Kept, row_kept, row_own, own_kept, own_alike, row_write, write_kept, write_alike, row_read}

pub record Stands (m : Mapping) (s : Settings) (h : History) (accepted : ℕ) (t : Tables) : Type 0 where
  pub rows : (p : ℕ) → 1 ≤ p → p ≤ s.processors → Row m s p h t
  pub count : accepted ≡ length h
  pub most : accepted ≤ 2 ^ 32 - 1

-- ---- one accepted reference

abbrev pub by_access : Mapping → Settings → Access → Tables → Tables
by_access m s a t =
    let own_done = own_reference m s a.processor a.block t in
    cond (writes a.operation) (others_write_all m s a.processor a.block s.processors own_done) own_done

module _ (m : Mapping) (s : Settings) (a : Access) (h : History) (few : length h < 2 ^ 32 - 1) (here : set_of m s a.block < m.sets (level_in m s)) (lo : 1 ≤ a.processor) (hi : a.processor ≤ s.processors) where
  abbrev w : ℕ
  w = a.processor

  abbrev q : Block
  q = a.block

  own_self : own w a ≡ true
  own_self = eq-eqb w w refl

  own_not : (p : ℕ) → (p ≡ w → ⊥) → own p a ≡ false
  own_not p n = ne_eqb w p (λ e. n (sym e))

  -- the first n processors, and the writer, have come to the access; the others have not
  record Partly (n : ℕ) (t u : Tables) : Type 0 where
    alike : Alike t u
    writer : Row m s w (a ∷ h) u
    done : (p : ℕ) → 1 ≤ p → p ≤ n → Row m s p (a ∷ h) u
    to_come : (p : ℕ) → n < p → p ≤ s.processors → (p ≡ w → ⊥) → Row m s p h u

  module _ (t : Tables) (l : Long m s t) (r : (p : ℕ) → 1 ≤ p → p ≤ s.processors → Row m s p h t) where
    abbrev own_done : Tables
    own_done = own_reference m s w q t

    started : Partly 0 t own_done
    started =
        record {
          alike = own_alike m s t l w lo hi a here h few (r w lo hi) own_self;
          writer = row_own m s t l w lo hi a here h few (r w lo hi) own_self;
          done = λ p x y. absurd (omega arith);
          to_come = λ p x y n. row_kept m s p h t own_done (own_kept m s t l w lo hi a here h few (r w lo hi) own_self p (omega arith) (λ e. n (sym e))) (r p (omega arith) y);
        }

    module _ (wr : writes a.operation ≡ true) where
      at_writer : (n : ℕ) (u : Tables) → Partly n t u → suc n ≡ w → Partly (suc n) t u
      at_writer n u k e =
          record {
            alike = k.alike;
            writer = k.writer;
            done = λ p x y. elim (cases_eq p (suc n)) [ inl z ↦ subst (λ j. Row m s j (a ∷ h) u) (sym (z ∙ e)) k.writer | inr z ↦ k.done p x (omega arith) ];
            to_come = λ p x y z. k.to_come p (omega arith) y z;
          }

      at_other : (n : ℕ) (u : Tables) → suc n ≤ s.processors → Partly n t u → (suc n ≡ w → ⊥) → Partly (suc n) t (others_write_to m s (suc n) q u)
      at_other n u top k e =
          let lu = long_alike m s t u l k.alike in
          let b : 1 ≤ suc n = omega arith in
          let ru = k.to_come (suc n) (omega arith) top e in
          let o = own_not (suc n) e in
          let v = others_write_to m s (suc n) q u in
          let keeps : (p : ℕ) → 1 ≤ p → (suc n ≡ p → ⊥) → Kept m s p u v = write_kept m s u lu (suc n) b top a here h few ru o wr in
          record {
            alike = alike_trans t u v k.alike (write_alike m s u lu (suc n) b top a here h few ru o wr);
            writer = row_kept m s w (a ∷ h) u v (keeps w lo e) k.writer;
            done = λ p x y. elim (cases_eq p (suc n)) [
              | inl z ↦ subst (λ j. Row m s j (a ∷ h) v) (sym z) (row_write m s u lu (suc n) b top a here h few ru o wr)
              | inr z ↦ row_kept m s p (a ∷ h) u v (keeps p x (λ y'. z (sym y'))) (k.done p x (omega arith))
            ];
            to_come = λ p x y z. row_kept m s p h u v (keeps p (omega arith) (λ y'. omega arith)) (k.to_come p (omega arith) y z);
          }

      written : (n : ℕ) → n ≤ s.processors → Partly n t (others_write_all m s w q n own_done)
      written zero b = started
      written (suc n) b =
          let u = others_write_all m s w q n own_done in
          let k = written n (omega arith) in
          elim (cases_eq (suc n) w) [
            | inl e ↦ rw (eq-eqb (suc n) w e) (at_writer n u k e)
            | inr e ↦ rw (ne_eqb (suc n) w e) (at_other n u b k e)
          ]

    pub record Applied (u : Tables) : Type 0 where
      pub alike : Alike t u
      pub rows : (p : ℕ) → 1 ≤ p → p ≤ s.processors → Row m s p (a ∷ h) u

    after_write : writes a.operation ≡ true → Applied (others_write_all m s w q s.processors own_done)
    after_write e = let k = written e s.processors (omega arith) in record { alike = k.alike; rows = λ p x y. k.done p x y }

    after_read : writes a.operation ≡ false → Applied own_done
    after_read e =
        record {
          alike = started.alike;
          rows = λ p x y. elim (cases_eq p w) [
            | inl z ↦ subst (λ j. Row m s j (a ∷ h) own_done) (sym z) started.writer
            | inr z ↦ row_read m s p a h own_done (started.to_come p (omega arith) y z) (own_not p z) e
          ];
        }

    pub applied_stands : Applied (by_access m s a t)
    applied_stands =
        elim (cases_Bool (writes a.operation)) [ inl e ↦ rw e (after_write e) | inr e ↦ rw e (after_read e) ]

-- ---- front parts, and the tables that a set-up clears

module _ (m : Mapping) (s : Settings) where
  counters_in : (p j : ℕ) (n : ℕ) → 1 ≤ p → p ≤ s.processors → j < 3 → s.processors * 3 ≤ n → start 3 p + j < n
  counters_in p j n lo hi l k = omega (arith, part_in p s.processors 3 lo hi)

  -- tables that agree in what the cache uses
  pub stands_same : (h : History) (n : ℕ) (t u : Tables)
      → ((a : ℕ) → a + s.ways ≤ frames_needed m s → part a s.ways u.frames ≡ part a s.ways t.frames)
      → ((j : ℕ) → j < s.processors * 3 → get_or u.counters j 0 ≡ get_or t.counters j 0)
      → Stands m s h n t → Stands m s h n u
  stands_same h n t u e f k =
      record {
        rows = λ p lo hi. row_kept m s p h t u
            (record {
              sets = λ j l. e (set_start m s p j) (set_in m s p j lo hi l);
              counters = λ j l. f (start 3 p + j) (counters_in p j (s.processors * 3) lo hi l (omega arith));
            })
            (k.rows p lo hi);
        count = k.count;
        most = k.most;
      }

  pub stands_front : (h : History) (n : ℕ) (f : Fronts) (t : Tables) → Long m s (front f t) → Stands m s h n t → Stands m s h n (front f t)
  stands_front h n f t l k =
      stands_same h n t (front f t)
      (λ a x. part_front a s.ways f.frames t.frames (omega (arith, l.frames, length-take f.frames t.frames)))
      (λ j x. get_or-take f.counters t.counters j 0 (omega (arith, l.counters, length-take f.counters t.counters)))
      k

  pub stands_behind : (h : History) (n : ℕ) (f : Fronts) (t u : Tables) → Long m s u → Stands m s h n u → Stands m s h n (behind f t u)
  stands_behind h n f t u l k =
      stands_same h n u (behind f t u)
      (λ a x. part_before a s.ways u.frames (drop f.frames t.frames) (omega (arith, l.frames)))
      (λ j x. get_or_append_left u.counters (drop f.counters t.counters) 0 j (omega (arith, l.counters)))
      k

  pub behind_front : (f : Fronts) (t : Tables) → behind f t (front f t) ≡ t
  behind_front f t =
      ap (λ xs. record { frames = xs; counters = take f.counters t.counters ++ drop f.counters t.counters }) (take-append-drop f.frames t.frames)
      ∙ ap (λ xs. record { frames = t.frames; counters = xs }) (take-append-drop f.counters t.counters)

  part_filled : {A : Type 0} (a w n : ℕ) (x : A) (xs : List A) → a + w ≤ n → part a w (put 0 n (replicate n x) xs) ≡ replicate w x
  part_filled a w n x xs l =
      part_before a w (replicate n x) (drop (0 + n) xs) (omega (arith, length-replicate n x))
      ∙ ap (take w) (drop-replicate a n x) ∙ take-replicate w (n - a) x (omega arith)

  getD_filled : (n j : ℕ) (xs : List ℕ) → j < n → get_or (put 0 n (replicate n 0) xs) j 0 ≡ 0
  getD_filled n j xs l =
      get_or_append_left (replicate n 0) (drop (0 + n) xs) 0 j (omega (arith, length-replicate {A = ℕ} n 0)) ∙ get_or-replicate n j 0 0 l

  pub stands_cleared : (t : Tables) → Stands m s [] 0 (cleared m s t)
  stands_cleared t =
      let zero_at : (p j : ℕ) → 1 ≤ p → p ≤ s.processors → j < 3 → get_or (cleared m s t).counters (start 3 p + j) 0 ≡ 0 =
      λ p j lo hi l. getD_filled (s.processors * 3) (start 3 p + j) t.counters (counters_in p j (s.processors * 3) lo hi l (omega arith)) in
      record {
        rows = λ p lo hi. record {
          sets = λ k l. part_filled (set_start m s p k) s.ways (frames_needed m s) None t.frames (set_in m s p k lo hi l) ∙ ap (λ n. replicate n None) (omega arith);
          references = (let z : start 3 p + 0 ≡ start 3 p = omega arith in ap (λ j. get_or (cleared m s t).counters j 0) (sym z) ∙ zero_at p 0 lo hi (omega arith));
          hits = zero_at p 1 lo hi (omega arith);
          drops = zero_at p 2 lo hi (omega arith);
        };
        count = refl;
        most = omega arith;
      }
