-- What the code of a reference does to one set's frames and one processor's counters, as the calls say it.
use Rattle.std.proofs.Common.{◌≡◌, ℕ, suc, ◌+◌, ◌-◌, ◌≤◌, true, false, cond, eqb, List, length, take, drop, replicate, Option, sym, ap, ap₂, ◌∙◌, arith}
use Rattle.std.proofs.lemmas.List.{length-take-le}
use borrow.Rule.Slice.PartMut.{put_mid}
use Rattle.std.proofs.lemmas.Bool.{cond-true, cond-false, eq-eqb, ne_eqb}
use Rattle.places.specs.Parts.{part, put, start, more}
use Rattle.places.proofs.Portions.{part_is, length_part}
use Rattle.setmap.specs.Mapping.{Mapping}
use Rattle.trace.specs.declared.Block.{Block}
use Rattle.caches.specs.Caches.{among, used}
use Rattle.single.specs.declared.Settings.{Settings}
use Rattle.single.specs.Calls.{Tables, tables_of, frames_needed, set_of, set_start, list_of, relisted, own_reference, others_write_to, others_write_all}

pub same_tables : {fs gs : List (Option Block)} {cs ds : List ℕ} → fs ≡ gs → cs ≡ ds → tables_of fs cs ≡ tables_of gs ds
same_tables e f = ap₂ tables_of e f

-- an own reference
module _ (m : Mapping) (s : Settings) (p : ℕ) (q : Block) (fs : List (Option Block)) (cs : List ℕ) (at first : ℕ)
    (e : at ≡ set_start m s p (set_of m s q)) (within : at + s.ways ≤ frames_needed m s) (long : frames_needed m s ≤ length fs) (f : first ≡ start 3 p) where
  abbrev here : ℕ
  here = set_start m s p (set_of m s q)

  abbrev k : ℕ
  k = at + s.ways - at

  abbrev lent : List (Option Block)
  lent = take k (drop at fs)

  abbrev frames : List (Option Block)
  frames = part here s.ways fs

  lent_is : lent ≡ frames
  lent_is = let z : k ≡ s.ways = omega arith in rw (z, e)

  module _ (ys : List (Option Block)) (c₁ : List ℕ) (y : ys ≡ relisted (used (length lent) q (list_of lent)) lent) (d : c₁ ≡ more first cs) where
    touched : put_mid at k fs ys ≡ put here s.ways (relisted (used s.ways q (list_of frames)) frames) fs
    touched =
        let z : k ≡ s.ways = omega arith in
        part_is at s.ways k (λ es. relisted (used (length es) q (list_of es)) es) fs ys z y
        ∙ ap (λ i. put i s.ways (relisted (used (length (part i s.ways fs)) q (list_of (part i s.ways fs))) (part i s.ways fs)) fs) e
        ∙ ap (λ n. put here s.ways (relisted (used n q (list_of frames)) frames) fs) (length_part here s.ways fs (omega (arith, e)))

    counted : c₁ ≡ more (start 3 p) cs
    counted = d ∙ ap (λ i. more i cs) f

    pub refer_hit : (c₂ : List ℕ) → true ≡ among q (list_of lent) → c₂ ≡ more (first + 1) c₁ → tables_of (put_mid at k fs ys) c₂ ≡ own_reference m s p q (tables_of fs cs)
    refer_hit c₂ h b =
        same_tables touched
        (b ∙ ap₂ (λ i xs. more (i + 1) xs) f counted
        ∙ sym (cond-true (among q (list_of frames)) (more (start 3 p + 1) (more (start 3 p) cs)) (more (start 3 p) cs) (sym (h ∙ ap (λ es. among q (list_of es)) lent_is))))

    pub refer_miss : false ≡ among q (list_of lent) → tables_of (put_mid at k fs ys) c₁ ≡ own_reference m s p q (tables_of fs cs)
    refer_miss h =
        same_tables touched
        (counted ∙ sym (cond-false (among q (list_of frames)) (more (start 3 p + 1) (more (start 3 p) cs)) (more (start 3 p) cs) (sym (h ∙ ap (λ es. among q (list_of es)) lent_is))))

-- one processor more
module _ (m : Mapping) (s : Settings) (w : ℕ) (q : Block) (p : ℕ) (some : 1 ≤ p) (t u v : Tables) (inv : u ≡ others_write_all m s w q (p - 1) t) where
  write_next : v ≡ cond (eqb p w) u (others_write_to m s p q u) → v ≡ others_write_all m s w q p t
  write_next e =
      let n : p ≡ suc (p - 1) = omega arith in
      e ∙ ap₂ (λ i x. cond (eqb i w) x (others_write_to m s i q x)) n inv ∙ ap (λ i. others_write_all m s w q i t) (sym n)

  pub write_step : (v₁ : Tables) → (p ≡ w → ⊥) → v ≡ v₁ → v₁ ≡ others_write_to m s p q u → v ≡ others_write_all m s w q p t
  write_step v₁ d same e = write_next (same ∙ e ∙ sym (cond-false (eqb p w) u (others_write_to m s p q u) (ne_eqb p w d)))

  pub write_skip : p ≡ w → v ≡ u → v ≡ others_write_all m s w q p t
  write_skip d e = write_next (e ∙ sym (cond-true (eqb p w) u (others_write_to m s p q u) (eq-eqb p w d)))

-- a front part filled with one value
pub filled : {A : Type 0} (n k : ℕ) (x : A) (ys xs : List A) → k ≡ n → n ≤ length xs → ys ≡ replicate (length (take (k - 0) xs)) x → put_mid 0 (k - 0) xs ys ≡ put 0 n (replicate n x) xs
filled n k x ys xs e l f = let z : k - 0 ≡ n = omega arith in part_is 0 n (k - 0) (λ zs. replicate (length zs) x) xs ys z f ∙ rw (length-take-le n xs l)
