-- An accepted reference takes tables that stand for a history to tables that stand for the longer one.
use Rattle.std.proofs.Common.{◌≡◌, ℕ, zero, suc, ◌+◌, ◌-◌, ◌^◌, ◌<◌, ◌≤◌, Bool, true, false, cond, ◌&&◌, eqb, ltb, ◌⊎◌, List, [], ◌∷◌, ◌++◌, length, take, set, Some, None, sym, refl, ap, ◌∙◌, subst, inl, inr, arith}
use Rattle.std.proofs.lemmas.List.{length-take-le}
use Rattle.std.proofs.lemmas.Bool.{cases_eq, cases_lt, cases_Bool, eq-eqb, ne_eqb, eqb-false, ltb-false, or_parts, and_cases, cond-true, cond-false}
use Rattle.setmap.specs.Mapping.{Mapping}
use Rattle.places.proofs.Places.{place-within}
use Rattle.trace.specs.Items.{same, writes, block_of}
use Rattle.trace.specs.declared.Reference.{Reference}
use Rattle.trace.specs.declared.Refusal.{Refusal}
use Rattle.trace.specs.declared.Refusal.TheVariants.{ShortTable, Processor, Blocks, Entries, References}
use Rattle.caches.specs.Caches.{Access, History, own, among}
use Rattle.stack.specs.Stack.{stack, touched}
use Rattle.tables.specs.declared.Settings.{Settings}
use Rattle.tables.specs.Tables.{Tables, stretch}
use Rattle.tables.specs.Calls.{Kept, Values, case_of, applied, place_of, own_reference, others_write_to, others_write_all, reference_refusal, accepted_reference}
use Rattle.trace.specs.Refusals.{Case, first_given, outside}
use Rattle.theory.specs.Runs.{access}
use Rattle.stack_theory.specs.Stacks.{met}
use Rattle.theory.proofs.Known.{known_step}
use Rattle.theory.proofs.Places.{Long, long, Alike, alike_trans, long_alike, KeptPart, kept_trans, RowAt, row_kept, own_at, own_kept, own_alike, write_at, write_kept, write_alike, read_at}
use Rattle.theory.proofs.Stands.{Stands}

own_is : (p : ℕ) (a : Access) → p ≡ a.processor → own p a ≡ true
own_is p a e = eq-eqb a.processor p (sym e)

own_not : (p : ℕ) (a : Access) → (p ≡ a.processor → ⊥) → own p a ≡ false
own_not p a n = ne_eqb a.processor p (λ e. n (sym e))

-- ---- a write, put to the others one after another

record Written (m : Mapping) (s : Settings) (h : History) (a : Access) (n : ℕ) (t u : Tables) : Type 0 where
  alike : Alike t u
  known : u.known ≡ t.known
  done : (p : ℕ) → 1 ≤ p → p ≤ n → (p ≡ a.processor → ⊥) → RowAt m s p (a ∷ h) u
  kept : (p : ℕ) → 1 ≤ p → (n < p) ⊎ (p ≡ a.processor) → KeptPart s p t u

module _ (m : Mapping) (s : Settings) (some : 1 ≤ s.levels) (most : s.levels ≤ 32) (h : History) (a : Access) (few : length h < 2 ^ 32 - 1)
    (width : place_of a.block (met h) < s.blocks) where
  module _ (w : writes a.operation ≡ true) (t : Tables) (l : Long s t)
      (rows : (p : ℕ) → 1 ≤ p → p ≤ s.processors → (p ≡ a.processor → ⊥) → RowAt m s p h t) where
    skipped : (n : ℕ) (u : Tables) → suc n ≡ a.processor → Written m s h a n t u → Written m s h a (suc n) t u
    skipped n u e k =
        record {
          alike = k.alike;
          known = k.known;
          done = λ p lo hi x. k.done p lo (elim (cases_lt n p) [ inl y ↦ absurd (x (let z : p ≡ suc n = omega arith in z ∙ e)) | inr y ↦ y ]) x;
          kept = λ p lo x. k.kept p lo (elim x [ inl y ↦ inl (omega arith) | inr y ↦ inr y ]);
        }

    written : (n : ℕ) (u : Tables) → suc n ≤ s.processors → (suc n ≡ a.processor → ⊥) → Written m s h a n t u
        → Written m s h a (suc n) t (others_write_to m s (suc n) a.block (place_of a.block (met h)) u)
    written n u hi x k =
        let lu = long_alike s t u l k.alike in
        let lo : 1 ≤ suc n = omega arith in
        let r = row_kept m s (suc n) h t u (k.kept (suc n) lo (inl (omega arith))) (rows (suc n) lo hi x) in
        let e = own_not (suc n) a x in
        let v = others_write_to m s (suc n) a.block (place_of a.block (met h)) u in
        let at : RowAt m s (suc n) (a ∷ h) v = write_at m s some most u lu (suc n) lo hi h r a few width e w in
        let out : (p : ℕ) → 1 ≤ p → (suc n ≡ p → ⊥) → KeptPart s p u v = write_kept m s some most u lu (suc n) lo hi h r a few width e w in
        record {
          alike = alike_trans t u v k.alike (write_alike m s some most u lu (suc n) lo hi h r a few width e w);
          known = k.known;
          done = λ p lp hp y. elim (cases_eq p (suc n)) [
            | inl z ↦ subst (λ q. RowAt m s q (a ∷ h) v) (sym z) at
            | inr z ↦ row_kept m s p (a ∷ h) u v (out p lp (λ q. z (sym q))) (k.done p lp (omega arith) y)
          ];
          kept = λ p lp y. kept_trans s p t u v (k.kept p lp (elim y [ inl z ↦ inl (omega arith) | inr z ↦ inr z ]))
              (out p lp (λ q. elim y [ inl z ↦ omega arith | inr z ↦ x (q ∙ z) ]));
        }

    all_written : (n : ℕ) → n ≤ s.processors → Written m s h a n t (others_write_all m s a.processor a.block (place_of a.block (met h)) n t)
    all_written zero hi =
        record {
          alike = record { entries = refl; known = refl; marks = refl; counters = refl };
          known = refl;
          done = λ p lo x. absurd (omega arith);
          kept = λ p lo x. record { entries = refl; marks = refl; counters = refl };
        }
    all_written (suc n) hi =
        let u = others_write_all m s a.processor a.block (place_of a.block (met h)) n t in
        let ih : Written m s h a n t u = all_written n (omega arith) in
        elim (cases_eq (suc n) a.processor) [
          | inl e ↦ subst (Written m s h a (suc n) t) (sym (cond-true (eqb (suc n) a.processor) u _ (eq-eqb (suc n) a.processor e))) (skipped n u e ih)
          | inr e ↦ subst (Written m s h a (suc n) t) (sym (cond-false (eqb (suc n) a.processor) u _ (ne_eqb (suc n) a.processor e))) (written n u hi e ih)
        ]

  -- ---- an accepted access

  record Accepted (t u : Tables) : Type 0 where
    alike : Alike t u
    known : u.known ≡ set t.known (place_of a.block (met h)) a.block
    rows : (p : ℕ) → 1 ≤ p → p ≤ s.processors → RowAt m s p (a ∷ h) u

  module _ (t : Tables) (l : Long s t) (lo : 1 ≤ a.processor) (hi : a.processor ≤ s.processors)
      (rows : (p : ℕ) → 1 ≤ p → p ≤ s.processors → RowAt m s p h t)
      (fits : length (touched m a.block (stack (stretch s a.processor t))) ≤ s.entries) where
    own_done : RowAt m s a.processor (a ∷ h) (own_reference m s a.processor a.block (place_of a.block (met h)) t)
    own_done = own_at m s some most t l a.processor lo hi h (rows a.processor lo hi) a few width (own_is a.processor a refl) fits

    own_others : (q : ℕ) → 1 ≤ q → (a.processor ≡ q → ⊥) → KeptPart s q t (own_reference m s a.processor a.block (place_of a.block (met h)) t)
    own_others = own_kept m s some most t l a.processor lo hi h (rows a.processor lo hi) a few width (own_is a.processor a refl) fits

    own_same : Alike t (own_reference m s a.processor a.block (place_of a.block (met h)) t)
    own_same = own_alike m s some most t l a.processor lo hi h (rows a.processor lo hi) a few width (own_is a.processor a refl) fits

    rows_left : (p : ℕ) → 1 ≤ p → p ≤ s.processors → (p ≡ a.processor → ⊥) → RowAt m s p h (own_reference m s a.processor a.block (place_of a.block (met h)) t)
    rows_left p lp hp n = row_kept m s p h t _ (own_others p lp (λ e. n (sym e))) (rows p lp hp)

    accepted_write : writes a.operation ≡ true
        → Accepted t (others_write_all m s a.processor a.block (place_of a.block (met h)) s.processors (own_reference m s a.processor a.block (place_of a.block (met h)) t))
    accepted_write w =
        let o = own_reference m s a.processor a.block (place_of a.block (met h)) t in
        let u = others_write_all m s a.processor a.block (place_of a.block (met h)) s.processors o in
        let k : Written m s h a s.processors o u = all_written w o (long_alike s t o l own_same) rows_left s.processors (omega arith) in
        record {
          alike = alike_trans t o u own_same k.alike;
          known = k.known;
          rows = λ p lp hp. elim (cases_eq p a.processor) [
            | inl e ↦ row_kept m s p (a ∷ h) o u (k.kept p lp (inr e)) (subst (λ q. RowAt m s q (a ∷ h) o) (sym e) own_done)
            | inr e ↦ k.done p lp hp e
          ];
        }

    accepted_read : writes a.operation ≡ false → Accepted t (own_reference m s a.processor a.block (place_of a.block (met h)) t)
    accepted_read w =
        let o = own_reference m s a.processor a.block (place_of a.block (met h)) t in
        record {
          alike = own_same;
          known = refl;
          rows = λ p lp hp. elim (cases_eq p a.processor) [
            | inl e ↦ subst (λ q. RowAt m s q (a ∷ h) o) (sym e) own_done
            | inr e ↦ read_at m s some most o (long_alike s t o l own_same) p lp hp h (rows_left p lp hp e) a few width (own_not p a e) w
          ];
        }

    accepted : Accepted t (cond (writes a.operation) (others_write_all m s a.processor a.block (place_of a.block (met h)) s.processors (own_reference m s a.processor a.block (place_of a.block (met h)) t))
        (own_reference m s a.processor a.block (place_of a.block (met h)) t))
    accepted =
        elim (cases_Bool (writes a.operation)) [
          | inl w ↦ subst (Accepted t) (sym (cond-true (writes a.operation) _ _ w)) (accepted_write w)
          | inr w ↦ subst (Accepted t) (sym (cond-false (writes a.operation) _ _ w)) (accepted_read w)
        ]

-- ---- refusals

-- a call that is not refused passes each of its tests
pub first_none : {V : Type 0} (cases : Refusal → Case V) (x : Refusal) (order : List Refusal) (v : V) → first_given cases (x ∷ order) v ≡ None
    → ((cases x).given v ≡ false) × (first_given cases order v ≡ None)
first_none cases x order v e = go ((cases x).given v) e
  where
    go : (t : Bool) → cond t (Some x) (first_given cases order v) ≡ None → (t ≡ false) × (first_given cases order v ≡ None)
    go true f = let z : ◌≡◌ {A = ℕ} 0 1 = cc in absurd (omega arith)
    go false f = (refl, f)

pub record Allowed (m : Mapping) (s : Settings) (kept : Kept) (t : Tables) (r : Reference) : Type 0 where
  pub long : Long s t
  pub countable : kept.accepted ≡ 2 ^ 32 - 1 → ⊥
  pub lo : 1 ≤ r.processor
  pub hi : r.processor ≤ s.processors
  pub place_left : place_of (block_of s.shift r.address) (take kept.known t.known) ≡ kept.known → kept.known ≡ s.blocks → ⊥
  pub fits : length (touched m (block_of s.shift r.address) (stack (stretch s r.processor t))) ≤ s.entries

pub inside : (low high n : ℕ) → outside low high n ≡ false → (low ≤ n) × (n ≤ high)
inside low high n e = let k = or_parts (ltb n low) (ltb high n) e in (ltb-false n low k.0, ltb-false high n k.1)

pub not_both : (x y u v : ℕ) → (eqb x y && eqb u v) ≡ false → x ≡ y → u ≡ v → ⊥
not_both x y u v e f g = elim (and_cases (eqb x y) (eqb u v) e) [ inl k ↦ eqb-false x y k f | inr k ↦ eqb-false u v k g ]

pub allowed : (m : Mapping) (s : Settings) (kept : Kept) (t : Tables) (r : Reference) → reference_refusal m s kept t r ≡ None → Allowed m s kept t r
allowed m s kept t r e =
    let q = block_of s.shift r.address in
    let p = r.processor in
    let v : Values = record { map = m; settings = s; kept = kept; tables = t; processor = p; block = q; level = 0; ways = 0 } in
    let f₁ = first_none case_of ShortTable (References ∷ (Processor ∷ (Blocks ∷ (Entries ∷ [])))) v e in
    let f₂ = first_none case_of References (Processor ∷ (Blocks ∷ (Entries ∷ []))) v f₁.1 in
    let f₃ = first_none case_of Processor (Blocks ∷ (Entries ∷ [])) v f₂.1 in
    let f₄ = first_none case_of Blocks (Entries ∷ []) v f₃.1 in
    let f₅ = first_none case_of Entries [] v f₄.1 in
    record {
      long = long s t f₁.0;
      countable = eqb-false kept.accepted (2 ^ 32 - 1) f₂.0;
      lo = (inside 1 s.processors p f₃.0).0;
      hi = (inside 1 s.processors p f₃.0).1;
      place_left = not_both (place_of q (take kept.known t.known)) kept.known kept.known s.blocks f₄.0;
      fits = ltb-false s.entries (length (touched m q (stack (stretch s p t)))) f₅.0;
    }

-- ---- the step

new_count : (x n blocks : ℕ) → n ≤ blocks → (x ≡ n → n ≡ blocks → ⊥) → cond (eqb x n) (n + 1) n ≤ blocks
new_count x n blocks l f =
    elim (cases_eq x n) [
      | inl e ↦ rw (eq-eqb x n e) (elim (cases_lt n blocks) [ inl k ↦ omega arith | inr k ↦ absurd (f e (omega arith)) ])
      | inr e ↦ rw (ne_eqb x n e) l
    ]

pub referenced_stands : (m : Mapping) (s : Settings) → 1 ≤ s.levels → s.levels ≤ 32 → (h : History) (kept : Kept) (t : Tables) (r : Reference)
    → Stands m s h kept t → Allowed m s kept t r
    → Long s (accepted_reference m s kept t r).tables × Stands m s (access s r ∷ h) (accepted_reference m s kept t r).kept (accepted_reference m s kept t r).tables
referenced_stands m s some most h kept t r k ok =
    let q = block_of s.shift r.address in
    let p = r.processor in
    let a = access s r in
    let n = kept.known in
    let l = ok.long in
    let x : place_of q (take n t.known) ≡ place_of q (met h) = ap (place_of q) k.known in
    let few : length h < 2 ^ 32 - 1 = elim (cases_lt (length h) (2 ^ 32 - 1)) [ inl y ↦ y | inr y ↦ absurd (ok.countable (omega (arith, k.accepted, k.most))) ] in
    let width : place_of q (met h) < s.blocks =
    elim (cases_lt (place_of q (met h)) s.blocks) [
      | inl y ↦ y
      | inr y ↦ absurd (ok.place_left (omega (arith, place-within (λ x. same x q) (met h), k.count, k.few)) (omega (arith, place-within (λ x. same x q) (met h), k.count, k.few)))
    ] in
    let result : ℕ → Tables = λ y. applied m s r y t in
    let acc : Accepted m s some most h a few width t (result (place_of q (met h))) = accepted m s some most h a few width t l ok.lo ok.hi k.rows ok.fits in
    let u = result (place_of q (take n t.known)) in
    let back : result (place_of q (met h)) ≡ u = ap result (sym x) in
    let al : Alike t u = subst (Alike t) back acc.alike in
    let lu : Long s u = long_alike s t u l al in
    let n' = cond (eqb (place_of q (take n t.known)) n) (n + 1) n in
    let more : n' ≤ s.blocks = new_count (place_of q (take n t.known)) n s.blocks k.few ok.place_left in
    let size : length (take n t.known) ≡ n = length-take-le n t.known (omega (arith, k.few, l.known)) in
    let kn : u.known ≡ set t.known (place_of q (take n t.known)) q = subst (λ v. v.known ≡ set t.known (place_of q (take n t.known)) q) back (acc.known ∙ ap (λ y. set t.known y q) (sym x)) in
    let ks : take n' u.known ≡ met (a ∷ h) =
    ap (take n') kn
    ∙ known_step t.known n q (omega (arith, k.few, l.known)) (λ e. elim (cases_lt n s.blocks) [ inl y ↦ omega (arith, l.known) | inr y ↦ absurd (ok.place_left e (omega (arith, k.few))) ]) size
    ∙ ap (λ K. cond (among q K) K (K ++ (q ∷ []))) k.known in (
      lu,
      record {
        known = ks;
        count = sym (length-take-le n' u.known (omega (arith, lu.known))) ∙ ap length ks;
        few = more;
        accepted = omega (arith, k.accepted);
        most = omega arith;
        rows = subst (λ v. (y : ℕ) → 1 ≤ y → y ≤ s.processors → RowAt m s y (a ∷ h) v) back acc.rows;
      },
    )
