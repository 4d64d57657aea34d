-- The same on the tables: what keeps them in order.
use Rattle.std.proofs.Common.{◌≡◌, ℕ, ◌+◌, ◌*◌, ◌<◌, ◌≤◌, true, false, cond, eqb, List, length, get_or, take, drop, set, sym, ap, ◌∙◌, subst, subst₂, inl, inr, arith}
use Rattle.std.proofs.lemmas.List.{take-append-drop, drop-drop, length-take-le, get_or-take, get_or_default, set-get_or}
use Rattle.std.proofs.lemmas.Bool.{cases_eq, ltb-false, and_right}
use Rattle.places.specs.Parts.{part, put, start}
use Rattle.places.proofs.Portions.{part_in, apart, length_part, get_d_part, part_set, part_set-out, part_put, part_put-out}
use Rattle.trace.specs.Items.{same}
use Rattle.trace.specs.declared.Block.{Block}
use Rattle.trace.proofs.Blocks.{same_equal}
use Rattle.stack.specs.declared.Entry.{Entry}
use Rattle.stack.specs.Stack.{stack, touched, dropped, restack}
use Rattle.tables.specs.declared.Mark.{Mark}
use Rattle.tables.specs.declared.Mark.TheVariants.{Never}
use Rattle.tables.specs.declared.Event.TheVariants.{Own, OthersWrite}
use Rattle.tables.specs.declared.Settings.{Settings}
use Rattle.tables.specs.Tables.{Tables, stretch, mark_at, drops_from}
use Rattle.tables.specs.Calls.{place_of, marked}
use Rattle.theory.proofs.Known.{known_step}
use Rattle.theory.proofs.Places.{marks_of, out_of}
use Rattle.order.specs.Order.{times, is_held, held_mark, Orderly, InOrder}
use Rattle.order.specs.Keeps.{OwnKeeps, WriteKeeps, WriteSkips}
use Rattle.order.proofs.Times.{no_scores}
use Rattle.order.proofs.Lists.{grown, distinct_grown, held_grown, Left, own_orderly, write_orderly, write_absent}

-- a confirmed place is the first
pub confirmed : (s : Settings) (n : ℕ) (t : Tables) → InOrder s n t → (k : ℕ) (q d : Block) → k < n → n ≤ length t.known
    → same (get_or t.known k d) q ≡ true → place_of q (take n t.known) ≡ k
confirmed s n t o k q d l h e =
    o.distinct k q (omega (arith, length-take-le n t.known h))
    (get_or-take n t.known k q l ∙ get_or_default t.known k q d (omega arith) ∙ same_equal (get_or t.known k d) q e)

module _ (s : Settings) (t : Tables) (le : s.processors * s.entries ≤ length t.entries) (lm : s.processors * s.blocks ≤ length t.marks)
    (p : ℕ) (lo : 1 ≤ p) (hi : p ≤ s.processors) where
  in_entries : start s.entries p + s.entries ≤ length t.entries
  in_entries = omega (arith, part_in p s.processors s.entries lo hi)

  stretch_size : length (stretch s p t) ≡ s.entries
  stretch_size = length_part (start s.entries p) s.entries t.entries in_entries

  marks_size : length (marks_of s p t) ≡ s.blocks
  marks_size = length_part (start s.blocks p) s.blocks t.marks (omega (arith, part_in p s.processors s.blocks lo hi))

  -- a call puts one processor's stretch anew and sets one of its marks
  rows_step : (K : List Block) (k : ℕ) (X : List Entry) (v : Mark) → k < s.blocks → Left K (stretch s p t) X (set (marks_of s p t) k v)
      → ((r : ℕ) → 1 ≤ r → r ≤ s.processors → Orderly K (stretch s r t) (marks_of s r t))
      → (r : ℕ) → 1 ≤ r → r ≤ s.processors
      → Orderly K (part (start s.entries r) s.entries (put (start s.entries p) s.entries X t.entries)) (part (start s.blocks r) s.blocks (set t.marks (mark_at s p k) v))
  rows_step K k X v l x rest r lr hr =
      let size : length X ≡ s.entries = x.size ∙ stretch_size in
      let es : ℕ → List Entry = λ r. part (start s.entries r) s.entries (put (start s.entries p) s.entries X t.entries) in
      let ms : ℕ → List Mark = λ r. part (start s.blocks r) s.blocks (set t.marks (mark_at s p k) v) in
      elim (cases_eq p r) [
        | inl e ↦ subst (λ r. Orderly K (es r) (ms r)) e
            (subst₂ (Orderly K) (sym (part_put (start s.entries p) s.entries X t.entries size (omega (arith, in_entries))))
            (sym (part_set (start s.blocks p) s.blocks k t.marks v l)) x.orderly)
        | inr n ↦
            subst₂ (Orderly K) (sym (part_put-out (start s.entries p) (start s.entries r) s.entries X t.entries size in_entries (elim (apart p r s.entries lo lr n) [ inl z ↦ inr z | inr z ↦ inl z ])))
            (sym (part_set-out (start s.blocks r) s.blocks (mark_at s p k) t.marks v (out_of (start s.blocks p) (start s.blocks r) s.blocks (mark_at s p k) (apart p r s.blocks lo lr n) (omega arith) (omega arith))))
            (rest r lr hr)
      ]

pub own_in_order : OwnKeeps
own_in_order m s n t p q le lk lm lo hi o width room =
    let K = take n t.known in
    let k = place_of q K in
    let x = get_or t.marks (mark_at s p k) Never in
    let es = stretch s p t in
    let few = o.few in
    let ks : take (cond (eqb k n) (n + 1) n) (set t.known k q) ≡ grown q K = known_step t.known n q (omega arith) (λ e. omega arith) (length-take-le n t.known (omega arith)) in
    let x' : Left (grown q K) es (restack (touched m q (stack es)) es) (set (marks_of s p t) k (marked x Own)) =
    own_orderly q K es (marks_of s p t) (o.rows p lo hi) m x (omega (arith, marks_size s t le lm p lo hi))
    (omega (arith, stretch_size s t le lm p lo hi, ltb-false s.entries (length (touched m q (stack es))) room)) in
    record {
      few = grind arith;
      distinct = rw ks (distinct_grown q K o.distinct);
      rows = rw ks (rows_step s t le lm p lo hi (grown q K) k (restack (touched m q (stack es)) es) (marked x Own) width x'
          (λ r lr hr. record { cleared = (o.rows r lr hr).cleared; once = λ b. omega (arith, (o.rows r lr hr).once b, held_grown q b K (marks_of s r t)) }));
    }

pub write_in_order : WriteKeeps
write_in_order m s n t p q le lk lm lo hi o l =
    let K = take n t.known in
    let k = place_of q K in
    let es = stretch s p t in
    let v = marked (get_or t.marks (mark_at s p k) Never) OthersWrite in
    record {
      few = o.few;
      distinct = o.distinct;
      rows = rows_step s t le lm p lo hi K k (restack (dropped s.levels q (stack es)) es) v (omega (arith, o.few)) (write_orderly q K es (marks_of s p t) (o.rows p lo hi) s.levels v) o.rows;
    }

-- ---- a write that changes nothing

put_part : {A : Type 0} (a n : ℕ) (xs : List A) → put a n (part a n xs) xs ≡ xs
put_part a n xs =
    let d = drop-drop n a xs in
    let t = take-append-drop n (drop a xs) in
    let u = take-append-drop a xs in
    grind arith

pub write_skipped : WriteSkips
write_skipped m s n t p q le lk lm lo hi o l f =
    let K = take n t.known in
    let k = place_of q K in
    let es = stretch s p t in
    let M = marks_of s p t in
    let r = o.rows p lo hi in
    let g : is_held (get_or M k Never) ≡ false = ap is_held (get_d_part (start s.blocks p) s.blocks k t.marks Never (omega (arith, o.few))) ∙ f in
    let none : held_mark K M q ≡ false = and_right _ _ g in
    let once = r.once q in
    let z : times q (stack es) ≤ 0 = rw none at once in
    let a = ap (λ X. put (start s.entries p) s.entries X t.entries) (write_absent q K es M r s.levels z) ∙ put_part (start s.entries p) s.entries t.entries in
    let same : marked (get_or t.marks (mark_at s p k) Never) OthersWrite ≡ get_or t.marks (mark_at s p k) Never = grind arith in
    let b = ap (set t.marks (mark_at s p k)) same ∙ set-get_or t.marks (mark_at s p k) Never in
    let c = no_scores q m s (drops_from s p) (stack es) s.levels t.counters z in
    λ i. record { entries = a i; known = t.known; marks = b i; counters = c i }
