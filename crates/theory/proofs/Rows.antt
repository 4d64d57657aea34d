-- One processor on its own lists: its stretch, its marks and its row of counters, and what an access makes of them.
use Rattle.std.proofs.Common.{◌≡◌, ℕ, zero, suc, ◌+◌, ◌-◌, ◌*◌, ◌^◌, ◌<◌, ◌≤◌, true, false, cond, List, [], ◌∷◌, ◌++◌, length, get_or, drop, set, replicate, sym, refl, ap, ◌∙◌, subst, subst₂, arith, length-append}
use lib.ListN.{length-replicate, replicate-append-replicate}
use lib.Seq.{drop-append-add}
use Rattle.std.proofs.lemmas.List.{drop-replicate, get_or-set_same, get_or-set_other}
use Rattle.std.proofs.lemmas.Bool.{cond-true, cond-false}
use Rattle.setmap.specs.Mapping.{Mapping}
use Rattle.trace.specs.Items.{writes}
use Rattle.trace.specs.declared.Block.{Block as MemoryBlock}
use Rattle.caches.specs.Caches.{Access, History, own, Past, never, held, lost, past}
use Rattle.stack.specs.declared.Entry.{Entry}
use Rattle.stack.specs.declared.Entry.TheVariants.{Empty, Block, Marker}
use Rattle.levels.specs.Levels.{below}
use Rattle.stack.specs.Stack.{stack, touched, dropped, restack, is_block}
use Rattle.tables.specs.declared.Mark.{Mark}
use Rattle.tables.specs.declared.Mark.TheVariants.{Never, Held, Lost}
use Rattle.tables.specs.declared.Settings.{Settings}
use Rattle.tables.specs.Tables.{row}
use Rattle.tables.specs.Calls.{place_of, scores, marked}
use Rattle.places.specs.Parts.{more}
use Rattle.tables.specs.declared.Event.TheVariants.{Own, OthersWrite}
use Rattle.stack_theory.specs.Stacks.{stack_of, met}
use Rattle.stack_theory.proofs.Bound.{Sound, sound}
use Rattle.trace.proofs.Blocks.{same_refl}
use Rattle.theory.proofs.Known.{mark_of, Marks, mark_is, marks_step}
use Rattle.theory.proofs.Counts.{Counts, past_more, counts_own, counts_write, counts_read}

-- a stack in a stretch of n places
abbrev pub filled : ℕ → List Entry → List Entry
filled n S = S ++ replicate (n - length S) Empty

pub stack_empty : (k : ℕ) → stack (replicate k Empty) ≡ []
stack_empty zero = refl
stack_empty (suc k) = refl

stack_before : (n : ℕ) (S : List Entry) (k : ℕ) → Sound n S → stack (S ++ replicate k Empty) ≡ S
stack_before n [] k a = stack_empty k
stack_before n (Empty ∷ S) k a = absurd a
stack_before n (Block b ∷ S) k a = ap (λ T. Block b ∷ T) (stack_before n S k a)
stack_before n (Marker b v ∷ S) k a = ap (λ T. Marker b v ∷ T) (stack_before n S k a.2)

pub length-filled : (n : ℕ) (S : List Entry) → length S ≤ n → length (filled n S) ≡ n
length-filled n S l = omega (arith, length-append S (replicate (n - length S) Empty), length-replicate (n - length S) Empty)

rest : (n : ℕ) (S : List Entry) (b : ℕ) → length S ≤ n → b ≤ n
    → replicate (length S - b) Empty ++ drop (b + (length S - b)) (filled n S) ≡ replicate (n - b) Empty
rest n S b l k =
    let a = length S in
    let e : b + (a - b) ≡ a + (b - a) = omega arith in
    let f : (a - b) + ((n - a) - (b - a)) ≡ n - b = omega arith in
    ap (λ x. replicate (a - b) Empty ++ drop x (filled n S)) e
    ∙ ap (λ x. replicate (a - b) Empty ++ x) (drop-append-add S (replicate (n - a) Empty) (b - a) ∙ drop-replicate (b - a) (n - a) Empty)
    ∙ replicate-append-replicate (a - b) ((n - a) - (b - a)) Empty
    ∙ ap (λ x. replicate x Empty) f

pub restack-filled : (n : ℕ) (S T E : List Entry) → E ≡ filled n S → stack E ≡ S → length S ≤ n → length T ≤ n → restack T E ≡ filled n T
restack-filled n S T E e f l k =
    ap (λ Z. T ++ (replicate (length Z - length T) Empty ++ drop (length T + (length Z - length T)) E)) f
    ∙ ap (λ X. T ++ (replicate (length S - length T) Empty ++ drop (length T + (length S - length T)) X)) e
    ∙ ap (λ X. T ++ X) (rest n S (length T) l k)

pub length-dropped : (levels : ℕ) (q : MemoryBlock) (S : List Entry) → length (dropped levels q S) ≡ length S
length-dropped levels q [] = refl
length-dropped levels q (e ∷ S) = let ih = length-dropped levels q S in elim (is_block q e) as (λ t. length (cond t (Marker q (below levels) ∷ S) (e ∷ dropped levels q S)) ≡ suc (length S)) [ true ↦ refl | false ↦ ap suc ih ]

pub record Row (m : Mapping) (s : Settings) (p : ℕ) (h : History) (E : List Entry) (M : List Mark) (C : List ℕ) : Type 0 where
  pub entries : E ≡ filled s.entries (stack_of m s.levels p h)
  pub room : length (stack_of m s.levels p h) ≤ s.entries
  pub marks : Marks p h M
  pub counts : Counts m s p h C

past_own : (p : ℕ) (a : Access) (h : History) → own p a ≡ true → past p a.block (a ∷ h) ≡ held
past_own p a h e = rw (same_refl a.block, e)

past_write : (p : ℕ) (a : Access) (h : History) → own p a ≡ false → writes a.operation ≡ true
    → past p a.block (a ∷ h) ≡ elim (past p a.block h) [ never ↦ never | held ↦ lost | lost ↦ lost ]
past_write p a h e w = rw (same_refl a.block, e, w)

past_read : (p : ℕ) (a : Access) (h : History) → own p a ≡ false → writes a.operation ≡ false → past p a.block (a ∷ h) ≡ past p a.block h
past_read p a h e w = rw (same_refl a.block, e, w)

mark_own : (k : Mark) → marked k Own ≡ Held
mark_own Never = refl
mark_own Held = refl
mark_own Lost = refl

mark_other : (x : Past) → marked (mark_of x) OthersWrite ≡ mark_of (elim x [ never ↦ never | held ↦ lost | lost ↦ lost ])
mark_other never = refl
mark_other held = refl
mark_other lost = refl

module _ (m : Mapping) (s : Settings) (some : 1 ≤ s.levels) (most : s.levels ≤ 32) (p : ℕ) (h : History) (E : List Entry) (M : List Mark) (C : List ℕ)
    (r : Row m s p h E M C) where
  -- the stack is what the stretch begins with
  pub stack_is : stack E ≡ stack_of m s.levels p h
  stack_is = ap stack r.entries ∙ stack_before s.levels (stack_of m s.levels p h) (s.entries - length (stack_of m s.levels p h)) (sound s.levels some most m p h)

  module _ (a : Access) (size : length C ≡ row s) (few : length h < 2 ^ 32 - 1) (width : place_of a.block (met h) < length M) where
    pub row_own : own p a ≡ true → length (touched m a.block (stack E)) ≤ s.entries
        → Row m s p (a ∷ h) (restack (touched m a.block (stack E)) E)
        (set M (place_of a.block (met h)) (marked (get_or M (place_of a.block (met h)) Never) Own))
        (scores m s 3 a.block (stack E) s.levels (past_more (get_or M (place_of a.block (met h)) Never) (more 0 C)))
    row_own e fits =
        let b = a.block in
        let S = stack_of m s.levels p h in
        let k = place_of b (met h) in
        let v = marked (get_or M k Never) Own in
        let st : stack_of m s.levels p (a ∷ h) ≡ touched m b (stack E) = cond-true (own p a) _ _ e ∙ ap (touched m b) (sym stack_is) in
        record {
          entries = restack-filled s.entries S (touched m b (stack E)) E r.entries stack_is r.room fits ∙ ap (filled s.entries) (sym st);
          room = subst (λ T. length T ≤ s.entries) (sym st) fits;
          marks = marks_step p a h M (set M k v) r.marks
              (get_or-set_same M k v Never width ∙ mark_own (get_or M k Never) ∙ ap mark_of (sym (past_own p a h e)))
              (λ j n. get_or-set_other M k j v Never n);
          counts = subst₂ (λ X y. Counts m s p (a ∷ h) (scores m s 3 b X s.levels (past_more y (more 0 C)))) (sym stack_is) (sym (mark_is p h M r.marks b))
              (counts_own m s p a h C r.counts size few e);
        }

    pub row_write : own p a ≡ false → writes a.operation ≡ true
        → Row m s p (a ∷ h) (restack (dropped s.levels a.block (stack E)) E)
        (set M (place_of a.block (met h)) (marked (get_or M (place_of a.block (met h)) Never) OthersWrite))
        (scores m s (3 + s.levels * s.ways) a.block (stack E) s.levels C)
    row_write e w =
        let b = a.block in
        let S = stack_of m s.levels p h in
        let k = place_of b (met h) in
        let v = marked (get_or M k Never) OthersWrite in
        let st : stack_of m s.levels p (a ∷ h) ≡ dropped s.levels b (stack E) = cond-false (own p a) _ _ e ∙ cond-true (writes a.operation) _ _ w ∙ ap (dropped s.levels b) (sym stack_is) in
        let fits : length (dropped s.levels b (stack E)) ≤ s.entries = omega (arith, length-dropped s.levels b (stack E), ap length stack_is, r.room) in
        record {
          entries = restack-filled s.entries S (dropped s.levels b (stack E)) E r.entries stack_is r.room fits ∙ ap (filled s.entries) (sym st);
          room = subst (λ T. length T ≤ s.entries) (sym st) fits;
          marks = marks_step p a h M (set M k v) r.marks
              (get_or-set_same M k v Never width ∙ ap (λ y. marked y OthersWrite) (mark_is p h M r.marks b) ∙ mark_other (past p b h) ∙ ap mark_of (sym (past_write p a h e w)))
              (λ j n. get_or-set_other M k j v Never n);
          counts = subst (λ X. Counts m s p (a ∷ h) (scores m s (3 + s.levels * s.ways) b X s.levels C)) (sym stack_is)
              (counts_write m s p a h C r.counts size few e w);
        }

    pub row_read : own p a ≡ false → writes a.operation ≡ false → Row m s p (a ∷ h) E M C
    row_read e w =
        let b = a.block in
        let S = stack_of m s.levels p h in
        let st : stack_of m s.levels p (a ∷ h) ≡ S = cond-false (own p a) _ _ e ∙ cond-false (writes a.operation) _ _ w in
        record {
          entries = r.entries ∙ ap (filled s.entries) (sym st);
          room = subst (λ T. length T ≤ s.entries) (sym st) r.room;
          marks = marks_step p a h M M r.marks (mark_is p h M r.marks b ∙ ap mark_of (sym (past_read p a h e w))) (λ j n. refl);
          counts = counts_read m s p a h C r.counts size few e w;
        }
