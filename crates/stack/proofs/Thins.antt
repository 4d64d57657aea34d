-- Markers that give up levels.
use Rattle.std.proofs.Common.{◌≡◌, ℕ, ◌+◌, ◌-◌, ◌<◌, ◌≤◌, Bool, true, false, not, List, [], ◌∷◌, ◌++◌, length, get_or, take, drop, set, sym, refl, ap, ◌∙◌, inl, inr, arith}
use Rattle.std.proofs.lemmas.List.{get_or-append_right, get_or-drop, take_more, length_push, append_assoc, append-nil, length-append, set_at, drop_more}
use Rattle.std.proofs.lemmas.Bool.{cases_Bool, not-true, not-false}
use Rattle.setmap.specs.Mapping.{Mapping, shared}
use Rattle.trace.specs.declared.Block.{Block as MemoryBlock}
use Rattle.levels.specs.declared.Levels.{Levels}
use Rattle.levels.specs.Levels.{below, both, either, less, is_none, no_level}
use Rattle.levels.proofs.Bits.{either_none, less_none}
use Rattle.stack.specs.declared.Entry.{Entry}
use Rattle.stack.specs.declared.Entry.TheVariants.{Empty, Block, Marker}
use Rattle.stack.specs.Stack.{marker, gives}
use Rattle.stack.specs.Walk.{gathered, thinned}
use Rattle.stack.specs.Touch.{over}
use Rattle.stack.proofs.Walks.{gathered_append, thinned_append, stays_le}

-- what a marker gives up, by the steps of its reading
pub giving_is : (m : Mapping) (q : MemoryBlock) (g : Levels) (b : MemoryBlock) (v counting giving : Levels) → giving ≡ less counting g → counting ≡ both v (below (shared m q.number b.number)) → giving ≡ gives m q g b v
unfolding gives
giving_is m q g b v counting giving eg ec = eg ∙ ap (λ x. less x g) ec

-- the loop: `to` of the first n entries have stayed
abbrev pub Thin : Mapping → MemoryBlock → List Entry → (at : ℕ) → List Entry → ℕ → Levels → Type 0
Thin m q E at ys to g =
    (ys ≡ over (thinned m q no_level (take at E)) E)
    × (to ≡ length (thinned m q no_level (take at E)))
    × (g ≡ gathered m q no_level (take at E))
    × (to ≤ at)

module _ (m : Mapping) (q : MemoryBlock) (E : List Entry) (at : ℕ) (h : at < length E) where
  pub thin_read : (ys : List Entry) (to : ℕ) (g : Levels) → Thin m q E at ys to g → get_or ys at Empty ≡ get_or E at Empty
  thin_read ys to g t =
      let T = thinned m q no_level (take at E) in
      let l : length T ≤ at = omega (arith, t.1, t.3) in
      let k : length T + (at - length T) ≡ at = omega arith in
      ap (λ xs. get_or xs at Empty) t.0 ∙ get_or-append_right T (drop (length T) E) (length T) at Empty refl l ∙ get_or-drop (length T) E (at - length T) Empty ∙ ap (λ i. get_or E i Empty) k

  module _ (ys ys' : List Entry) (to to' : ℕ) (g g' : Levels) (e : Entry) (t : Thin m q E at ys to g) (is : get_or E at Empty ≡ e) (eg : g' ≡ gathered m q g (e ∷ [])) where
    more : take (at + 1) E ≡ take at E ++ e ∷ []
    more = take_more E at Empty h ∙ ap (λ x. take at E ++ x ∷ []) is

    given_more : g' ≡ gathered m q no_level (take (at + 1) E)
    given_more = eg ∙ ap (λ x. gathered m q x (e ∷ [])) t.2 ∙ sym (gathered_append m q no_level (take at E) (e ∷ [])) ∙ ap (gathered m q no_level) (sym more)

    thinned_more : (xs : List Entry) → thinned m q g (e ∷ []) ≡ xs → thinned m q no_level (take (at + 1) E) ≡ thinned m q no_level (take at E) ++ xs
    thinned_more xs k = ap (thinned m q no_level) more ∙ thinned_append m q no_level (take at E) (e ∷ []) ∙ ap (λ x. thinned m q no_level (take at E) ++ thinned m q x (e ∷ [])) (sym t.2) ∙ ap (λ x. thinned m q no_level (take at E) ++ x) k

    pub thin_keeps : (e' : Entry) → thinned m q g (e ∷ []) ≡ e' ∷ [] → ys' ≡ set ys to e' → to' ≡ to + 1 → Thin m q E (at + 1) ys' to' g'
    thin_keeps e' k ey et =
        let T = thinned m q no_level (take at E) in
        let n : thinned m q no_level (take (at + 1) E) ≡ T ++ e' ∷ [] = thinned_more (e' ∷ []) k in
        let l : to < length E = omega (arith, t.3) in
        let d : over T E ≡ T ++ (get_or E to Empty ∷ drop (to + 1) E) = ap (λ i. T ++ drop i E) (sym t.1) ∙ ap (λ xs. T ++ xs) (drop_more E to Empty l) in
        let s : set (T ++ (get_or E to Empty ∷ drop (to + 1) E)) to e' ≡ T ++ (e' ∷ drop (to + 1) E) = set_at T (get_or E to Empty) (drop (to + 1) E) e' to (sym t.1) in
        let len : to + 1 ≡ length (T ++ e' ∷ []) = ap (λ i. i + 1) t.1 ∙ sym (length_push T e') in
        let z : set ys to e' ≡ over (T ++ e' ∷ []) E = ap (λ xs. set xs to e') (t.0 ∙ d) ∙ s ∙ sym (append_assoc T (e' ∷ []) (drop (to + 1) E)) ∙ ap (λ i. (T ++ e' ∷ []) ++ drop i E) len in
        (ey ∙ z ∙ ap (λ xs. over xs E) (sym n), et ∙ len ∙ ap length (sym n), given_more, omega (arith, t.3))

    pub thin_skips : thinned m q g (e ∷ []) ≡ [] → ys' ≡ ys → to' ≡ to → Thin m q E (at + 1) ys' to' g'
    thin_skips k ey et =
        let n : thinned m q no_level (take (at + 1) E) ≡ thinned m q no_level (take at E) = thinned_more [] k ∙ append-nil (thinned m q no_level (take at E)) in
        (ey ∙ t.0 ∙ ap (λ xs. over xs E) (sym n), et ∙ t.1 ∙ ap length (sym n), given_more, omega (arith, t.3))

module _ (m : Mapping) (q : MemoryBlock) (g : Levels) where
  pub marker_keeps : (b : MemoryBlock) (v giving rest : Levels) (t : Bool) → giving ≡ gives m q g b v → rest ≡ less v giving → t ≡ not (is_none rest) → t ≡ true → thinned m q g (Marker b v ∷ []) ≡ Marker b rest ∷ []
  marker_keeps b v giving rest t eg er et z =
      let n : is_none rest ≡ false = not-true _ (sym et ∙ z) in
      ap (λ x. marker b x ++ []) (ap (less v) (sym eg) ∙ sym er) ∙ rw n

  pub marker_goes : (b : MemoryBlock) (v giving rest : Levels) (t : Bool) → giving ≡ gives m q g b v → rest ≡ less v giving → t ≡ not (is_none rest) → t ≡ false → thinned m q g (Marker b v ∷ []) ≡ []
  marker_goes b v giving rest t eg er et z =
      let n : is_none rest ≡ true = not-false _ (sym et ∙ z) in
      ap (λ x. marker b x ++ []) (ap (less v) (sym eg) ∙ sym er) ∙ rw n

  pub other_keeps : (e : Entry) → ((b : MemoryBlock) (v : Levels) → e ≡ Marker b v → ⊥) → (thinned m q g (e ∷ []) ≡ e ∷ []) × (g ≡ gathered m q g (e ∷ []))
  other_keeps Empty n = (refl, refl)
  other_keeps (Block b) n = (refl, refl)
  other_keeps (Marker b v) n = absurd (n b v refl)

-- ---- nothing to thin

pub marker_le : (b : MemoryBlock) (v : Levels) → length (marker b v) ≤ 1
marker_le b v = elim (cases_Bool (is_none v)) [ inl e ↦ rw e (omega arith) | inr e ↦ rw e (omega arith) ]

marker-whole : (b : MemoryBlock) (v : Levels) → 1 ≤ length (marker b v) → marker b v ≡ Marker b v ∷ []
marker-whole b v =
    elim (cases_Bool (is_none v)) [
      | inl e ↦ rw e (λ h. absurd (omega arith))
      | inr e ↦ rw e (λ h. refl)
    ]

module _ (m : Mapping) (q : MemoryBlock) where
  none_before : (g : Levels) (xs : List Entry) → gathered m q g xs ≡ no_level → g ≡ no_level
  none_before g [] e = e
  none_before g (Empty ∷ xs) e = none_before g xs e
  none_before g (Block b ∷ xs) e = none_before g xs e
  none_before g (Marker b v ∷ xs) e = (either_none g (gives m q g b v) (none_before (either g (gives m q g b v)) xs e)).0

  -- a list that keeps its length and gives up no level is kept
  pub thinned_same : (g : Levels) (xs : List Entry) → gathered m q g xs ≡ no_level → length xs ≤ length (thinned m q g xs) → thinned m q g xs ≡ xs
  thinned_same g [] e l = refl
  thinned_same g (Empty ∷ xs) e l = ap (λ ys. Empty ∷ ys) (thinned_same g xs e (omega arith))
  thinned_same g (Block b ∷ xs) e l = ap (λ ys. Block b ∷ ys) (thinned_same g xs e (omega arith))
  thinned_same g (Marker b v ∷ xs) e l =
      let x = gives m q g b v in
      let g' = either g x in
      let z : x ≡ no_level = (either_none g x (none_before g' xs e)).1 in
      let r : less v x ≡ v = ap (less v) z ∙ less_none v in
      let k : thinned m q g (Marker b v ∷ xs) ≡ marker b v ++ thinned m q g' xs = ap (λ y. marker b y ++ thinned m q g' xs) r in
      let n : length (thinned m q g (Marker b v ∷ xs)) ≡ length (marker b v) + length (thinned m q g' xs) = ap length k ∙ length-append (marker b v) (thinned m q g' xs) in
      let s = stays_le m q g' xs in
      let o = marker_le b v in
      k ∙ ap (λ ys. ys ++ thinned m q g' xs) (marker-whole b v (omega arith)) ∙ ap (λ ys. Marker b v ∷ ys) (thinned_same g' xs e (omega arith))
