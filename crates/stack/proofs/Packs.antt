-- What stands under the new top.
use Rattle.std.proofs.Common.{◌≡◌, ℕ, suc, ◌+◌, ◌-◌, ◌<◌, ◌≤◌, max, Bool, true, false, cond, not, ◌&&◌, ltb, leb, List, [], ◌∷◌, ◌++◌, length, get_or, take, drop, set, replicate, sym, refl, ap, ◌∙◌, inl, inr, add-one, arith}
use Rattle.std.specs.Result.{is_ok}
use Rattle.std.proofs.lemmas.Slice.{drop-append-drop}
use Rattle.std.proofs.lemmas.List.{length_push, append_assoc, append-nil, length-append, set_at, drop_more, take_at, drop-drop, length-take, take-append-drop}
use Rattle.std.proofs.lemmas.Bool.{and_parts, cases_lt, cases_Bool, true≢false, false≢true, le-leb, lt-leb, lt-ltb, le-ltb}
use Rattle.setmap.specs.Mapping.{Mapping}
use Rattle.trace.specs.Items.{same}
use Rattle.trace.specs.declared.Block.{Block as MemoryBlock}
use Rattle.levels.specs.declared.Levels.{Levels}
use Rattle.levels.specs.Levels.{is_none, no_level}
use Rattle.stack.specs.declared.Entry.{Entry}
use Rattle.stack.specs.declared.Entry.TheVariants.{Empty, Block, Marker}
use Rattle.stack.specs.declared.walk.Walk.{Walk}
use Rattle.stack.specs.Stack.{stack, marker, touched, restack}
use Rattle.stack.specs.Walk.{stop, above, begins, stands_in, place_of, past_stop, gathered, thinned, Walked}
use Rattle.stack.specs.Touch.{over, raised, packed, resumes}
use Rattle.stack.proofs.Ends.{tall_le, begins-within}
use Rattle.stack.proofs.Thins.{marker_le, thinned_same}
use Rattle.stack.proofs.Stops.{ok_is, place_is, past_is}
use Rattle.stack.proofs.Walks.{stays_le, stop_le, left_split}

module _ (m : Mapping) (q : MemoryBlock) where
  -- how tall a stack is, by where a walk stops
  pub tall_split : (es : List Entry) → length (stack es) ≡ stop q es + length (stack (drop (stop q es) es))
  tall_split [] = refl
  tall_split (Empty ∷ es) = refl
  tall_split (Block b ∷ es) = elim (cases_Bool (same b q)) [ inl e ↦ rw e (omega arith) | inr e ↦ rw e (omega (arith, tall_split es)) ]
  tall_split (Marker b v ∷ es) = omega (arith, tall_split es)

  none_under : (es : List Entry) → stands_in q es ≡ false → stack (drop (stop q es) es) ≡ []
  none_under [] t = refl
  none_under (Empty ∷ es) t = refl
  none_under (Block b ∷ es) t =
      elim (cases_Bool (same b q)) [
        | inl e ↦ (let z : true ≡ false = rw e at t in absurd (true≢false z))
        | inr e ↦ (let z : stands_in q es ≡ false = rw e at t in rw e (none_under es z))
      ]
  none_under (Marker b v ∷ es) t = none_under es t

  under_block : (xs : List Entry) → begins xs ≡ true → length (stack xs) ≡ 1 + length (stack (drop 1 xs))
  under_block [] t = absurd (false≢true t)
  under_block (Empty ∷ xs) t = absurd (false≢true t)
  under_block (Block b ∷ xs) t = omega arith
  under_block (Marker b v ∷ xs) t = absurd (false≢true t)

  module _ (E : List Entry) where
    abbrev P : List Entry
    P = packed m q E

    abbrev S : List Entry
    S = stack (drop (resumes q E) E)

    abbrev T : List Entry
    T = thinned m q no_level (above q E)

    abbrev G : Levels
    G = gathered m q no_level (above q E)

    pub tall_is : length (stack E) ≡ resumes q E + length S
    tall_is =
        elim (cases_Bool (stands_in q E)) [
          | inl e ↦
              (let u = under_block (drop (stop q E) E) e in
              let d : drop 1 (drop (stop q E) E) ≡ drop (stop q E + 1) E = drop-drop 1 (stop q E) E in
              let w = ap (λ xs. length (stack xs)) d in
              rw e (omega (arith, tall_split E)))
          | inr e ↦ rw e (tall_split E)
        ]

    pub touched_is : touched m q (stack E) ≡ Block q ∷ (P ++ S)
    touched_is =
        ap (λ xs. Block q ∷ xs) (left_split m q no_level E ∙ elim (cases_Bool (stands_in q E)) [
          | inl e ↦ rw e (ap (λ i. T ++ (marker q G ++ stack (drop i E))) (sym (add-one (stop q E))) ∙ sym (append_assoc T (marker q G) (stack (drop (stop q E + 1) E))))
          | inr e ↦ rw (e, none_under E e) (sym (append-nil (T ++ [])))
        ])

    pub stays_within : length T ≤ stop q E
    stays_within = let l = length-take (stop q E) E in omega (arith, stays_le m q no_level (above q E), stop_le q E)

    pub packed_le : length P ≤ resumes q E
    packed_le =
        let s = stays_within in
        let o = marker_le q G in
        elim (cases_Bool (stands_in q E)) [
          | inl e ↦ rw (e, length-append) (omega arith)
          | inr e ↦ rw (e, length-append) (omega arith)
        ]

    pub resumes_le : resumes q E ≤ length E
    resumes_le = omega (arith, tall_is, tall_le E)

    pub touched-length : length (touched m q (stack E)) ≡ length P + 1 + length S
    touched-length = ap length touched_is ∙ ap suc (length-append P S) ∙ omega arith

    -- the new top over what was packed is the stack after the reference
    pub raised_is : (es : List Entry) (to rest : ℕ) → es ≡ over P E → to ≡ length P → rest ≡ resumes q E → raised q to rest es ≡ restack (touched m q (stack E)) E
    raised_is es to rest ee et er =
        let r = resumes q E in
        let n = length S in
        let le : length P ≤ r = packed_le in
        let hd : take to es ≡ P = ap (take to) ee ∙ take_at P (drop (length P) E) to (sym et) in
        let dr : (j : ℕ) → r ≤ j → drop j es ≡ drop j E = λ j k. ap (drop j) ee ∙ drop-append-drop (length P) E P j (omega arith) refl in
        let st : stack (drop rest es) ≡ S = ap (λ i. stack (drop i es)) er ∙ ap stack (dr r (omega arith)) in
        let ls = ap length st in
        let tl = touched-length in
        let ti = tall_is in
        let a : rest - (to + 1) ≡ length (stack E) - length (touched m q (stack E)) = omega arith in
        let b : max (to + 1) rest + length (stack (drop rest es)) ≡ length (touched m q (stack E)) + (length (stack E) - length (touched m q (stack E))) = omega arith in
        let d : drop (max (to + 1) rest + length (stack (drop rest es))) es ≡ drop (length (touched m q (stack E)) + (length (stack E) - length (touched m q (stack E)))) E = dr _ (omega arith) ∙ ap (λ i. drop i E) b in
        ap (λ xs. Block q ∷ (xs ++ (stack (drop rest es) ++ (replicate (rest - (to + 1)) Empty ++ drop (max (to + 1) rest + length (stack (drop rest es))) es)))) hd
        ∙ ap (λ xs. Block q ∷ (P ++ (xs ++ (replicate (rest - (to + 1)) Empty ++ drop (max (to + 1) rest + length (stack (drop rest es))) es)))) st
        ∙ ap (λ xs. Block q ∷ (P ++ (S ++ (replicate (rest - (to + 1)) Empty ++ xs)))) d
        ∙ ap (λ i. Block q ∷ (P ++ (S ++ (replicate i Empty ++ drop (length (touched m q (stack E)) + (length (stack E) - length (touched m q (stack E)))) E)))) a
        ∙ ap (λ xs. Block q ∷ xs) (sym (append_assoc P S (replicate (length (stack E) - length (touched m q (stack E))) Empty ++ drop (length (touched m q (stack E)) + (length (stack E) - length (touched m q (stack E)))) E)))
        ∙ ap (λ s. s ++ (replicate (length (stack E) - length (touched m q (stack E))) Empty ++ drop (length (touched m q (stack E)) + (length (stack E) - length (touched m q (stack E)))) E)) (sym touched_is)

    -- nothing to thin
    pub over_same : G ≡ no_level → stop q E ≤ length T → E ≡ over T E
    over_same g l =
        let n = length-take (stop q E) E in
        let s = stop_le q E in
        let t : T ≡ above q E = thinned_same m q no_level (above q E) g (omega arith) in
        let k : length T ≡ stop q E = ap length t ∙ omega arith in
        sym (take-append-drop (stop q E) E) ∙ ap (λ xs. xs ++ drop (stop q E) E) (sym t) ∙ ap (λ i. T ++ drop i E) (sym k)

    -- the marker that q leaves, if any
    packed_by : (t : Bool) → t ≡ (stands_in q E && not (is_none G)) → P ≡ T ++ cond t (Marker q G ∷ []) []
    packed_by t e =
        elim (cases_Bool (stands_in q E)) [
          | inl f ↦ elim (cases_Bool (is_none G)) [ inl n ↦ rw (e, f, n) | inr n ↦ rw (e, f, n) ]
          | inr f ↦ rw (e, f)
        ]

    module _ (w : Walk) (k : Walked m q E w) where
      leaves : (is_ok w.stop && not (is_none w.given)) ≡ (stands_in q E && not (is_none G))
      leaves = rw (k.stop_is, ok_is q E, k.given_is)

      pub packed_len : w.stays + cond (is_ok w.stop && not (is_none w.given)) 1 0 ≡ length P
      packed_len =
          let p = ap length (packed_by _ leaves) ∙ length-append T (cond (is_ok w.stop && not (is_none w.given)) (Marker q G ∷ []) []) in
          elim (cases_Bool (is_ok w.stop && not (is_none w.given))) [
            | inl e ↦ rw e (omega (arith, rw e at p, k.stays_is))
            | inr e ↦ rw e (omega (arith, rw e at p, k.stays_is))
          ]

      pub rest_start : past_stop w.stop ≡ resumes q E
      rest_start = ap past_stop k.stop_is ∙ past_is q E

      pub stopped_place : place_of w.stop ≡ stop q E
      stopped_place = ap place_of k.stop_is ∙ place_is q E

      pub stays_place : (w.stays ≤ place_of w.stop) × (place_of w.stop ≤ length E)
      stays_place = (omega (arith, k.stays_is, stays_within, stopped_place), omega (arith, stop_le q E, stopped_place))

      module _ (t : Bool) (es : List Entry) (e : t ≡ (is_ok w.stop && not (is_none w.given))) (o : es ≡ over T E) where
        pub marker-within : t ≡ true → w.stays < length E
        marker-within z =
            let f : stands_in q E ≡ true = (and_parts (stands_in q E) (not (is_none G)) (sym leaves ∙ sym e ∙ z)).0 in
            omega (arith, begins-within (stop q E) E f, k.stays_is, stays_within)

        pub over-marker : t ≡ true → set es w.stays (Marker q w.given) ≡ over P E
        over-marker z =
            let n = w.stays in
            let p : P ≡ T ++ Marker q G ∷ [] = packed_by true (sym z ∙ e ∙ leaves) in
            let l : n < length E = marker-within z in
            let d : over T E ≡ T ++ (get_or E n Empty ∷ drop (n + 1) E) = ap (λ i. T ++ drop i E) (sym k.stays_is) ∙ ap (λ xs. T ++ xs) (drop_more E n Empty l) in
            let s : set (T ++ (get_or E n Empty ∷ drop (n + 1) E)) n (Marker q G) ≡ T ++ (Marker q G ∷ drop (n + 1) E) = set_at T (get_or E n Empty) (drop (n + 1) E) (Marker q G) n (sym k.stays_is) in
            let len : n + 1 ≡ length (T ++ Marker q G ∷ []) = ap (λ i. i + 1) k.stays_is ∙ sym (length_push T (Marker q G)) in
            ap (λ xs. set xs n (Marker q w.given)) (o ∙ d)
            ∙ ap (λ x. set (T ++ (get_or E n Empty ∷ drop (n + 1) E)) n (Marker q x)) k.given_is
            ∙ s
            ∙ sym (append_assoc T (Marker q G ∷ []) (drop (n + 1) E))
            ∙ ap (λ i. (T ++ Marker q G ∷ []) ++ drop i E) len
            ∙ ap (λ xs. over xs E) (sym p)

        pub over_none : t ≡ false → es ≡ over P E
        over_none z =
            let p : P ≡ T = packed_by false (sym z ∙ e ∙ leaves) ∙ append-nil T in
            o ∙ ap (λ xs. over xs E) (sym p)

    pub raise_fits : (es : List Entry) (to rest : ℕ) → es ≡ over P E → length es ≡ length E → to ≡ length P → rest ≡ resumes q E → length (touched m q (stack E)) ≤ length E → (to ≤ rest) × ((rest ≤ length es) × (to + 1 + length (stack (drop rest es)) ≤ length es))
    raise_fits es to rest ee el et er f =
        let le : length P ≤ resumes q E = packed_le in
        let lr = resumes_le in
        let tl = touched-length in
        let dr : drop rest es ≡ drop (resumes q E) E = ap (λ i. drop i es) er ∙ ap (drop (resumes q E)) ee ∙ drop-append-drop (length P) E P (resumes q E) le refl in
        let ls : length (stack (drop rest es)) ≡ length S = ap (λ xs. length (stack xs)) dr in
        (omega arith, (omega arith, omega arith))

    pub fits_low : length P < resumes q E → true ≡ leb (length (touched m q (stack E))) (length E)
    fits_low l = sym (le-leb _ _ (omega (arith, touched-length, tall_is, tall_le E)))

    pub fits_full : (end : ℕ) → length P ≡ resumes q E → end ≡ resumes q E + length S → ltb end (length E) ≡ leb (length (touched m q (stack E))) (length E)
    fits_full end e f =
        let tl = touched-length in
        elim (cases_lt end (length E)) [
          | inl l ↦ lt-ltb end (length E) l ∙ sym (le-leb _ _ (omega arith))
          | inr l ↦ le-ltb end (length E) l ∙ sym (lt-leb _ _ (omega arith))
        ]
