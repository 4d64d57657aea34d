-- One set's frames: where a block stands in them, and what bringing it to the front and closing the gap make of their list.
use Rattle.std.proofs.Common.{◌≡◌, ℕ, suc, ◌+◌, ◌-◌, ◌<◌, ◌≤◌, min, max, Bool, true, false, cond, not, ltb, List, [], ◌∷◌, ◌++◌, map, length, take, drop, set, replicate, position, Some, None, Option, sym, refl, ap, ap₂, ◌∙◌, inl, inr, one-add, arith}
use Rattle.std.specs.List.{position_or_len}
use Rattle.std.specs.Option.{unwrap_or}
use Rattle.std.proofs.lemmas.List.{length-map, length-append, take-map, take_all, take-take, take-set, drop-set-lt, get_or-set_same, append_assoc}
use Rattle.std.proofs.lemmas.List.Sums.{prefix_len-le-length}
use Rattle.std.proofs.lemmas.Bool.{both_ways, cases_lt, cond-true, cond-false, lt-ltb, ltb-true, ltb-false}
use Rattle.places.specs.Moves.{fronted, closed}
use Rattle.places.proofs.Fronts.{fronted_inside}
use Rattle.trace.specs.Items.{same}
use Rattle.trace.specs.declared.Block.{Block}
use Rattle.trace.proofs.Blocks.{same_equal}
use Rattle.caches.specs.Caches.{among, without, used}
use Rattle.caches.proofs.Used.{without-less, without_absent}
use Rattle.single.specs.Calls.{list_of, relisted, vacant, holds}
use Rattle.single.proofs.Padded.{list_front, relisted_same}

-- the number of a first place that passes
some_of : (b : Bool) (n i : ℕ) → Some i ≡ cond b (Some n) None → (b ≡ true) × (i ≡ n)
some_of true n i e = (refl, (let x : i ≡ n = cc in x))
some_of false n i e = cc

none_of : (b : Bool) (n : ℕ) → None ≡ cond b (Some n) None → b ≡ false
none_of true n e = cc
none_of false n e = refl

end_of : (b : Bool) (n l : ℕ) → (b ≡ false → n ≡ l) → unwrap_or (cond b (Some n) None) l ≡ n
end_of true n l e = refl
end_of false n l e = sym (e refl)

vacant-place : (fs : List (Option Block)) → position_or_len vacant fs ≡ length (list_of fs)
vacant-place [] = refl
vacant-place (None ∷ fs) = refl
vacant-place (Some b ∷ fs) = one-add (position_or_len vacant fs) ∙ ap suc (vacant-place fs)

list_end : (fs : List (Option Block)) → unwrap_or (position vacant fs) (length fs) ≡ length (list_of fs)
list_end fs =
    let n = position_or_len vacant fs in
    end_of (ltb n (length fs)) n (length fs) (λ e. omega (arith, ltb-false n (length fs) e, prefix_len-le-length (λ f. not (vacant f)) fs)) ∙ vacant-place fs

take_list : (fs : List (Option Block)) → take (length (list_of fs)) fs ≡ map Some (list_of fs)
take_list [] = refl
take_list (None ∷ fs) = refl
take_list (Some b ∷ fs) = ap (λ xs. Some b ∷ xs) (take_list fs)

-- where q stands in a list, and what is left without it
module _ (q : Block) where
  abbrev at : List Block → ℕ
  at [] = 0
  at (b ∷ bs) = cond (same b q) 0 (suc (at bs))

  at_is : (bs : List Block) → position_or_len (holds q) (map Some bs) ≡ at bs
  at_is [] = refl
  at_is (b ∷ bs) = let ih = one-add (position_or_len (holds q) (map Some bs)) ∙ ap suc (at_is bs) in grind arith

  at_found : (bs : List Block) → among q bs ≡ true → at bs < length bs
  at_found [] e = absurd (both_ways false refl e)
  at_found (b ∷ bs) e = let ih = at_found bs in grind arith

  at_absent : (bs : List Block) → among q bs ≡ false → at bs ≡ length bs
  at_absent [] e = refl
  at_absent (b ∷ bs) e = let ih = at_absent bs in grind arith

  taken_out : (bs : List Block) (r : List (Option Block)) → among q bs ≡ true → take 1 (drop (at bs) (map Some bs ++ r)) ≡ Some q ∷ []
  taken_out [] r e = absurd (both_ways false refl e)
  taken_out (b ∷ bs) r e =
      let ih = taken_out bs r in
      let x = same_equal b q in
      grind arith

  left_over : (bs : List Block) (r : List (Option Block)) → among q bs ≡ true → take (at bs) (map Some bs ++ r) ++ drop 1 (drop (at bs) (map Some bs ++ r)) ≡ map Some (without q bs) ++ r
  left_over [] r e = absurd (both_ways false refl e)
  left_over (b ∷ bs) r e = let ih = left_over bs r in grind arith

  left_closed : (bs : List Block) → among q bs ≡ true → take (at bs) (map Some bs) ++ (drop (at bs + 1) (map Some bs) ++ (None ∷ [])) ≡ map Some (without q bs) ++ (None ∷ [])
  left_closed [] e = absurd (both_ways false refl e)
  left_closed (b ∷ bs) e =
      let ih = left_closed bs in
      let z : 0 + 1 ≡ 1 = omega arith in
      let w : suc (at bs) + 1 ≡ suc (at bs + 1) = omega arith in
      grind arith

  module _ (fs : List (Option Block)) (end : ℕ) (empty : Option ℕ) (first : empty ≡ position vacant fs) (e : end ≡ unwrap_or empty (length fs)) where
    abbrev L : List Block
    L = list_of fs

    end_is : end ≡ length L
    end_is = e ∙ ap (λ x. unwrap_or x (length fs)) first ∙ list_end fs

    front_is : take end fs ≡ map Some L
    front_is = ap (λ n. take n fs) end_is ∙ take_list fs

    whole : map Some L ++ drop (length L) fs ≡ fs
    whole = list_front fs

    relisted_is : (bs : List Block) (k m : ℕ) → length L - length bs ≡ k → max (length bs) (length L) ≡ m → map Some bs ++ (replicate k None ++ drop m fs) ≡ relisted bs fs
    relisted_is bs k m a b = ap₂ (λ i j. map Some bs ++ (replicate i None ++ drop j fs)) (sym a) (sym b)

    -- ---- the block is found

    module _ (place : ℕ) (k : Some place ≡ position (holds q) (take end fs)) where
      here : (place ≡ at L) × (place < length L)
      here =
          let n = position_or_len (holds q) (map Some L) in
          let x = some_of (ltb n (length (map Some L))) n place (k ∙ ap (position (holds q)) front_is) in
          (x.1 ∙ at_is L, omega (arith, x.1, ltb-true n (length (map Some L)) x.0, length-map {B = Option Block} L Some))

      pub is_listed : true ≡ among q L
      is_listed = grind (arith, at_absent L, here)

      less : suc (length (without q L)) ≡ length L
      less = without-less q L (sym is_listed)

      pub touched-hit : (n : ℕ) → fronted place fs ≡ relisted (used n q L) fs
      touched-hit n =
          let m = sym is_listed in
          let R = drop (length L) fs in
          ap (λ i. fronted i fs) here.0 ∙ ap (fronted (at L)) (sym whole)
          ∙ ap (λ xs. xs ++ (take (at L) (map Some L ++ R) ++ drop 1 (drop (at L) (map Some L ++ R)))) (taken_out L R m)
          ∙ ap (λ xs. Some q ∷ xs) (left_over L R m)
          ∙ relisted_is (q ∷ without q L) 0 (length L) (omega (arith, less)) (omega (arith, less))
          ∙ ap (λ bs. relisted bs fs) (sym (cond-true (among q L) (q ∷ without q L) (take n (q ∷ L)) m))

      pub lost_found : closed place None (take end fs) ++ drop end fs ≡ relisted (without q L) fs
      lost_found =
          let X = map Some L in
          let t : ltb (at L) (length X) ≡ true = lt-ltb (at L) (length X) (omega (arith, here.0, here.1, length-map {B = Option Block} L Some)) in
          ap₂ (λ i xs. closed i None xs ++ drop end fs) here.0 front_is
          ∙ ap (λ xs. xs ++ drop end fs) (cond-true (ltb (at L) (length X)) (take (at L) X ++ (drop (at L + 1) X ++ (None ∷ []))) X t ∙ left_closed L (sym is_listed))
          ∙ append_assoc (map Some (without q L)) (None ∷ []) (drop end fs)
          ∙ relisted_is (without q L) 1 end (omega (arith, less)) (omega (arith, less, end_is))

    -- ---- the block is not found

    module _ (k : None ≡ position (holds q) (take end fs)) where
      pub not_listed : false ≡ among q L
      not_listed =
          let n = position_or_len (holds q) (map Some L) in
          let f = none_of (ltb n (length (map Some L))) n (k ∙ ap (position (holds q)) front_is) in
          let h : length L ≤ at L = omega (arith, ltb-false n (length (map Some L)) f, length-map {B = Option Block} L Some, at_is L) in
          grind (arith, at_found L)

      -- the frame that a new block takes
      new_front : (i : ℕ) → i < length fs → fronted i (set fs i (Some q)) ≡ Some q ∷ (take i fs ++ drop (i + 1) fs)
      new_front i l =
          fronted_inside (set fs i (Some q)) i (Some q) (omega (arith, lib.ListN.length-set fs i (Some q))) (sym (get_or-set_same fs i (Some q) (Some q) l))
          ∙ ap (λ xs. Some q ∷ (xs ++ drop (i + 1) (set fs i (Some q)))) (take-set fs i (Some q))
          ∙ ap (λ xs. Some q ∷ (take i fs ++ xs)) (drop-set-lt (i + 1) fs i (Some q) (omega arith))

      pub touched_new : (place : ℕ) → place ≡ min end (length fs - 1) → 0 < length fs → fronted place (set fs place (Some q)) ≡ relisted (used (length fs) q L) fs
      touched_new place e s =
          let w = length fs - 1 in
          let full : length fs ≡ suc w = omega arith in
          let within : length L ≤ length fs = omega (arith, ap length whole, length-append (map Some L) (drop (length L) fs), length-map {B = Option Block} L Some) in
          let cut : take place L ≡ take w L =
          elim (cases_lt w (length L)) [
            | inl l ↦ ap (λ i. take i L) (omega (arith, end_is))
            | inr l ↦ take_all place L (omega (arith, end_is)) ∙ sym (take_all w L (omega arith))
          ] in
          let front : take place fs ≡ map Some (take w L) =
          sym (take-take place (length L) fs (omega (arith, end_is))) ∙ ap (take place) (take_list fs) ∙ take-map Some place L ∙ ap (map Some) cut in
          let n : length (take w L) ≡ place = omega (arith, end_is, lib.ListN.length-take w L) in
          new_front place (omega arith) ∙ ap (λ xs. Some q ∷ (xs ++ drop (place + 1) fs)) front
          ∙ relisted_is (q ∷ take w L) 0 (place + 1) (omega (arith, end_is)) (omega (arith, end_is))
          ∙ ap (λ bs. relisted bs fs) (sym (cond-false (among q L) (q ∷ without q L) (take (length fs) (q ∷ L)) (sym not_listed) ∙ ap (λ i. take i (q ∷ L)) full))

      pub lost_absent : fs ≡ relisted (without q L) fs
      lost_absent = sym (ap (λ bs. relisted bs fs) (without_absent q L (sym not_listed)) ∙ relisted_same fs)
