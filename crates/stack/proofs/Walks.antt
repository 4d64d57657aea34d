-- The steps of a walk.
use Rattle.std.proofs.Common.{◌≡◌, ℕ, zero, suc, ◌+◌, ◌-◌, ◌<◌, ◌≤◌, min, Bool, true, false, cond, not, ◌&&◌, ltb, List, [], ◌∷◌, ◌++◌, length, get_or, take, drop, set, replicate, Some, None, sum, count_by, sym, refl, ap, ◌∙◌, inl, inr, arith}
use mir.Val.{bool_byte}
use Rattle.std.proofs.lemmas.List.{append_assoc, append-nil, length-append, length_push, length-set, take_more, at_drop_more, at_drop_all, drop-set-lt, drop-set-add, get_or-drop, length-drop}
use Rattle.std.proofs.lemmas.List.Sums.{sum_by_push, sum_by-set, sum_by-cons, sum_by-take-drop, sum_by-drop_more}
use Rattle.std.proofs.lemmas.Bool.{cases_lt, cases_Bool, lt-ltb, le-ltb}
use Rattle.setmap.specs.Mapping.{Mapping, shared}
use Rattle.trace.specs.Items.{same}
use Rattle.trace.specs.declared.Block.{Block as MemoryBlock}
use Rattle.stack.specs.declared.Entry.{Entry}
use Rattle.stack.specs.declared.Entry.TheVariants.{Empty, Block, Marker}
use Rattle.stack.specs.declared.walk.Tally.{Tally}
use Rattle.levels.specs.declared.Levels.{Levels}
use Rattle.levels.specs.Levels.{has, below, both, either, less, is_none, no_level}
use Rattle.stack.specs.Stack.{stack, counts, marker, gives, later, position, left}
use Rattle.stack.specs.Walk.{ends, stop, begins, gathered, thinned, Tallied}
use Rattle.levels.proofs.Bits.{has_both, has-below}

-- one more at place r of a list of counts
pub sum_one_more : (bs : List ℕ) (r : ℕ) → r < length bs → sum (set bs r (get_or bs r 0 + 1)) ≡ sum bs + 1
sum_one_more bs r h = omega (arith, sum_by-set (λ x. x) bs r (get_or bs r 0 + 1) 0 h)

pub sum_from_one_more : (bs : List ℕ) (r i : ℕ) → r < length bs → sum (drop (i + 1) (set bs r (get_or bs r 0 + 1))) ≡ sum (drop (i + 1) bs) + cond (ltb i r) 1 0
sum_from_one_more bs r i h =
    elim (cases_lt i r) [
      | inl l ↦
          (let k : i + 1 + (r - (i + 1)) ≡ r = omega arith in
          let y = get_or bs r 0 + 1 in
          let d : drop (i + 1) (set bs r y) ≡ set (drop (i + 1) bs) (r - (i + 1)) y = ap (λ n. drop (i + 1) (set bs n y)) (sym k) ∙ drop-set-add (i + 1) bs (r - (i + 1)) y in
          let g : get_or (drop (i + 1) bs) (r - (i + 1)) 0 ≡ get_or bs r 0 = get_or-drop (i + 1) bs (r - (i + 1)) 0 ∙ ap (λ n. get_or bs n 0) k in
          let b : r - (i + 1) < length (drop (i + 1) bs) = simp length-drop (omega arith) in
          let s = sum_by-set (λ x. x) (drop (i + 1) bs) (r - (i + 1)) y 0 b in
          rw (d, lt-ltb i r l) (omega arith))
      | inr l ↦ (let m : r < i + 1 = omega arith in rw (drop-set-lt (i + 1) bs r (get_or bs r 0 + 1) m, le-ltb i r l) (omega arith))
    ]

pub ltb-min : (i s : ℕ) → i < 17 → ltb i (min s 17) ≡ ltb i s
ltb-min i s h =
    elim (cases_lt i s) [
      | inl m ↦ lt-ltb i (min s 17) (omega arith) ∙ sym (lt-ltb i s m)
      | inr m ↦ le-ltb i (min s 17) (omega arith) ∙ sym (le-ltb i s m)
    ]

module _ (q : MemoryBlock) where
  pub stop_le : (es : List Entry) → stop q es ≤ length es
  stop_le [] = omega arith
  stop_le (Empty ∷ es) = omega arith
  stop_le (Block b ∷ es) = elim (cases_Bool (same b q)) [ inl e ↦ rw e (omega arith) | inr e ↦ rw e (omega (arith, stop_le es)) ]
  stop_le (Marker b v ∷ es) = omega (arith, stop_le es)

  -- a walk goes on past an entry at which it does not stop
  pub goes_on : (es : List Entry) (i : ℕ) (e : Entry) → i < length es → e ≡ get_or es i Empty → ends q e ≡ false → i + stop q (drop i es) ≡ stop q es → (i + 1) + stop q (drop (i + 1) es) ≡ stop q es
  goes_on es i e h g t inv =
      let p : stop q (drop i es) ≡ cond (ends q (get_or es i Empty)) 0 (suc (stop q (drop (i + 1) es))) = at_drop_more (stop q) es i Empty h in
      let u = rw (sym g, t) at p in
      omega arith

  pub stops : (es : List Entry) (i : ℕ) (e : Entry) → i < length es → e ≡ get_or es i Empty → ends q e ≡ true → i + stop q (drop i es) ≡ stop q es → i ≡ stop q es
  stops es i e h g t inv =
      let p : stop q (drop i es) ≡ cond (ends q (get_or es i Empty)) 0 (suc (stop q (drop (i + 1) es))) = at_drop_more (stop q) es i Empty h in
      let u = rw (sym g, t) at p in
      omega arith

  pub at_end : (es : List Entry) (i : ℕ) → length es ≤ i → i + stop q (drop i es) ≡ stop q es → i ≡ stop q es
  at_end es i h inv =
      let p : stop q (drop i es) ≡ 0 = at_drop_all (stop q) es i h in
      omega arith

module _ (m : Mapping) (q : MemoryBlock) where
  pub gathered_append : (g : Levels) (xs ys : List Entry) → gathered m q g (xs ++ ys) ≡ gathered m q (gathered m q g xs) ys
  gathered_append g [] ys = refl
  gathered_append g (Empty ∷ xs) ys = gathered_append g xs ys
  gathered_append g (Block b ∷ xs) ys = gathered_append g xs ys
  gathered_append g (Marker b v ∷ xs) ys = gathered_append (either g (gives m q g b v)) xs ys

  pub thinned_append : (g : Levels) (xs ys : List Entry) → thinned m q g (xs ++ ys) ≡ thinned m q g xs ++ thinned m q (gathered m q g xs) ys
  thinned_append g [] ys = refl
  thinned_append g (Empty ∷ xs) ys = ap (λ zs. Empty ∷ zs) (thinned_append g xs ys)
  thinned_append g (Block b ∷ xs) ys = ap (λ zs. Block b ∷ zs) (thinned_append g xs ys)
  thinned_append g (Marker b v ∷ xs) ys =
      ap (λ zs. marker b (less v (gives m q g b v)) ++ zs) (thinned_append (either g (gives m q g b v)) xs ys)
      ∙ sym (append_assoc (marker b (less v (gives m q g b v))) (thinned m q (either g (gives m q g b v)) xs) (thinned m q (gathered m q (either g (gives m q g b v)) xs) ys))

  pub block_step : (xs : List Entry) (t : Tally) (r : ℕ) (b : MemoryBlock) → r ≡ min (shared m q.number b.number) 17 → Tallied m q xs t → Tallied m q (xs ++ Block b ∷ []) (record t { sharing = set t.sharing r (get_or t.sharing r 0 + 1); stays = t.stays + 1 })
  block_step xs t r b e k =
      let w : r < length t.sharing = omega (arith, k.wide) in
      record {
        given_is = k.given_is ∙ sym (gathered_append no_level xs (Block b ∷ []));
        stays_is = rw (thinned_append no_level xs (Block b ∷ []), length-append) (omega (arith, k.stays_is));
        counted = λ i h.
            let c = sum_by_push (λ x. cond (counts m q i x) 1 0) xs (Block b) in
            let s = sum_from_one_more t.sharing r i w in
            let n : ltb i r ≡ ltb i (shared m q.number b.number) = ap (ltb i) e ∙ ltb-min i (shared m q.number b.number) h in
            let s' = rw n at s in
            omega (arith, k.counted i h);
        few = λ i h. rw (length_push xs (Block b)) (omega (arith, k.few i h, sum_one_more t.sharing r w));
        wide = length-set t.sharing r _ ∙ k.wide;
        deep = k.deep;
      }

  pub marker_step : (xs : List Entry) (t : Tally) (ns : List ℕ) (g' counting giving : Levels) (stays : ℕ) (b : MemoryBlock) (v : Levels)
      → counting ≡ both v (below (shared m q.number b.number)) → giving ≡ less counting t.given
      → ((i : ℕ) → i < 17 → get_or ns i 0 ≡ get_or t.markers i 0 + cond (has counting i) 1 0) → length ns ≡ 17
      → stays ≡ t.stays + length (marker b (less v giving)) → g' ≡ either t.given giving
      → Tallied m q xs t → Tallied m q (xs ++ Marker b v ∷ []) (record t { markers = ns; stays = stays; given = g' })
  unfolding gives
  marker_step xs t ns g' counting giving stays b v ec eg en el ek eg' k =
      let es = Marker b v ∷ [] in
      let gv : giving ≡ gives m q (gathered m q no_level xs) b v = eg ∙ ap (λ x. less x t.given) ec ∙ ap (λ x. less (both v (below (shared m q.number b.number))) x) k.given_is in
      record {
        given_is = eg' ∙ ap (λ x. either x giving) k.given_is ∙ ap (either (gathered m q no_level xs)) gv ∙ sym (gathered_append no_level xs es);
        stays_is = rw (thinned_append no_level xs es, length-append, append-nil) (ek ∙ ap (λ x. t.stays + length (marker b (less v x))) gv ∙ ap (λ x. x + length (marker b (less v (gives m q (gathered m q no_level xs) b v)))) k.stays_is);
        counted = λ i h.
            let c = sum_by_push (λ x. cond (counts m q i x) 1 0) xs (Marker b v) in
            let l : i < 32 = omega arith in
            let n : has counting i ≡ (has v i && ltb i (shared m q.number b.number)) = ap (λ x. has x i) ec ∙ has_both v (below (shared m q.number b.number)) i ∙ ap (λ x. has v i && x) (has-below (shared m q.number b.number) i l) in
            let s = rw n at (en i h) in
            omega (arith, k.counted i h);
        few = λ i h.
            let s : cond (has counting i) 1 0 ≤ 1 = grind arith in
            rw (length_push xs (Marker b v)) (omega (arith, k.few i h, en i h));
        wide = k.wide;
        deep = el;
      }

  pub stays_le : (g : Levels) (xs : List Entry) → length (thinned m q g xs) ≤ length xs
  stays_le g [] = omega arith
  stays_le g (Empty ∷ xs) = omega (arith, stays_le g xs)
  stays_le g (Block b ∷ xs) = omega (arith, stays_le g xs)
  stays_le g (Marker b v ∷ xs) =
      rw length-append
      (elim (cases_Bool (is_none (less v (gives m q g b v)))) [
        | inl e ↦ rw e (omega (arith, stays_le (either g (gives m q g b v)) xs))
        | inr e ↦ rw e (omega (arith, stays_le (either g (gives m q g b v)) xs))
      ])

  module _ (es : List Entry) (i : ℕ) (h : i < length es) where
    one_more : (e : Entry) → get_or es i Empty ≡ e → take (i + 1) es ≡ take i es ++ e ∷ []
    one_more e g = take_more es i Empty h ∙ ap (λ x. take i es ++ x ∷ []) g

    pub past_block : {t : Tally} (r : ℕ) (b : MemoryBlock) → get_or es i Empty ≡ Block b → r ≡ min (shared m q.number b.number) 17 → Tallied m q (take i es) t → Tallied m q (take (i + 1) es) (record t { sharing = set t.sharing r (get_or t.sharing r 0 + 1); stays = t.stays + 1 })
    past_block {t} r b is e k =
        let p = one_more (Block b) is in
        rw p (block_step (take i es) t r b e k)

    pub past_marker : {t : Tally} {ns : List ℕ} {g' : Levels} {stays : ℕ} (counting giving : Levels) (b : MemoryBlock) (v : Levels) → get_or es i Empty ≡ Marker b v
        → counting ≡ both v (below (shared m q.number b.number)) → giving ≡ less counting t.given
        → ((i : ℕ) → i < 17 → get_or ns i 0 ≡ get_or t.markers i 0 + cond (has counting i) 1 0) → length ns ≡ 17
        → stays ≡ t.stays + length (marker b (less v giving)) → g' ≡ either t.given giving
        → Tallied m q (take i es) t → Tallied m q (take (i + 1) es) (record t { markers = ns; stays = stays; given = g' })
    past_marker {t} {ns} {g'} {stays} counting giving b v is ec eg en el ek eg' k =
        let p = one_more (Marker b v) is in
        rw p (marker_step (take i es) t ns g' counting giving stays b v ec eg en el ek eg' k)

-- what has been counted before the first entry
pub no_tally : (m : Mapping) (q : MemoryBlock) (g : Levels) → g ≡ no_level → Tallied m q [] (record { sharing = replicate 18 0; markers = replicate 17 0; stays = 0; given = g })
no_tally m q g e = record { given_is = e; stays_is = refl; counted = none; few = few'; wide = refl; deep = refl }
  where
    zeros : (n i : ℕ) → get_or (replicate n zero) i zero ≡ zero
    zeros zero i = refl
    zeros (suc n) zero = refl
    zeros (suc n) (suc i) = zeros n i

    nothing : (n j : ℕ) → sum (drop j (replicate n zero)) ≡ zero
    nothing zero zero = refl
    nothing zero (suc j) = refl
    nothing (suc n) zero = rw (sum_by-cons (λ (x : ℕ). x) 0 (replicate n 0)) (omega (arith, nothing n 0))
    nothing (suc n) (suc j) = nothing n j

    none : (i : ℕ) → i < 17 → sum (drop (i + 1) (replicate 18 0)) + get_or (replicate 17 0) i 0 ≡ zero
    none i h = omega (arith, nothing 18 (i + 1), zeros 17 i)

    few' : (i : ℕ) → i < 17 → sum (replicate 18 0) + get_or (replicate 17 0) i 0 ≤ 0
    few' i h = omega (arith, nothing 18 0, zeros 17 i)

-- a marker that stands is one entry, counted by the byte of the test
pub byte_le : (t : Bool) → bool_byte t ≤ 1
byte_le true = omega arith
byte_le false = omega arith

pub byte_is : (t u : Bool) → t ≡ u → bool_byte t ≡ cond u 1 0
byte_is t u e = byte t ∙ ap (λ b. cond b 1 0) e
  where
    byte : (b : Bool) → bool_byte b ≡ cond b 1 0
    byte true = refl
    byte false = refl

pub marker_byte : (b : MemoryBlock) (v w : Levels) (t : Bool) → t ≡ not (is_none w) → w ≡ v → bool_byte t ≡ length (marker b v)
marker_byte b v w t e f =
    elim (cases_Bool (is_none v)) [
      | inl n ↦ rw (e, f, n)
      | inr n ↦ rw (e, f, n)
    ]

later-cond : (t : Bool) (n c : ℕ) → later (cond t (Some n) None) c ≡ cond t (Some (n + c)) None
later-cond true n c = refl
later-cond false n c = refl

-- where a walk has stopped, what it has counted above is the position
pub position_split : (m : Mapping) (q : MemoryBlock) (i : ℕ) (es : List Entry) → position m q i (stack es) ≡ cond (begins (drop (stop q es) es)) (Some (count_by (counts m q i) (take (stop q es) es) + 1)) None
position_split m q i [] = refl
position_split m q i (Empty ∷ es) = refl
position_split m q i (Block b ∷ es) =
    elim (cases_Bool (same b q)) [
      | inl e ↦ rw e
      | inr e ↦
          (let r = position_split m q i es in
          let c = sum_by-cons (λ x. cond (counts m q i x) 1 0) (Block b) (take (stop q es) es) in
          let s = cond (counts m q i (Block b)) 1 0 in
          let n : count_by (counts m q i) (take (stop q es) es) + 1 + s ≡ count_by (counts m q i) (Block b ∷ take (stop q es) es) + 1 = omega arith in
          rw e (ap (λ x. later x s) r ∙ later-cond _ _ s ∙ ap (λ x. cond (begins (drop (stop q es) es)) (Some x) None) n))
    ]
position_split m q i (Marker b v ∷ es) =
    let r = position_split m q i es in
    let c = sum_by-cons (λ x. cond (counts m q i x) 1 0) (Marker b v) (take (stop q es) es) in
    let s = cond (counts m q i (Marker b v)) 1 0 in
    let n : count_by (counts m q i) (take (stop q es) es) + 1 + s ≡ count_by (counts m q i) (Marker b v ∷ take (stop q es) es) + 1 = omega arith in
    ap (λ x. later x s) r ∙ later-cond _ _ s ∙ ap (λ x. cond (begins (drop (stop q es) es)) (Some x) None) n

-- what an own reference leaves: what a walk thins above, and what stands under the place where it stopped
pub left_split : (m : Mapping) (q : MemoryBlock) (g : Levels) (es : List Entry) → left m q g (stack es) ≡ thinned m q g (take (stop q es) es) ++ cond (begins (drop (stop q es) es)) (marker q (gathered m q g (take (stop q es) es)) ++ stack (drop (suc (stop q es)) es)) []
left_split m q g [] = refl
left_split m q g (Empty ∷ es) = refl
left_split m q g (Block b ∷ es) =
    elim (cases_Bool (same b q)) [
      | inl e ↦ rw e
      | inr e ↦ rw e (ap (λ xs. Block b ∷ xs) (left_split m q g es))
    ]
left_split m q g (Marker b v ∷ es) =
    let g' = either g (gives m q g b v) in
    let k = marker b (less v (gives m q g b v)) in
    ap (λ xs. k ++ xs) (left_split m q g' es) ∙ sym (append_assoc k (thinned m q g' (take (stop q es) es)) _)

pub block_is : (es : List Entry) (i : ℕ) (e : Entry) → i < length es → get_or es i Empty ≡ e → begins (drop i es) ≡ begins (e ∷ [])
block_is es i e h g = at_drop_more begins es i Empty h ∙ ap (λ x. begins (x ∷ drop (i + 1) es)) g ∙ only e
  where
    only : (e : Entry) → begins (e ∷ drop (i + 1) es) ≡ begins (e ∷ [])
    only Empty = refl
    only (Block b) = refl
    only (Marker b v) = refl

-- one level down
pub one_down : (xs : List ℕ) (i a : ℕ) → 0 < i → i < length xs → a ≡ sum (drop (i + 1) xs) → a + get_or xs (i - 1 + 1) 0 ≡ sum (drop (i - 1 + 1) xs)
one_down xs i a p h e = let d : i - 1 + 1 ≡ i = omega arith in rw d (omega (arith, sum_by-drop_more (λ x. x) xs i 0 h))

pub one_down_le : (xs : List ℕ) (i a : ℕ) → 0 < i → i < length xs → a ≡ sum (drop (i + 1) xs) → a + get_or xs (i - 1 + 1) 0 ≤ sum xs
one_down_le xs i a p h e = omega (arith, one_down xs i a p h e, sum_by-take-drop (λ x. x) xs (i - 1 + 1))

-- past the end no block stands
pub none_past : (es : List Entry) (i : ℕ) → length es ≤ i → begins (drop i es) ≡ false
none_past es i h = at_drop_all begins es i h
