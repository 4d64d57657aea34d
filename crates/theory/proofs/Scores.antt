-- What a pass over the levels adds to the counters, seen on one row and at one counter.
use Rattle.std.proofs.Common.{◌≡◌, ℕ, zero, suc, ◌+◌, ◌-◌, ◌*◌, ◌^◌, ◌<◌, ◌≤◌, Bool, true, false, cond, eqb, leb, ◌⊎◌, List, [], ◌∷◌, length, get_or, Some, None, Option, sym, refl, ap, ◌∙◌, inl, inr, arith}
use Rattle.std.proofs.lemmas.Bool.{cases_lt, cases_eq, le-leb, lt-leb, eq-eqb, ne_eqb}
use Rattle.setmap.specs.Mapping.{Mapping}
use Rattle.trace.specs.declared.Block.{Block}
use Rattle.stack.specs.declared.Entry.{Entry}
use Rattle.stack.specs.Stack.{position, later, is_block, counts}
use Rattle.tables.specs.declared.Settings.{Settings}
use Rattle.places.specs.Parts.{part, more}
use Rattle.tables.specs.Calls.{cell, scored, scores}
use Rattle.places.proofs.Portions.{rows, part_more, part_more_out, length_more, more_at, more_out}

-- whether a position is k
abbrev pub found : ℕ → Option ℕ → Bool
found k None = false
found k (Some j) = eqb j k

abbrev pub Positive : Option ℕ → Type 0
Positive None = Unit {0}
Positive (Some k) = 1 ≤ k

later_positive : (o : Option ℕ) (n : ℕ) → Positive o → Positive (later o n)
later_positive None n a = tt
later_positive (Some k) n a = omega arith

pub position_positive : (m : Mapping) (q : Block) (i : ℕ) (es : List Entry) → Positive (position m q i es)
position_positive m q i [] = tt
position_positive m q i (e ∷ es) =
    let n : ℕ = cond (counts m q i e) 1 0 in
    elim (is_block q e) as (λ t. Positive (cond t (Some 1) (later (position m q i es) n))) [
      | true ↦ omega arith
      | false ↦ later_positive (position m q i es) n (position_positive m q i es)
    ]

-- ---- moved to the front

scored_part : (s : Settings) (a n from i : ℕ) (o : Option ℕ) (cs : List ℕ) → from + (i * s.ways + s.ways) ≤ n → Positive o
    → part a n (scored s (a + from) i o cs) ≡ scored s from i o (part a n cs)
scored_part s a n from i None cs l x = refl
scored_part s a n from i (Some k) cs l x =
    elim (cases_lt s.ways k) [
      | inl y ↦ rw (lt-leb k s.ways y)
      | inr y ↦
          (let e : a + from + (i * s.ways + (k - 1)) ≡ a + (from + (i * s.ways + (k - 1))) = omega arith in
          rw (le-leb k s.ways y) (ap (λ z. part a n (more z cs)) e ∙ part_more a n (from + (i * s.ways + (k - 1))) cs (omega arith)))
    ]

pub scores_part : (m : Mapping) (s : Settings) (a n from : ℕ) (q : Block) (es : List Entry) (k : ℕ) (cs : List ℕ) → from + k * s.ways ≤ n
    → part a n (scores m s (a + from) q es k cs) ≡ scores m s from q es k (part a n cs)
scores_part m s a n from q es zero cs l = refl
scores_part m s a n from q es (suc k) cs l =
    let r = rows k (suc k) s.ways (omega arith) in
    scored_part s a n from k (position m q k es) (scores m s (a + from) q es k cs) (omega arith) (position_positive m q k es)
    ∙ ap (scored s from k (position m q k es)) (scores_part m s a n from q es k cs (omega arith))

scored_part_out : (s : Settings) (b n from i : ℕ) (o : Option ℕ) (cs : List ℕ) → Positive o → (from + (i * s.ways + s.ways) ≤ b) ⊎ (b + n ≤ from)
    → part b n (scored s from i o cs) ≡ part b n cs
scored_part_out s b n from i None cs x l = refl
scored_part_out s b n from i (Some k) cs x l =
    elim (cases_lt s.ways k) [
      | inl y ↦ rw (lt-leb k s.ways y)
      | inr y ↦ rw (le-leb k s.ways y) (part_more_out b n (from + (i * s.ways + (k - 1))) cs (elim l [ inl z ↦ inl (omega arith) | inr z ↦ inr (omega arith) ]))
    ]

pub scores_part_out : (m : Mapping) (s : Settings) (b n from : ℕ) (q : Block) (es : List Entry) (k : ℕ) (cs : List ℕ) → (from + k * s.ways ≤ b) ⊎ (b + n ≤ from)
    → part b n (scores m s from q es k cs) ≡ part b n cs
scores_part_out m s b n from q es zero cs l = refl
scores_part_out m s b n from q es (suc k) cs l =
    let r = rows k (suc k) s.ways (omega arith) in
    scored_part_out s b n from k (position m q k es) (scores m s from q es k cs) (position_positive m q k es) (elim l [ inl z ↦ inl (omega arith) | inr z ↦ inr z ])
    ∙ scores_part_out m s b n from q es k cs (elim l [ inl z ↦ inl (omega arith) | inr z ↦ inr z ])

scored-length : (s : Settings) (from i : ℕ) (o : Option ℕ) (cs : List ℕ) → length (scored s from i o cs) ≡ length cs
scored-length s from i None cs = refl
scored-length s from i (Some k) cs = elim (leb k s.ways) as (λ t. length (cond t (more (cell s from i k) cs) cs) ≡ length cs) [ true ↦ length_more (cell s from i k) cs | false ↦ refl ]

pub scores-length : (m : Mapping) (s : Settings) (from : ℕ) (q : Block) (es : List Entry) (k : ℕ) (cs : List ℕ) → length (scores m s from q es k cs) ≡ length cs
scores-length m s from q es zero cs = refl
scores-length m s from q es (suc k) cs = scored-length s from k (position m q k es) (scores m s from q es k cs) ∙ scores-length m s from q es k cs

-- ---- what is added

scored-out : (s : Settings) (from i : ℕ) (o : Option ℕ) (cs : List ℕ) (x : ℕ) → Positive o → (x < from + i * s.ways) ⊎ (from + (i * s.ways + s.ways) ≤ x)
    → get_or (scored s from i o cs) x 0 ≡ get_or cs x 0
scored-out s from i None cs x a l = refl
scored-out s from i (Some k) cs x a l =
    elim (cases_lt s.ways k) [
      | inl y ↦ rw (lt-leb k s.ways y)
      | inr y ↦ rw (le-leb k s.ways y) (more_out (from + (i * s.ways + (k - 1))) x cs (λ e. elim l [ inl z ↦ omega arith | inr z ↦ omega arith ]))
    ]

scored_at : (s : Settings) (from i k : ℕ) (o : Option ℕ) (cs : List ℕ) → Positive o → k < s.ways → from + (i * s.ways + k) < length cs → get_or cs (from + (i * s.ways + k)) 0 < 2 ^ 32 - 1
    → get_or (scored s from i o cs) (from + (i * s.ways + k)) 0 ≡ get_or cs (from + (i * s.ways + k)) 0 + cond (found (suc k) o) 1 0
scored_at s from i k None cs a l x y = omega arith
scored_at s from i k (Some j) cs a l x y =
    elim (cases_eq j (suc k)) [
      | inl e ↦
          (let f : from + (i * s.ways + (j - 1)) ≡ from + (i * s.ways + k) = omega arith in
          rw (le-leb j s.ways (omega arith), eq-eqb j (suc k) e, f) (more_at (from + (i * s.ways + k)) cs x y))
      | inr e ↦
          elim (cases_lt s.ways j) [
            | inl z ↦ rw (lt-leb j s.ways z, ne_eqb j (suc k) e) (omega arith)
            | inr z ↦
                (let f = more_out (from + (i * s.ways + (j - 1))) (from + (i * s.ways + k)) cs (λ g. e (omega arith)) in
                rw (le-leb j s.ways z, ne_eqb j (suc k) e) (omega arith))
          ]
    ]

pub scores-out : (m : Mapping) (s : Settings) (from : ℕ) (q : Block) (es : List Entry) (n : ℕ) (cs : List ℕ) (x : ℕ) → (x < from) ⊎ (from + n * s.ways ≤ x)
    → get_or (scores m s from q es n cs) x 0 ≡ get_or cs x 0
scores-out m s from q es zero cs x l = refl
scores-out m s from q es (suc n) cs x l =
    let r = rows n (suc n) s.ways (omega arith) in
    scored-out s from n (position m q n es) (scores m s from q es n cs) x (position_positive m q n es) (elim l [ inl z ↦ inl (omega arith) | inr z ↦ inr (omega arith) ])
    ∙ scores-out m s from q es n cs x (elim l [ inl z ↦ inl z | inr z ↦ inr (omega arith) ])

pub scores_at : (m : Mapping) (s : Settings) (from : ℕ) (q : Block) (es : List Entry) (n : ℕ) (cs : List ℕ) (i k : ℕ) → i < n → k < s.ways
    → from + (i * s.ways + k) < length cs → get_or cs (from + (i * s.ways + k)) 0 < 2 ^ 32 - 1
    → get_or (scores m s from q es n cs) (from + (i * s.ways + k)) 0 ≡ get_or cs (from + (i * s.ways + k)) 0 + cond (found (suc k) (position m q i es)) 1 0
scores_at m s from q es zero cs i k l f x y = absurd (omega arith)
scores_at m s from q es (suc n) cs i k l f x y =
    let inner = scores m s from q es n cs in
    let at = from + (i * s.ways + k) in
    elim (cases_lt i n) [
      | inl z ↦
          (let r = rows i n s.ways z in
          scored-out s from n (position m q n es) inner at (position_positive m q n es) (inl (omega arith))
          ∙ scores_at m s from q es n cs i k z f x y)
      | inr z ↦
          (let e : i ≡ n = omega arith in
          let o : get_or inner at 0 ≡ get_or cs at 0 = scores-out m s from q es n cs at (inr (let e' : n * s.ways ≡ i * s.ways = ap (λ w. w * s.ways) (sym e) in omega arith)) in
          let h : get_or (scored s from i (position m q i es) inner) at 0 ≡ get_or inner at 0 + cond (found (suc k) (position m q i es)) 1 0
          = scored_at s from i k (position m q i es) inner (position_positive m q i es) f (omega (arith, scores-length m s from q es n cs)) (omega arith) in
          ap (λ w. get_or (scored s from w (position m q w es) inner) at 0) (sym e) ∙ h ∙ ap (λ w. w + cond (found (suc k) (position m q i es)) 1 0) o)
    ]
