-- Parts of a table, one for each processor: what a write to one leaves of the others.
use Rattle.std.proofs.Common.{◌≡◌, ℕ, zero, suc, ◌+◌, ◌-◌, ◌*◌, ◌^◌, ◌<◌, ◌≤◌, min, ◌⊎◌, List, ◌++◌, length, get_or, take, drop, set, sym, ap, ◌∙◌, inl, inr, append_assoc, arith, length-append, length-drop, length-set}
use lib.Seq.{take-set-lt}
use borrow.Rule.Slice.PartMut.{put_mid}
use Rattle.std.proofs.lemmas.List.{drop-drop, drop-set-add, drop-set-lt, take-set-le, take-take, drop-take, drop_at, take_at, drop-append-le, take-append-le, length-take-le, get_or-take, get_or-drop, get_or-set_same, get_or-set_other}
use Rattle.std.proofs.lemmas.Slice.{drop-append-drop}
use Rattle.std.proofs.lemmas.Bool.{cases_lt}
use Rattle.places.specs.Parts.{part, put, start, more}

-- ---- rows

pub rows : (i n w : ℕ) → i < n → i * w + w ≤ n * w
rows i zero w l = absurd (omega arith)
rows i (suc n) w l =
    elim (cases_lt i n) [
      | inl k ↦ omega (arith, rows i n w k)
      | inr k ↦ (let e : i ≡ n = omega arith in rw e (omega arith))
    ]

-- the part of a processor lies in the table
pub part_in : (p n w : ℕ) → 1 ≤ p → p ≤ n → start w p + w ≤ n * w
part_in p n w l k = rows (p - 1) n w (omega arith)

-- the parts of two processors are apart
pub apart : (p q w : ℕ) → 1 ≤ p → 1 ≤ q → (p ≡ q → ⊥) → (start w p + w ≤ start w q) ⊎ (start w q + w ≤ start w p)
apart p q w l k n =
    elim (cases_lt p q) [
      | inl x ↦ inl (rows (p - 1) (q - 1) w (omega arith))
      | inr x ↦ inr (rows (q - 1) (p - 1) w (elim (cases_lt q p) [ inl y ↦ omega arith | inr y ↦ absurd (n (omega arith)) ]))
    ]

module _ {A : Type 0} where
  pub length_part : (a n : ℕ) (xs : List A) → a + n ≤ length xs → length (part a n xs) ≡ n
  length_part a n xs l = length-take-le n (drop a xs) (omega (arith, length-drop a xs))

  pub get_d_part : (a n j : ℕ) (xs : List A) (d : A) → j < n → get_or (part a n xs) j d ≡ get_or xs (a + j) d
  get_d_part a n j xs d l = get_or-take n (drop a xs) j d l ∙ get_or-drop a xs j d

  pub part_set : (a n j : ℕ) (xs : List A) (v : A) → j < n → part a n (set xs (a + j) v) ≡ set (part a n xs) j v
  part_set a n j xs v l = ap (take n) (drop-set-add a xs j v) ∙ take-set-lt n (drop a xs) j v l

  pub part_set-out : (a n x : ℕ) (xs : List A) (v : A) → (x < a) ⊎ (a + n ≤ x) → part a n (set xs x v) ≡ part a n xs
  part_set-out a n x xs v o =
      elim o [
        | inl l ↦ ap (take n) (drop-set-lt a xs x v l)
        | inr l ↦
            (let e : a + (x - a) ≡ x = omega arith in
            ap (λ y. part a n (set xs y v)) (sym e) ∙ ap (take n) (drop-set-add a xs (x - a) v) ∙ take-set-le n (drop a xs) (x - a) v (omega arith))
      ]

  pub part_put : (a n : ℕ) (ys xs : List A) → length ys ≡ n → a ≤ length xs → part a n (put a n ys xs) ≡ ys
  part_put a n ys xs e l =
      ap (take n) (drop_at (take a xs) (ys ++ drop (a + n) xs) a (length-take-le a xs l)) ∙ take_at ys (drop (a + n) xs) n e

  -- a front part
  pub part_front : (a n f : ℕ) (xs : List A) → a + n ≤ f → part a n (take f xs) ≡ part a n xs
  part_front a n f xs l =
      let e : a + (f - a) ≡ f = omega arith in
      ap (λ y. part a n (take y xs)) (sym e) ∙ ap (take n) (drop-take a (f - a) xs) ∙ take-take n (f - a) (drop a xs) (omega arith)

  pub part_before : (a n : ℕ) (ys zs : List A) → a + n ≤ length ys → part a n (ys ++ zs) ≡ part a n ys
  part_before a n ys zs l =
      ap (take n) (drop-append-le a ys zs (omega arith)) ∙ take-append-le n (drop a ys) zs (omega (arith, length-drop a ys))

  pub part_put-out : (a b n : ℕ) (ys xs : List A) → length ys ≡ n → a + n ≤ length xs → (b + n ≤ a) ⊎ (a + n ≤ b) → part b n (put a n ys xs) ≡ part b n xs
  part_put-out a b n ys xs e l o =
      elim o [
        | inl k ↦
            (let z : length (take a xs) ≡ a = length-take-le a xs (omega arith) in
            part_before b n (take a xs) (ys ++ drop (a + n) xs) (omega arith) ∙ part_front b n a xs k)
        | inr k ↦
            (let z : length (take a xs ++ ys) ≡ a + n = omega (arith, length-append (take a xs) ys, length-take-le a xs (omega arith)) in
            ap (λ y. part b n y) (sym (append_assoc (take a xs) ys (drop (a + n) xs))) ∙ ap (take n) (drop-append-drop (a + n) xs (take a xs ++ ys) b k z))
      ]

  pub length-put : (a n : ℕ) (ys xs : List A) → length ys ≡ n → a + n ≤ length xs → length (put a n ys xs) ≡ length xs
  length-put a n ys xs e l =
      omega (arith, length-append (take a xs) (ys ++ drop (a + n) xs), length-append ys (drop (a + n) xs), length-take-le a xs (omega arith), length-drop (a + n) xs)

pub part_more : (a n j : ℕ) (xs : List ℕ) → j < n → part a n (more (a + j) xs) ≡ more j (part a n xs)
part_more a n j xs l =
    part_set a n j xs (min (get_or xs (a + j) 0 + 1) (2 ^ 32 - 1)) l
    ∙ ap (λ v. set (part a n xs) j (min (v + 1) (2 ^ 32 - 1))) (sym (get_d_part a n j xs 0 l))

pub part_more_out : (a n x : ℕ) (xs : List ℕ) → (x < a) ⊎ (a + n ≤ x) → part a n (more x xs) ≡ part a n xs
part_more_out a n x xs o = part_set-out a n x xs (min (get_or xs x 0 + 1) (2 ^ 32 - 1)) o

pub length_more : (x : ℕ) (xs : List ℕ) → length (more x xs) ≡ length xs
length_more x xs = length-set xs x (min (get_or xs x 0 + 1) (2 ^ 32 - 1))

pub more_at : (x : ℕ) (xs : List ℕ) → x < length xs → get_or xs x 0 < 2 ^ 32 - 1 → get_or (more x xs) x 0 ≡ get_or xs x 0 + 1
more_at x xs l f =
    let e : min (get_or xs x 0 + 1) (2 ^ 32 - 1) ≡ get_or xs x 0 + 1 = omega arith in
    get_or-set_same xs x (min (get_or xs x 0 + 1) (2 ^ 32 - 1)) 0 l ∙ e

pub more_out : (x y : ℕ) (xs : List ℕ) → (y ≡ x → ⊥) → get_or (more x xs) y 0 ≡ get_or xs y 0
more_out x y xs n = get_or-set_other xs x y (min (get_or xs x 0 + 1) (2 ^ 32 - 1)) 0 n

-- a part of a slice after a change to it, as the checker has it
pub part_is : {X : Type 0} (a n k : ℕ) (f : List X → List X) (zs ys : List X) → k ≡ n → ys ≡ f (take k (drop a zs)) → put_mid a k zs ys ≡ put a n (f (part a n zs)) zs
part_is {X} a n k f zs ys e g =
    let d : drop k (drop a zs) ≡ drop (a + n) zs = drop-drop k a zs ∙ ap (λ (i : ℕ). drop (a + i) zs) e in
    ap (λ (vs : List X). take a zs ++ (ys ++ vs)) d ∙ ap (λ (vs : List X). take a zs ++ (vs ++ drop (a + n) zs)) (g ∙ ap (λ (i : ℕ). f (take i (drop a zs))) e)
