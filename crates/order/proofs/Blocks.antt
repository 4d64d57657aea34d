-- Lists of blocks: what a look at a part says of the whole, and where none repeats.
use Rattle.std.proofs.Common.{◌≡◌, ℕ, zero, suc, ◌+◌, ◌*◌, ◌<◌, ◌≤◌, nat_lt, Bool, true, cond, not, ◌||◌, List, [], ◌∷◌, ◌++◌, fold, length, take, drop, get_or, position, sym, refl, ap, ◌∙◌, inl, inr, arith}
use Rattle.std.specs.List.{position_or_len}
use Rattle.std.specs.Simd.{first_chunks}
use Rattle.std.specs.Option.{option_map, is_some, unwrap_or}
use Rattle.std.proofs.lemmas.List.{take-append-drop, drop-drop, length-take-le, length-drop}
use Rattle.std.proofs.Math.Nat.{suc-mul}
use Rattle.std.proofs.lemmas.List.Sums.{prefix_len-le-length}
use Rattle.std.proofs.lemmas.Bool.{cases_Bool}
use Rattle.trace.specs.Items.{same}
use Rattle.trace.specs.declared.Block.{Block}
use Rattle.trace.proofs.Blocks.{same_equal, same_refl}
use Rattle.caches.specs.Caches.{among}
use Rattle.tables.specs.Calls.{place_of}
use Rattle.order.specs.Order.{Distinct}
use Rattle.order.specs.Looks.{no_repeat}

-- ---- a look at all of some blocks

pub among_fold : (q : Block) (any : Bool) (xs : List Block) → fold (λ a b. a || same b q) any xs ≡ (any || among q xs)
among_fold q any [] = grind arith
among_fold q any (x ∷ xs) = let ih = among_fold q (any || same x q) xs in grind arith

-- ---- the first place

-- as the library says it, and as the specs do
abbrev pub first : Block → List Block → ℕ
first q xs = position_or_len (λ b. same b q) xs

pub first_place : (q : Block) (xs : List Block) → first q xs ≡ place_of q xs
first_place q [] = refl
first_place q (x ∷ xs) = let ih = first_place q xs in grind arith

among_first : (q : Block) (xs : List Block) → among q xs ≡ nat_lt (first q xs) (length xs)
among_first q [] = refl
among_first q (x ∷ xs) = let ih = among_first q xs in grind arith

pub among_position : (q : Block) (xs : List Block) → among q xs ≡ is_some (position (λ b. same b q) xs)
among_position q xs = let f = among_first q xs in grind arith

pub place_or_length : (q : Block) (xs : List Block) → unwrap_or (position (λ b. same b q) xs) (length xs) ≡ place_of q xs
place_or_length q xs =
    let f = first_place q xs in
    let w = prefix_len-le-length (λ b. not (same b q)) xs in
    grind arith

first_append : (q : Block) (xs ys : List Block) → first q (xs ++ ys) ≡ cond (among q xs) (first q xs) (length xs + first q ys)
first_append q [] ys = omega arith
first_append q (x ∷ xs) ys = let ih = first_append q xs ys in grind arith

-- how many of the first n chunks of c blocks stand before one that has q
abbrev pub passed : Block → (c n : ℕ) → List Block → ℕ
passed q c n xs = position_or_len (among q) (first_chunks c n xs)

module _ (q : Block) (c : ℕ) where
  pub passed_within : (n : ℕ) (xs : List Block) → passed q c n xs ≤ n
  passed_within zero xs = omega arith
  passed_within (suc n) xs = let ih = passed_within n (drop c xs) in grind arith

  pub chunks_passed : (n : ℕ) (xs : List Block) → n * c ≤ length xs → first q xs ≡ passed q c n xs * c + first q (drop (passed q c n xs * c) xs)
  chunks_passed zero xs l = grind arith
  chunks_passed (suc n) xs l =
      let t = sym (ap (first q) (take-append-drop c xs)) ∙ first_append q (take c xs) (drop c xs) in
      let w = length-take-le c xs in
      let d = length-drop c xs in
      let ih = chunks_passed n (drop c xs) in
      let f = ap (first q) (drop-drop (passed q c n (drop c xs) * c) c xs) in
      let m = suc-mul n c in
      let k = suc-mul (passed q c n (drop c xs)) c in
      elim (cases_Bool (among q (take c xs))) [ inl e ↦ rw e (grind arith) | inr e ↦ rw e (grind arith) ]

pub place_behind : (q : Block) (k : ℕ) (xs : List Block) → k ≤ length xs → first q xs ≡ k + first q (drop k xs)
    → option_map (λ at. k + at) (position (λ b. same b q) (drop k xs)) ≡ position (λ b. same b q) xs
place_behind q k xs l e = let d = length-drop k xs in grind arith

-- ---- none repeats

among_at : (b : Block) (K : List Block) (k : ℕ) → k < length K → get_or K k b ≡ b → among b K ≡ true
among_at b [] k l e = grind arith
among_at b (x ∷ K) zero l e = let r = same_refl b in grind arith
among_at b (x ∷ K) (suc k) l e = let ih = among_at b K k in grind arith

pub no_repeat_distinct : (K : List Block) → no_repeat K ≡ true → Distinct K
no_repeat_distinct [] n k b l e = grind arith
no_repeat_distinct (x ∷ K) n zero b l e = let r = same_refl b in grind arith
no_repeat_distinct (x ∷ K) n (suc k) b l e =
    let ih = no_repeat_distinct K in
    let a = among_at b K k in
    let f = same_equal x b in
    grind arith
