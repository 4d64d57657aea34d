-- Which levels the sets have that the operations give.
use Rattle.std.proofs.Common.{◌≡◌, ℕ, zero, suc, ◌+◌, ◌-◌, ◌/◌, ◌%◌, ◌^◌, ◌<◌, ◌≤◌, min, max, Bool, true, false, not, ◌&&◌, ◌||◌, eqb, ltb, sym, ap, ◌∙◌, inl, inr, arith, pow_pos, pow_mono, shr-shr}
use native.Mathlib.Nat.{div-eq_of_lt}
use lib.Bits.{and_self, bit_and, bit_or, bit_xor, and_shr, or_shr, xor_shr, and_step, or_step, or_add_and, xor_add_and, and_le_l, and_le_r, and_zero_r, xor_zero_r, xor_lt, or_lt}
use Rattle.std.proofs.lemmas.Nat.{and-not, and_assoc, and_comm}
use lib.Pow.{ones_split, high}
use Rattle.std.proofs.lemmas.Bool.{cases_lt, lt-ltb, le-ltb, eq-eqb, eqb-true}
use Rattle.levels.specs.declared.Levels.{Levels}
use Rattle.levels.specs.Levels.{has, no_level, below, both, either, less, is_none}

-- ---- the levels of each result

and_odd : (a b : ℕ) → bit_and a b % 2 ≡ min (a % 2) (b % 2)
and_odd a b = omega (arith, and_step a b)

or_odd : (a b : ℕ) → bit_or a b % 2 ≡ max (a % 2) (b % 2)
or_odd a b = omega (arith, or_step a b)

without_odd : (a b : ℕ) → bit_xor a (bit_and a b) % 2 ≡ a % 2 - b % 2
without_odd a b = omega (arith, xor_add_and a (bit_and a b), and_odd a b)

odd_and : (a b : ℕ) → eqb (min (a % 2) (b % 2)) 1 ≡ (eqb (a % 2) 1 && eqb (b % 2) 1)
odd_and a b = grind arith

odd_or : (a b : ℕ) → eqb (max (a % 2) (b % 2)) 1 ≡ (eqb (a % 2) 1 || eqb (b % 2) 1)
odd_or a b = grind arith

odd_without : (a b : ℕ) → eqb (a % 2 - b % 2) 1 ≡ (eqb (a % 2) 1 && not (eqb (b % 2) 1))
odd_without a b = grind arith

pub has_both : (v w : Levels) (i : ℕ) → has (both v w) i ≡ (has v i && has w i)
unfolding has both
has_both v w i = rw (and_shr, and_odd) (odd_and (v.bits / 2 ^ i) (w.bits / 2 ^ i))

pub has_either : (v w : Levels) (i : ℕ) → has (either v w) i ≡ (has v i || has w i)
unfolding has either
has_either v w i = rw (or_shr, or_odd) (odd_or (v.bits / 2 ^ i) (w.bits / 2 ^ i))

pub has-less : (v w : Levels) (i : ℕ) → has (less v w) i ≡ (has v i && not (has w i))
unfolding has less
has-less v w i = rw (xor_shr, and_shr, without_odd) (odd_without (v.bits / 2 ^ i) (w.bits / 2 ^ i))

pub less_bits : (a b : ℕ) → a < 2 ^ 32 → b < 2 ^ 32 → bit_and a (4294967295 - b) ≡ bit_xor a (bit_and a b)
less_bits a b h k =
    let c : bit_and a (bit_and a b) ≡ bit_and a b = sym (and_assoc b a a) ∙ ap (λ n. bit_and n b) (and_self a) in
    omega (arith, and-not 32 b a k h, xor_add_and a (bit_and a b), and_comm a b, and_comm a (4294967295 - b))

pub has_none : (v : Levels) (i : ℕ) → v.bits ≡ 0 → has v i ≡ false
unfolding has
has_none v i e = rw (e, div-eq_of_lt (pow_pos i))

ones_has : (i j : ℕ) → (2 ^ (suc j + i) - 1) / 2 ^ i % 2 ≡ 1
ones_has i j =
    let l : 2 ^ i - 1 < 2 ^ i = omega (arith, pow_pos i) in
    rw (ones_split (suc j) i, high (2 ^ suc j - 1) i l) (omega (arith, pow_pos j))

ones_test : (r i : ℕ) → eqb ((2 ^ r - 1) / 2 ^ i % 2) 1 ≡ ltb i r
ones_test r i =
    elim (cases_lt i r) [
      | inl m ↦ (let k : suc (r - suc i) + i ≡ r = omega arith in ap (λ n. eqb ((2 ^ n - 1) / 2 ^ i % 2) 1) (sym k) ∙ eq-eqb _ _ (ones_has i (r - suc i)) ∙ sym (lt-ltb i r m))
      | inr m ↦ (let k : 2 ^ r - 1 < 2 ^ i = omega (arith, pow_mono m, pow_pos r) in rw (div-eq_of_lt k) (sym (le-ltb i r m)))
    ]

ltb-min : (r i : ℕ) → i < 32 → ltb i (min r 32) ≡ ltb i r
ltb-min r i l =
    elim (cases_lt i r) [
      | inl m ↦ lt-ltb i (min r 32) (omega arith) ∙ sym (lt-ltb i r m)
      | inr m ↦ le-ltb i (min r 32) (omega arith) ∙ sym (le-ltb i r m)
    ]

pub has-below : (r i : ℕ) → i < 32 → has (below r) i ≡ ltb i r
unfolding has below
has-below r i l = ones_test (min r 32) i ∙ ltb-min r i l

-- a level past the bits is in no set
pub has_past : (k : ℕ) (v : Levels) (i : ℕ) → v.bits < 2 ^ k → k ≤ i → has v i ≡ false
unfolding has
has_past k v i h l = let f : v.bits < 2 ^ i = omega (arith, pow_mono l) in rw (div-eq_of_lt f)

-- ---- sets of the levels below k

pub both_lt : (k : ℕ) (v w : Levels) → v.bits < 2 ^ k → (both v w).bits < 2 ^ k
unfolding both
both_lt k v w h = omega (arith, and_le_l v.bits w.bits)

pub less_lt : (k : ℕ) (v w : Levels) → v.bits < 2 ^ k → (less v w).bits < 2 ^ k
unfolding less
less_lt k v w h = xor_lt k v.bits (bit_and v.bits w.bits) h (omega (arith, and_le_l v.bits w.bits))

pub either_lt : (k : ℕ) (v w : Levels) → v.bits < 2 ^ k → w.bits < 2 ^ k → (either v w).bits < 2 ^ k
unfolding either
either_lt k v w h l = or_lt k v.bits w.bits h l

pub below_lt : (r : ℕ) → r ≤ 32 → (below r).bits < 2 ^ r
unfolding below
below_lt r h = let e : min r 32 ≡ r = omega arith in rw e (omega (arith, pow_pos r))

-- ---- sets with no level, and with some

pub is_none_level : (v : Levels) → is_none v ≡ true → v ≡ no_level
is_none_level v e = ap (λ n. record { bits = n }) (eqb-true v.bits 0 e)

or_none : (a b : ℕ) → bit_or a b ≡ 0 → (a ≡ 0) × (b ≡ 0)
or_none a b z = (omega (arith, or_add_and a b, and_le_l a b, and_le_r a b), omega (arith, or_add_and a b, and_le_l a b, and_le_r a b))

pub either_none : (v w : Levels) → either v w ≡ no_level → (v ≡ no_level) × (w ≡ no_level)
unfolding either
either_none v w e =
    let z : bit_or v.bits w.bits ≡ 0 = ap (λ x. x.bits) e in
    let o = or_none v.bits w.bits z in
    (ap (λ n. record { bits = n }) o.0, ap (λ n. record { bits = n }) o.1)

pub less_none : (v : Levels) → less v no_level ≡ v
unfolding less
less_none v = ap (λ n. record { bits = bit_xor v.bits n }) (and_zero_r v.bits) ∙ ap (λ n. record { bits = n }) (xor_zero_r v.bits)

pub below_some : (r : ℕ) → r ≤ 32 → 1 ≤ r → (below r).bits ≡ 0 → ⊥
unfolding below
below_some r h l z =
    let e : min r 32 ≡ r = omega arith in
    let z' : 2 ^ r - 1 ≡ 0 = rw e at z in
    omega (arith, pow_mono l)

unfoldable bit : ℕ → ℕ → Bool
bit v i = eqb (v / 2 ^ i % 2) 1

bit_half : (v k : ℕ) → bit v (suc k) ≡ bit (v / 2) k
unfolding bit
bit_half v k =
    let e : 1 + k ≡ suc k = omega arith in
    let d : v / 2 / 2 ^ k ≡ v / 2 ^ suc k = shr-shr v 1 k ∙ ap (λ n. v / 2 ^ n) e in
    rw d

bit_odd : (v : ℕ) → v % 2 ≡ 1 → bit v 0 ≡ true
unfolding bit
bit_odd v h = eq-eqb (v / 1 % 2) 1 (omega arith)

some_bit : (n v : ℕ) → v < 2 ^ n → (v ≡ 0 → ⊥) → (k : ℕ) × (k < n) × (bit v k ≡ true)
some_bit zero v l z = absurd (z (omega arith))
some_bit (suc n) v l z =
    elim (cases_lt 0 (v % 2)) [
      | inl m ↦ (0, omega arith, bit_odd v (omega arith))
      | inr m ↦
          (let r = some_bit n (v / 2) (omega arith) (λ e. z (omega arith)) in
          (suc r.0, omega arith, bit_half v r.0 ∙ r.2))
    ]

-- a set that is not empty has a level
pub some_level : (n : ℕ) (v : Levels) → v.bits < 2 ^ n → (v.bits ≡ 0 → ⊥) → (k : ℕ) × (k < n) × (has v k ≡ true)
unfolding has bit
some_level n v l z = some_bit n v.bits l z
