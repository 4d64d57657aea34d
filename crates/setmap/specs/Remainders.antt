-- Where two numbers have the same remainder: by powers of two, and by three times those.
use Rattle.std.specs.Prelude.{◌≡◌, ℕ, zero, suc, ◌+◌, ◌*◌, ◌/◌, ◌%◌, ◌^◌, ◌<◌, ◌≤◌, bit_xor}
use Rattle.std.proofs.Common.{ap, sym, ◌∙◌, arith, pow-suc, mul_assoc, mul_comm, add-one, pow_pos}
use Rattle.std.proofs.Math.Nat.{mod-one, mod-mod_of_dvd, dvd-mul_left, add-mul-mod_self_right}
use Rattle.std.proofs.Math.Arith.{mod-mul}
use Rattle.std.specs.Int.Count.{count_trailing_zeros, under}
use Rattle.std.proofs.lemmas.Nat.{xor_mod, xor_shr, mod-pow-add}

abbrev pub Both : Type 0 → Type 0 → Type 0
Both P Q = (P → Q) × (Q → P)

-- a remainder by the half's remainder and the lowest bit
low : (i n : ℕ) → n % 2 ^ suc i ≡ (n / 2 % 2 ^ i) * 2 + n % 2
low i n = rw (sym (add-one i)) (mod-pow-add n i 1)

-- one bit more
step : (p q x y t i : ℕ) → p < 2 → q < 2 → Both (i ≤ t) (x ≡ y) → Both (suc i ≤ under (bit_xor p q) t) (x * 2 + p ≡ y * 2 + q)
step zero zero x y t i hp hq (f, g) = ((λ h. let e = f (omega arith) in omega arith), (λ e. let h = g (omega arith) in omega arith))
step zero (suc zero) x y t i hp hq fg = ((λ h. absurd (omega arith)), (λ e. omega arith))
step (suc zero) zero x y t i hp hq fg = ((λ h. absurd (omega arith)), (λ e. omega arith))
step (suc zero) (suc zero) x y t i hp hq (f, g) = ((λ h. let e = f (omega arith) in omega arith), (λ e. let h = g (omega arith) in omega arith))
step (suc (suc p)) q x y t i hp hq fg = absurd (omega arith)
step zero (suc (suc q)) x y t i hp hq fg = absurd (omega arith)
step (suc zero) (suc (suc q)) x y t i hp hq fg = absurd (omega arith)

-- the i lowest bits agree exactly where the exclusive or has i zeros below
pub agree : (k i a b : ℕ) → i ≤ k → Both (i ≤ count_trailing_zeros k (bit_xor a b)) (a % 2 ^ i ≡ b % 2 ^ i)
unfolding count_trailing_zeros
agree k zero a b h = ((λ _. mod-one a ∙ sym (mod-one b)), (λ _. omega arith))
agree zero (suc i) a b h = absurd (omega arith)
agree (suc k) (suc i) a b h =
    let m : bit_xor a b % 2 ≡ bit_xor (a % 2) (b % 2) = xor_mod a b 1 in
    let d : bit_xor a b / 2 ≡ bit_xor (a / 2) (b / 2) = xor_shr a b 1 in
    rw (m, d, low i a, low i b)
    (step (a % 2) (b % 2) (a / 2 % 2 ^ i) (b / 2 % 2 ^ i) (count_trailing_zeros k (bit_xor (a / 2) (b / 2))) i (omega arith) (omega arith) (agree k i (a / 2) (b / 2) (omega arith)))

-- what agrees at a multiple agrees at the number
pub lower : (m c a b : ℕ) → a % (m * c) ≡ b % (m * c) → a % c ≡ b % c
lower m c a b e =
    sym (mod-mod_of_dvd c a (dvd-mul_left c m)) ∙ ap (λ (x : ℕ). x % c) e ∙ mod-mod_of_dvd c b (dvd-mul_left c m)

-- the half's remainder by 3, by the number's and its lowest bit
third : (a : ℕ) → a / 2 % 3 ≡ (2 * (a % 3) + a % 2) % 3
third a =
    let e : a / 2 + (a / 2 + a % 2) * 3 ≡ (2 * (a % 3) + a % 2) + (2 * (a / 3)) * 3 = omega arith in
    sym (add-mul-mod_self_right (a / 2) (a / 2 + a % 2) 3) ∙ ap (λ (n : ℕ). n % 3) e ∙ add-mul-mod_self_right (2 * (a % 3) + a % 2) (2 * (a / 3)) 3

-- numbers that agree modulo 3 and in their i lowest bits
pub joined : (i a b : ℕ) → a % 3 ≡ b % 3 → a % 2 ^ i ≡ b % 2 ^ i → a % (3 * 2 ^ i) ≡ b % (3 * 2 ^ i)
joined zero a b e f = e
joined (suc i) a b e f =
    let wide : 3 * 2 ^ suc i ≡ (3 * 2 ^ i) * 2 = rw (pow-suc 2 i) (sym (mul_assoc 3 (2 ^ i) 2)) in
    let p : 0 < 2 ^ i = pow_pos i in
    let big : (n : ℕ) → n % (3 * 2 ^ suc i) ≡ (n / 2 % (3 * 2 ^ i)) * 2 + n % 2 = λ n. rw wide (mod-mul n (omega arith) (omega arith)) in
    let g : (a / 2 % 2 ^ i) * 2 + a % 2 ≡ (b / 2 % 2 ^ i) * 2 + b % 2 = sym (low i a) ∙ f ∙ low i b in
    let h : a / 2 % 2 ^ i ≡ b / 2 % 2 ^ i = omega arith in
    let d : a % 2 ≡ b % 2 = omega arith in
    let k : a / 2 % 3 ≡ b / 2 % 3 = third a ∙ ap (λ (n : ℕ). (2 * n + a % 2) % 3) e ∙ ap (λ (n : ℕ). (2 * (b % 3) + n) % 3) d ∙ sym (third b) in
    let j = joined i (a / 2) (b / 2) k h in
    big a ∙ (omega arith) ∙ sym (big b)

-- one level less
doubled : (i : ℕ) → 2 ^ (i + 1) ≡ 2 * 2 ^ i
doubled i = ap (λ (x : ℕ). 2 ^ x) (add-one i) ∙ pow-suc 2 i ∙ mul_comm (2 ^ i) 2

pub bits_refine : (i a b : ℕ) → a % 2 ^ (i + 1) ≡ b % 2 ^ (i + 1) → a % 2 ^ i ≡ b % 2 ^ i
bits_refine i a b e = lower 2 (2 ^ i) a b (rw (sym (doubled i)) e)

pub thirds_refine : (i a b : ℕ) → a % (3 * 2 ^ (i + 1)) ≡ b % (3 * 2 ^ (i + 1)) → a % (3 * 2 ^ i) ≡ b % (3 * 2 ^ i)
thirds_refine i a b e =
    let d : 3 * 2 ^ (i + 1) ≡ 2 * (3 * 2 ^ i) = omega (arith, doubled i) in
    lower 2 (3 * 2 ^ i) a b (rw (sym d) e)
