-- Sums over the first numbers.
use Rattle.std.proofs.Common.{◌≡◌, ℕ, zero, suc, ◌+◌, ◌*◌, ◌<◌, ◌≤◌, cond, eqb, refl, inl, inr, zero-le, arith}
use Rattle.std.proofs.lemmas.Bool.{cases_lt, eq-eqb, ne_eqb}
use Rattle.caches.specs.Views.{sum_to}

pub sum_none : (n : ℕ) → 0 ≡ sum_to n (λ s. 0)
sum_none zero = refl
sum_none (suc n) = omega (arith, sum_none n)

sum-outside : (n j c : ℕ) (f g : ℕ → ℕ) → ((s : ℕ) → g s ≡ f s + cond (eqb j s) c 0) → n ≤ j → sum_to n g ≡ sum_to n f
sum-outside zero j c f g e l = refl
sum-outside (suc n) j c f g e l =
    let here : g n ≡ f n + 0 = rw (ne_eqb j n (λ z. omega arith)) at (e n) in
    omega (arith, sum-outside n j c f g e (omega arith))

-- what is added at one place is added to the sum
pub sum_one : (n j c : ℕ) (f g : ℕ → ℕ) → ((s : ℕ) → g s ≡ f s + cond (eqb j s) c 0) → j < n → sum_to n g ≡ sum_to n f + c
sum_one zero j c f g e l = absurd (omega arith)
sum_one (suc n) j c f g e l =
    elim (cases_lt j n) [
      | inl k ↦ (let here : g n ≡ f n + 0 = rw (ne_eqb j n (λ z. omega arith)) at (e n) in omega (arith, sum_one n j c f g e k))
      | inr k ↦ (let here : g n ≡ f n + c = rw (eq-eqb j n (omega arith)) at (e n) in omega (arith, sum-outside n j c f g e k))
    ]

pub sum_at_most : (n m : ℕ) (f : ℕ → ℕ) → ((s : ℕ) → s < n → f s ≤ m) → sum_to n f ≤ n * m
sum_at_most zero m f h = zero-le
sum_at_most (suc n) m f h = omega (arith, sum_at_most n m f (λ s l. h s (omega arith)), h n (omega arith))

pub sum_mono : (n : ℕ) (f g : ℕ → ℕ) → ((s : ℕ) → f s ≤ g s) → sum_to n f ≤ sum_to n g
sum_mono zero f g h = zero-le
sum_mono (suc n) f g h = omega (arith, sum_mono n f g h, h n)

-- a sum grows where one part does and none falls
pub sum_grows : (n : ℕ) (f g : ℕ → ℕ) → ((s : ℕ) → f s ≤ g s) → (j : ℕ) → j < n → f j < g j → sum_to n f < sum_to n g
sum_grows zero f g h j l k = absurd (omega arith)
sum_grows (suc n) f g h j l k =
    elim (cases_lt j n) [
      | inl p ↦ omega (arith, sum_grows n f g h j p k, h n)
      | inr p ↦ (let e : j ≡ n = omega arith in let here : f n < g n = rw e at k in omega (arith, sum_mono n f g h))
    ]
