use Rattle.std.proofs.Common.{◌≡◌, ℕ, ◌-◌, ◌^◌, ◌<◌, ◌≤◌, min, sym, ap, ◌∙◌, arith, rules}
use Rattle.levels.specs.declared.Levels.{Levels}
use Rattle.levels.specs.Levels.{has, below}
use Rattle.levels.proofs.Bits.{has-below}
use Rattle.levels.proofs.Levels.below.Goals as goal

abbrev of : ℕ → Levels
of n = record { bits = n }

few : (n k : ℕ) → n < 32 → k ≡ 2 ^ n - 1 → of k ≡ below n
unfolding below
few n k l e = let m : min n 32 ≡ n = omega arith in ap of e ∙ ap (λ i. of (2 ^ i - 1)) (sym m)

all : (n : ℕ) → 32 ≤ n → of 4294967295 ≡ below n
unfolding below
all n l = let m : min n 32 ≡ 32 = omega arith in ap (λ i. of (2 ^ i - 1)) (sym m)

pub returns-then-n-lt32 : goal.returns-then-n-lt32
returns-then-n-lt32 c =
    let e = few c.args.n _ (omega arith) (search rules) in
    record { value = e; levels = λ i l. ap (λ v. has v i) e ∙ has-below c.args.n i l }

pub returns-else-n-lt32 : goal.returns-else-n-lt32
returns-else-n-lt32 c =
    let e = all c.args.n (omega arith) in
    record { value = e; levels = λ i l. ap (λ v. has v i) e ∙ has-below c.args.n i l }
