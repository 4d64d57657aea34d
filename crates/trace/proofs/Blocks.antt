-- The laws of the one equality of blocks.
use Rattle.std.proofs.Common.{◌≡◌, ℕ, ◌^◌, ◌<◌, ◌/◌, Option, Some, None, true, refl, ap, sym, arith, pow_mono}
use Rattle.std.specs.Option.{SomeIff, unwrap_or}
use native.Mathlib.Nat.{div-eq_of_lt}
use Rattle.std.proofs.lemmas.Bool.{eqb-true, eq-eqb}
use Rattle.trace.specs.Items.{same}
use Rattle.trace.specs.declared.Block.{Block}

pub same_refl : (b : Block) → same b b ≡ true
same_refl b = eq-eqb b.number b.number refl

pub same_equal : (a b : Block) → same a b ≡ true → a ≡ b
same_equal a b e = ap (λ n. record { number = n }) (eqb-true a.number b.number e)

-- an address is below 2^32, so no bit of it is left of a shift that is too far
pub shifted : (address shift : ℕ) (r : Option ℕ) → address < 2 ^ 32 → SomeIff r (shift < 32) (address / 2 ^ shift) → unwrap_or r 0 ≡ address / 2 ^ shift
shifted address shift (Some n) small s = s.1
shifted address shift None small s =
    let far : shift < 32 → ⊥ = s in
    let large = pow_mono {i = 32} {j = shift} (grind arith) in
    sym (div-eq_of_lt (omega arith))
