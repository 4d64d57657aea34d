-- Maps by remainders keep the laws, and how many levels two blocks share by them.
use Rattle.std.specs.Prelude.{◌≡◌, ℕ, ◌+◌, ◌*◌, ◌%◌, ◌^◌, ◌<◌, ◌≤◌, min, bit_xor}
use Rattle.std.proofs.Common.{arith, pow_pos}
use Rattle.std.specs.Int.Count.{count_trailing_zeros}
use Rattle.std.proofs.lemmas.Nat.{mod_below, pow_below}
use Rattle.setmap.specs.Mapping.{Lawful, shared}
use Rattle.setmap.specs.Maps.{by_bits, by_thirds, bit_choice, thirds}
use Rattle.setmap.specs.Shares.{shared_is}
use Rattle.setmap.specs.Remainders.{Both, agree, lower, joined, bits_refine, thirds_refine}

pub by_bits_lawful : (n : ℕ) → 1 ≤ n → n ≤ 30 → Lawful (by_bits n)
by_bits_lawful n some few = record {
  some_level = some;
  some_set = λ i l. pow_pos i;
  few_sets = λ i l. pow_below i 32 (omega arith);
  within = λ i b l. mod_below b (2 ^ i) (pow_pos i);
  refines = λ i a b l e. bits_refine i a b e;
}

pub by_thirds_lawful : (n : ℕ) → 1 ≤ n → n ≤ 30 → Lawful (by_thirds n)
by_thirds_lawful n some few = record {
  some_level = some;
  some_set = λ i l. omega (arith, pow_pos i);
  few_sets = λ i l. omega (arith, pow_below i 30 (omega arith));
  within = λ i b l. mod_below b (3 * 2 ^ i) (omega (arith, pow_pos i));
  refines = λ i a b l e. thirds_refine i a b e;
}

pub bit_choice_lawful : Lawful bit_choice
bit_choice_lawful = by_bits_lawful 17 (omega arith) (omega arith)

pub thirds_lawful : Lawful thirds
thirds_lawful = by_thirds_lawful 16 (omega arith) (omega arith)

module _ (a b last zeros t : ℕ) (few : last < 30) (count : zeros ≡ count_trailing_zeros 32 (bit_xor a b)) (least : t ≡ min zeros last) where
  pub bits_shared : t + 1 ≡ shared (by_bits (last + 1)) a b
  bits_shared = shared_is (by_bits (last + 1)) (by_bits_lawful (last + 1) (omega arith) (omega arith)) a b (t + 1) (omega arith) exact
    where
      exact : (i : ℕ) → i < last + 1 → Both (i < t + 1) (a % 2 ^ i ≡ b % 2 ^ i)
      exact i l =
          let q : i ≤ 32 = omega arith in
          ((λ h. (agree 32 i a b q).0 (omega arith)), (λ s. omega (arith, (agree 32 i a b q).1 s)))

  pub thirds-shared : a % 3 ≡ b % 3 → t + 1 ≡ shared (by_thirds (last + 1)) a b
  thirds-shared m = shared_is (by_thirds (last + 1)) (by_thirds_lawful (last + 1) (omega arith) (omega arith)) a b (t + 1) (omega arith) exact
    where
      exact : (i : ℕ) → i < last + 1 → Both (i < t + 1) (a % (3 * 2 ^ i) ≡ b % (3 * 2 ^ i))
      exact i l =
          let q : i ≤ 32 = omega arith in
          ((λ h. joined i a b m ((agree 32 i a b q).0 (omega arith))), (λ s. omega (arith, (agree 32 i a b q).1 (lower 3 (2 ^ i) a b s))))
