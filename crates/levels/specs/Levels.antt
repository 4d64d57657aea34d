-- A set of levels as bits: bit i stands for level i.
use Rattle.std.specs.Prelude.{ℕ, ◌-◌, ◌/◌, ◌%◌, ◌^◌, min, Bool, ◌==◌, bit_and, bit_or, bit_xor}
use Rattle.levels.specs.declared.Levels.{Levels}

unfoldable pub has : Levels → ℕ → Bool
has v i = v.bits / 2 ^ i % 2 == 1

abbrev pub no_level : Levels
no_level = record { bits = 0 }

-- the levels 0 to n - 1, of 32 at most
unfoldable pub below : ℕ → Levels
below n = record { bits = 2 ^ min n 32 - 1 }

-- the levels of both, and of either
unfoldable pub both : Levels → Levels → Levels
both v w = record { bits = bit_and v.bits w.bits }

unfoldable pub either : Levels → Levels → Levels
either v w = record { bits = bit_or v.bits w.bits }

-- the levels of v that w lacks
unfoldable pub less : Levels → Levels → Levels
less v w = record { bits = bit_xor v.bits (bit_and v.bits w.bits) }

abbrev pub is_none : Levels → Bool
is_none v = v.bits == 0
