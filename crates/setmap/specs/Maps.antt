-- The two maps of the bench.
use Rattle.std.specs.Prelude.{ℕ, ◌*◌, ◌%◌, ◌^◌}
use Rattle.setmap.specs.Mapping.{Mapping}

-- n levels; level i has 2^i sets, chosen by the i lowest bits of the block number
abbrev pub by_bits : ℕ → Mapping
by_bits n = record { levels = n; sets = λ i. 2 ^ i; set = λ i b. b % 2 ^ i }

-- n levels; level i has three times 2^i sets, chosen by the remainder
abbrev pub by_thirds : ℕ → Mapping
by_thirds n = record { levels = n; sets = λ i. 3 * 2 ^ i; set = λ i b. b % (3 * 2 ^ i) }

abbrev pub bit_choice : Mapping
bit_choice = by_bits 17

abbrev pub thirds : Mapping
thirds = by_thirds 16
