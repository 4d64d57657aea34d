-- Worked examples: how many levels two blocks share.
use Rattle.std.specs.Prelude.{◌≡◌}
use Rattle.setmap.specs.Mapping.{shared}
use Rattle.setmap.specs.Maps.{bit_choice, thirds}

-- 5 and 13 differ first in bit 3, 5 and 9 in bit 2; 1 and 13 agree modulo 12, 1 and 3 not modulo 3
abbrev pub WorkedMaps : Type 0
WorkedMaps = (shared bit_choice 5 13 ≡ 4) × (shared bit_choice 5 9 ≡ 3) × (shared bit_choice 5 5 ≡ 17) × (shared thirds 1 13 ≡ 3) × (shared thirds 1 3 ≡ 0)
