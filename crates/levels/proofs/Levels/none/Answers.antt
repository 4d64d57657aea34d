use Rattle.std.proofs.Common.{refl}
use Rattle.levels.specs.Levels.{no_level}
use Rattle.levels.proofs.Bits.{has_none}
use Rattle.levels.proofs.Levels.none.Goals as goal

pub returns : goal.returns
returns c = record { value = refl; levels = λ i. has_none no_level i refl }
