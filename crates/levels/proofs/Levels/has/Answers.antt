use Rattle.std.proofs.Common.{sym, refl, ◌∙◌, arith}
use Rattle.std.proofs.lemmas.Bool.{le-ltb}
use Rattle.levels.specs.Levels.{has}
use Rattle.levels.proofs.Bits.{has_past}
use Rattle.levels.proofs.Levels.has.Goals as goal

pub returns-then-level-lt32 : goal.returns-then-level-lt32
unfolding has
returns-then-level-lt32 c = refl

-- the bits are below 2^32
pub returns-else-level-lt32 : goal.returns-else-level-lt32
returns-else-level-lt32 c =
    le-ltb _ _ c.if-level-lt32.false ∙ sym (has_past 32 c.args.self c.args.level (omega arith) c.if-level-lt32.false)
