use Rattle.std.proofs.Common.{ℕ, ap, ◌∙◌, arith}
use Rattle.levels.specs.Levels.{has, either}
use Rattle.levels.proofs.Bits.{has_either}
use Rattle.levels.proofs.Levels.either.Goals as goal

pub returns-clause-levels : goal.returns-clause-levels
unfolding either
returns-clause-levels c i = ap (λ (n : ℕ). has (record { bits = n }) i) (omega arith) ∙ has_either c.args.self c.args.other i
