use Rattle.std.proofs.Common.{ℕ, ap, ◌∙◌, arith}
use Rattle.levels.specs.Levels.{has, both}
use Rattle.levels.proofs.Bits.{has_both}
use Rattle.levels.proofs.Levels.both.Goals as goal

pub returns-clause-levels : goal.returns-clause-levels
unfolding both
returns-clause-levels c i = ap (λ (n : ℕ). has (record { bits = n }) i) (omega arith) ∙ has_both c.args.self c.args.other i
