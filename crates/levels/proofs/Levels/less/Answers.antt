use Rattle.std.proofs.Common.{ℕ, ap, ◌∙◌, arith}
use Rattle.levels.specs.Levels.{has, less}
use Rattle.levels.proofs.Bits.{has-less, less_bits}
use Rattle.levels.proofs.Levels.less.Goals as goal

pub returns-clause-levels : goal.returns-clause-levels
unfolding less
returns-clause-levels c i = ap (λ (n : ℕ). has (record { bits = n }) i) (omega (arith, less_bits c.args.self.bits c.args.other.bits (omega arith) (omega arith))) ∙ has-less c.args.self c.args.other i
