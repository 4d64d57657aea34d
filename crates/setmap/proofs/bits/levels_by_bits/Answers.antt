use Rattle.std.proofs.Common.{arith}
use Rattle.setmap.specs.Laws.{bits_shared, thirds-shared}
use Rattle.setmap.proofs.bits.levels_by_bits.Goals as goal

pub returns : goal.returns
returns c =
    record {
      bits = bits_shared c.args.a c.args.b c.args.last _ _ c.requires (grind arith) c.min.ensures;
      thirds = thirds-shared c.args.a c.args.b c.args.last _ _ c.requires (grind arith) c.min.ensures;
    }
