use Rattle.std.proofs.Common.{refl}
use Rattle.levels.specs.Levels.{has, below, both, either, less}
use Rattle.stack.specs.Stack.{gives}
use Rattle.worked_rules.specs.Worked.{WorkedRules}
use Rattle.worked_rules.proofs.worked_rules.Goals as goal

-- every example is worked out by the definitions alone
hold : WorkedRules
unfolding has below both either less gives
hold =
    record {
      shared_levels = (refl, refl, refl, refl, refl);
      markers = refl;
      positions = (refl, refl, refl);
      past_a_marker = (refl, refl);
      one_hit = (refl, refl, refl, refl);
      four_entries = (refl, refl, refl, refl, refl);
      room = (refl, refl);
      own_write = refl;
      write_before = refl;
      by_thirds = (refl, refl);
      first_processor = ((refl, refl), (refl, refl), (refl, refl), (refl, refl));
      second_processor = ((refl, refl), (refl, refl), (refl, refl), (refl, refl));
    }

pub returns : goal.returns
returns c = hold
