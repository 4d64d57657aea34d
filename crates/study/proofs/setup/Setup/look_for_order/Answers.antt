use Rattle.std.proofs.Common.{take, sym, ◌∙◌}
use Rattle.order.proofs.Blocks.{no_repeat_distinct}
use Rattle.study.proofs.setup.Setup.look_for_order.Goals as goal

pub returns : goal.returns
returns g c e =
    record {
      few = c.requires.few;
      distinct = no_repeat_distinct (take c.args.n c.args.tables.now.known.now) (sym c.no_repeat.ensures.value ∙ c.if-not-no_repeat.false);
      rows = c.rows_in_order.ensures e;
    }
