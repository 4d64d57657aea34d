use Rattle.std.proofs.Common.{◌∙◌, rules, tests}
use Rattle.std.proofs.lemmas.Iterator.{YieldsList-from_slice}
use Rattle.std.proofs.lemmas.Iterator.Consumers.{count_from_yields_List}
use Rattle.std.proofs.lemmas.Iterator.Search.{YieldsList-from_take_while}
use Rattle.std.proofs.lemmas.List.Folds.{length-prefix_len}
use Rattle.stack.proofs.Ends.{filled, tall_is_prefix}
use Rattle.stack.proofs.room.stack_len.Goals as goal

pub returns-clause-is : goal.returns-clause-is
returns-clause-is c =
    count_from_yields_List c.take_while.result _ c.count.ensures.ran
    (YieldsList-from_take_while _ filled (YieldsList-from_slice c.args.es.now cc) c.take_while.ensures.closure c.take_while.ensures.done (λ x b q k. search (rules, tests)))
    ∙ length-prefix_len filled c.args.es.now
    ∙ tall_is_prefix c.args.es.now
