use Rattle.std.proofs.Common.{rules, ◌∙◌}
use borrow.Author.Tests.{tests}
use Rattle.std.proofs.lemmas.Iterator.{YieldsList-from_slice}
use Rattle.std.proofs.lemmas.Iterator.Search.{all_from_yields_List}
use Rattle.order.proofs.Stacks.{is_empty, all_empty_list}
use Rattle.order.proofs.rows.all_empty.Goals as goal

pub returns : goal.returns
returns c =
    let es = c.args.es.now in
    all_from_yields_List is_empty _ _ _ c.all.ensures.ran (YieldsList-from_slice es cc) (λ x b f k. search (rules, tests)) ∙ all_empty_list es
