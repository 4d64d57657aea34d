use Rattle.std.proofs.Common.{rules, ◌||◌, false, ◌∙◌}
use borrow.Author.Tests.{tests}
use Rattle.std.proofs.lemmas.Iterator.{YieldsList-from_slice}
use Rattle.std.proofs.lemmas.Iterator.Consumers.{fold_from_yields_List}
use Rattle.trace.specs.Items.{same}
use Rattle.order.proofs.Blocks.{among_fold}
use Rattle.order.proofs.known.has_any.Goals as goal

pub returns : goal.returns
returns c =
    let q = c.args.q in
    let xs = c.args.blocks.now in
    fold_from_yields_List _ (λ any b. any || same b q) false _ c.fold.ensures.ran (YieldsList-from_slice xs cc) (λ any x b f k. search (rules, tests))
    ∙ among_fold q false xs
