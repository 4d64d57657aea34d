use Rattle.std.proofs.Common.{rules, arith}
use borrow.Author.Tests.{tests}
use Rattle.std.proofs.lemmas.Iterator.{YieldsList-from_slice}
use Rattle.std.proofs.lemmas.Iterator.Search.{position_from_yields_List}
use Rattle.single.specs.Calls.{holds}
use Rattle.single.proofs.lists.place_of.Goals as goal

-- In two steps, so that what is made of the place is proved apart from how it is looked up.
pub returns : goal.returns
returns c =
    let at = position_from_yields_List (holds c.args.block) _ _ c.position.result c.position.ensures.ran (YieldsList-from_slice c.args.list.now cc) (λ f b k s. search (rules, tests)) in
    grind arith
