use Rattle.std.proofs.Common.{length, ◌∙◌}
use Rattle.single.proofs.Frames.{is_listed, not_listed, touched-hit, touched_new}
use Rattle.single.proofs.lists.touch.Goals as goal

pub returns-in-Some-clause-hit : goal.returns-in-Some-clause-hit
returns-in-Some-clause-hit c = is_listed c.args.block c.args.set.now _ _ c.first_empty.ensures c.unwrap_or-end.ensures _ c.in-Some.ensures

pub returns-in-Some-clause-after : goal.returns-in-Some-clause-after
returns-in-Some-clause-after c =
    c.bring_to_front.ensures ∙ touched-hit c.args.block c.args.set.now _ _ c.first_empty.ensures c.unwrap_or-end.ensures _ c.in-Some.ensures (length c.args.set.now)

pub returns-clause-hit : goal.returns-clause-hit
returns-clause-hit c = not_listed c.args.block c.args.set.now _ _ c.first_empty.ensures c.unwrap_or-end.ensures c.in_default.ensures

pub returns-clause-after : goal.returns-clause-after
returns-clause-after c =
    c.bring_to_front-2.ensures
    ∙ touched_new c.args.block c.args.set.now _ _ c.first_empty.ensures c.unwrap_or-end.ensures c.in_default.ensures _ c.min-place.ensures c.requires
