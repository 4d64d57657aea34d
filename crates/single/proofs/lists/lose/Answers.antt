use Rattle.std.proofs.Common.{◌++◌, drop, ap, ◌∙◌}
use Rattle.single.proofs.Frames.{is_listed, not_listed, lost_found, lost_absent}
use Rattle.single.proofs.lists.lose.Goals as goal

pub returns-in-Some-clause-dropped : goal.returns-in-Some-clause-dropped
returns-in-Some-clause-dropped c = is_listed c.args.block c.args.set.now _ _ c.first_empty.ensures c.unwrap_or-end.ensures _ c.in-Some.ensures

pub returns-in-Some-clause-after : goal.returns-in-Some-clause-after
returns-in-Some-clause-after c =
    ap (λ xs. xs ++ drop c.unwrap_or-end.result c.args.set.now) c.close_up.ensures
    ∙ lost_found c.args.block c.args.set.now _ _ c.first_empty.ensures c.unwrap_or-end.ensures _ c.in-Some.ensures

pub returns-clause-dropped : goal.returns-clause-dropped
returns-clause-dropped c = not_listed c.args.block c.args.set.now _ _ c.first_empty.ensures c.unwrap_or-end.ensures c.in_default.ensures

pub returns-clause-after : goal.returns-clause-after
returns-clause-after c = lost_absent c.args.block c.args.set.now _ _ c.first_empty.ensures c.unwrap_or-end.ensures c.in_default.ensures
