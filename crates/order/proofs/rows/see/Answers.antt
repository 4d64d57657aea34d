use Rattle.std.proofs.Common.{rules}
use Rattle.order.proofs.Stacks.{held, unknown}
use Rattle.order.proofs.rows.see.Goals as goal

pub returns-then-is_held-clause-value : goal.returns-then-is_held-clause-value
returns-then-is_held-clause-value c = search (rules, held)

pub returns-in-None-clause-value : goal.returns-in-None-clause-value
returns-in-None-clause-value c = search (rules, unknown)
