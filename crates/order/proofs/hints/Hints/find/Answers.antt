use Rattle.std.proofs.Common.{length, unwrap_or, ap, ◌∙◌}
use Rattle.order.proofs.Blocks.{place_or_length}
use Rattle.order.proofs.hints.Hints.find.Goals as goal

pub returns-clause-value : goal.returns-clause-value
returns-clause-value c = λ d. ap (λ r. unwrap_or r (length c.args.known.now)) c.place-sought.ensures ∙ place_or_length c.args.q c.args.known.now
