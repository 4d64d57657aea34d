use Rattle.std.proofs.Common.{ap, sym, ◌∙◌}
use Rattle.stack.specs.declared.Entry.TheVariants.{Marker}
use Rattle.stack.proofs.Losses.{lost_found, lost_absent}
use Rattle.stack.proofs.lose.lose.Goals as goal

pub returns-in-Ok-clause-stretch : goal.returns-in-Ok-clause-stretch
returns-in-Ok-clause-stretch g c =
    lost_found c.args.q c.args.levels c.args.es.now c.in-Ok.place _ (sym c.in-Ok.is ∙ c.walk_to-walk.ensures.stop_is) (ap (Marker c.args.q) c.below.ensures.value)

pub returns-in_default-clause-stretch : goal.returns-in_default-clause-stretch
returns-in_default-clause-stretch g c =
    lost_absent c.args.q c.args.levels c.args.es.now (λ p e. c.in_default.not-Ok p (c.walk_to-walk.ensures.stop_is ∙ e))
