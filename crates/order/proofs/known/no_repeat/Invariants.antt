use Rattle.std.proofs.Common.{◌≡◌, length}
use Rattle.order.specs.Looks.{no_repeat}
use Rattle.order.proofs.known.no_repeat.Given as goal

abbrev pub invariant-loop-first : goal.invariant-loop-first
invariant-loop-first l = no_repeat l.rest ≡ no_repeat l.known

abbrev pub decreases-loop-first : goal.decreases-loop-first
decreases-loop-first l = length l.rest
