use Rattle.std.proofs.Common.{◌≡◌, List}
use Rattle.setmap.specs.Mapping.{Mapping}
use Rattle.stack.specs.declared.Entry.{Entry}
use Rattle.stack.specs.Stack.{stack}
use Rattle.stack.specs.Walk.{Walked}
use Rattle.tables.specs.Calls.{scores}
use Rattle.tables.proofs.scoring.score.Given as goal
use Rattle.trace.specs.declared.Block.{Block}

abbrev pub invariant-loop-i : goal.invariant-loop-i
invariant-loop-i l =
    (m : Mapping) (q : Block) (es : List Entry) → Walked m q es l.walk → l.counters ≡ scores m l.s l.from q (stack es) l.i l.initial.counters
