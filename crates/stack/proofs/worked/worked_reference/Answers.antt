use Rattle.std.proofs.Common.{◌≡◌, [], ◌∷◌, ◌++◌, refl, ap, ◌∙◌}
use Rattle.setmap.specs.Maps.{bit_choice}
use Rattle.levels.specs.Levels.{below, both, either, less}
use Rattle.stack.specs.declared.Entry.TheVariants.{Empty}
use Rattle.stack.specs.Stack.{gives}
use Rattle.stack.specs.Touch.{after}
use Rattle.stack.specs.Worked.{blk, met_before, met_after, WorkedReference}
use Rattle.stack.proofs.worked.worked_reference.Goals as goal

theorem_is : WorkedReference
unfolding below both either less gives
theorem_is = refl

stretch_is : after bit_choice (blk 5) (met_before ++ (Empty ∷ [])) ≡ met_after
unfolding below both either less gives
stretch_is = refl

pub returns : goal.returns
returns c = record { theorem = theorem_is; answer = c.touch.ensures.stretch ∙ ap (after bit_choice (blk 5)) c.before-es.ensures ∙ stretch_is }
