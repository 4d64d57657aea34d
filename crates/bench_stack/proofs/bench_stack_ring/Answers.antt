use Rattle.std.proofs.Common.{◌+◌, ◌%◌, ◌^◌, sym, refl, ap, ◌∙◌, arith}
use Rattle.setmap.specs.Maps.{bit_choice}
use Rattle.stack.specs.Touch.{after}
use Rattle.bench_stack.specs.Ring.{nth_block, stretch, told, total}
use Rattle.bench_stack.proofs.Rings.{stretch_more, total_more, read_is}
use Rattle.bench_stack.proofs.bench_stack_ring.Goals as goal

pub loop-i-init : goal.loop-i-init
unfolding stretch total
loop-i-init c = (refl, refl, refl)

pub loop-i-preserved : goal.loop-i-preserved
loop-i-preserved c =
    let d = c.max-ring.result in
    let i = c.loop-i.i in
    let v = c.loop-i.invariant in
    let q = nth_block d i in
    let r = c.read_at-sum.ensures ∙ read_is q (i % 17) c.loop-i.es _ (omega arith) c.touch-answer.ensures.answer ∙ ap (told q (i % 17)) v.0 in (
      c.touch-answer.ensures.stretch ∙ ap (after bit_choice q) v.0 ∙ sym (stretch_more d i),
      c.touch-answer.auto.es ∙ v.1,
      ap (λ n. (n + c.read_at-sum.result) % 2 ^ 64) v.2 ∙ ap (λ n. (total d i + n) % 2 ^ 64) r ∙ sym (total_more d i),
    )
