use Rattle.std.proofs.Common.{◌≡◌, ◌+◌, ◌-◌, vec_items, ap, ◌∙◌, arith}
use Rattle.single.specs.Lent.{lent}
use Rattle.spot_report.specs.Spot.{rows}
use Rattle.spot_report.proofs.Figures.{rows_more}
use Rattle.spot_report.proofs.rows.list_rows.Goals as goal
use Rattle.spot_report.proofs.rows.list_rows.Goals.{else-loop-processor-test, then-loop-processor-test+in_ok-push+else-processor-processors}

pub loop-processor-preserved : goal.loop-processor-preserved
loop-processor-preserved g c t₀ h separate reached =
    let a = c.args in
    let m = g.M.SetMap.meaning a.cache.now.setup.map in
    let s = a.cache.now.setup.settings in
    let n : c.loop-processor.processor + 1 - 1 ≡ c.loop-processor.processor = omega arith in
    let more = rows_more m s separate t₀ h a.cache.now.accepted (lent a.tables.now) reached
    c.loop-processor.processor c.tally_of-tallies.result _ c.loop-processor.auto.processor c.tally_of-tallies.ensures (c.loop-processor.invariant t₀ h separate reached) in
    rw n (c.in_ok-push.ensures.items ∙ more)

pub returns : goal.returns
returns g c t₀ h separate reached =
    let a = c.args in
    let m = g.M.SetMap.meaning a.cache.now.setup.map in
    let s = a.cache.now.setup.settings in
    elim c.loop-processor-test.branch [
      | else-loop-processor-test w ↦ absurd (omega (arith, a.cache.now.setup.limited.some_processor))
      | then-loop-processor-test+in_ok-push+else-processor-processors w ↦
          (let last : c.loop-processor.processor ≡ a.processors = omega arith in
          let more = rows_more m s separate t₀ h a.cache.now.accepted (lent a.tables.now) reached
          c.loop-processor.processor w.tally_of-tallies.result _ c.loop-processor.auto.processor w.tally_of-tallies.ensures (c.loop-processor.invariant t₀ h separate reached) in
          ap (λ v. vec_items v) w.rows-is ∙ w.in_ok-push.ensures.items ∙ more ∙ ap (rows m s h) last)
    ]
