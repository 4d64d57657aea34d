use Rattle.std.proofs.Common.{◌≡◌, ◌+◌, ◌-◌, ◌*◌, leb, ◌<◌, min, get_or, take, length-take, sym, ap, ◌∙◌, arith, rules}
use Rattle.std.proofs.lemmas.List.{get_or-take}
use Rattle.places.specs.Parts.{more}
use Rattle.stack.specs.Stack.{stack}
use Rattle.tables.specs.Calls.{scores}
use Rattle.tables.proofs.Scores.{more_capped, scores_more, scores_past, scores_absent}
use Rattle.tables.proofs.scoring.score.Goals as goal
use Rattle.tables.proofs.scoring.score.Goals.{then-reaches, else-reaches}

pub loop-i-preserved : goal.loop-i-preserved
loop-i-preserved c m q es t =
    let i = c.loop-i.i in
    let k : get_or (take c.min-levels.result c.args.walk.now.positions) i 0 ≡ get_or c.args.walk.now.positions i 0 = get_or-take c.min-levels.result c.args.walk.now.positions i 0 (omega (arith, length-take c.min-levels.result c.args.walk.now.positions, c.loop-i-test.true)) in
    let h : i < 17 = omega (arith, c.min-levels.ensures, c.loop-i-test.true) in
    let f = sym c.is_ok.ensures.value ∙ c.if-is_ok.true in
    let e = c.loop-i.invariant m q es t in
    let r = sym (ap (λ n. leb n c.args.s.ways) k) ∙ sym c.reaches.ensures in
    elim c.if-reaches.branch [
      | then-reaches w ↦
          (let n = i * c.args.s.ways + w.saturating_sub.result in
          w.counters-is ∙ w.bump.ensures ∙ ap (λ j. more j c.loop-i.counters) w.saturating_add.ensures ∙ more_capped (c.args.from + n) c.loop-i.counters (search rules)
          ∙ ap (λ j. more (c.args.from + (i * c.args.s.ways + j)) c.loop-i.counters) (w.saturating_sub.ensures ∙ ap (λ n. n - 1) k)
          ∙ scores_more m c.args.s c.args.from q es _ t i _ _ h f e (r ∙ w.if-reaches.true))
      | else-reaches w ↦ w.counters-is ∙ scores_past m c.args.s c.args.from q es _ t i _ _ h f e (r ∙ w.if-reaches.false)
    ]

pub returns-else-is_ok : goal.returns-else-is_ok
returns-else-is_ok c m q es t = scores_absent m c.args.s c.args.from q es _ t _ _ (omega arith) (sym c.is_ok.ensures.value ∙ c.if-is_ok.false)
