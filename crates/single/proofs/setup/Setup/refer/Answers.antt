use Rattle.single.proofs.Steps.{refer_hit, refer_miss}
use Rattle.single.proofs.setup.Setup.refer.Goals as goal

pub returns-then-hit-clause-done : goal.returns-then-hit-clause-done
returns-then-hit-clause-done g c =
    let x = c.args.self.now in
    let t = c.args.tables.now in
    refer_hit (g.M.SetMap.meaning x.map) x.settings c.args.p c.args.block t.frames.now t.counters.now _ _
    c.set_start-at.ensures.value c.set_start-at.ensures.within c.requires.1.1.frames c.counters_start-first.ensures.value _ _ c.touch-hit.ensures.after c.bump.ensures _ c.if-hit.ensures.hit c.bump-then-hit.ensures

pub returns-else-hit-clause-done : goal.returns-else-hit-clause-done
returns-else-hit-clause-done g c =
    let x = c.args.self.now in
    let t = c.args.tables.now in
    refer_miss (g.M.SetMap.meaning x.map) x.settings c.args.p c.args.block t.frames.now t.counters.now _ _
    c.set_start-at.ensures.value c.set_start-at.ensures.within c.requires.1.1.frames c.counters_start-first.ensures.value _ _ c.touch-hit.ensures.after c.bump.ensures c.if-hit.ensures.hit
