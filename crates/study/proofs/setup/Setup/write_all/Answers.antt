use Rattle.std.proofs.Common.{◌≡◌, ◌+◌, ◌-◌, arith}
use Rattle.tables.specs.Lent.{lent}
use Rattle.study.proofs.Lengths.{same_slices}
use Rattle.study.proofs.Writes.{write_step}
use Rattle.study.proofs.setup.Setup.write_all.Goals as goal

pub loop-p-preserved : goal.loop-p-preserved
loop-p-preserved g c =
    let a = c.args in
    let l = c.loop-p in
    let e = c.write_past.ensures in
    let up : l.p + 1 - 1 ≡ l.p = omega arith in (
      write_step (g.M.SetMap.meaning a.self.now.map) a.self.now.settings a.w a.spot.block a.spot.place l.p (lent a.tables.now) (lent l.tables) _ l.auto.p l.invariant.0 e.written _ up,
      same_slices a.tables.now l.tables _ l.invariant.1 e.same,
      e.ordered,
    )
