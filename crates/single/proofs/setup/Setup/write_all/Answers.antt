use Rattle.std.proofs.Common.{◌≡◌, ◌+◌, ◌-◌, ap, rules, arith}
use Rattle.single.specs.Calls.{others_write_all}
use Rattle.single.specs.Lent.{lent}
use Rattle.single.proofs.Steps.{write_step, write_skip}
use Rattle.single.proofs.setup.Setup.write_all.Goals as goal
use Rattle.single.proofs.setup.Setup.write_all.Goals.{then-p-w, else-p-w}

pub loop-p-preserved : goal.loop-p-preserved
loop-p-preserved g c =
    let m = g.M.SetMap.meaning c.args.self.now.map in
    let s = c.args.self.now.settings in
    let t = lent c.args.tables.now in
    let done : lent c.if-p-w.tables ≡ others_write_all m s c.args.w c.args.block c.loop-p.p t =
    elim c.if-p-w.branch [
      | then-p-w w ↦ write_step m s c.args.w c.args.block c.loop-p.p c.loop-p.auto.p t _ _ c.loop-p.invariant.done _ w.if-p-w.true (ap lent w.tables-is) w.write_to.ensures.done
      | else-p-w w ↦ write_skip m s c.args.w c.args.block c.loop-p.p c.loop-p.auto.p t _ _ c.loop-p.invariant.done w.if-p-w.false (ap lent w.tables-is)
    ] in
    let n : c.loop-p.p + 1 - 1 ≡ c.loop-p.p = omega arith in
    record { done = rw n done; same = search rules; long = search rules }

pub returns-after-p-w-clause-done : goal.returns-after-p-w-clause-done
returns-after-p-w-clause-done g c =
    let m = g.M.SetMap.meaning c.args.self.now.map in
    let s = c.args.self.now.settings in
    let t = lent c.args.tables.now in
    let done : lent c.if-p-w.tables ≡ others_write_all m s c.args.w c.args.block c.loop-p.p t =
    elim c.if-p-w.branch [
      | then-p-w w ↦ write_step m s c.args.w c.args.block c.loop-p.p c.loop-p.auto.p t _ _ c.loop-p.invariant.done _ w.if-p-w.true (ap lent w.tables-is) w.write_to.ensures.done
      | else-p-w w ↦ write_skip m s c.args.w c.args.block c.loop-p.p c.loop-p.auto.p t _ _ c.loop-p.invariant.done w.if-p-w.false (ap lent w.tables-is)
    ] in
    let last : c.loop-p.p ≡ s.processors = omega arith in
    rw last at done
