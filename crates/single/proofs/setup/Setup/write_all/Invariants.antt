use Rattle.std.proofs.Common.{◌≡◌, ◌-◌}
use Rattle.single.specs.Calls.{others_write_all}
use Rattle.single.specs.Lent.{lent, SameSlices}
use Rattle.single.specs.Limits.{Long}
use Rattle.single.proofs.setup.Setup.write_all.Given as goal

abbrev pub invariant-loop-p : goal.invariant-loop-p
invariant-loop-p g l =
    let m = g.M.SetMap.meaning l.self.map in
    record {
      done : lent l.tables ≡ others_write_all m l.self.settings l.w l.block (l.p - 1) (lent l.initial.tables);
      same : SameSlices l.initial.tables l.tables;
      long : Long m l.self.settings (lent l.tables);
    }
