use Rattle.std.proofs.Common.{refl}
use Rattle.grid_report.proofs.Readings.{read_none}
use Rattle.grid_report.proofs.Grid.open.Goals as goal

pub returns : goal.returns
returns g c =
    let o = c.in_ok-study.ensures in
    (c.in_ok-refuse_sizes.ensures, o.1, o.2, refl, read_none (g.M.SetMap.meaning c.args.map) c.in_ok-study.study c.args.form _ c.new.ensures.items o.3)
