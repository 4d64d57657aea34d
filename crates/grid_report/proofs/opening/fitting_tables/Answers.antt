use Rattle.std.proofs.Common.{arith}
use Rattle.std.proofs.lemmas.Result.{IfOk-weaker}
use Rattle.sheets.specs.Settings.{settings_of}
use Rattle.sheets.specs.Steps.{lists_of}
use Rattle.sheets.proofs.Feeds.{not_short}
use Rattle.grid_report.proofs.opening.fitting_tables.Goals as goal

pub returns : goal.returns
returns c =
    IfOk-weaker c.new.result _ _
    (λ t l. not_short (settings_of c.args.sizes) (lists_of t)
    (record { entries = omega (arith, l.0, t.entries.ok.0); known = omega (arith, l.1, t.known.ok.0); marks = omega (arith, l.2, t.marks.ok.0); counters = omega (arith, l.3, t.counters.ok.0) }))
    c.new.ensures
