use Rattle.std.proofs.Common.{◌≡◌, ◌+◌, ◌-◌, arith}
use Rattle.tables.specs.Lent.{lent}
use Rattle.study.proofs.Looked.{one_row_more}
use Rattle.study.proofs.setup.Setup.rows_in_order.Goals as goal

pub loop-p-preserved : goal.loop-p-preserved
loop-p-preserved g c =
    let a = c.args in
    let l = c.loop-p in
    let up : l.p ≡ l.p + 1 - 1 = omega arith in
    one_row_more a.self.now.settings a.n (lent a.tables.now) l.p _ _ c.row_in_order.result l.auto.p c.requires.distinct l.invariant c.part_start-at.ensures.value c.part_start-from.ensures.value
    c.row_in_order.ensures c.if-not-row_in_order.false _ up

pub returns-else-not-row_in_order : goal.returns-else-not-row_in_order
returns-else-not-row_in_order g c y =
    let a = c.args in
    let l = c.loop-p in
    let last : l.p ≡ a.self.now.settings.processors = omega (arith, c.loop-p-test.true) in
    one_row_more a.self.now.settings a.n (lent a.tables.now) l.p _ _ c.row_in_order.result l.auto.p c.requires.distinct l.invariant c.part_start-at.ensures.value c.part_start-from.ensures.value
    c.row_in_order.ensures c.if-not-row_in_order.false _ last
