use Rattle.std.proofs.Common.{sym, ap, ◌∙◌, not, ◌||◌, slice_index_or}
use Rattle.order.specs.Order.{is_held}
use Rattle.tables.specs.Tables.{mark_at}
use Rattle.tables.specs.declared.Mark.TheVariants.{Never}
use Rattle.std.proofs.lemmas.Bool.{cond-true, cond-false, eq-eqb, ne_eqb}
use Rattle.tables.specs.Lent.{lent}
use Rattle.study.proofs.Kept.{written_so, passed_by}
use Rattle.study.proofs.setup.Setup.write_past.Goals as goal
use Rattle.study.proofs.setup.Setup.write_past.Goals.{else-p-w-via-then-p-w+else-may_have, else-p-w-via-else-p-w}

pub returns-then-may_have-clause-ordered : goal.returns-then-may_have-clause-ordered
returns-then-may_have-clause-ordered g c =
    let a = c.args in
    let l = c.requires.limits in
    written_so (g.M.SetMap.meaning a.self.now.map) a.self.now.settings (lent a.tables.now) a.p a.spot c.requires.long l.0.0 l.0.1 a.ordered c.requires.ordered _ c.write_to.ensures.written

pub returns-else-p-w-clause-written : goal.returns-else-p-w-clause-written
returns-else-p-w-clause-written g c =
    let a = c.args in
    let l = c.requires.limits in
    elim c.else-p-w.branch [
      | else-p-w-via-then-p-w+else-may_have w ↦
          passed_by (g.M.SetMap.meaning a.self.now.map) a.self.now.settings (lent a.tables.now) a.p a.spot c.requires.long l.0.0 l.0.1 a.ordered c.requires.ordered (ap (λ x. not x || is_held (slice_index_or a.tables.now.marks.now (mark_at a.self.now.settings a.p a.spot.place) Never)) (sym w.is_some.ensures) ∙ sym w.may_have.ensures ∙ w.if-may_have.false)
          ∙ sym (cond-false _ _ _ (ne_eqb a.p a.w w.if-p-w.true))
      | else-p-w-via-else-p-w w ↦ sym (cond-true _ _ _ (eq-eqb a.p a.w w.if-p-w.false))
    ]
