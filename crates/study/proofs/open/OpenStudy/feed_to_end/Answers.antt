use Rattle.std.proofs.Common.{[], ◌∷◌, ◌++◌, Err, sym, ap, ◌∙◌, subst}
use Rattle.std.proofs.lemmas.Result.{err_from_is_err_and}
use Rattle.tables.specs.Bulk.{standing_of, faulted, FedThrough}
use Rattle.tables.specs.Lent.{lent}
use Rattle.tables.proofs.Bulk.{turn, stopped, fault_goes_on}
use Rattle.study.specs.Steps.{kept_of}
use Rattle.study.proofs.Fed.{handed_on, handed_back}
use Rattle.study.proofs.Lengths.{short_kept, same_slices}
use Rattle.study.proofs.open.OpenStudy.feed_to_end.Goals as goal

pub loop-preserved : goal.loop-preserved
loop-preserved g c =
    let l = c.loop in
    let i = l.invariant in
    let e = c.feed_in_bulk-answer.ensures in
    let last = c.feed_in_bulk-answer.new in
    let a = c.args in
    let s = a.self.now.setup.settings in
    let before = standing_of (kept_of a.self.now.known a.self.now.accepted) (lent a.tables.now) (g.S.Source.items a.source.now) (g.S.Source.answered a.source.now) (g.K.Sink.taken a.faults.now) in
    let h = handed_on _ _ c.feed_in_bulk-answer.result c.in_ok-hand_on.field-0 c.in-Accepted.is c.in_ok-hand_on.ensures in (
      e.setup ∙ i.0,
      same_slices a.tables.now l.tables last.tables i.1 e.same,
      e.ordered,
      turn (g.M.SetMap.meaning a.self.now.setup.map) (g.M.SetMap.meaning l.self.setup.map) s l.self.setup.settings (ap (λ z. g.M.SetMap.meaning z.map) i.0) (ap (λ z. z.settings) i.0) before
          (kept_of l.self.known l.self.accepted) (kept_of last.self.known last.self.accepted) (lent l.tables) (lent last.tables) (g.K.Sink.taken l.faults) (g.S.Source.answered l.source)
          (g.S.Source.answered last.source) c.feed_in_bulk-answer.result (g.S.Source.items l.source) (g.S.Source.items last.source) (g.K.Sink.taken c.hand_on.new.faults)
          (record { answer = e.answer; keeps = e.kept; tables = e.tables; left = e.items; answered = e.answered }) (short_kept s a.tables.now l.tables i.1 c.requires.enough) h.0 h.1 i.3,
    )

pub returns-in_err-hand_on-clause-through : goal.returns-in_err-hand_on-clause-through
returns-in_err-hand_on-clause-through g c =
    let l = c.loop in
    let i = l.invariant in
    let e = c.feed_in_bulk-answer.ensures in
    let last = c.feed_in_bulk-answer.new in
    let a = c.args in
    let s = a.self.now.setup.settings in
    let m = g.M.SetMap.meaning a.self.now.setup.map in
    let kept' = kept_of last.self.known last.self.accepted in
    let items' = g.S.Source.items last.source in
    let n' = g.S.Source.answered last.source in
    let taken = g.K.Sink.taken l.faults in
    let before = standing_of (kept_of a.self.now.known a.self.now.accepted) (lent a.tables.now) (g.S.Source.items a.source.now) (g.S.Source.answered a.source.now) (g.K.Sink.taken a.faults.now) in
    let answer = c.feed_in_bulk-answer.result in
    let f = c.in_err-hand_on.field-0.0 in
    let h = handed_back _ _ answer f c.in_err-hand_on.ensures in
    let u = turn m (g.M.SetMap.meaning l.self.setup.map) s l.self.setup.settings (ap (λ z. g.M.SetMap.meaning z.map) i.0) (ap (λ z. z.settings) i.0) before
    (kept_of l.self.known l.self.accepted) kept' (lent l.tables) (lent last.tables) taken (g.S.Source.answered l.source) n' answer (g.S.Source.items l.source) items' (taken ++ (f ∷ []))
    (record { answer = e.answer; keeps = e.kept; tables = e.tables; left = e.items; answered = e.answered }) (short_kept s a.tables.now l.tables i.1 c.requires.enough)
    (fault_goes_on answer f h.0) (sym (ap (faulted taken) h.0)) i.3 in
    let p = err_from_is_err_and c.from_residual.result c.from_residual.ensures.1 in
    subst (λ fs. FedThrough m s before (standing_of kept' (lent last.tables) items' n' fs) c.from_residual.result) (sym h.1)
    (stopped m s before kept' (lent last.tables) items' n' taken f c.from_residual.result c.requires.enough (p.1 ∙ ap Err p.2) u)
