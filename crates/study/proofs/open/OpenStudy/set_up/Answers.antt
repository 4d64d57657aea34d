use Rattle.std.proofs.Common.{Err, sym, refl, ap, ◌∙◌}
use Rattle.std.proofs.lemmas.Bool.{cond-true, cond-false}
use Rattle.std.proofs.lemmas.Result.{err_from_is_err_and}
use Rattle.theory.proofs.Theorem.{faithful}
use Rattle.tables.specs.Calls.{short}
use Rattle.tables.specs.Tables.{tables_of}
use Rattle.study.proofs.open.OpenStudy.set_up.Goals as goal

pub returns-in_err-setup-clause-answer : goal.returns-in_err-setup-clause-answer
returns-in_err-setup-clause-answer g c =
    let p = err_from_is_err_and c.from_residual.result c.from_residual.ensures.1 in
    let e = c.in_err-setup.ensures in
    rw (p.1 ∙ ap Err p.2) (e.1 (tables_of c.args.entries.now c.args.known.now c.args.marks.now c.args.counters.now), e.0)

pub returns-then-is_short-clause-answer : goal.returns-then-is_short-clause-answer
returns-then-is_short-clause-answer g c =
    let t = tables_of c.args.entries.now c.args.known.now c.args.marks.now c.args.counters.now in
    let e = c.in_ok-setup.ensures in (
      e.2 t ∙ cond-true (short c.args.s t) _ _ (ap (λ s. short s t) (sym e.1) ∙ sym c.is_short.ensures ∙ c.if-is_short.true),
      e.0,
    )

pub returns-clause-answer : goal.returns-clause-answer
returns-clause-answer g c =
    let t = tables_of c.args.entries.now c.args.known.now c.args.marks.now c.args.counters.now in
    let e = c.in_ok-setup.ensures in (
      e.2 t ∙ cond-false (short c.args.s t) _ _ (ap (λ s. short s t) (sym e.1) ∙ sym c.is_short.ensures ∙ c.if-is_short.false),
      e.0,
      e.1,
      refl,
      refl,
    )

pub returns-in_err-setup-clause-faithful : goal.returns-in_err-setup-clause-faithful
returns-in_err-setup-clause-faithful g c = faithful (g.M.SetMap.meaning c.args.map) (g.met.M.SetMap.lawful c.args.map) c.args.s

pub returns-then-is_short-clause-faithful : goal.returns-then-is_short-clause-faithful
returns-then-is_short-clause-faithful g c = faithful (g.M.SetMap.meaning c.args.map) (g.met.M.SetMap.lawful c.args.map) c.args.s

pub returns-clause-faithful : goal.returns-clause-faithful
returns-clause-faithful g c = faithful (g.M.SetMap.meaning c.args.map) (g.met.M.SetMap.lawful c.args.map) c.args.s
