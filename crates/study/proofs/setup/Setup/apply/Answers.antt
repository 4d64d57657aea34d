use Rattle.std.proofs.Common.{ℕ, IfSome, Ok, sym, subst}
use Rattle.tables.specs.Lent.{lent}
use Rattle.study.specs.Steps.{KnownInOrder}
use Rattle.study.proofs.Kept.{left_in_order, if_ordered}
use Rattle.study.proofs.setup.Setup.apply.Goals as goal

pub write_all-requires-clause-ordered : goal.write_all-requires-clause-ordered
write_all-requires-clause-ordered g c =
    let a = c.args in
    let s = a.self.now.settings in
    let l = c.requires.limits in
    let n = c.known_after-n.result in
    let P : ℕ → Type 0 = λ j. KnownInOrder s j a.spot (lent c.refer.new.tables) in
    subst (λ o. IfSome o P) (sym c.then_some.ensures)
    (if_ordered a.ordered n P (λ e. subst P (sym c.known_after-n.ensures.value)
    (left_in_order (g.M.SetMap.meaning a.self.now.map) s a.n (lent a.tables.now) a.r.processor a.spot c.requires.long l.0.0 l.0.1 (c.requires.ordered e) c.requires.place l.1 (Ok tt) _ c.in_ok-refer.ensures.referred)))

pub returns-in-Read-clause-ordered : goal.returns-in-Read-clause-ordered
returns-in-Read-clause-ordered g c e =
    let a = c.args in
    let l = c.requires.limits in
    left_in_order (g.M.SetMap.meaning a.self.now.map) a.self.now.settings a.n (lent a.tables.now) a.r.processor a.spot c.requires.long l.0.0 l.0.1 (c.requires.ordered e) c.requires.place l.1 (Ok tt) _ c.in_ok-refer.ensures.referred
