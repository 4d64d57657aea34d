use Rattle.std.proofs.Common.{◌≡◌, length, vec_items, sym, ap, ◌∙◌, subst, arith}
use Rattle.trace.specs.Text.{text_items}
use Rattle.text.proofs.Items.{few_items}
use Rattle.single.specs.Lent.{lent}
use Rattle.single.specs.Runs.{AsSeparate}
use Rattle.spot_report.specs.Spot.{rows}
use Rattle.spot_report.specs.Steps.{Reached}
use Rattle.spot_report.proofs.Underway.{long_after}
use Rattle.spot_report.proofs.Whole.{accepted_long, put_whole, through_after}
use Rattle.spot_report.proofs.checking.spot_with.Goals as goal

pub feed_all-requires-clause-long : goal.feed_all-requires-clause-long
feed_all-requires-clause-long g c =
    let m = g.M.SetMap.meaning c.args.map in
    let o = c.in-Ok.ensures.answer in
    let t = c.args.tables.now in
    long_after m _ c.args.s _ t c.set_up_on.new.tables (ap g.M.SetMap.meaning o.1) o.2 c.in-Ok.ensures.same (accepted_long m c.args.s (lent t) c.requires.accepted)

pub feed_all-requires-clause-room : goal.feed_all-requires-clause-room
feed_all-requires-clause-room g c =
    omega (arith, c.in-Ok.ensures.answer.3, few_items c.args.trace.now, c.requires.few, ap (λ x. length (text_items x)) (c.after-source.ensures.rest (omega (arith, c.requires.few))))

pub returns : goal.returns
returns g c =
    let a = c.args in
    let m = g.M.SetMap.meaning a.map in
    let o = c.in-Ok.ensures.answer in
    let last = c.feed_all.new in
    let m₁ = g.M.SetMap.meaning last.cache.setup.map in
    let s₁ = last.cache.setup.settings in
    let em : m₁ ≡ m = ap (λ x. g.M.SetMap.meaning x.map) c.feed_all.ensures.setup ∙ ap g.M.SetMap.meaning o.1 in
    let es : s₁ ≡ a.s = ap (λ x. x.settings) c.feed_all.ensures.setup ∙ o.2 in
    put_whole m a.s (lent a.tables.now) c.requires.accepted (text_items a.trace.now) last.cache.accepted (lent last.tables) (vec_items last.refused)
    (through_after m (g.M.SetMap.meaning c.in-Ok.cache.setup.map) a.s c.in-Ok.cache.setup.settings (ap g.M.SetMap.meaning o.1) o.2
    (text_items a.trace.now) _ _ _ _ _ _ _ _ _ (ap text_items (c.after-source.ensures.rest (omega (arith, c.requires.few)))) c.after-source.ensures.count o.3 c.in-Ok.ensures.tables c.new-refused.ensures.items c.in_ok-feed_all-in-Ok.ensures.through)
    (vec_items c.in_ok-rows-in-Ok.rows)
    (λ t₀ h reached.
    (let separate : AsSeparate m₁ s₁ = subst (λ x. AsSeparate x s₁) (sym em) (subst (AsSeparate m) (sym es) c.in-Ok.ensures.faithful) in
    let reached₁ : Reached m₁ s₁ t₀ h last.cache.accepted (lent last.tables) =
    subst (λ x. Reached x s₁ t₀ h last.cache.accepted (lent last.tables)) (sym em) (subst (λ x. Reached m x t₀ h last.cache.accepted (lent last.tables)) (sym es) reached) in
    c.in_ok-rows-in-Ok.ensures t₀ h separate reached₁ ∙ ap (λ x. rows x s₁ h a.s.processors) em ∙ ap (λ x. rows m x h a.s.processors) es))
