use Rattle.std.proofs.lemmas.Grind.{common_steps}
use Rattle.std.proofs.Common.{◌≡◌, ◌+◌, ◌≤◌, length, None, vec_items, sym, ap, ap₂, ◌∙◌, subst, rules, arith}
use Rattle.trace.specs.Text.{text_items}
use Rattle.text.proofs.Items.{few_items}
use Rattle.caches.specs.Caches.{History}
use Rattle.sheets.specs.Settings.{settings_of}
use Rattle.sheets.specs.Sheets.{rows}
use Rattle.sheets.specs.Studies.{HasAccepted, PutThrough}
use Rattle.report.specs.Reports.{unless_settings, whole}
use Rattle.sheet_report.specs.Evening.{studied, settings_refusal}
use Rattle.sheet_report.proofs.Whole.{put_whole}
use Rattle.sheet_report.proofs.checking.study_trace.Goals as goal

pub returns : goal.returns
returns g c =
    let mean = g.M.SetMap.meaning in
    let m = mean c.args.map in
    let s = settings_of c.args.sizes in
    let o = c.in_ok-study.ensures in
    let study = c.in_ok-study.study in
    let fed = c.feed_all.new.self in
    let source = c.after-source.result in
    let refused = vec_items c.in_ok-refused.refused in
    let v = vec_items c.in_ok-rows.rows in
    let items = text_items c.args.trace.now in
    let settled : settings_refusal m s ≡ None = search rules in
    let few : length items ≤ 65536 = omega (arith, few_items c.args.trace.now) in
    let same_items : text_items source.unread.bytes.now ≡ items = ap text_items (c.after-source.ensures.rest (omega arith)) in
    let second : source.unread.answered + 1 ≡ 2 = omega arith in
    let through : PutThrough (mean study.map) study fed items 2 refused =
    subst (λ n. PutThrough (mean study.map) study fed items n refused) second (subst (λ is. PutThrough (mean study.map) study fed is (source.unread.answered + 1) refused) same_items c.in_ok-refused.ensures.through) in
    let shown = subst (λ x. (h : History) → HasAccepted (mean x) fed h → v ≡ rows (mean x) h fed.settings.levels fed.settings.ways fed.settings.processors) (c.feed_all.ensures.map ∙ o.1) c.in_ok-rows.ensures in
    -- the last step stands apart, and says of what is handed on that it is what was made
    let told =
    put_whole m s study fed items refused v o.2 (c.feed_all.ensures.settings ∙ o.2) few o.3 (subst (λ x. PutThrough (mean x) study fed items 2 refused) o.1 through) shown
    ∙ sym (ap (λ x. unless_settings x (studied m s items)) settled) in
    ap₂ whole (grind (arith, common_steps)) (grind (arith, common_steps)) ∙ told
