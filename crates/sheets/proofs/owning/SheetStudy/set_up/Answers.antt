use Rattle.std.proofs.Common.{◌≡◌, None, Ok, sym, refl, ap, ◌∙◌, rules, arith}
use Rattle.tables.specs.Tables.{tables_of, cleared}
use Rattle.tables.specs.Calls.{set_up_refusal}
use Rattle.study.specs.Steps.{kept_of}
use Rattle.sheets.specs.Settings.{settings_of}
use Rattle.sheets.specs.Steps.{lists_of}
use Rattle.sheets.proofs.Steps.{lists_cleared, begun}
use Rattle.sheets.proofs.owning.SheetStudy.set_up.Goals as goal

pub returns : goal.returns
returns g c =
    let m = g.M.SetMap.meaning c.args.map in
    let s = c.in_ok-settings.settings in
    let study = c.in_ok-study.study in
    let made : c.set_up.result ≡ Ok study = search rules in
    let t = tables_of c.as_mut_slice.result.now c.as_slice.result.now c.as_mut_slice-2.result.now c.as_mut_slice-3.result.now in
    let last = c.set_up.new in
    let t' = tables_of last.entries c.as_slice.result.now last.marks last.counters in
    let accepted : set_up_refusal m s t ≡ None = search rules in
    let same_settings : s ≡ settings_of c.args.sizes = search rules in
    let none : kept_of study.known study.accepted ≡ kept_of 0 0 = search rules in
    let cleared : t' ≡ cleared s t = search rules in
    let lent : t ≡ lists_of c.args.tables = search rules in
    let back = lists_cleared c.args.tables last.entries last.marks last.counters (omega arith) (omega arith) (omega arith) ∙ ap (λ x. tables_of last.entries x last.marks last.counters) (sym c.as_slice.ensures.value) in
    let refusal : set_up_refusal m (settings_of c.args.sizes) (lists_of c.args.tables) ≡ None = cc in
    (refusal, refl, same_settings, (t, begun m s t _ _ accepted none (back ∙ cleared)))
