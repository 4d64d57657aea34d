use Rattle.std.proofs.Common.{◌≡◌, vec_items, subst, rules}
use Rattle.std.proofs.lemmas.Result.{IfOk-weaker}
use Rattle.tables.specs.Tables.{tables_of}
use Rattle.sheets.specs.Sheets.{rows}
use Rattle.sheets.specs.Steps.{lists_of, Shows}
use Rattle.sheets.proofs.Runs.{closes}
use Rattle.sheets.proofs.owning.SheetStudy.finish.Goals as goal

pub returns : goal.returns
returns g c =
    let self = c.args.self in
    let m = g.M.SetMap.meaning self.map in
    let s = self.settings in
    let lent : tables_of c.as_slice.result.now c.as_slice-2.result.now c.as_slice-3.result.now c.as_slice-4.result.now ≡ lists_of self.tables = search rules in
    IfOk-weaker c.rows.result _ _
    (λ v shown h accepted. subst (λ t. Shows m s t (λ h. vec_items v ≡ rows m h s.levels s.ways s.processors)) lent shown accepted.0 h _ (closes m s accepted.0 h _ (lists_of self.tables) accepted.1))
    c.rows.ensures
