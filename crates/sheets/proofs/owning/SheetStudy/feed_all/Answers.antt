use Rattle.std.proofs.Common.{◌≡◌, ◌+◌, [], Ok, vec_items, sym, refl, ◌∙◌, subst, rules, arith}
use Rattle.std.proofs.lemmas.Result.{IfOk-weaker}
use Rattle.tables.specs.Tables.{tables_of}
use Rattle.tables.specs.Bulk.{standing_of, FedThrough}
use Rattle.study.specs.Steps.{kept_of}
use Rattle.sheets.specs.Sheets.{reading}
use Rattle.sheets.specs.Steps.{lists_of, Reached}
use Rattle.sheets.proofs.Steps.{lists_back, all_answered, leads}
use Rattle.sheets.proofs.owning.SheetStudy.feed_all.Goals as goal

pub returns : goal.returns
returns g c =
    let self = c.args.self.now in
    let m = g.M.SetMap.meaning self.map in
    let s = self.settings in
    let last = c.feed_all-fed.new in
    let items = g.S.Source.items c.args.source.now in
    let n = g.S.Source.answered c.args.source.now in
    let fed : c.feed_all-fed.result ≡ Ok tt = search rules in
    let t' = tables_of last.entries last.known last.marks last.counters in
    let kept = kept_of self.study.known self.study.accepted in
    let kept' = kept_of last.self.known last.self.accepted in
    let before = standing_of kept (tables_of c.as_mut_slice.result.now c.as_mut_slice-2.result.now c.as_mut_slice-3.result.now c.as_mut_slice-4.result.now) items n (vec_items c.none-faults.result.list) in
    let after = standing_of kept' t' (g.S.Source.items last.source) (g.S.Source.answered last.source) (vec_items last.faults.list) in
    let raw : FedThrough (g.M.SetMap.meaning self.study.setup.map) self.study.setup.settings before after (Ok tt) = search rules in
    let lent : before ≡ standing_of kept (lists_of self.tables) items n [] = search rules in
    let through : FedThrough m s (standing_of kept (lists_of self.tables) items n []) after (Ok tt) =
    subst (λ z. FedThrough m s z after (Ok tt)) lent (rw (self.same_map, self.same_settings) raw) in
    let back = lists_back self.tables last.entries last.known last.marks last.counters (omega arith) (omega arith) (omega arith) (omega arith) in
    let put = leads m s kept kept' (lists_of self.tables) t' items (g.S.Source.items last.source) n (g.S.Source.answered last.source) (vec_items last.faults.list) through
    (g.met.M.SetMap.lawful self.map) self.wide in
    record {
      through = IfOk-weaker c.lines.result _ _
          (λ v same h accepted.
          (let led = put h accepted.0 accepted.1 in (
            (accepted.0, subst (Reached m s accepted.0 (reading s (n + 1) items h).history kept') (sym back) led.reached),
            same ∙ led.lines,
          )))
          c.lines.ensures;
      map = refl;
      settings = refl;
      answered = IfOk-weaker c.lines.result _ _ (λ v same. all_answered m s kept kept' (lists_of self.tables) t' items _ n _ _ through) c.lines.ensures;
    }
