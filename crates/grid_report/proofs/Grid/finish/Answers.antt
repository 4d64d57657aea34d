use Rattle.std.proofs.Common.{◌+◌, vec_items, sym, ap, ◌∙◌, subst}
use Rattle.sheets.specs.Sheets.{rows}
use Rattle.sheets.specs.Studies.{HasAccepted, PutThrough}
use Rattle.cutting.specs.Cutting.{items_of}
use Rattle.grid_report.specs.Grids.{trace_reading}
use Rattle.grid_report.proofs.Readings.{read_all}
use Rattle.grid_report.proofs.Grid.finish.Goals as goal

pub returns : goal.returns
returns g c bytes refused read =
    let self = c.args.self in
    let mean = g.M.SetMap.meaning in
    let m = mean self.study.map in
    let study = c.feed_bytes.new.self.study in
    let fed = c.in_ok-refused.ensures in
    let new = vec_items c.in_ok-refused.refused in
    let through = subst (λ xs. PutThrough m self.study study (items_of self.form xs) (self.count + 1) new) (c.as_slice.ensures.value ∙ ap vec_items c.replace-held.ensures.value) fed.through.0 in
    let all = read_all m self.study study self.form (vec_items self.held) self.count bytes refused new through read in
    let h = (trace_reading self.study.settings self.form bytes).history in
    let same_map = ap mean fed.map in (
      all.0,
      c.in_ok-rows.ensures h (subst (λ x. HasAccepted x study h) (sym same_map) all.1)
          ∙ ap (λ x. rows x h study.settings.levels study.settings.ways study.settings.processors) same_map
          ∙ ap (λ s. rows m h s.levels s.ways s.processors) fed.settings,
    )
