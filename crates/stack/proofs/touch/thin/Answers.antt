use Rattle.std.proofs.Common.{◌<◌, length, sym, ap, ◌∙◌, arith}
use Rattle.levels.specs.Levels.{either}
use Rattle.stack.proofs.Thins.{giving_is, thin_read, thin_keeps, thin_skips, marker_keeps, marker_goes, other_keeps}
use Rattle.stack.proofs.touch.thin.Goals as goal
use Rattle.stack.proofs.touch.thin.Goals.{in-Marker+else-stands, in-Marker+then-stands, in_default}

pub loop-at-preserved : goal.loop-at-preserved
loop-at-preserved g c =
    let m = g.M.SetMap.meaning c.args.map.now in
    let q = c.args.q in
    let E = c.args.es.now in
    let at = c.loop-at.at in
    let ys = c.loop-at.es in
    let to = c.loop-at.to in
    let gv = c.loop-at.given in
    let t = c.loop-at.invariant in
    let h : at < length E = omega (arith, c.requires) in
    let r = thin_read m q E at h ys to gv t in
    elim c.match-es-at.branch [
      | in-Marker+then-stands w ↦
          (let b = w.in-Marker.b in
          let v = w.in-Marker.v in
          let x = giving_is m q gv b v _ _ w.meet-met.ensures.gives w.meet-met.ensures.counts in
          thin_keeps m q E at h ys _ to _ gv _ _ t (sym r ∙ w.in-Marker.is) (w.given-is ∙ w.either-given.ensures.value ∙ ap (either gv) x) _
          (marker_keeps m q gv b v _ _ _ x w.meet-met.ensures.keeps w.stands.ensures w.if-stands.true) w.es-is w.to-is)
      | in-Marker+else-stands w ↦
          (let b = w.in-Marker.b in
          let v = w.in-Marker.v in
          let x = giving_is m q gv b v _ _ w.meet-met.ensures.gives w.meet-met.ensures.counts in
          thin_skips m q E at h ys _ to _ gv _ _ t (sym r ∙ w.in-Marker.is) (w.given-is ∙ w.either-given.ensures.value ∙ ap (either gv) x)
          (marker_goes m q gv b v _ _ _ x w.meet-met.ensures.keeps w.stands.ensures w.if-stands.false) w.es-is w.to-is)
      | in_default w ↦
          (let o = other_keeps m q gv _ w.in_default.not-Marker in
          thin_keeps m q E at h ys _ to _ gv _ _ t (sym r) (w.given-is ∙ o.1) _ o.0 w.es-is w.to-is)
    ]
