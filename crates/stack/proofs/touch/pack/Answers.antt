use Rattle.std.proofs.Common.{arith}
use Rattle.stack.proofs.Packs.{marker-within, over-marker}
use Rattle.stack.proofs.touch.pack.Goals as goal

pub bounds-es-walk : goal.bounds-es-walk
bounds-es-walk g c =
    let m = g.M.SetMap.meaning c.args.map.now in
    let l = marker-within m c.args.q c.args.es.now _ c.requires _ _ c.leaves_marker.ensures c.thin_above.ensures c.if-leaves_marker.true in
    omega (arith, c.thin_above.auto.es)

pub returns-then-leaves_marker : goal.returns-then-leaves_marker
returns-then-leaves_marker g c =
    let m = g.M.SetMap.meaning c.args.map.now in
    let e = over-marker m c.args.q c.args.es.now _ c.requires _ _ c.leaves_marker.ensures c.thin_above.ensures c.if-leaves_marker.true in
    grind arith
