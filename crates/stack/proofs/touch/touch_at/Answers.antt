use Rattle.std.proofs.Common.{◌∙◌, arith}
use Rattle.stack.proofs.Packs.{raised_is, raise_fits, packed_len, rest_start, stays_place}
use Rattle.stack.proofs.touch.touch_at.Goals as goal

pub rest_start-requires : goal.rest_start-requires
rest_start-requires g c =
    let s = stays_place (g.M.SetMap.meaning c.args.map.now) c.args.q c.args.es.now _ c.requires.walked in
    omega arith

pub raise-requires : goal.raise-requires
raise-requires g c =
    let m = g.M.SetMap.meaning c.args.map.now in
    raise_fits m c.args.q c.args.es.now _ _ _ c.pack.ensures c.pack.auto.es
    (c.packed_len.ensures ∙ packed_len m c.args.q c.args.es.now _ c.requires.walked)
    (c.rest_start.ensures ∙ rest_start m c.args.q c.args.es.now _ c.requires.walked) c.requires.fits

pub returns : goal.returns
returns g c =
    let m = g.M.SetMap.meaning c.args.map.now in
    c.raise.ensures
    ∙ raised_is m c.args.q c.args.es.now _ _ _ c.pack.ensures
    (c.packed_len.ensures ∙ packed_len m c.args.q c.args.es.now _ c.requires.walked)
    (c.rest_start.ensures ∙ rest_start m c.args.q c.args.es.now _ c.requires.walked)
