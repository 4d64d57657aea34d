use Rattle.std.proofs.Common.{sym, ◌∙◌, arith}
use Rattle.levels.proofs.Bits.{is_none_level}
use Rattle.stack.proofs.Packs.{over_same, stays_place, stopped_place}
use Rattle.stack.proofs.touch.thin_above.Goals as goal

pub thin-requires : goal.thin-requires
thin-requires g c =
    let s = stays_place (g.M.SetMap.meaning c.args.map.now) c.args.q c.args.es.now _ c.requires in
    omega (arith, c.place-place.ensures)

pub returns-else-not-is_none : goal.returns-else-not-is_none
returns-else-not-is_none g c =
    let m = g.M.SetMap.meaning c.args.map.now in
    let p = stopped_place m c.args.q c.args.es.now _ c.requires in
    over_same m c.args.q c.args.es.now
    (sym c.requires.given_is ∙ is_none_level _ (sym c.is_none.ensures ∙ c.if-not-is_none.false))
    (omega (arith, c.place-place.ensures, c.requires.stays_is, c.if-walk-place.false))
