use Rattle.std.proofs.Common.{◌≡◌, ◌+◌, length, drop, ap, ◌∙◌, arith}
use Rattle.std.proofs.lemmas.Bool.{lt-ltb}
use Rattle.stack.specs.Stack.{stack}
use Rattle.stack.specs.Touch.{resumes}
use Rattle.stack.proofs.Packs.{packed_len, rest_start, stays_place, packed_le, resumes_le, fits_low, fits_full}
use Rattle.stack.proofs.room.fits.Goals as goal

pub rest_start-rest-requires : goal.rest_start-rest-requires
rest_start-rest-requires g c =
    let s = stays_place (g.M.SetMap.meaning c.args.map.now) c.args.q c.args.es.now _ c.requires in
    omega arith

pub packed_len-requires : goal.packed_len-requires
packed_len-requires g c =
    let s = stays_place (g.M.SetMap.meaning c.args.map.now) c.args.q c.args.es.now _ c.requires in
    omega arith

pub stack_end-requires : goal.stack_end-requires
stack_end-requires g c =
    let m = g.M.SetMap.meaning c.args.map.now in
    let r = rest_start m c.args.q c.args.es.now _ c.requires in
    let l = resumes_le m c.args.q c.args.es.now in
    omega (arith, c.rest_start-rest.ensures)

pub returns-then-packed_len-rest : goal.returns-then-packed_len-rest
returns-then-packed_len-rest g c =
    let m = g.M.SetMap.meaning c.args.map.now in
    let p = packed_len m c.args.q c.args.es.now _ c.requires in
    let r = rest_start m c.args.q c.args.es.now _ c.requires in
    lt-ltb _ _ c.if-packed_len-rest.true ∙ fits_low m c.args.q c.args.es.now (omega (arith, c.packed_len.ensures, c.rest_start-rest.ensures))

pub returns-else-packed_len-rest : goal.returns-else-packed_len-rest
returns-else-packed_len-rest g c =
    let m = g.M.SetMap.meaning c.args.map.now in
    let es = c.args.es.now in
    let p = packed_len m c.args.q es _ c.requires in
    let r : c.rest_start-rest.result ≡ resumes c.args.q es = c.rest_start-rest.ensures ∙ rest_start m c.args.q es _ c.requires in
    let l = packed_le m c.args.q es in
    fits_full m c.args.q es _ (omega (arith, c.packed_len.ensures)) (c.stack_end.ensures.is ∙ ap (λ n. n + length (stack (drop n es))) r)
