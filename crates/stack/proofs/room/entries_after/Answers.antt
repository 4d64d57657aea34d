use Rattle.std.proofs.Common.{◌≡◌, length, drop, ap, ◌∙◌, arith}
use Rattle.stack.specs.Stack.{stack}
use Rattle.stack.specs.Touch.{resumes}
use Rattle.stack.proofs.Packs.{packed_len, rest_start, stays_place, packed_le, resumes_le, touched-length}
use Rattle.stack.proofs.room.entries_after.Goals as goal

pub rest_start-rest-requires : goal.rest_start-rest-requires
rest_start-rest-requires g c =
    let s = stays_place (g.M.SetMap.meaning c.args.map.now) c.args.q c.args.es.now _ c.walk_to-walk.ensures in
    omega arith

pub packed_len-requires : goal.packed_len-requires
packed_len-requires g c =
    let s = stays_place (g.M.SetMap.meaning c.args.map.now) c.args.q c.args.es.now _ c.walk_to-walk.ensures in
    omega arith

pub overflow_add-result : goal.overflow_add-result
overflow_add-result g c =
    let m = g.M.SetMap.meaning c.args.map.now in
    let p = packed_len m c.args.q c.args.es.now _ c.walk_to-walk.ensures in
    let l = packed_le m c.args.q c.args.es.now in
    let k = resumes_le m c.args.q c.args.es.now in
    omega (arith, c.packed_len.ensures)

pub stack_end-requires : goal.stack_end-requires
stack_end-requires g c =
    let m = g.M.SetMap.meaning c.args.map.now in
    let r = rest_start m c.args.q c.args.es.now _ c.walk_to-walk.ensures in
    let l = resumes_le m c.args.q c.args.es.now in
    omega (arith, c.rest_start-rest.ensures)

pub overflow_add-result-2 : goal.overflow_add-result-2
overflow_add-result-2 g c =
    let m = g.M.SetMap.meaning c.args.map.now in
    let p = packed_len m c.args.q c.args.es.now _ c.walk_to-walk.ensures in
    let r = rest_start m c.args.q c.args.es.now _ c.walk_to-walk.ensures in
    let l = packed_le m c.args.q c.args.es.now in
    omega (arith, c.packed_len.ensures, c.rest_start-rest.ensures, c.stack_end.ensures.within)

pub returns : goal.returns
returns g c =
    let m = g.M.SetMap.meaning c.args.map.now in
    let es = c.args.es.now in
    let p = packed_len m c.args.q es _ c.walk_to-walk.ensures in
    let r : c.rest_start-rest.result ≡ resumes c.args.q es = c.rest_start-rest.ensures ∙ rest_start m c.args.q es _ c.walk_to-walk.ensures in
    let t = touched-length m c.args.q es in
    let s : length (stack (drop c.rest_start-rest.result es)) ≡ length (stack (drop (resumes c.args.q es) es)) = ap (λ n. length (stack (drop n es))) r in
    omega (arith, c.packed_len.ensures, c.stack_end.ensures.is)
