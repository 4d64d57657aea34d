use Rattle.std.proofs.Common.{ℕ, ◌+◌, ◌<◌, count_by, ap, sym, ◌∙◌, arith, length-take}
use Rattle.stack.specs.Stack.{counts}
use Rattle.stack.specs.Walk.{stop, above, if_found}
use Rattle.stack.proofs.Stops.{found_is}
use Rattle.stack.proofs.Walks.{position_split}
use Rattle.stack.proofs.walk.walk_to.Goals as goal

pub returns : goal.returns
returns g c =
    let m = g.M.SetMap.meaning c.args.map.now in
    let q = c.args.q in
    let es = c.args.es.now in
    let r = c.count_above-stop.ensures in
    let n = λ (i : ℕ) (h : i < 17). c.sum_levels.ensures.each i h ∙ ap (λ n. n + 1) (r.tallied.counted i h) in
    record {
      stop_is = r.stop;
      given_is = r.tallied.given_is;
      stays_is = r.tallied.stays_is;
      counted = n;
      positioned = λ i h.
          let above = count_by (counts m q i) (above q es) + 1 in
          position_split m q i es ∙ found_is q es above ∙ ap (λ s. if_found s above) (sym r.stop) ∙ ap (if_found c.count_above-stop.result.0) (sym (n i h));
      seventeen = c.sum_levels.ensures.many;
    }
