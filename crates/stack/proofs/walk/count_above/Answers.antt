use Rattle.std.proofs.Common.{◌≡◌, ◌+◌, ◌<◌, min, length, get_or, take, sym, refl, ap, ◌∙◌, arith, length-take}
use Rattle.std.proofs.lemmas.List.Sums.{get_or-le-sum_by}
use Rattle.levels.specs.Levels.{no_level}
use Rattle.stack.specs.declared.Entry.TheVariants.{Empty}
use Rattle.stack.proofs.Walks.{goes_on, past_block, past_marker, no_tally, stays_le, marker_byte, byte_le}
use Rattle.stack.proofs.walk.count_above.Goals as goal
use Rattle.stack.proofs.walk.count_above.Goals.{in-Block+else-eq, in-Marker}

pub loop-entry-init : goal.loop-entry-init
loop-entry-init g c = record { within = omega arith; goes_on = omega arith; tallied = no_tally _ _ _ c.none-given.ensures.value }

pub overflow_add-sharing : goal.overflow_add-sharing
overflow_add-sharing g c =
    let t = c.loop-entry.invariant.tallied in
    let f = t.few 0 (omega arith) in
    let w : c.min.result < length c.loop-entry.sharing = omega (arith, t.wide, c.min.ensures) in
    let s = get_or-le-sum_by (λ x. x) c.loop-entry.sharing c.min.result 0 w in
    let l = length-take c.loop-entry.place c.args.es.now in
    omega arith

pub overflow_add-stays : goal.overflow_add-stays
overflow_add-stays g c =
    let t = c.loop-entry.invariant.tallied in
    let l = length-take c.loop-entry.place c.args.es.now in
    let s = stays_le (g.M.SetMap.meaning c.args.map.now) c.args.q no_level (take c.loop-entry.place c.args.es.now) in
    omega (arith, t.stays_is)

pub overflow_add-stays-in-Marker : goal.overflow_add-stays-in-Marker
overflow_add-stays-in-Marker g c =
    let t = c.loop-entry.invariant.tallied in
    let l = length-take c.loop-entry.place c.args.es.now in
    let s = stays_le (g.M.SetMap.meaning c.args.map.now) c.args.q no_level (take c.loop-entry.place c.args.es.now) in
    omega (arith, t.stays_is, byte_le c.stands.result)

pub loop-entry-preserved : goal.loop-entry-preserved
loop-entry-preserved g c =
    let i = c.loop-entry.invariant in
    let m = g.M.SetMap.meaning c.args.map.now in
    let q = c.args.q in
    let es = c.args.es.now in
    let at = c.loop-entry.place in
    let l = c.in-Some.ensures.lookup in
    let h : at < length es = l.3.0 in
    let e : c.in-Some.field-0.now ≡ get_or es at Empty = l.4 (omega arith) Empty in
    elim c.match-entry.branch [
      | in-Block+else-eq w ↦ record {
        within = omega arith;
        goes_on = goes_on q es at _ h (sym w.in-Block.is ∙ e) (sym w.eq.ensures ∙ w.if-eq.false) i.goes_on;
        tallied = rw (w.sharing-is, w.markers-is, w.stays-is, w.given-is) (past_block m q es at h w.min.result w.in-Block.b (sym e ∙ w.in-Block.is) (w.min.ensures ∙ ap (λ x. min x 17) w.shared_levels.ensures) i.tallied);
      }
      | in-Marker w ↦ record {
        within = omega arith;
        goes_on = goes_on q es at _ h (sym w.in-Marker.is ∙ e) refl i.goes_on;
        tallied = rw (w.sharing-is, w.markers-is, w.stays-is, w.given-is) (past_marker m q es at h w.meet-met.result.counts w.meet-met.result.gives w.in-Marker.b w.in-Marker.v (sym e ∙ w.in-Marker.is)
            w.meet-met.ensures.counts w.meet-met.ensures.gives w.count_levels.ensures (w.count_levels.auto.counts ∙ i.tallied.deep)
            (ap (λ n. c.loop-entry.stays + n) (w.from-stays.ensures ∙ marker_byte w.in-Marker.b _ _ _ w.stands.ensures w.meet-met.ensures.keeps)) w.either-given.ensures.value i.tallied);
      }
    ]
