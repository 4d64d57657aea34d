use Rattle.std.proofs.Common.{◌≡◌, ◌-◌, ◌<◌, ◌≢◌, length, sum, sym, refl, ◌∙◌, inl, inr, arith, length-set, get_or-set_other, get_or-set_same}
use Rattle.std.proofs.lemmas.List.{at_drop_all}
use Rattle.std.proofs.lemmas.Bool.{cases_lt}
use Rattle.stack.proofs.Walks.{one_down, one_down_le}
use Rattle.stack.proofs.walk.sum_levels.Goals as goal

pub overflow_add-above-in-loop-i : goal.overflow_add-above-in-loop-i
overflow_add-above-in-loop-i c =
    omega (arith, one_down_le c.args.sharing.now c.loop-i.i c.loop-i.above c.loop-i-test.true (omega (arith, c.requires.wide.0)) c.loop-i.invariant.0, c.requires.few 0 (omega arith))

pub overflow_add-positions : goal.overflow_add-positions
overflow_add-positions c =
    omega (arith, one_down_le c.args.sharing.now c.loop-i.i c.loop-i.above c.loop-i-test.true (omega (arith, c.requires.wide.0)) c.loop-i.invariant.0, c.requires.few (c.loop-i.i - 1) (omega arith))

pub overflow_add-positions-in-loop-i : goal.overflow_add-positions-in-loop-i
overflow_add-positions-in-loop-i c =
    omega (arith, one_down_le c.args.sharing.now c.loop-i.i c.loop-i.above c.loop-i-test.true (omega (arith, c.requires.wide.0)) c.loop-i.invariant.0, c.requires.few (c.loop-i.i - 1) (omega arith))

pub loop-i-preserved : goal.loop-i-preserved
loop-i-preserved c =
    let i = c.loop-i.i in
    let xs = c.args.sharing.now in
    let lt : i - 1 < length c.loop-i.positions = omega (arith, c.loop-i.invariant.2) in
    let o = one_down xs i c.loop-i.above c.loop-i-test.true (omega (arith, c.requires.wide.0)) c.loop-i.invariant.0 in (
      o,
      (λ k p q.
          elim (cases_lt (i - 1) k) [
            | inl l ↦ (let ne : k ≢ (i - 1) = omega arith in rw get_or-set_other (c.loop-i.invariant.1 k (omega arith) q))
            | inr l ↦ (let e : k ≡ i - 1 = omega arith in rw e (get_or-set_same c.loop-i.positions (i - 1) _ 0 lt ∙ omega arith))
          ]),
      length-set _ _ _ ∙ c.loop-i.invariant.2,
    )
