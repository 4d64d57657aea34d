use Rattle.std.proofs.Common.{◌≡◌, [], ◌∷◌, ◌++◌, Ok, vec_items, refl, ap, ◌∙◌, rules, arith}
use Rattle.report.specs.Refused.{refused_line}
use Rattle.spot_report.proofs.Underway.{long_after}
use Rattle.spot_report.proofs.Turns.{fed_under, turn_accepted, turn_fault, turn_end, room_accepted, room_fault}
use Rattle.spot_report.proofs.feeding.feed_all.Goals as goal

pub returns-in-Ok-End-clause-through : goal.returns-in-Ok-End-clause-through
returns-in-Ok-End-clause-through g c t₀ h reached =
    let i = c.loop-fault.invariant in
    let f = fed_under (ap (λ x. g.M.SetMap.meaning x.map) i.setup) (ap (λ x. x.settings) i.setup) (c.in-Ok-End.is ∙ ap Ok c.in-Ok-End.field-0-is) c.feed.ensures.fed in
    turn_end _ _ _ _ t₀ _ _ _ f (i.underway t₀ h reached)

pub loop-fault-preserved-in-Ok-Accepted : goal.loop-fault-preserved-in-Ok-Accepted
loop-fault-preserved-in-Ok-Accepted g c =
    let m = g.M.SetMap.meaning c.args.cache.now.setup.map in
    let s = c.args.cache.now.setup.settings in
    let i = c.loop-fault.invariant in
    let f = fed_under (ap (λ x. g.M.SetMap.meaning x.map) i.setup) (ap (λ x. x.settings) i.setup) (c.in-Ok-Accepted.is ∙ ap Ok c.in-Ok-Accepted.field-0-is) c.feed.ensures.fed in
    record {
      setup = c.feed.ensures.setup ∙ i.setup;
      same = search rules;
      room = room_accepted _ _ _ _ f i.room;
      underway = λ t₀ h reached. turn_accepted _ _ _ _ t₀ _ _ _ f (long_after m m s s _ _ refl refl i.same c.requires.long) (omega (arith, i.room)) (i.underway t₀ h reached);
    }

pub loop-fault-preserved : goal.loop-fault-preserved
loop-fault-preserved g c =
    let i = c.loop-fault.invariant in
    let x = c.in-Err.fault in
    let f = fed_under (ap (λ x. g.M.SetMap.meaning x.map) i.setup) (ap (λ x. x.settings) i.setup) c.in-Err.is c.feed.ensures.fed in
    let pushed : vec_items c.push.new.self ≡ vec_items c.loop-fault.refused ++ (refused_line x.item x.refusal ∷ []) =
    c.in_ok-push-in-Err.ensures.items ∙ ap (λ y. vec_items c.loop-fault.refused ++ (y ∷ [])) c.from.ensures in
    record {
      setup = c.feed.ensures.setup ∙ i.setup;
      same = search rules;
      room = room_fault _ _ _ _ x f i.room;
      underway = λ t₀ h reached. rw pushed (turn_fault _ _ _ _ t₀ _ _ _ x f (i.underway t₀ h reached));
    }
