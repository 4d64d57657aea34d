use Rattle.std.proofs.Common.{rules, ◌≡◌, sym, ap, ◌∙◌, length, take, length-take, arith}
use Rattle.std.specs.Option.{unwrap_or}
use Rattle.study.proofs.Sought.{place_or}
use Rattle.study.proofs.open.OpenStudy.place_of.Goals as goal
use Rattle.study.proofs.open.OpenStudy.place_of.Goals.{in-Some, in-None}

pub returns-clause-value : goal.returns-clause-value
returns-clause-value g c =
    let a = c.args in
    let n = a.self.now.known in
    elim c.match-hints.branch [
      | in-Some w ↦
          let l : length (take n a.known.now) ≡ n = omega (arith, c.requires.within, length-take n a.known.now) in
          let d = w.find-place.ensures.value (c.requires.distinct (search rules)) in
          c.unwrap_or.ensures ∙ ap (λ o. unwrap_or o n) w.place-is ∙ ap (unwrap_or w.find-place.result) (sym l) ∙ d
      | in-None w ↦ place_or a.known.now n a.block c.requires.within _ (w.place-is ∙ w.seek_block-place.ensures) _ c.unwrap_or.ensures
    ]
