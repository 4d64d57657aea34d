use Rattle.std.proofs.Common.{◌≡◌, ◌+◌, ◌-◌, ◌≤◌, length, arith}
use Rattle.study.proofs.Lent.{touched_is}
use Rattle.study.proofs.setup.Setup.touch_part.Goals as goal

pub returns : goal.returns
returns g c =
    let a = c.args in
    let s = a.self.now.settings in
    let at = c.part_start-a.result in
    let k = at + s.entries - at in
    let z : k ≡ s.entries = omega arith in
    let room : at + s.entries ≤ length a.entries.now = omega (arith, c.part_start-a.ensures.within, c.requires.1) in
    touched_is (g.M.SetMap.meaning a.self.now.map) s a.p a.q a.entries.now at k c.part_start-a.ensures.value z room _ c.touch.ensures.stretch _ c.touch.ensures.answer
