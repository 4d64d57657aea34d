use Rattle.std.proofs.Common.{◌≡◌, ◌+◌, ◌-◌, ◌*◌, ap₂, arith}
use Rattle.single.specs.Calls.{level_in, set_of, set_start}
use Rattle.single.proofs.Apart.{set_in}
use Rattle.single.proofs.setup.set_start.Goals as goal

pub returns-clause-within : goal.returns-clause-within
returns-clause-within g c =
    let s = c.args.s in
    let m = g.M.SetMap.meaning c.args.map.now in
    let law = g.met.M.SetMap.lawful c.args.map.now in
    let some = law.some_level in
    let in_set = law.within (level_in m s) c.args.block.number (omega arith) in
    let value : (c.args.p - 1) * c.cache_frames.result + c.set.result * s.ways ≡ set_start m s c.args.p (set_of m s c.args.block) =
    ap₂ (λ a b. (c.args.p - 1) * a + b * s.ways) c.cache_frames.ensures.value c.set.ensures in
    omega (arith, value, set_in m s c.args.p (set_of m s c.args.block) c.requires.asked.0 c.requires.asked.1 in_set)
