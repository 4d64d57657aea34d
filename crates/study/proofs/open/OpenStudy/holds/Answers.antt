use Rattle.std.proofs.Common.{◌≤◌, length, rules}
use Rattle.tables.specs.Lent.{seen}
use Rattle.study.specs.Steps.{kept_of}
use Rattle.study.proofs.Asked.{not_held, held_is}
use Rattle.study.proofs.Sought.{is_known}
use Rattle.study.proofs.open.OpenStudy.holds.Goals as goal

pub returns-then-is_none : goal.returns-then-is_none
returns-then-is_none g c =
    let a = c.args in
    let s = a.self.now in
    let room : s.known ≤ length a.tables.known.now = search rules in
    not_held (g.M.SetMap.meaning s.setup.map) s.setup.settings (kept_of s.known s.accepted) (seen a.tables) a.p a.level a.ways a.b c.in_ok-refuse_question.ensures _
    (is_known a.tables.known.now s.known a.b room c.seek_block.result c.seek_block.ensures) c.if-is_none.ensures

pub returns : goal.returns
returns g c =
    let a = c.args in
    let s = a.self.now in
    let room : s.known ≤ length a.tables.known.now = search rules in
    held_is (g.M.SetMap.meaning s.setup.map) s.setup.settings (kept_of s.known s.accepted) (seen a.tables) a.p a.level a.ways a.b c.in_ok-refuse_question.ensures _
    (is_known a.tables.known.now s.known a.b room c.seek_block.result c.seek_block.ensures) c.if-is_none.ensures c.walk_part-walk.result (search rules) c.walk_part-walk.ensures
    c.reaches.result c.reaches.ensures
