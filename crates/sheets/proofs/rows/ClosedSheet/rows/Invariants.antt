use Rattle.std.proofs.Common.{◌≡◌, ◌-◌, ◌++◌, vec_items}
use Rattle.sheets.specs.Sheets.{rows, level_rows, ways_rows}
use Rattle.sheets.specs.Steps.{Shows}
use Rattle.tables.specs.Lent.{seen}
use Rattle.sheets.proofs.rows.ClosedSheet.rows.Given as goal

abbrev pub invariant-loop-p : goal.invariant-loop-p
invariant-loop-p g l =
    let m = g.M.SetMap.meaning l.self.map in
    Shows m l.self.settings (seen l.self.tables) (λ h. vec_items l.rows ≡ rows m h l.s.levels l.s.ways (l.p - 1))

abbrev pub invariant-loop-level : goal.invariant-loop-level
invariant-loop-level g l =
    let m = g.M.SetMap.meaning l.self.map in
    Shows m l.self.settings (seen l.self.tables) (λ h. vec_items l.rows ≡ vec_items l.initial.rows ++ level_rows m h l.p l.s.ways l.level)

abbrev pub invariant-loop-ways : goal.invariant-loop-ways
invariant-loop-ways g l =
    let m = g.M.SetMap.meaning l.self.map in
    Shows m l.self.settings (seen l.self.tables) (λ h. vec_items l.rows ≡ vec_items l.initial.rows ++ ways_rows m h l.p l.level (l.ways - 1))
