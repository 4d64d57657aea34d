use Rattle.std.proofs.Common.{◌≡◌, ◌+◌, ◌-◌, ◌++◌, vec_items, ap, ◌∙◌, arith}
use Rattle.sheets.specs.Sheets.{ways_rows}
use Rattle.sheets.proofs.Lines.{ways_more, levels_more, processors_more}
use Rattle.tables.specs.Lent.{seen}
use Rattle.sheets.proofs.rows.ClosedSheet.rows.Goals as goal
use Rattle.sheets.proofs.rows.ClosedSheet.rows.Goals.{else-loop-ways-test, then-loop-ways-test+in_ok-push+else-ways-ways-end, else-loop-p-test, then-loop-p-test+else-loop-level-test+else-p-p-end}

pub loop-ways-preserved : goal.loop-ways-preserved
loop-ways-preserved g c t₀ h kept closed =
    let self = c.args.self.now in
    ways_more (g.M.SetMap.meaning self.map) self.settings (seen self.tables) t₀ h kept (g.met.M.SetMap.lawful self.map) closed
    c.loop-p.p c.loop-level.level c.loop-ways.ways (c.loop-ways.ways + 1 - 1) c.sets-sets.result c.figures.result (vec_items c.loop-level.rows) (vec_items c.loop-ways.rows) (vec_items c.push.new.self) c.loop-level-test.true (omega arith) (omega arith) c.sets-sets.ensures c.figures.ensures
    (c.loop-ways.invariant t₀ h kept closed) c.in_ok-push.ensures.items

pub loop-level-preserved : goal.loop-level-preserved
loop-level-preserved g c t₀ h kept closed =
    let self = c.args.self.now in
    let m = g.M.SetMap.meaning self.map in
    let s = self.settings in
    let ways : vec_items c.loop-ways-test.rows ≡ vec_items c.loop-level.rows ++ ways_rows m h c.loop-p.p c.loop-level.level s.ways =
    elim c.loop-ways-test.branch [
      | else-loop-ways-test w ↦ absurd (omega (arith, ap (λ x. x.ways) self.same_settings))
      | then-loop-ways-test+in_ok-push+else-ways-ways-end w ↦ ap vec_items w.rows-is
          ∙ ways_more m s (seen self.tables) t₀ h kept (g.met.M.SetMap.lawful self.map) closed
          c.loop-p.p c.loop-level.level c.loop-ways.ways s.ways c.sets-sets.result w.figures.result (vec_items c.loop-level.rows) (vec_items c.loop-ways.rows) (vec_items w.push.new.self) c.loop-level-test.true (omega arith) (omega arith) c.sets-sets.ensures w.figures.ensures
          (c.loop-ways.invariant t₀ h kept closed) w.in_ok-push.ensures.items
    ] in
    levels_more m h c.loop-p.p s.ways c.loop-level.level _ _ _ (c.loop-level.invariant t₀ h kept closed) ways

pub loop-p-preserved : goal.loop-p-preserved
loop-p-preserved g c t₀ h kept closed =
    let s = c.args.self.now.settings in
    processors_more (g.M.SetMap.meaning c.args.self.now.map) h s.levels s.ways c.loop-p.p c.loop-level.level (c.loop-p.p + 1 - 1) (vec_items c.loop-p.rows) (vec_items c.loop-level.rows)
    (omega arith) (omega arith) (omega arith) (c.loop-p.invariant t₀ h kept closed) (c.loop-level.invariant t₀ h kept closed)

pub returns : goal.returns
returns g c t₀ h kept closed =
    let self = c.args.self.now in
    let m = g.M.SetMap.meaning self.map in
    let s = self.settings in
    elim c.loop-p-test.branch [
      | else-loop-p-test w ↦ absurd (omega (arith, ap (λ x. x.processors) self.same_settings))
      | then-loop-p-test+else-loop-level-test+else-p-p-end w ↦ ap vec_items w.rows-is
          ∙ processors_more m h s.levels s.ways c.loop-p.p w.loop-level.level s.processors (vec_items c.loop-p.rows) (vec_items w.loop-level.rows)
          (omega arith) (omega arith) (omega arith) (c.loop-p.invariant t₀ h kept closed) (w.loop-level.invariant t₀ h kept closed)
    ]
