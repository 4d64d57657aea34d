use Rattle.std.proofs.Common.{◌≡◌, refl, ap}
use Rattle.std.proofs.Math.Bridge.{le_prop}
use Rattle.tables.specs.declared.Settings.{Settings}
use Rattle.study.specs.Limits.{Limited}
use Rattle.study.proofs.open.OpenStudy.close.Goals as goal

-- limits have one proof at most
limited_same : (s : Settings) (a b : Limited s) → a ≡ b
limited_same s a b = rw (le_prop a.some_processor b.some_processor, le_prop a.processors b.processors, le_prop a.shift b.shift, le_prop a.some_level b.some_level, le_prop a.levels b.levels, le_prop a.some_way b.some_way, le_prop a.ways b.ways, le_prop a.some_block b.some_block, le_prop a.blocks b.blocks, le_prop a.some_entry b.some_entry, le_prop a.entries b.entries) refl

-- whoever makes the settings anew proves their limits anew
pub returns : goal.returns
returns g c = ap (λ l. record { map = c.args.self.setup.map; settings = c.args.self.setup.settings; limited = l }) (limited_same _ _ _)
