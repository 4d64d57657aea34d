-- The settings of a study of these sizes.
use Rattle.std.specs.Prelude.{◌≡◌, ◌*◌, ◌^◌, ◌≤◌, Ok, Err, Result}
use Rattle.trace.specs.declared.Refusal.{Refusal}
use Rattle.trace.specs.declared.Refusal.TheVariants.{Setting}
use Rattle.tables.specs.declared.Settings.{Settings}
use Rattle.sheets.specs.declared.Sizes.{Sizes}

-- entries for each level and block
abbrev pub settings_of : Sizes → Settings
settings_of x = record { processors = x.processors; shift = x.shift; levels = x.levels; ways = x.ways; blocks = x.blocks; entries = x.levels * x.blocks }

-- they are refused only where their entries are more than can be told
abbrev pub SettingsFrom : Sizes → Result Settings Refusal → Type 0
SettingsFrom x (Ok s) = s ≡ settings_of x
SettingsFrom x (Err e) = (2 ^ 32 ≤ x.levels * x.blocks) × (e ≡ Setting)
