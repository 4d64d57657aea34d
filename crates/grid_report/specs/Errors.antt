-- What is told of a grid that is not opened, or that takes no more.
use Rattle.std.specs.Prelude.{ℕ, List, codes}
use Rattle.trace.specs.declared.Refusal.{Refusal}
use Rattle.trace.specs.declared.Refusal.TheVariants.{Setting, Level, Size}
use Rattle.grid_report.specs.declared.errors.OpenError.{OpenError}
use Rattle.grid_report.specs.declared.errors.OpenError.TheVariants as opening
use Rattle.grid_report.specs.declared.errors.ReadError.{ReadError}
use Rattle.grid_report.specs.declared.errors.ReadError.TheVariants as reading

-- what has no other text is a fault of the settings' form
abbrev pub settings_text : Refusal → List ℕ
settings_text Setting = codes "the settings are refused with 1: a number is outside its limits"
settings_text Level = codes "the settings are refused with 2: the map lacks a level"
settings_text Size = codes "the settings are refused with 10: a number is too large"
settings_text _ = codes "the settings are refused with 9: map,processors,shift,levels,ways,blocks is the form"

abbrev pub opening_text : OpenError → List ℕ
opening_text (opening.Refused x) = settings_text x
opening_text opening.NoMemory = codes "there is not enough memory for the tables"

abbrev pub reading_text : ReadError → List ℕ
reading_text reading.TooLong = codes "the trace has more items than can be counted"
reading_text reading.NoMemory = codes "there is not enough memory for a piece of the trace"
