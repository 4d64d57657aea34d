-- The fields of an input's first line.
use Rattle.std.specs.Prelude.{ℕ, ◌-◌, ◌^◌, cond, List, [], ◌∷◌, Ok, Err, ◌==◌}
use Rattle.setmap.specs.Mapping.{Mapping}
use Rattle.setmap.specs.Maps.{bit_choice, thirds}
use Rattle.trace.specs.Text.{Parsed, number_field}
use Rattle.trace.specs.declared.Refusal.TheVariants.{Form}
use Rattle.report.specs.declared.Map.{Map}
use Rattle.report.specs.declared.Map.TheVariants.{BitChoice, Thirds}

abbrev pub mapping : Map → Mapping
mapping BitChoice = bit_choice
mapping Thirds = thirds

-- 'b' or 't'
abbrev pub letter_map : ℕ → Parsed Map
letter_map b = cond (b == 98) (Ok BitChoice) (cond (b == 116) (Ok Thirds) (Err Form))

abbrev pub map_field : List ℕ → Parsed Map
map_field [] = Err Form
map_field (b ∷ []) = letter_map b
map_field (b ∷ (c ∷ bs)) = Err Form

abbrev pub any_number : List ℕ → Parsed ℕ
any_number ds = number_field (2 ^ 32 - 1) ds
