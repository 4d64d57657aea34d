-- Line 1 of the evening sheet's input: `map,processors,shift,levels,ways,blocks`.
use Rattle.std.specs.Prelude.{ℕ, List, [], ◌∷◌, Ok, Err}
use Rattle.trace.specs.Text.{Parsed, ◌then◌}
use Rattle.trace.specs.declared.Refusal.TheVariants.{Form}
use Rattle.report.specs.Settings.{map_field, any_number}
use Rattle.sheet_report.specs.declared.Chosen.{Chosen}

-- six fields, then from the left each field's form and size
abbrev pub chosen : List (List ℕ) → Parsed Chosen
chosen [] = Err Form
chosen (a ∷ []) = Err Form
chosen (a ∷ (b ∷ [])) = Err Form
chosen (a ∷ (b ∷ (c ∷ []))) = Err Form
chosen (a ∷ (b ∷ (c ∷ (d ∷ [])))) = Err Form
chosen (a ∷ (b ∷ (c ∷ (d ∷ (e ∷ []))))) = Err Form
chosen (a ∷ (b ∷ (c ∷ (d ∷ (e ∷ (f ∷ [])))))) =
    map_field a then λ m. any_number b then λ p. any_number c then λ s. any_number d then λ l. any_number e then λ w. any_number f then λ n.
    Ok (record { map = m; sizes = record { processors = p; shift = s; levels = l; ways = w; blocks = n } })
chosen (a ∷ (b ∷ (c ∷ (d ∷ (e ∷ (f ∷ (g ∷ gs))))))) = Err Form
