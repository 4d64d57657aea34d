-- Line 1 of a spot check: `map,processors,shift,level,ways`.
use Rattle.std.specs.Prelude.{ℕ, List, [], ◌∷◌, Ok, Err}
use Rattle.trace.specs.Text.{Parsed, ◌then◌}
use Rattle.trace.specs.declared.Refusal.TheVariants.{Form}
use Rattle.report.specs.Settings.{map_field, any_number}
use Rattle.spot_report.specs.declared.Chosen.{Chosen}

-- five fields, then from the left each field's form and size
abbrev pub chosen : List (List ℕ) → Parsed Chosen
chosen [] = Err Form
chosen (a ∷ []) = Err Form
chosen (a ∷ (b ∷ [])) = Err Form
chosen (a ∷ (b ∷ (c ∷ []))) = Err Form
chosen (a ∷ (b ∷ (c ∷ (d ∷ [])))) = Err Form
chosen (a ∷ (b ∷ (c ∷ (d ∷ (e ∷ []))))) =
    map_field a then λ m. any_number b then λ p. any_number c then λ s. any_number d then λ l. any_number e then λ w.
    Ok (record { map = m; settings = record { processors = p; shift = s; level = l; ways = w } })
chosen (a ∷ (b ∷ (c ∷ (d ∷ (e ∷ (f ∷ fs)))))) = Err Form
