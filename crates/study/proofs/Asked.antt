-- What the answers to questions come to.
use Rattle.std.proofs.Common.{◌≡◌, ℕ, ◌<◌, Bool, true, false, ◌&&◌, ltb, take, None, Ok, sym, refl, ap, ◌∙◌}
use Rattle.setmap.specs.Mapping.{Mapping}
use Rattle.trace.specs.declared.Block.{Block}
use Rattle.stack.specs.declared.walk.Walk.{Walk}
use Rattle.stack.specs.Stack.{stack, position, within}
use Rattle.stack.specs.Walk.{position_at, Walked}
use Rattle.stack.proofs.Stops.{position_is}
use Rattle.tables.specs.declared.Settings.{Settings}
use Rattle.tables.specs.Tables.{Tables, stretch}
use Rattle.tables.specs.Calls.{Kept, place_of, question_refusal, held}
use Rattle.study.specs.Steps.{own_part}

module _ (m : Mapping) (s : Settings) (kept : Kept) (t : Tables) (p i d : ℕ) (b : Block) (e : question_refusal m s t p i d ≡ None) (found : Bool)
    (l : ltb (place_of b (take kept.known t.known)) kept.known ≡ found) where
  asked : Ok (found && within (position m b i (stack (stretch s p t))) d) ≡ held m s kept t p i d b
  asked = rw (e, l) refl

  pub not_held : found ≡ false → Ok false ≡ held m s kept t p i d b
  not_held f = ap (λ x. Ok (x && within (position m b i (stack (stretch s p t))) d)) (sym f) ∙ asked

  pub held_is : found ≡ true → (w : Walk) → i < 17 → Walked m b (own_part s p t.entries) w → (x : Bool) → x ≡ within (position_at i w) d → Ok x ≡ held m s kept t p i d b
  held_is f w h v x g =
      ap Ok g ∙ ap (λ o. Ok (within o d)) (position_is m b (own_part s p t.entries) w i v h) ∙ ap (λ y. Ok (y && within (position m b i (stack (stretch s p t))) d)) (sym f) ∙ asked
