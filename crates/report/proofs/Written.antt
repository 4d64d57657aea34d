-- Refused lines, a heading and rows as one text.
use Rattle.std.proofs.Common.{◌≡◌, ℕ, List, [], ◌∷◌, ◌++◌, Some, Option, sym, ap, ◌∙◌}
use Rattle.std.proofs.lemmas.List.{append_assoc}
use Rattle.std.specs.Fmt.{option_append}
use Rattle.rendering.specs.Lines.{ended}

pub shown_below : (o p : Option (List ℕ)) (a b g h : List ℕ) → o ≡ Some a → p ≡ Some b → g ≡ h
    → option_append o (option_append (Some g) (option_append (Some (10 ∷ [])) p)) ≡ Some (a ++ (ended h ++ b))
shown_below o p a b g h eo ep eg =
    ap (λ x. option_append x (option_append (Some g) (option_append (Some (10 ∷ [])) p))) eo
    ∙ ap (λ x. option_append (Some a) (option_append (Some g) (option_append (Some (10 ∷ [])) x))) ep
    ∙ ap (λ x. Some (a ++ (x ++ (10 ∷ b)))) eg ∙ ap (λ x. Some (a ++ x)) (sym (append_assoc h (10 ∷ []) b))
