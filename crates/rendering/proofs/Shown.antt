-- Values that are shown as lines.
use Rattle.std.proofs.Common.{◌≡◌, ℕ, List, [], ◌∷◌, ◌++◌, Some, None, Option, sym, refl, ap, ◌∙◌}
use Rattle.std.proofs.lemmas.List.{append-nil}
use Rattle.std.proofs.Output.{then_text_assoc}
use Rattle.std.specs.Fmt.{option_append, with_newline}
use Rattle.std.specs.List.{flat_map}
use Rattle.rendering.specs.Lines.{ended, shown_lines}

none_append : (o : Option (List ℕ)) → option_append (Some []) o ≡ o
none_append None = refl
none_append (Some a) = refl

append_none : (o : Option (List ℕ)) → option_append o (Some []) ≡ o
append_none None = refl
append_none (Some a) = ap Some (append-nil a)

module _ {A : Type 0} (shown : A → Option (List ℕ)) where
  -- a line more
  pub shown_more : (xs : List A) (x : A) → shown_lines shown (xs ++ (x ∷ [])) ≡ option_append (shown_lines shown xs) (with_newline (shown x))
  shown_more [] x = append_none (with_newline (shown x)) ∙ sym (none_append (with_newline (shown x)))
  shown_more (y ∷ ys) x = ap (option_append (with_newline (shown y))) (shown_more ys x)
      ∙ sym (then_text_assoc (with_newline (shown y)) (shown_lines shown ys) (with_newline (shown x)))

  -- values that all show a text
  pub shown_all : (text : A → List ℕ) → ((x : A) → shown x ≡ Some (text x)) → (xs : List A) → shown_lines shown xs ≡ Some (flat_map (λ x. ended (text x)) xs)
  shown_all text shows [] = refl
  shown_all text shows (x ∷ xs) =
      ap (λ o. option_append (with_newline o) (shown_lines shown xs)) (shows x) ∙ ap (option_append (Some (ended (text x)))) (shown_all text shows xs)
