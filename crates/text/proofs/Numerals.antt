-- Numerals, and a loop that reads their digits.
use Rattle.std.proofs.Common.{◌≡◌, ℕ, ◌+◌, ◌-◌, ◌*◌, ◌<◌, ◌≤◌, true, false, ◌&&◌, List, length, get_or, drop, fold, sym, refl, ◌∙◌, inl, inr}
use Rattle.std.proofs.lemmas.List.{at_drop_more, at_drop_all}
use Rattle.std.proofs.lemmas.Bool.{cases_lt, and_left, and_right, and_from, lt-leb, le-leb}
use Rattle.trace.specs.Text.{is_digit, all_digits, digits_value}

pub not_digit : (b : ℕ) → (48 ≤ b → 57 < b) → is_digit b ≡ false
not_digit b h = elim (cases_lt b 48) [ inl low ↦ and_left _ _ (lt-leb 48 b low) | inr high ↦ and_right _ _ (lt-leb b 57 (h high)) ]

pub is_digit_lem : (b : ℕ) → 48 ≤ b → b ≤ 57 → is_digit b ≡ true
is_digit_lem b low high = and_from _ _ (le-leb 48 b low) (le-leb b 57 high)

module _ (ds : List ℕ) (i v : ℕ) (value : fold (λ n d. n * 10 + (d - 48)) v (drop i ds) ≡ digits_value ds) (digits : all_digits (drop i ds) ≡ all_digits ds) where
  pub digits_stop : i < length ds → is_digit (get_or ds i 0) ≡ false → all_digits ds ≡ false
  digits_stop h n =
      let u : all_digits (drop i ds) ≡ is_digit (get_or ds i 0) && all_digits (drop (i + 1) ds) = at_drop_more all_digits ds i 0 h in
      sym digits ∙ u ∙ and_left _ _ n

  pub digits_more : i < length ds → is_digit (get_or ds i 0) ≡ true → all_digits (drop (i + 1) ds) ≡ all_digits ds
  digits_more h d =
      let u : all_digits (drop i ds) ≡ is_digit (get_or ds i 0) && all_digits (drop (i + 1) ds) = at_drop_more all_digits ds i 0 h in
      sym (u ∙ rw d refl) ∙ digits

  pub value_more : i < length ds → fold (λ n d. n * 10 + (d - 48)) (v * 10 + (get_or ds i 0 - 48)) (drop (i + 1) ds) ≡ digits_value ds
  value_more h = sym (at_drop_more (fold (λ n d. n * 10 + (d - 48)) v) ds i 0 h) ∙ value

  pub digits_all : length ds ≤ i → all_digits ds ≡ true
  digits_all h = sym digits ∙ at_drop_all all_digits ds i h

  pub value_all : length ds ≤ i → v ≡ digits_value ds
  value_all h = sym (at_drop_all (fold (λ n d. n * 10 + (d - 48)) v) ds i h) ∙ value
