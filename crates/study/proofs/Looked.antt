-- A look at one processor's stretch and marks.
use Rattle.std.proofs.Common.{◌≡◌, refl, IsSome, ℕ, ◌+◌, ◌-◌, Bool, true, false, List, take, drop, ◌≤◌, sym, ap, ◌∙◌, subst, subst₂, inl, inr, arith}
use Rattle.std.specs.Bool.{then_some}
use Rattle.std.proofs.lemmas.Bool.{cases_lt}
use Rattle.places.specs.Parts.{part, start}
use Rattle.tables.specs.declared.Settings.{Settings}
use Rattle.tables.specs.Tables.{Tables, stretch}
use Rattle.order.specs.Order.{Orderly, Distinct}
use Rattle.order.specs.Looks.{no_repeat, row_in_order}
use Rattle.order.proofs.Blocks.{no_repeat_distinct}
use Rattle.order.proofs.Stacks.{row_orderly}
use Rattle.study.specs.Steps.{RowsInOrder}

-- a processor's part of a table, as `&table[at..at + n]` has it
pub lent_part : {A : Type 0} (at n p : ℕ) (xs : List A) → at ≡ start n p → take (at + n - at) (drop at xs) ≡ part (start n p) n xs
lent_part at n p xs e = let z : at + n - at ≡ n = omega arith in ap (λ i. take i (drop at xs)) z ∙ ap (λ i. take n (drop i xs)) e

-- one processor more, whose parts begin at these places
pub one_row_more : (s : Settings) (n : ℕ) (t : Tables) (p at from : ℕ) (r : Bool) → 1 ≤ p → no_repeat (take n t.known) ≡ true → RowsInOrder s n t (p - 1)
    → at ≡ start s.entries p → from ≡ start s.blocks p
    → (Distinct (take n t.known) → r ≡ row_in_order (take n t.known) (take (from + s.blocks - from) (drop from t.marks)) (take (at + s.entries - at) (drop at t.entries)))
    → r ≡ true → (most : ℕ) → p ≡ most → RowsInOrder s n t most
one_row_more s n t p at from r low distinct before e m f y most last i lo hi =
    elim (cases_lt (p - 1) i) [
      | inl x ↦ (
          let K = take n t.known in
          let is : p ≡ i = omega arith in
          let o = row_orderly K _ _ (sym (f (no_repeat_distinct K distinct)) ∙ y) in
          let a : Orderly K (stretch s p t) (part (start s.blocks p) s.blocks t.marks) =
          subst₂ (Orderly K) (lent_part at s.entries p t.entries e) (lent_part from s.blocks p t.marks m) o in
          subst (λ j. Orderly K (stretch s j t) (part (start s.blocks j) s.blocks t.marks)) is a)
      | inr x ↦ before i lo x
    ]

-- what is given only where a look has found so
pub given : {A : Type 0} (b : Bool) (x : A) → IsSome (then_some b x) → b ≡ true
given true x e = refl
given false x e = cc
