-- Where a stack ends.
use Rattle.std.proofs.Common.{◌≡◌, ℕ, ◌+◌, ◌<◌, ◌≤◌, Bool, true, false, List, [], ◌∷◌, ◌++◌, length, get_or, take, drop, sym, refl, ap, ◌∙◌, inl, inr, arith}
use Rattle.std.specs.List.{prefix_len}
use Rattle.std.proofs.lemmas.List.{at_drop_more, at_drop_all, drop-drop, take-append-drop}
use Rattle.std.proofs.lemmas.Bool.{cases_lt, false≢true}
use Rattle.trace.specs.declared.Block.{Block as MemoryBlock}
use Rattle.levels.specs.declared.Levels.{Levels}
use Rattle.stack.specs.declared.Entry.{Entry}
use Rattle.stack.specs.declared.Entry.TheVariants.{Empty, Block, Marker}
use Rattle.stack.specs.Stack.{stack}
use Rattle.stack.specs.Walk.{begins}

abbrev pub filled : Entry → Bool
filled Empty = false
filled (Block b) = true
filled (Marker b v) = true

pub tall_is_prefix : (xs : List Entry) → prefix_len filled xs ≡ length (stack xs)
tall_is_prefix [] = refl
tall_is_prefix (Empty ∷ xs) = refl
tall_is_prefix (Block b ∷ xs) = omega (arith, tall_is_prefix xs)
tall_is_prefix (Marker b v ∷ xs) = omega (arith, tall_is_prefix xs)

abbrev tall : List Entry → ℕ
tall xs = length (stack xs)

pub tall_le : (xs : List Entry) → length (stack xs) ≤ length xs
tall_le [] = omega arith
tall_le (Empty ∷ xs) = omega arith
tall_le (Block b ∷ xs) = omega (arith, tall_le xs)
tall_le (Marker b v ∷ xs) = omega (arith, tall_le xs)

pub take-stack : (xs : List Entry) → take (length (stack xs)) xs ≡ stack xs
take-stack [] = refl
take-stack (Empty ∷ xs) = refl
take-stack (Block b ∷ xs) = ap (λ ys. Block b ∷ ys) (take-stack xs)
take-stack (Marker b v ∷ xs) = ap (λ ys. Marker b v ∷ ys) (take-stack xs)

module _ (xs : List Entry) (i : ℕ) where
  pub ends_here : i < length xs → get_or xs i Empty ≡ Empty → length (stack (drop i xs)) ≡ 0
  ends_here h g = at_drop_more tall xs i Empty h ∙ ap (λ e. tall (e ∷ drop (i + 1) xs)) g

  pub past_end : length xs ≤ i → length (stack (drop i xs)) ≡ 0
  past_end h = at_drop_all tall xs i h

  pub block_here : (b : MemoryBlock) → i < length xs → get_or xs i Empty ≡ Block b → length (stack (drop i xs)) ≡ 1 + length (stack (drop (i + 1) xs))
  block_here b h g = at_drop_more tall xs i Empty h ∙ ap (λ e. tall (e ∷ drop (i + 1) xs)) g ∙ omega arith

  pub marker_here : (b : MemoryBlock) (v : Levels) → i < length xs → get_or xs i Empty ≡ Marker b v → length (stack (drop i xs)) ≡ 1 + length (stack (drop (i + 1) xs))
  marker_here b v h g = at_drop_more tall xs i Empty h ∙ ap (λ e. tall (e ∷ drop (i + 1) xs)) g ∙ omega arith

-- the stack from `rest` on, and what stands past it
pub stack_and_past : (rest : ℕ) (es : List Entry) → stack (drop rest es) ++ drop (rest + length (stack (drop rest es))) es ≡ drop rest es
stack_and_past rest es =
    let n = length (stack (drop rest es)) in
    ap (λ xs. xs ++ drop (rest + n) es) (sym (take-stack (drop rest es)))
    ∙ ap (λ xs. take n (drop rest es) ++ xs) (sym (drop-drop n rest es))
    ∙ take-append-drop n (drop rest es)

pub begins-within : (i : ℕ) (es : List Entry) → begins (drop i es) ≡ true → i < length es
begins-within i es t =
    elim (cases_lt i (length es)) [
      | inl l ↦ l
      | inr l ↦ (let z : false ≡ true = sym (at_drop_all begins es i l) ∙ t in absurd (false≢true z))
    ]
