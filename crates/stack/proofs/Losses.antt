-- A block that another processor wrote.
use Rattle.std.proofs.Common.{◌≡◌, ℕ, suc, ◌+◌, ◌-◌, Bool, true, false, cond, List, [], ◌∷◌, ◌++◌, length, drop, set, replicate, Ok, sym, refl, ap, ◌∙◌, inl, inr, arith}
use Rattle.std.proofs.lemmas.List.{take-append-drop}
use Rattle.std.proofs.lemmas.Bool.{cases_Bool}
use Rattle.trace.specs.Items.{same}
use Rattle.trace.specs.declared.Block.{Block as MemoryBlock}
use Rattle.levels.specs.Levels.{below}
use Rattle.stack.specs.declared.Entry.{Entry}
use Rattle.stack.specs.declared.Entry.TheVariants.{Empty, Block, Marker}
use Rattle.stack.specs.Stack.{stack, is_block, dropped, restack}
use Rattle.stack.specs.Walk.{stop, stands_in, stopped}
use Rattle.stack.proofs.Stops.{stopped_at, stopped_past}
use Rattle.stack.proofs.Ends.{take-stack}

module _ (q : MemoryBlock) where
  dropped-length : (levels : ℕ) (s : List Entry) → length (dropped levels q s) ≡ length s
  dropped-length levels [] = refl
  dropped-length levels (e ∷ s) = elim (cases_Bool (is_block q e)) [ inl t ↦ rw t | inr t ↦ rw t (ap suc (dropped-length levels s)) ]

  cons_cond : (t : Bool) (e : Entry) (xs ys : List Entry) → e ∷ cond t xs ys ≡ cond t (e ∷ xs) (e ∷ ys)
  cons_cond true e xs ys = refl
  cons_cond false e xs ys = refl

  lost_split : (levels : ℕ) (es : List Entry) → dropped levels q (stack es) ++ drop (length (stack es)) es ≡ cond (stands_in q es) (set es (stop q es) (Marker q (below levels))) es
  lost_split levels [] = refl
  lost_split levels (Empty ∷ es) = refl
  lost_split levels (Block b ∷ es) =
      elim (cases_Bool (same b q)) [
        | inl e ↦ rw e (ap (λ xs. Marker q (below levels) ∷ xs) (ap (λ xs. xs ++ drop (length (stack es)) es) (sym (take-stack es)) ∙ take-append-drop (length (stack es)) es))
        | inr e ↦ rw e (ap (λ xs. Block b ∷ xs) (lost_split levels es) ∙ cons_cond (stands_in q es) (Block b) (set es (stop q es) (Marker q (below levels))) es)
      ]
  lost_split levels (Marker b v ∷ es) = ap (λ xs. Marker b v ∷ xs) (lost_split levels es) ∙ cons_cond (stands_in q es) (Marker b v) (set es (stop q es) (Marker q (below levels))) es

  lost_is : (levels : ℕ) (es : List Entry) → restack (dropped levels q (stack es)) es ≡ cond (stands_in q es) (set es (stop q es) (Marker q (below levels))) es
  lost_is levels es =
      let n = dropped-length levels (stack es) in
      let a : length (stack es) - length (dropped levels q (stack es)) ≡ 0 = omega arith in
      let b : length (dropped levels q (stack es)) + (length (stack es) - length (dropped levels q (stack es))) ≡ length (stack es) = omega arith in
      ap (λ i. dropped levels q (stack es) ++ (replicate i Empty ++ drop (length (dropped levels q (stack es)) + (length (stack es) - length (dropped levels q (stack es)))) es)) a
      ∙ ap (λ i. dropped levels q (stack es) ++ drop i es) b
      ∙ lost_split levels es

  pub lost_found : (levels : ℕ) (es : List Entry) (place : ℕ) (e : Entry) → Ok place ≡ stopped q es → e ≡ Marker q (below levels) → set es place e ≡ restack (dropped levels q (stack es)) es
  lost_found levels es place e h ev =
      let s = stopped_at q es place h in
      ap (λ i. set es i e) s.1 ∙ ap (λ x. set es (stop q es) x) ev ∙ sym (lost_is levels es ∙ rw s.0)

  pub lost_absent : (levels : ℕ) (es : List Entry) → ((place : ℕ) → stopped q es ≡ Ok place → ⊥) → es ≡ restack (dropped levels q (stack es)) es
  lost_absent levels es n = sym (lost_is levels es ∙ rw (stopped_past q es n))
