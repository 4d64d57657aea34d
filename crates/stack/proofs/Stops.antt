-- Where a walk stops.
use Rattle.std.proofs.Common.{◌≡◌, ℕ, ◌<◌, true, false, cond, List, length, Some, None, Ok, sym, ap, ◌∙◌, inl, inr, arith}
use Rattle.std.specs.Result.{is_ok}
use Rattle.std.proofs.lemmas.Bool.{cases_Bool, lt-ltb}
use Rattle.trace.specs.declared.Block.{Block}
use Rattle.setmap.specs.Mapping.{Mapping}
use Rattle.stack.specs.declared.Entry.{Entry}
use Rattle.stack.specs.declared.walk.Walk.{Walk}
use Rattle.stack.specs.Stack.{stack, position}
use Rattle.stack.specs.Walk.{stop, stands_in, stopped, place_of, past_stop, if_found, position_at, Walked}
use Rattle.stack.specs.Touch.{resumes}

module _ (q : Block) (es : List Entry) where
  pub ok_is : is_ok (stopped q es) ≡ stands_in q es
  ok_is = elim (cases_Bool (stands_in q es)) [ inl e ↦ rw e | inr e ↦ rw e ]

  pub place_is : place_of (stopped q es) ≡ stop q es
  place_is = elim (cases_Bool (stands_in q es)) [ inl e ↦ rw e | inr e ↦ rw e ]

  pub past_is : past_stop (stopped q es) ≡ resumes q es
  past_is = elim (cases_Bool (stands_in q es)) [ inl e ↦ rw e | inr e ↦ rw e ]

  pub found_is : (n : ℕ) → cond (stands_in q es) (Some n) None ≡ if_found (stopped q es) n
  found_is n = elim (cases_Bool (stands_in q es)) [ inl e ↦ rw e | inr e ↦ rw e ]

  pub stopped_at : (place : ℕ) → Ok place ≡ stopped q es → (stands_in q es ≡ true) × (place ≡ stop q es)
  stopped_at place h = (sym ok_is ∙ ap is_ok (sym h), ap place_of h ∙ place_is)

  pub stopped_past : ((place : ℕ) → stopped q es ≡ Ok place → ⊥) → stands_in q es ≡ false
  stopped_past n = elim (cases_Bool (stands_in q es)) [ inl e ↦ absurd (n (stop q es) (rw e)) | inr e ↦ e ]

-- what a walk gives at one of the levels is the position there
pub position_is : (m : Mapping) (q : Block) (es : List Entry) (w : Walk) (i : ℕ) → Walked m q es w → i < 17 → position_at i w ≡ position m q i (stack es)
position_is m q es w i k l =
    let n : i < length w.positions = omega (arith, k.seventeen) in
    rw (lt-ltb i (length w.positions) n) (sym (k.positioned i l))
