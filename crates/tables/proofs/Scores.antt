-- The loop that adds one at the counter of a position, level by level.
use Rattle.std.proofs.Common.{◌≡◌, ℕ, zero, suc, ◌+◌, ◌-◌, ◌*◌, ◌^◌, ◌<◌, ◌≤◌, min, true, false, leb, List, length, get_or, Some, None, Ok, Err, Result, sym, refl, ap, ◌∙◌, inl, inr, add-one, arith}
use Rattle.std.specs.Result.{is_ok}
use Rattle.std.proofs.lemmas.List.{set_past}
use Rattle.std.proofs.lemmas.Bool.{cases_lt, true≢false, false≢true}
use Rattle.places.specs.Parts.{more}
use Rattle.setmap.specs.Mapping.{Mapping}
use Rattle.trace.specs.declared.Block.{Block}
use Rattle.stack.specs.declared.Entry.{Entry}
use Rattle.stack.specs.declared.walk.Walk.{Walk}
use Rattle.stack.specs.Stack.{stack, position}
use Rattle.stack.specs.Walk.{if_found, Walked}
use Rattle.tables.specs.Calls.{scores}
use Rattle.tables.specs.declared.Settings.{Settings}

-- a counter past the end alters nothing, wherever it is
more_past : (i : ℕ) (cs : List ℕ) → length cs ≤ i → more i cs ≡ cs
more_past i cs l = set_past cs i _ l

-- a sum that stays at the largest number is past the end too
pub more_capped : (i : ℕ) (cs : List ℕ) → length cs < 2 ^ 64 → more (min i (2 ^ 64 - 1)) cs ≡ more i cs
more_capped i cs l =
    elim (cases_lt i (2 ^ 64 - 1)) [
      | inl h ↦ (let e : min i (2 ^ 64 - 1) ≡ i = omega arith in ap (λ j. more j cs) e)
      | inr h ↦ more_past (min i (2 ^ 64 - 1)) cs (omega arith) ∙ sym (more_past i cs (omega arith))
    ]

if_ok : (r : Result ℕ ℕ) (n : ℕ) → is_ok r ≡ true → if_found r n ≡ Some n
if_ok (Ok x) n e = refl
if_ok (Err x) n e = absurd (false≢true e)

if_err : (r : Result ℕ ℕ) (n : ℕ) → is_ok r ≡ false → if_found r n ≡ None
if_err (Ok x) n e = absurd (true≢false e)
if_err (Err x) n e = refl

module _ (m : Mapping) (s : Settings) (from : ℕ) (q : Block) (es : List Entry) (w : Walk) (t : Walked m q es w) where
  here : (i : ℕ) → i < 17 → is_ok w.stop ≡ true → position m q i (stack es) ≡ Some (get_or w.positions i 0)
  here i h f = t.positioned i h ∙ if_ok w.stop (get_or w.positions i 0) f

  module _ (i : ℕ) (cs ds : List ℕ) (h : i < 17) (f : is_ok w.stop ≡ true) (e : ds ≡ scores m s from q (stack es) i cs) where
    pub scores_more : leb (get_or w.positions i 0) s.ways ≡ true → more (from + (i * s.ways + (get_or w.positions i 0 - 1))) ds ≡ scores m s from q (stack es) (i + 1) cs
    scores_more l =
        rw (add-one i, here i h f, l) (ap (more (from + (i * s.ways + (get_or w.positions i 0 - 1)))) e)

    pub scores_past : leb (get_or w.positions i 0) s.ways ≡ false → ds ≡ scores m s from q (stack es) (i + 1) cs
    scores_past l = rw (add-one i, here i h f, l) e

  pub scores_absent : (n : ℕ) (cs : List ℕ) → n ≤ 17 → is_ok w.stop ≡ false → cs ≡ scores m s from q (stack es) n cs
  scores_absent zero cs l f = refl
  scores_absent (suc n) cs l f =
      let p : position m q n (stack es) ≡ None = t.positioned n (omega arith) ∙ if_err w.stop (get_or w.positions n 0) f in
      rw p (scores_absent n cs (omega arith) f)
