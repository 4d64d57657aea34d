-- How a call refuses: each refusal has a number and the set of values for which it is given, and the first in the call's order is answered.
use Rattle.std.specs.Prelude.{ℕ, Bool, cond, ◌||◌, List, [], ◌∷◌, Some, None, Ok, Err, Option, Result, nat_lt}
use Rattle.trace.specs.declared.Refusal.{Refusal}

-- one refusal of a call that is judged by values V: its number, and the values for which it is given
pub record Case (V : Type 0) : Type 0 where
  pub number : ℕ
  pub given : V → Bool

-- the first refusal, in the call's order, that is given for the values
abbrev pub first_given : {V : Type 0} → (Refusal → Case V) → List Refusal → V → Option Refusal
first_given cases [] v = None
first_given cases (x ∷ order) v = cond ((cases x).given v) (Some x) (first_given cases order v)

-- an answer, unless there is a refusal
abbrev pub unless_refused : {A : Type 0} → Option Refusal → A → Result A Refusal
unless_refused None a = Ok a
unless_refused (Some x) a = Err x

-- below the lower limit, or above the upper one
abbrev pub outside : (low high : ℕ) → ℕ → Bool
outside low high n = nat_lt n low || nat_lt high n
