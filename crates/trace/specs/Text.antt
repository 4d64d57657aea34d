-- The text form of a trace: a line for each reference, `processor,operation,address`.
use Rattle.std.specs.Prelude.{ℕ, ◌+◌, ◌-◌, ◌*◌, ◌^◌, Bool, true, false, cond, not, ◌&&◌, List, [], ◌∷◌, Ok, Err, fold, Result, ◌==◌, nat_le}
use Rattle.std.specs.List.{slice_split}
use Rattle.trace.specs.Items.{Item, reference, bad}
use Rattle.trace.specs.declared.Operation.{Operation}
use Rattle.trace.specs.declared.Operation.TheVariants.{Read, Write, Fetch}
use Rattle.trace.specs.declared.Reference.{Reference}
use Rattle.trace.specs.declared.Refusal.{Refusal}
use Rattle.trace.specs.declared.Refusal.TheVariants.{Form, Size, CutOff}

-- what a reader makes of a piece: a value, or the refusal
abbrev pub Parsed : Type 0 → Type 0
Parsed A = Result A Refusal

infixr 20 ◌then◌
abbrev pub ◌then◌ : {A B : Type 0} → Parsed A → (A → Parsed B) → Parsed B
◌then◌ (Ok a) f = f a
◌then◌ (Err r) f = Err r

-- the pieces between the bytes `at`: one more than there are such bytes
abbrev pub pieces : ℕ → List ℕ → List (List ℕ)
pieces at bs = slice_split (λ b. b == at) bs

abbrev pub is_digit : ℕ → Bool
is_digit b = nat_le 48 b && nat_le b 57

abbrev pub all_digits : List ℕ → Bool
all_digits [] = true
all_digits (b ∷ bs) = is_digit b && all_digits bs

-- digits, and no leading zero but in 0 itself
abbrev pub in_form : List ℕ → Bool
in_form [] = false
in_form (b ∷ []) = is_digit b
in_form (b ∷ (c ∷ bs)) = not (b == 48) && all_digits (b ∷ (c ∷ bs))

abbrev pub digits_value : List ℕ → ℕ
digits_value ds = fold (λ n d. n * 10 + (d - 48)) 0 ds

-- a number up to a limit
abbrev pub number_field : ℕ → List ℕ → Parsed ℕ
number_field limit ds = cond (in_form ds) (cond (nat_le (digits_value ds) limit) (Ok (digits_value ds)) (Err Size)) (Err Form)

-- 'r', 'w' or 'f'
abbrev pub letter : ℕ → Parsed Operation
letter b = cond (b == 114) (Ok Read) (cond (b == 119) (Ok Write) (cond (b == 102) (Ok Fetch) (Err Form)))

abbrev pub operation_field : List ℕ → Parsed Operation
operation_field [] = Err Form
operation_field (b ∷ []) = letter b
operation_field (b ∷ (c ∷ bs)) = Err Form

-- three fields, then from the left each field's form and size
abbrev pub line_of : List (List ℕ) → Parsed Reference
line_of [] = Err Form
line_of (a ∷ []) = Err Form
line_of (a ∷ (b ∷ [])) = Err Form
line_of (a ∷ (b ∷ (c ∷ []))) =
    number_field 255 a then λ p. operation_field b then λ o. number_field (2 ^ 32 - 1) c then λ x. Ok (record { processor = p; operation = o; address = x })
line_of (a ∷ (b ∷ (c ∷ (d ∷ ds)))) = Err Form

abbrev pub item : Parsed Reference → Item
item (Ok r) = reference r
item (Err n) = bad n

-- Every line but the last piece is an item; what follows the last line feed, if anything, is one more, cut off.
abbrev pub line_items : List (List ℕ) → List Item
line_items [] = []
line_items ([] ∷ []) = []
line_items ((b ∷ bs) ∷ []) = bad CutOff ∷ []
line_items (l ∷ (next ∷ ls)) = item (line_of (pieces 44 l)) ∷ line_items (next ∷ ls)

abbrev pub text_items : List ℕ → List Item
text_items bytes = line_items (pieces 10 bytes)
