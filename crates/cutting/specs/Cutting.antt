-- Where a piece of a trace may be cut: after its last whole item.
use Rattle.std.specs.Prelude.{◌≡◌, ℕ, suc, ◌-◌, ◌%◌, cond, ◌||◌, ◌⊎◌, List, [], ◌∷◌, ◌++◌, length, take, drop, ◌==◌, nat_lt}
use Rattle.trace.specs.Items.{Item, bad}
use Rattle.trace.specs.Records.{record_items}
use Rattle.trace.specs.Text.{text_items}
use Rattle.trace.specs.declared.Refusal.TheVariants.{CutOff}
use Rattle.cutting.specs.declared.Form.{Form}
use Rattle.cutting.specs.declared.Form.TheVariants.{Text, Records}

abbrev pub items_of : Form → List ℕ → List Item
items_of Text bytes = text_items bytes
items_of Records bytes = record_items bytes

-- up to and with the last line feed; none where there is no line feed
abbrev pub whole_lines : List ℕ → ℕ
whole_lines [] = 0
whole_lines (b ∷ bs) = cond (b == 10 || nat_lt 0 (whole_lines bs)) (suc (whole_lines bs)) 0

-- how many bytes from the front are whole items
abbrev pub whole : Form → List ℕ → ℕ
whole Text bytes = whole_lines bytes
whole Records bytes = length bytes - length bytes % 6

-- The front ends with a whole item: whatever follows begins a new one.
abbrev pub WholeItems : Form → List ℕ → Type 0
WholeItems form front = (later : List ℕ) → items_of form (front ++ later) ≡ items_of form front ++ items_of form later

-- A trace cut into pieces after n bytes has the items of the whole, whatever follows.
abbrev pub Cut : Form → List ℕ → ℕ → Type 0
Cut form bytes n = (later : List ℕ) → items_of form (bytes ++ later) ≡ items_of form (take n bytes) ++ items_of form (drop n bytes ++ later)

-- no whole item: nothing, or a piece of one
abbrev pub LeftOver : Form → List ℕ → Type 0
LeftOver form rest = (items_of form rest ≡ []) ⊎ (items_of form rest ≡ bad CutOff ∷ [])
