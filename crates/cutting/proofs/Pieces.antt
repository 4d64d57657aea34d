-- Pieces of a trace, in either form.
use Rattle.std.proofs.Common.{◌≡◌, ℕ, ◌≤◌, List, [], ◌++◌, length, take, drop, sym, refl, ap, ◌∙◌, arith}
use Rattle.std.proofs.lemmas.List.{append_assoc, take-append-drop}
use Rattle.trace.specs.Items.{Item}
use Rattle.cutting.specs.Cutting.{items_of, whole, WholeItems, Cut, LeftOver}
use Rattle.cutting.specs.declared.Form.{Form}
use Rattle.cutting.specs.declared.Form.TheVariants.{Text, Records}
use Rattle.cutting.proofs.Lines.{lines_within, front_ended, ended_whole, lines_left}
use Rattle.cutting.proofs.Sixes.{front_sixes, sixes_whole, records_left}

pub whole-within : (form : Form) (bytes : List ℕ) → whole form bytes ≤ length bytes
whole-within Text bytes = lines_within bytes
whole-within Records bytes = omega arith

pub front_whole : (form : Form) (bytes : List ℕ) → WholeItems form (take (whole form bytes) bytes)
front_whole Text bytes = ended_whole _ (front_ended bytes)
front_whole Records bytes = sixes_whole _ (front_sixes bytes)

pub rest_left : (form : Form) (bytes : List ℕ) → LeftOver form (drop (whole form bytes) bytes)
rest_left Text bytes = lines_left bytes
rest_left Records bytes = records_left bytes

-- behind a front of whole items the trace can be cut
pub cut_at : (form : Form) (bytes : List ℕ) (n : ℕ) → WholeItems form (take n bytes) → Cut form bytes n
cut_at form bytes n w later =
    ap (λ (xs : List ℕ). items_of form (xs ++ later)) (sym (take-append-drop n bytes)) ∙ ap (items_of form) (append_assoc (take n bytes) (drop n bytes) later) ∙ w (drop n bytes ++ later)

-- all of it, where n bytes from the front are whole items
pub pieces_at : (form : Form) (bytes : List ℕ) (n : ℕ) → n ≡ whole form bytes → (n ≤ length bytes) × WholeItems form (take n bytes) × Cut form bytes n × LeftOver form (drop n bytes)
pieces_at form bytes n e = rw e (whole-within form bytes, front_whole form bytes, cut_at form bytes (whole form bytes) (front_whole form bytes), rest_left form bytes)

pub whole_none : (form : Form) → WholeItems form []
whole_none Text later = refl
whole_none Records later = refl

-- two fronts of whole items put together are one
pub whole-++ : (form : Form) (xs ys : List ℕ) → WholeItems form xs → WholeItems form ys → WholeItems form (xs ++ ys)
whole-++ form xs ys p q later =
    ap (items_of form) (append_assoc xs ys later) ∙ p (ys ++ later) ∙ ap (λ (is : List Item). items_of form xs ++ is) (q later) ∙ sym (append_assoc (items_of form xs) (items_of form ys) (items_of form later)) ∙ ap (λ (is : List Item). is ++ items_of form later) (sym (p ys))
