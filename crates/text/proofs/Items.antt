-- The items of a text, one line on.
use Rattle.std.proofs.Common.{◌≡◌, ℕ, ◌+◌, ◌<◌, ◌≤◌, List, [], ◌∷◌, length, Some, Ok, Err, refl, ap, ◌∙◌, arith}
use Rattle.std.specs.List.{onto_first}
use Rattle.trace.specs.Items.{bad}
use Rattle.trace.specs.Next.{Given}
use Rattle.trace.specs.Text.{pieces, line_of, item, line_items, text_items}
use Rattle.trace.specs.declared.Reference.{Reference}
use Rattle.trace.specs.declared.Refusal.TheVariants as refusal
use Rattle.text.specs.Told.{told, LineRead}
use Rattle.text.specs.declared.faults.LineFault.{LineFault}
use Rattle.text.specs.declared.faults.LineFault.TheVariants.{Fields, Field, CutOff}
use Rattle.text.proofs.Counting.{some_piece}

pub one_more : (l : List ℕ) (ls : List (List ℕ)) → 0 < length ls → line_items (l ∷ ls) ≡ item (line_of (pieces 44 l)) ∷ line_items ls
one_more [] [] h = absurd (omega arith)
one_more (b ∷ bs) [] h = absurd (omega arith)
one_more [] (next ∷ ls) h = refl
one_more (b ∷ bs) (next ∷ ls) h = refl

pub items_more : (bs line rest : List ℕ) → pieces 10 bs ≡ line ∷ pieces 10 rest → text_items bs ≡ item (line_of (pieces 44 line)) ∷ text_items rest
items_more bs line rest e = ap line_items e ∙ one_more line (pieces 10 rest) (some_piece 10 rest)

last_item : (bs : List ℕ) → 0 < length bs → line_items (bs ∷ []) ≡ bad refusal.CutOff ∷ []
last_item [] h = absurd (omega arith)
last_item (b ∷ bs) h = refl

pub items_cut_off : (bs : List ℕ) → 0 < length bs → pieces 10 bs ≡ bs ∷ [] → text_items bs ≡ bad refusal.CutOff ∷ []
items_cut_off bs h e = ap line_items e ∙ last_item bs h

-- of all that was left, `bytes` is lent for the next item, whose number is `item`; what follows its line is put back
module _ (left bytes line rest : List ℕ) (n i n' : ℕ) (lent : bytes ≡ left) (numbered : i ≡ n + 1) (counted : n' ≡ i) (parted : pieces 10 bytes ≡ line ∷ pieces 10 rest) where
  pub accepted : (x : Reference) → line_of (pieces 44 line) ≡ Ok x → Given (text_items left) n (Ok (Some x)) (text_items rest) n'
  accepted x read = rw (← lent, items_more bytes line rest parted, read) (refl, refl, counted ∙ numbered)

  pub refused : (k : ℕ) → k ≡ i → (e : LineFault) → LineRead k (pieces 44 line) (Err e) → Given (text_items left) n (Err (told e)) (text_items rest) n'
  refused k same (Fields j) read = rw (← lent, items_more bytes line rest parted, read.0, read.1, same, numbered) (refl, refl, counted ∙ numbered)
  refused k same (Field e) read = rw (← lent, items_more bytes line rest parted, read.0.0, read.0.1, same, numbered) (refl, refl, counted ∙ numbered)
  refused k same (CutOff j) read = absurd read

-- each item takes a byte or more
items_onto : (b : ℕ) (ls : List (List ℕ)) → length (line_items (onto_first b ls)) ≤ 1 + length (line_items ls)
items_onto b [] = omega arith
items_onto b ([] ∷ []) = omega arith
items_onto b ((c ∷ cs) ∷ []) = omega arith
items_onto b ([] ∷ (next ∷ ls)) = omega arith
items_onto b ((c ∷ cs) ∷ (next ∷ ls)) = omega arith

items_after : (ls : List (List ℕ)) → length (line_items ([] ∷ ls)) ≤ 1 + length (line_items ls)
items_after [] = omega arith
items_after (next ∷ ls) = omega arith

pub few_items : (bs : List ℕ) → length (text_items bs) ≤ length bs
few_items [] = omega arith
few_items (b ∷ bs) =
    let ih = few_items bs in
    let x = items_onto b (pieces 10 bs) in
    let y = items_after (pieces 10 bs) in
    grind arith
