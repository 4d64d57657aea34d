-- Six bytes and more: the item that they begin with, and what is answered of it.
use Rattle.std.proofs.Common.{◌≡◌, ℕ, ◌+◌, ◌≤◌, List, [], ◌∷◌, length, get_or, drop, Some, Ok, Err, refl, ap, ◌∙◌, arith}
use Rattle.trace.specs.Text.{Parsed, item}
use Rattle.trace.specs.Next.{handed, Given}
use Rattle.trace.specs.Records.{record_of, record_items}
use Rattle.trace.specs.declared.Reference.{Reference}
use Rattle.records.specs.Faults.{in_record, of_source}
use Rattle.records.specs.declared.faults.RecordFault.{RecordFault}

abbrev pub first_of : List ℕ → Parsed Reference
first_of xs = record_of (get_or xs 0 0) (get_or xs 1 0) (get_or xs 2 0) (get_or xs 3 0) (get_or xs 4 0) (get_or xs 5 0)

cut : (xs : List ℕ) → 6 ≤ length xs → record_items xs ≡ item (first_of xs) ∷ record_items (drop 6 xs)
cut [] h = absurd (omega arith)
cut (p ∷ []) h = absurd (omega arith)
cut (p ∷ (o ∷ [])) h = absurd (omega arith)
cut (p ∷ (o ∷ (a ∷ []))) h = absurd (omega arith)
cut (p ∷ (o ∷ (a ∷ (b ∷ [])))) h = absurd (omega arith)
cut (p ∷ (o ∷ (a ∷ (b ∷ (c ∷ []))))) h = absurd (omega arith)
cut (p ∷ (o ∷ (a ∷ (b ∷ (c ∷ (d ∷ rest)))))) h = refl

accepts : (n : ℕ) (p : Parsed Reference) (x : Reference) → Ok x ≡ in_record n p → Ok (Some x) ≡ handed (item p) n
accepts n (Ok y) x e = let same : x ≡ y = cc in rw same
accepts n (Err y) x e = cc

refuses : (n : ℕ) (p : Parsed Reference) (e : RecordFault) → Err e ≡ in_record n p → Err (of_source e) ≡ handed (item p) n
refuses n (Ok y) e h = cc
refuses n (Err y) e h = let same : e ≡ record { refusal = y; item = n } = cc in rw same

-- of all that was left, `bytes` is lent for the next item, whose number is `item`; `rest` is put back
module _ (left bytes rest : List ℕ) (n item n' : ℕ) (lent : bytes ≡ left) (numbered : item ≡ n + 1) (counted : n' ≡ item) (h : 6 ≤ length bytes) (s : rest ≡ drop 6 bytes) where
  pub accepted : (x : Reference) → Ok x ≡ in_record item (first_of bytes) → Given (record_items left) n (Ok (Some x)) (record_items rest) n'
  accepted x e = rw (← lent, cut bytes h) (rw (← numbered) (accepts item (first_of bytes) x e), ap record_items s, counted ∙ numbered)

  pub refused : (x : RecordFault) → Err x ≡ in_record item (first_of bytes) → Given (record_items left) n (Err (of_source x)) (record_items rest) n'
  refused x e = rw (← lent, cut bytes h) (rw (← numbered) (refuses item (first_of bytes) x e), ap record_items s, counted ∙ numbered)
