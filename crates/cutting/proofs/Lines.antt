-- Text: whole lines, and the last line feed.
use Rattle.std.proofs.Common.{◌≡◌, ◌≢◌, ℕ, zero, suc, ◌+◌, ◌<◌, ◌≤◌, Bool, true, false, cond, ◌||◌, eqb, ltb, ◌⊎◌, List, [], ◌∷◌, ◌++◌, map, length, get_or, take, drop, sym, refl, ap, ◌∙◌, inl, inr, arith}
use Rattle.std.proofs.lemmas.List.{append-nil, append_assoc, length-append, length-take-le}
use Rattle.std.proofs.lemmas.Bool.{eqb-true, ltb-true, ltb-false, lt-ltb, eq-eqb, ne_eqb, or_cases, or_parts, or_left, or_right, or_from, cond-true, cond-false}
use Rattle.std.specs.List.{onto_first}
use Rattle.text.proofs.Counting.{some_piece}
use Rattle.text.proofs.Items.{one_more}
use Rattle.trace.specs.Items.{Item}
use Rattle.trace.specs.Text.{pieces, line_of, item, line_items, text_items}
use Rattle.cutting.specs.Cutting.{whole_lines, WholeItems, LeftOver}
use Rattle.cutting.specs.declared.Form.TheVariants.{Text}

abbrev line_item : List ℕ → Item
line_item l = item (line_of (pieces 44 l))

onto_++ : (b : ℕ) (xs ys : List (List ℕ)) → 0 < length xs → onto_first b (xs ++ ys) ≡ onto_first b xs ++ ys
onto_++ b [] ys h = absurd (omega arith)
onto_++ b (x ∷ xs) ys h = refl

-- a line feed parts what stands before it from what follows
pieces_feed : (xs later : List ℕ) → pieces 10 (xs ++ (10 ∷ later)) ≡ pieces 10 xs ++ pieces 10 later
pieces_feed [] later = refl
pieces_feed (b ∷ xs) later =
    let ih = pieces_feed xs later in
    let o = onto_++ b (pieces 10 xs) (pieces 10 later) (some_piece 10 xs) in
    elim (eqb b 10) as (λ t. cond t ([] ∷ pieces 10 (xs ++ (10 ∷ later))) (onto_first b (pieces 10 (xs ++ (10 ∷ later)))) ≡ cond t ([] ∷ pieces 10 xs) (onto_first b (pieces 10 xs)) ++ pieces 10 later) [
      | true ↦ ap (λ (ps : List (List ℕ)). [] ∷ ps) ih
      | false ↦ ap (onto_first b) ih ∙ o
    ]

items_++ : (ls ms : List (List ℕ)) → 0 < length ms → line_items (ls ++ ms) ≡ map line_item ls ++ line_items ms
items_++ [] ms h = refl
items_++ (l ∷ ls) ms h =
    one_more l (ls ++ ms) (omega (arith, length-append ls ms)) ∙ ap (λ (xs : List Item). line_item l ∷ xs) (items_++ ls ms h)

items_feed : (xs later : List ℕ) → text_items (xs ++ (10 ∷ later)) ≡ map line_item (pieces 10 xs) ++ text_items later
items_feed xs later = ap line_items (pieces_feed xs later) ∙ items_++ (pieces 10 xs) (pieces 10 later) (some_piece 10 later)

-- empty, or with a line feed at the end
abbrev pub Ended : List ℕ → Type 0
Ended front = (front ≡ []) ⊎ ((xs : List ℕ) × (front ≡ xs ++ (10 ∷ [])))

feed_whole : (xs : List ℕ) → WholeItems Text (xs ++ (10 ∷ []))
feed_whole xs later =
    let front : text_items (xs ++ (10 ∷ [])) ≡ map line_item (pieces 10 xs) = items_feed xs [] ∙ append-nil (map line_item (pieces 10 xs)) in
    ap text_items (append_assoc xs (10 ∷ []) later) ∙ items_feed xs later ∙ sym (ap (λ (is : List Item). is ++ text_items later) front)

pub ended_whole : (front : List ℕ) → Ended front → WholeItems Text front
ended_whole front (inl e) = rw e (λ later. refl)
ended_whole front (inr (xs, e)) = rw e (feed_whole xs)

-- no line feed in it
pub no_lines : (bs : List ℕ) → ((k : ℕ) → k < length bs → get_or bs k 0 ≢ 10) → whole_lines bs ≡ 0
no_lines [] none = refl
no_lines (b ∷ bs) none =
    let ih = no_lines bs (λ k h. none (suc k) (omega arith)) in
    cond-false _ _ _ (or_from _ _ (ne_eqb b 10 (none 0 (omega arith))) (rw ih refl))

-- its last line feed at i
pub lines_to : (bs : List ℕ) (i : ℕ) → i < length bs → get_or bs i 0 ≡ 10 → ((k : ℕ) → i + 1 ≤ k → k < length bs → get_or bs k 0 ≢ 10) → whole_lines bs ≡ i + 1
lines_to [] i h feed none = absurd (omega arith)
lines_to (b ∷ bs) zero h feed none =
    let rest = no_lines bs (λ k h. none (suc k) (omega arith) (omega arith)) in
    cond-true _ _ _ (or_left _ _ (eq-eqb b 10 feed)) ∙ ap suc rest
lines_to (b ∷ bs) (suc i) h feed none =
    let rest = lines_to bs i (omega arith) feed (λ k l h. none (suc k) (omega arith) (omega arith)) in
    let more : whole_lines (b ∷ bs) ≡ suc (whole_lines bs) = cond-true _ _ _ (or_right (eqb b 10) _ (lt-ltb 0 (whole_lines bs) (omega arith))) in
    more ∙ (let e : suc (whole_lines bs) ≡ suc i + 1 = omega arith in e)

pub lines_within : (bs : List ℕ) → whole_lines bs ≤ length bs
lines_within [] = omega arith
lines_within (b ∷ bs) =
    let ih = lines_within bs in
    elim (eqb b 10 || ltb 0 (whole_lines bs)) as (λ t. cond t (suc (whole_lines bs)) 0 ≤ suc (length bs)) [ true ↦ omega arith | false ↦ omega arith ]

ended_more : (b : ℕ) (bs : List ℕ) (w : ℕ) (t : Bool) → (t ≡ true → (eqb b 10 ≡ true) ⊎ (ltb 0 w ≡ true)) → w ≤ length bs → Ended (take w bs) → Ended (take (cond t (suc w) 0) (b ∷ bs))
ended_more b bs w false k h e = inl refl
ended_more b bs w true k h (inr (xs, e)) = inr (b ∷ xs, ap (λ (ys : List ℕ). b ∷ ys) e)
ended_more b bs w true k h (inl e) =
    let l = length-take-le w bs h in
    let n : w ≡ 0 = omega (arith, ap length e) in
    elim (k refl) [
      | inl feed ↦ inr ([], rw (e, eqb-true b 10 feed) refl)
      | inr more ↦ absurd (omega (arith, ltb-true 0 w more))
    ]

pub front_ended : (bs : List ℕ) → Ended (take (whole_lines bs) bs)
front_ended [] = inl refl
front_ended (b ∷ bs) = ended_more b bs (whole_lines bs) _ (or_cases _ _) (lines_within bs) (front_ended bs)

left_more : (b : ℕ) (bs : List ℕ) (w : ℕ) (t : Bool) → (t ≡ false → (eqb b 10 ≡ false) × (ltb 0 w ≡ false)) → pieces 10 (drop w bs) ≡ drop w bs ∷ [] → pieces 10 (drop (cond t (suc w) 0) (b ∷ bs)) ≡ drop (cond t (suc w) 0) (b ∷ bs) ∷ []
left_more b bs w true k e = e
left_more b bs w false k e =
    let n : w ≡ 0 = omega (arith, ltb-false 0 w (k refl).1) in
    let one : pieces 10 bs ≡ bs ∷ [] = rw n at e in
    cond-false _ _ _ (k refl).0 ∙ ap (onto_first b) one

-- what follows the last line feed is one piece
left_piece : (bs : List ℕ) → pieces 10 (drop (whole_lines bs) bs) ≡ drop (whole_lines bs) bs ∷ []
left_piece [] = refl
left_piece (b ∷ bs) = left_more b bs (whole_lines bs) _ (or_parts _ _) (left_piece bs)

one_left : (rest : List ℕ) → pieces 10 rest ≡ rest ∷ [] → LeftOver Text rest
one_left [] e = inl refl
one_left (b ∷ bs) e = inr (ap line_items e)

pub lines_left : (bs : List ℕ) → LeftOver Text (drop (whole_lines bs) bs)
lines_left bs = one_left _ (left_piece bs)
