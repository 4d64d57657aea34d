-- A trace that is read in pieces is read as a whole.
use Rattle.std.proofs.Common.{◌≡◌, ℕ, ◌+◌, ◌≤◌, List, [], ◌∷◌, ◌++◌, length, Some, None, Option, Ok, Err, Result, sym, refl, ap, ◌∙◌, subst, inl, arith, length-append}
use Rattle.std.proofs.lemmas.List.{append_assoc}
use Rattle.setmap.specs.Mapping.{Mapping}
use Rattle.setmap.specs.declared.SetMap.{Ghosts}
use Rattle.trace.specs.Items.{Item, reference, bad}
use Rattle.trace.specs.declared.Reference.{Reference}
use Rattle.trace.specs.declared.Refusal.{Refusal}
use Rattle.caches.specs.Caches.{History}
use Rattle.tables.specs.declared.Settings.{Settings}
use Rattle.theory.specs.Runs.{access}
use Rattle.report.specs.Refused.{refused_line, Reading, refused_too}
use Rattle.report.specs.declared.RefusedLine.{RefusedLine}
use Rattle.sheets.specs.declared.owning.SheetStudy.{SheetStudy}
use Rattle.sheets.specs.Sheets.{verdict, reading}
use Rattle.sheets.specs.Studies.{HasAccepted, PutThrough}
use Rattle.sheets.proofs.Feeds.{after_lines}
use Rattle.cutting.specs.declared.Form.{Form}
use Rattle.cutting.specs.declared.Form.TheVariants.{Text, Records}
use Rattle.cutting.specs.Cutting.{items_of, WholeItems, LeftOver}
use Rattle.cutting.proofs.Pieces.{whole_none, whole-++}
use Rattle.grid_report.specs.Grids.{NotRead, trace_reading}
use Rattle.grid_report.specs.declared.errors.ReadError.{ReadError}
use Rattle.grid_report.specs.declared.errors.ReadError.TheVariants.{TooLong, NoMemory}

-- ---- items, and then more

module _ (s : Settings) where
  -- a reference, by its verdict
  by_verdict : (line n : ℕ) (r : Reference) (xs ys : List Item) (h : History) (v : Option Refusal)
      → ((h : History) → reading s (line + 1) (xs ++ ys) h ≡ after_lines (reading s (line + 1) xs h).refused (reading s n ys (reading s (line + 1) xs h).history))
      → elim v [ None ↦ reading s (line + 1) (xs ++ ys) (access s r ∷ h) | Some x ↦ refused_too (refused_line line x) (reading s (line + 1) (xs ++ ys) h) ]
      ≡ (let first : Reading = elim v [ None ↦ reading s (line + 1) xs (access s r ∷ h) | Some x ↦ refused_too (refused_line line x) (reading s (line + 1) xs h) ] in
      after_lines first.refused (reading s n ys first.history))
  by_verdict line n r xs ys h None rest = rest (access s r ∷ h)
  by_verdict line n r xs ys h (Some x) rest = ap (refused_too (refused_line line x)) (rest h)

  reading-++ : (line n : ℕ) (xs ys : List Item) (h : History) → n ≡ line + length xs → reading s line (xs ++ ys) h ≡ after_lines (reading s line xs h).refused (reading s n ys (reading s line xs h).history)
  reading-++ line n [] ys h e = let same : line ≡ n = omega arith in ap (λ k. reading s k ys h) same
  reading-++ line n (bad x ∷ xs) ys h e = ap (refused_too (refused_line line x)) (reading-++ (line + 1) n xs ys h (omega arith))
  reading-++ line n (reference r ∷ xs) ys h e = by_verdict line n r xs ys h (verdict s h r) (λ h. reading-++ (line + 1) n xs ys h (omega arith))

  -- a front of whole items, and then more bytes
  read_on : (form : Form) (front more : List ℕ) (count : ℕ) → WholeItems form front → count ≡ length (items_of form front)
      → trace_reading s form (front ++ more) ≡ after_lines (trace_reading s form front).refused (reading s (count + 1) (items_of form more) (trace_reading s form front).history)
  read_on form front more count whole n =
      ap (λ is. reading s 1 is []) (whole more) ∙ reading-++ 1 (count + 1) (items_of form front) (items_of form more) [] (omega arith)

-- ---- a grid, by its parts

abbrev pub Read : {M : Type 0} {G : Ghosts M} → Mapping → SheetStudy M G → Form → (held : List ℕ) (count : ℕ) → List ℕ → List RefusedLine → Type 0
Read m study form held count bytes refused =
    (front : List ℕ) × (bytes ≡ front ++ held) × WholeItems form front × LeftOver form held
    × (count ≡ length (items_of form front))
    × (refused ≡ (trace_reading study.settings form front).refused)
    × HasAccepted m study (trace_reading study.settings form front).history

no_items : (form : Form) → items_of form [] ≡ []
no_items Text = refl
no_items Records = refl

-- nothing was given yet
pub read_none : {M : Type 0} {G : Ghosts M} (m : Mapping) (study : SheetStudy M G) (form : Form) (held : List ℕ) → held ≡ [] → HasAccepted m study [] → Read m study form held 0 [] []
read_none m study form held e accepted =
    let none = no_items form in (
      [],
      sym e,
      whole_none form,
      inl (ap (items_of form) e ∙ none),
      ap length (sym none),
      ap (λ is. (reading study.settings 1 is []).refused) (sym none),
      subst (λ is. HasAccepted m study (reading study.settings 1 is []).history) (sym none) accepted,
    )

module _ {M : Type 0} {G : Ghosts M} (m : Mapping) (study study' : SheetStudy M G) (form : Form) (held : List ℕ) (count : ℕ) (bytes : List ℕ) (refused : List RefusedLine) where
  -- the whole items of what is held and given are put to the study, and the rest is held
  pub read_more : study'.settings ≡ study.settings → (more all whole rest : List ℕ) (count' : ℕ) (new : List RefusedLine) → all ≡ held ++ more → whole ++ rest ≡ all → WholeItems form whole → LeftOver form rest
      → PutThrough m study study' (items_of form whole) (count + 1) new → count' ≡ count + length (items_of form whole)
      → Read m study form held count bytes refused → Read m study' form rest count' (bytes ++ more) (refused ++ new)
  read_more same more all whole rest count' new ea ec ends left through counted (front, e, fronts, held_left, n, r, accepted) =
      let s = study.settings in
      let put = through (trace_reading s form front).history accepted in
      let next = read_on s form front whole count fronts n in
      let lines : refused ++ new ≡ (trace_reading s form (front ++ whole)).refused = ap (λ ys. ys ++ new) r ∙ ap (λ ys. (trace_reading s form front).refused ++ ys) put.1 ∙ sym (ap (λ y. y.refused) next) in
      let after : HasAccepted m study' (trace_reading s form (front ++ whole)).history = subst (λ y. HasAccepted m study' y.history) (sym next) put.0 in (
        front ++ whole,
        ap (λ ys. ys ++ more) e ∙ append_assoc front held more ∙ ap (λ ys. front ++ ys) (sym ea ∙ sym ec) ∙ sym (append_assoc front whole rest),
        whole-++ form front whole fronts ends,
        left,
        omega (arith, counted, n, ap length (fronts whole), length-append (items_of form front) (items_of form whole)),
        subst (λ y. refused ++ new ≡ (trace_reading y form (front ++ whole)).refused) (sym same) lines,
        subst (λ y. HasAccepted m study' (trace_reading y form (front ++ whole)).history) (sym same) after,
      )

  -- what is held is put to the study too
  pub read_all : (new : List RefusedLine) → PutThrough m study study' (items_of form held) (count + 1) new → Read m study form held count bytes refused
      → (refused ++ new ≡ (trace_reading study.settings form bytes).refused) × HasAccepted m study' (trace_reading study.settings form bytes).history
  read_all new through (front, e, fronts, held_left, n, r, accepted) =
      let s = study.settings in
      let put = through (trace_reading s form front).history accepted in
      let next : trace_reading s form bytes ≡ after_lines (trace_reading s form front).refused (reading s (count + 1) (items_of form held) (trace_reading s form front).history) = ap (trace_reading s form) e ∙ read_on s form front held count fronts n in (
        ap (λ ys. ys ++ new) r ∙ ap (λ ys. (trace_reading s form front).refused ++ ys) put.1 ∙ sym (ap (λ y. y.refused) next),
        subst (λ y. HasAccepted m study' y.history) (sym next) put.0,
      )

-- a source has these items after so many
pub fed_as : {M : Type 0} {G : Ghosts M} (m : Mapping) (study study' : SheetStudy M G) (items items₁ : List Item) (count n count' : ℕ) (refused : List RefusedLine) → items₁ ≡ items → n ≡ count
    → PutThrough m study study' items₁ (n + 1) refused → count' ≡ n + length items₁ → PutThrough m study study' items (count + 1) refused × (count' ≡ count + length items)
fed_as m study study' items items₁ count n count' refused ei en through counted = (
  subst (λ is. PutThrough m study study' is (count + 1) refused) ei (subst (λ k. PutThrough m study study' items₁ (k + 1) refused) en through),
  counted ∙ ap (λ k. k + length items₁) en ∙ ap (λ is. count + length is) ei,
)

-- what is too long stays so with more
not_read_more : (n n' : ℕ) → n ≤ n' → (y : ReadError) → NotRead n y → NotRead n' y
not_read_more n n' h TooLong long = omega arith
not_read_more n n' h NoMemory x = tt

pub told_more : {A : Type 0} {P P' : A → Type 0} (n n' : ℕ) (r : Result A ReadError) → n ≤ n' → ((v : A) → P v → P' v) → elim r as (λ _. Type 0) [ Ok v ↦ P v | Err y ↦ NotRead n y ] → elim r as (λ _. Type 0) [ Ok v ↦ P' v | Err y ↦ NotRead n' y ]
told_more n n' (Ok v) h more p = more v p
told_more n n' (Err y) h more p = not_read_more n n' h y p
