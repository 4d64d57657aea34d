-- The frames of a set: a list of blocks, and empty frames up to the ways.
use Rattle.std.proofs.Common.{◌≡◌, ℕ, zero, suc, ◌+◌, ◌-◌, ◌≤◌, max, List, [], ◌∷◌, ◌++◌, map, length, drop, replicate, Some, None, Option, sym, refl, ap, ◌∙◌, arith}
use Rattle.std.proofs.lemmas.List.{length-append, length-map, length-replicate, drop-replicate, drop-drop, drop_at, replicate-append-replicate}
use Rattle.trace.specs.declared.Block.{Block}
use Rattle.single.specs.Calls.{list_of, relisted}

abbrev pub padded : ℕ → List Block → List (Option Block)
padded w bs = map Some bs ++ replicate (w - length bs) None

list_filled : (n : ℕ) (bs : List Block) → list_of (map Some bs ++ replicate n None) ≡ bs
list_filled zero [] = refl
list_filled (suc n) [] = refl
list_filled n (b ∷ bs) = ap (λ xs. b ∷ xs) (list_filled n bs)

pub list_padded : (w : ℕ) (bs : List Block) → list_of (padded w bs) ≡ bs
list_padded w bs = list_filled (w - length bs) bs

pub length-padded : (w : ℕ) (bs : List Block) → length bs ≤ w → length (padded w bs) ≡ w
length-padded w bs l =
    omega (arith, length-append (map Some bs) (replicate {A = Option Block} (w - length bs) None), length-map {B = Option Block} bs Some, length-replicate {A = Option Block} (w - length bs) None)

-- the list stands in front of its frames
pub list_front : (fs : List (Option Block)) → map Some (list_of fs) ++ drop (length (list_of fs)) fs ≡ fs
list_front [] = refl
list_front (None ∷ fs) = refl
list_front (Some b ∷ fs) = ap (λ xs. Some b ∷ xs) (list_front fs)

drop_past : (n : ℕ) (bs : List Block) (k : ℕ) → length bs ≤ k → drop k (map Some bs ++ replicate n None) ≡ replicate (n - (k - length bs)) None
drop_past n bs k l =
    let e : length bs + (k - length bs) ≡ k = omega arith in
    ap (λ j. drop j (map Some bs ++ replicate n None)) (sym e)
    ∙ sym (drop-drop (k - length bs) (length bs) (map Some bs ++ replicate n None))
    ∙ ap (drop (k - length bs)) (drop_at (map Some bs) (replicate n None) (length bs) (length-map bs Some))
    ∙ drop-replicate (k - length bs) n None

-- frames that hold one list, put anew for another
pub relisted-padded : (w : ℕ) (bs cs : List Block) → length bs ≤ w → length cs ≤ w → relisted cs (padded w bs) ≡ padded w cs
relisted-padded w bs cs l k =
    let fs = padded w bs in
    let b = length bs in
    let c = length cs in
    let e : length (list_of fs) ≡ b = ap length (list_padded w bs) in
    let n : (b - c) + ((w - b) - (max c b - b)) ≡ w - c = omega arith in
    ap (λ j. map Some cs ++ (replicate (j - c) None ++ drop (max c j) fs)) e
    ∙ ap (λ xs. map Some cs ++ (replicate (b - c) None ++ xs)) (drop_past (w - b) bs (max c b) (omega arith))
    ∙ ap (λ xs. map Some cs ++ xs) (replicate-append-replicate (b - c) ((w - b) - (max c b - b)) None ∙ ap (λ j. replicate j None) n)

-- a list that stays leaves its frames
pub relisted_same : (fs : List (Option Block)) → relisted (list_of fs) fs ≡ fs
relisted_same fs =
    let n = length (list_of fs) in
    let z : n - n ≡ 0 = omega arith in
    let m : max n n ≡ n = omega arith in
    ap (λ j. map Some (list_of fs) ++ (replicate j None ++ drop (max n n) fs)) z ∙ ap (λ j. map Some (list_of fs) ++ drop j fs) m ∙ list_front fs
