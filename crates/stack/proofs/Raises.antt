-- A stack moved up, and a new top put on it.
use Rattle.std.proofs.Common.{◌≡◌, ℕ, suc, ◌+◌, ◌-◌, ◌<◌, ◌≤◌, max, List, ◌∷◌, ◌++◌, length, take, drop, set, replicate, sym, ap, ◌∙◌, arith, take-add}
use lib.Seq.{paste}
use Rattle.std.proofs.lemmas.Slice.{drop-append-drop}
use Rattle.std.proofs.lemmas.List.{get_or-set_same, take-set, drop-set-lt, length-set, append_assoc, length-append, take_at, drop-drop, length-take, length-drop, take-append-drop}
use Rattle.trace.specs.declared.Block.{Block as MemoryBlock}
use Rattle.places.specs.Moves.{fronted}
use Rattle.places.proofs.Fronts.{fronted_inside}
use Rattle.stack.specs.declared.Entry.{Entry}
use Rattle.stack.specs.declared.Entry.TheVariants.{Empty, Block}
use Rattle.stack.specs.Stack.{stack}
use Rattle.stack.specs.Touch.{cleared, moved_up, raised}
use Rattle.stack.proofs.Ends.{take-stack, stack_and_past}

cleared_is : (from end : ℕ) (es : List Entry) → from ≤ end → end ≤ length es → cleared from end es ≡ take from es ++ (replicate (end - from) Empty ++ drop end es)
cleared_is from end es l h =
    let n : length (take (end - from) (drop from es)) ≡ end - from = simp (length-take, length-drop) (omega arith) in
    let d : drop (end - from) (drop from es) ≡ drop end es = drop-drop (end - from) from es ∙ ap (λ i. drop i es) (omega arith) in
    ap (λ i. take from es ++ (replicate i Empty ++ drop (end - from) (drop from es))) n ∙ ap (λ xs. take from es ++ (replicate (end - from) Empty ++ xs)) d

-- a copy up to `to`, and then an emptied part
pub moves_up : (to rest end : ℕ) (es ys : List Entry) → to ≤ rest → rest ≤ length es → end ≡ rest + length (stack (drop rest es)) → end ≤ length es → ys ≡ paste es to (drop rest es) (end - rest) → cleared (to + (end - rest)) end ys ≡ moved_up to rest es
moves_up to rest end es ys le lr ee en ey =
    let n = end - rest in
    let S = stack (drop rest es) in
    let en' : n ≡ length S = omega arith in
    let ts : take n (drop rest es) ≡ S = ap (λ i. take i (drop rest es)) en' ∙ take-stack (drop rest es) in
    let ys' : ys ≡ (take to es ++ S) ++ drop (to + n) es = ey ∙ ap (λ xs. (take to es ++ xs) ++ drop (to + n) es) ts in
    let lt : length (take to es) ≡ to = length-take to es ∙ omega arith in
    let ll : length (take to es ++ S) ≡ to + n = length-append (take to es) S ∙ omega arith in
    let front : take (to + n) ys ≡ take to es ++ S = ap (take (to + n)) ys' ∙ take_at (take to es ++ S) (drop (to + n) es) (to + n) ll in
    let back : drop end ys ≡ drop (rest + length S) es = ap (drop end) ys' ∙ drop-append-drop (to + n) es (take to es ++ S) end (omega arith) ll ∙ ap (λ i. drop i es) ee in
    let k : end - (to + n) ≡ rest - to = omega arith in
    let ly : length ys ≡ length es = ap length ys' ∙ omega (arith, length-append (take to es ++ S) (drop (to + n) es), length-drop (to + n) es) in
    cleared_is (to + n) end ys (omega arith) (omega arith)
    ∙ ap (λ xs. xs ++ (replicate (end - (to + n)) Empty ++ drop end ys)) front
    ∙ ap (λ xs. (take to es ++ S) ++ (replicate (end - (to + n)) Empty ++ xs)) back
    ∙ ap (λ i. (take to es ++ S) ++ (replicate i Empty ++ drop (rest + length S) es)) k
    ∙ append_assoc (take to es) S (replicate (rest - to) Empty ++ drop (rest + length S) es)

pub not_moved : (to rest : ℕ) (es : List Entry) → to ≡ rest → es ≡ moved_up to rest es
not_moved to rest es e =
    let z : rest - to ≡ 0 = omega arith in
    sym (take-append-drop rest es)
    ∙ ap (λ n. take n es ++ drop rest es) (sym e)
    ∙ ap (λ xs. take to es ++ xs) (sym (stack_and_past rest es))
    ∙ ap (λ n. take to es ++ (stack (drop rest es) ++ (replicate n Empty ++ drop (rest + length (stack (drop rest es))) es))) (sym z)

-- an element written and brought to the front
pub put_front : {X : Type 0} (xs : List X) (at : ℕ) (x : X) → at < length xs → fronted at (set xs at x) ≡ x ∷ (take at xs ++ drop (at + 1) xs)
put_front xs at x h =
    let l : at < at + 1 = omega arith in
    let h' : at < length (set xs at x) = simp length-set h in
    fronted_inside (set xs at x) at x h' (sym (get_or-set_same xs at x x h))
    ∙ ap (λ ys. x ∷ (ys ++ drop (at + 1) (set xs at x))) (take-set xs at x)
    ∙ ap (λ ys. x ∷ (take at xs ++ ys)) (drop-set-lt (at + 1) xs at x l)

pub raise_within : (q : MemoryBlock) (to rest : ℕ) (es ys zs : List Entry) → to < rest → rest ≤ length es → ys ≡ fronted to (set es to (Block q)) → zs ≡ moved_up (to + 1) rest ys → zs ≡ raised q to rest es
raise_within q to rest es ys zs l h ey ez =
    let t : length (take to es) ≡ to = length-take to es ∙ omega arith in
    let p : length (Block q ∷ take to es) ≡ to + 1 = ap suc t ∙ omega arith in
    let y : ys ≡ (Block q ∷ take to es) ++ drop (to + 1) es = ey ∙ put_front es to (Block q) (omega arith) in
    let f : take (to + 1) ys ≡ Block q ∷ take to es = ap (take (to + 1)) y ∙ take_at (Block q ∷ take to es) (drop (to + 1) es) (to + 1) p in
    let b : (j : ℕ) → to + 1 ≤ j → drop j ys ≡ drop j es = λ j k. ap (drop j) y ∙ drop-append-drop (to + 1) es (Block q ∷ take to es) j k p in
    let r : drop rest ys ≡ drop rest es = b rest (omega arith) in
    let n = length (stack (drop rest es)) in
    let e : drop (rest + length (stack (drop rest ys))) ys ≡ drop (max (to + 1) rest + n) es =
    b (rest + length (stack (drop rest ys))) (omega arith) ∙ ap (λ xs. drop (rest + length (stack xs)) es) r ∙ ap (λ i. drop (i + n) es) (omega arith) in
    ez
    ∙ ap (λ xs. xs ++ (stack (drop rest ys) ++ (replicate (rest - (to + 1)) Empty ++ drop (rest + length (stack (drop rest ys))) ys))) f
    ∙ ap (λ xs. Block q ∷ (take to es ++ (stack xs ++ (replicate (rest - (to + 1)) Empty ++ drop (rest + length (stack (drop rest ys))) ys)))) r
    ∙ ap (λ xs. Block q ∷ (take to es ++ (stack (drop rest es) ++ (replicate (rest - (to + 1)) Empty ++ xs)))) e

pub raise_past : (q : MemoryBlock) (to rest end : ℕ) (es ys : List Entry) → to ≡ rest → end ≡ rest + length (stack (drop rest es)) → end < length es → ys ≡ fronted end (set es end (Block q)) → ys ≡ raised q to rest es
raise_past q to rest end es ys l ee h ey =
    let n = length (stack (drop rest es)) in
    let y : ys ≡ Block q ∷ (take end es ++ drop (end + 1) es) = ey ∙ put_front es end (Block q) h in
    let f : take end es ≡ take to es ++ stack (drop rest es) =
    ap (λ i. take i es) ee ∙ take-add rest n es ∙ ap (λ xs. take rest es ++ xs) (take-stack (drop rest es)) ∙ ap (λ i. take i es ++ stack (drop rest es)) (sym l) in
    let z : rest - (to + 1) ≡ 0 = omega arith in
    let d : end + 1 ≡ max (to + 1) rest + n = omega arith in
    y
    ∙ ap (λ xs. Block q ∷ (xs ++ drop (end + 1) es)) f
    ∙ ap (λ xs. Block q ∷ xs) (append_assoc (take to es) (stack (drop rest es)) (drop (end + 1) es))
    ∙ ap (λ i. Block q ∷ (take to es ++ (stack (drop rest es) ++ drop i es))) d
    ∙ ap (λ i. Block q ∷ (take to es ++ (stack (drop rest es) ++ (replicate i Empty ++ drop (max (to + 1) rest + n) es)))) (sym z)
