-- A cache's list of a set: what a reference and a loss make of it.
use Rattle.std.proofs.Common.{◌≡◌, ℕ, zero, suc, ◌≤◌, true, false, List, [], ◌∷◌, length, take, refl, zero-le, arith, length-take}
use Rattle.std.proofs.lemmas.List.{take_all}
use Rattle.std.proofs.lemmas.Bool.{both_ways}
use Rattle.trace.specs.Items.{same}
use Rattle.trace.specs.declared.Block.{Block}
use Rattle.trace.proofs.Blocks.{same_equal}
use Rattle.caches.specs.Caches.{among, without, used}

pub without-short : (q : Block) (xs : List Block) → length (without q xs) ≤ length xs
without-short q [] = zero-le
without-short q (x ∷ xs) = let ih = without-short q xs in grind arith

pub without-less : (b : Block) (xs : List Block) → among b xs ≡ true → suc (length (without b xs)) ≡ length xs
without-less b [] m = grind arith
without-less b (x ∷ xs) m = let ih = without-less b xs in grind arith

pub without_absent : (b : Block) (xs : List Block) → among b xs ≡ false → without b xs ≡ xs
without_absent b [] m = refl
without_absent b (x ∷ xs) m = let ih = without_absent b xs in grind arith

-- a reference, said without the two cases
pub used_is : (n : ℕ) (b : Block) (L : List Block) → length L ≤ n → used n b L ≡ take n (b ∷ without b L)
used_is n b L l =
    let k = without-less b L in
    let m = without_absent b L in
    let t = take_all n (b ∷ without b L) in
    grind arith

pub used-short : (n : ℕ) (b : Block) (L : List Block) → length L ≤ n → length (used n b L) ≤ n
used-short n b L l = rw (used_is n b L l) (omega (arith, length-take n (b ∷ without b L)))

-- neither a loss nor a reference to another block brings a block in
pub among-without : (b c : Block) (xs : List Block) → among c (without b xs) ≡ true → among c xs ≡ true
among-without b c [] e = e
among-without b c (x ∷ xs) e = let ih = among-without b c xs in grind arith

pub among-take : (c : Block) (n : ℕ) (xs : List Block) → among c (take n xs) ≡ true → among c xs ≡ true
among-take c zero xs e = absurd (both_ways false refl e)
among-take c (suc n) [] e = e
among-take c (suc n) (x ∷ xs) e = let ih = among-take c n xs in grind arith

pub among-used : (n : ℕ) (b c : Block) (L : List Block) → same b c ≡ false → among c (used n b L) ≡ true → among c L ≡ true
among-used n b c L d e =
    let x = among-without b c L in
    let y = among-take c n (b ∷ L) in
    grind arith

-- a loss of another block takes none out
pub among-without_other : (b c : Block) (xs : List Block) → same b c ≡ false → among c (without b xs) ≡ among c xs
among-without_other b c [] d = refl
among-without_other b c (x ∷ xs) d =
    let ih = among-without_other b c xs d in
    let k = same_equal x b in
    grind arith
