-- One set of one level as a list of cells, each a block or a hole: a cache of n ways holds the blocks among the first n cells.
use Rattle.std.proofs.Common.{◌≡◌, ℕ, zero, suc, ◌+◌, ◌<◌, ◌≤◌, Bool, true, false, cond, ◌⊎◌, List, [], ◌∷◌, length, take, Some, None, Option, sym, refl, ap, ◌∙◌, inl, inr, suc-le-suc, zero-le, arith}
use Rattle.std.proofs.lemmas.List.{take_all}
use Rattle.trace.specs.Items.{same}
use Rattle.trace.specs.declared.Block.{Block}
use Rattle.caches.specs.Caches.{among, without, used}
use Rattle.caches.proofs.Used.{without-short, used_is}
use Rattle.stack.specs.Stack.{within}

pub data Cell : Type 0 where
  blk : Block → Cell
  hole : Cell

abbrev pub blocks_in : List Cell → List Block
blocks_in [] = []
blocks_in (blk b ∷ L) = b ∷ blocks_in L
blocks_in (hole ∷ L) = blocks_in L

-- What an own reference to q leaves under the new top: the first hole goes, or q itself where no hole stands above it, and a q below leaves a hole.
-- Where w is true, a hole has gone already: so another's write of q makes a hole of it and moves nothing.
abbrev pub fill : Block → (w : Bool) → List Cell → List Cell
fill q w [] = []
fill q w (blk b ∷ L) = cond (same b q) (cond w (hole ∷ L) L) (blk b ∷ fill q w L)
fill q w (hole ∷ L) = cond w (hole ∷ fill q true L) (fill q true L)

-- ---- what the cache holds

blocks_short : (n : ℕ) (L : List Cell) → length (blocks_in (take n L)) ≤ n
blocks_short zero L = zero-le
blocks_short (suc n) [] = zero-le
blocks_short (suc n) (blk b ∷ L) = suc-le-suc (blocks_short n L)
blocks_short (suc n) (hole ∷ L) = let ih = blocks_short n L in omega arith

-- a loss
pub fill-true : (q : Block) (L : List Cell) (n : ℕ) → blocks_in (take n (fill q true L)) ≡ without q (blocks_in (take n L))
fill-true q [] zero = refl
fill-true q [] (suc n) = refl
fill-true q (blk b ∷ L) zero = refl
fill-true q (blk b ∷ L) (suc n) = let ih = fill-true q L n in grind arith
fill-true q (hole ∷ L) zero = refl
fill-true q (hole ∷ L) (suc n) = fill-true q L n

-- an own reference: what then stands lower than the ways is out
fill-false : (q : Block) (L : List Cell) (n : ℕ) → blocks_in (take n (fill q false L)) ≡ take n (without q (blocks_in (take (suc n) L)))
fill-false q [] zero = refl
fill-false q [] (suc n) = refl
fill-false q (blk b ∷ L) zero = refl
fill-false q (blk b ∷ L) (suc n) =
    let ih = fill-false q L n in
    let m = take_all (suc n) (blocks_in (take (suc n) L)) (blocks_short (suc n) L) in
    grind arith
fill-false q (hole ∷ L) zero = refl
fill-false q (hole ∷ L) (suc n) =
    let m : length (without q (blocks_in (take (suc n) L))) ≤ suc n = omega (arith, without-short q (blocks_in (take (suc n) L)), blocks_short (suc n) L) in
    fill-true q L (suc n) ∙ sym (take_all (suc n) (without q (blocks_in (take (suc n) L))) m)

pub fill-used : (q : Block) (L : List Cell) (n : ℕ) → used (suc n) q (blocks_in (take (suc n) L)) ≡ blocks_in (take (suc n) (blk q ∷ fill q false L))
fill-used q L n = used_is (suc n) q (blocks_in (take (suc n) L)) (blocks_short (suc n) L) ∙ ap (λ xs. q ∷ xs) (sym (fill-false q L n))

-- ---- how many cells there are

pub fill-true-length : (q : Block) (L : List Cell) → length (fill q true L) ≡ length L
fill-true-length q [] = refl
fill-true-length q (blk b ∷ L) = let ih = fill-true-length q L in grind arith
fill-true-length q (hole ∷ L) = ap suc (fill-true-length q L)

-- an own reference adds a cell only where there is no hole
pub fill-false-length : (q : Block) (L : List Cell) → (length (fill q false L) < length L) ⊎ (length (blocks_in (fill q false L)) ≡ length (fill q false L))
fill-false-length q [] = inr refl
fill-false-length q (blk b ∷ L) = let ih = fill-false-length q L in grind arith
fill-false-length q (hole ∷ L) = inl (omega (arith, fill-true-length q L))

-- ---- the place of a block, from 1

abbrev pub further : Option ℕ → Option ℕ
further None = None
further (Some k) = Some (k + 1)

abbrev pub placed : Block → List Cell → Option ℕ
placed q [] = None
placed q (blk b ∷ L) = cond (same b q) (Some 1) (further (placed q L))
placed q (hole ∷ L) = further (placed q L)

within-zero : (o : Option ℕ) → within (further o) 0 ≡ false
within-zero None = refl
within-zero (Some k) = grind arith

within-suc : (o : Option ℕ) (n : ℕ) → within (further o) (suc n) ≡ within o n
within-suc None n = refl
within-suc (Some k) n = grind arith

pub placed-within : (q : Block) (L : List Cell) (n : ℕ) → among q (blocks_in (take n L)) ≡ within (placed q L) n
placed-within q [] zero = refl
placed-within q [] (suc n) = refl
placed-within q (blk b ∷ L) zero = let z = within-zero (placed q L) in grind arith
placed-within q (blk b ∷ L) (suc n) =
    let ih = placed-within q L n in
    let k = within-suc (placed q L) n in
    grind arith
placed-within q (hole ∷ L) zero = sym (within-zero (placed q L))
placed-within q (hole ∷ L) (suc n) = placed-within q L n ∙ sym (within-suc (placed q L) n)
