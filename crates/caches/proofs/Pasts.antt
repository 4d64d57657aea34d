-- A block that a cache holds was referred to, and not lost since; so each own reference is a hit, cold, lost or replaced.
use Rattle.std.proofs.Common.{◌≡◌, ℕ, zero, suc, ◌+◌, Bool, true, false, cond, not, ◌&&◌, eqb, List, [], ◌∷◌, take, refl, arith}
use Rattle.std.proofs.lemmas.Bool.{both_ways}
use Rattle.setmap.specs.Mapping.{Mapping}
use Rattle.trace.specs.Items.{same, writes}
use Rattle.trace.specs.declared.Block.{Block}
use Rattle.trace.proofs.Blocks.{same_equal}
use Rattle.caches.specs.Caches.{Access, History, among, without, own, used, listed, holding, Past, never, held, lost, past, is_never, is_lost}
use Rattle.caches.specs.Partition.{AddsUp}
use Rattle.caches.proofs.Used.{among-without, among-take, among-used}
use Rattle.caches.proofs.Listed.{listed_step}

abbrev pub Distinct : List Block → Type 0
Distinct [] = Unit {0}
Distinct (x ∷ xs) = (among x xs ≡ false) × Distinct xs

lost_is_gone : (b : Block) (xs : List Block) → Distinct xs → among b (without b xs) ≡ false
lost_is_gone b [] d = refl
lost_is_gone b (x ∷ xs) d =
    let ih = lost_is_gone b xs d.1 in
    let k = same_equal x b in
    let n = d.0 in
    grind arith

distinct_without : (b : Block) (xs : List Block) → Distinct xs → Distinct (without b xs)
distinct_without b [] d = tt
distinct_without b (x ∷ xs) d =
    let ih = distinct_without b xs d.1 in
    let k = among-without b x xs in
    grind arith

distinct_take : (n : ℕ) (xs : List Block) → Distinct xs → Distinct (take n xs)
distinct_take zero xs d = tt
distinct_take (suc n) [] d = tt
distinct_take (suc n) (x ∷ xs) d =
    let ih = distinct_take n xs d.1 in
    let k = among-take x n xs in
    grind arith

distinct_used : (ways : ℕ) (b : Block) (L : List Block) → Distinct L → Distinct (used ways b L)
distinct_used ways b L d = go (among b L) refl
  where
    go : (t : Bool) → among b L ≡ t → Distinct (cond t (b ∷ without b L) (take ways (b ∷ L)))
    go true e = (lost_is_gone b L d, distinct_without b L d)
    go false e = distinct_take ways (b ∷ L) (e, d)

-- a cache lists no block twice
pub distinct_listed : (m : Mapping) (p i ways s : ℕ) (h : History) → Distinct (listed m p i ways s h)
distinct_listed m p i ways s [] = tt
distinct_listed m p i ways s (a ∷ h) =
    let L = listed m p i ways s h in
    let ih = distinct_listed m p i ways s h in
    listed_step Distinct m p i ways s a L (λ e. distinct_used ways a.block L ih) (distinct_without a.block L ih) ih

-- an access to another block leaves the past as it was; another's write of the block ends it, and the list's entry too
held_step : (p i ways s : ℕ) (m : Mapping) (b : Block) (a : Access) (L : List Block) (before : Past)
    → Distinct L → (among b L ≡ true → before ≡ held)
    → among b (cond (own p a) (cond (eqb (m.set i a.block.number) s) (used ways a.block L) L) (cond (writes a.operation) (without a.block L) L)) ≡ true
    → cond (same a.block b) (cond (own p a) held (cond (writes a.operation) (elim before [ never ↦ never | held ↦ lost | lost ↦ lost ]) before)) before ≡ held
held_step p i ways s m b a L before d ih e =
    let x = among-used ways a.block b L in
    let y = among-without a.block b L in
    let z = lost_is_gone a.block L d in
    let w = same_equal a.block b in
    grind arith

-- the past of a block that a cache lists
pub held_past : (m : Mapping) (p i ways s : ℕ) (b : Block) (h : History) → among b (listed m p i ways s h) ≡ true → past p b h ≡ held
held_past m p i ways s b [] e = absurd (both_ways false refl e)
held_past m p i ways s b (a ∷ h) e =
    held_step p i ways s m b a (listed m p i ways s h) (past p b h) (distinct_listed m p i ways s h) (held_past m p i ways s b h) e

-- one reference adds to one of the four kinds
one_kind : (o t : Bool) (x : Past) → (t ≡ true → x ≡ held)
    → cond o 1 0 ≡ cond (o && t) 1 0 + (cond (o && is_never x) 1 0 + (cond (o && is_lost x) 1 0 + cond (o && (not t && (not (is_never x) && not (is_lost x)))) 1 0))
one_kind true true x e = let k = e refl in grind arith
one_kind true false never e = refl
one_kind true false held e = refl
one_kind true false lost e = refl
one_kind false t x e = refl

pub adds_up : (m : Mapping) (h : History) → AddsUp m h
adds_up m [] p i ways = refl
adds_up m (a ∷ h) p i ways =
    let b = a.block in
    omega (arith, adds_up m h p i ways, one_kind (own p a) (holding m p i ways b h) (past p b h) (held_past m p i ways (m.set i b.number) b h))
