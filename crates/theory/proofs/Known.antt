-- The known blocks and their marks, as a history makes them.
use Rattle.std.proofs.Common.{◌≡◌, ℕ, ◌+◌, ◌<◌, ◌≤◌, Bool, true, false, cond, eqb, List, [], ◌∷◌, ◌++◌, length, get_or, take, set, sym, refl, ap, ◌∙◌, subst, inl, inr, arith}
use lib.Seq.{take-set-lt}
use Rattle.std.proofs.lemmas.List.{length_push, take_more_set}
use Rattle.std.proofs.lemmas.Bool.{cases_Bool, eq-eqb, ne_eqb, both_ways, cond-false}
use Rattle.trace.specs.Items.{same, writes}
use Rattle.trace.specs.declared.Block.{Block}
use Rattle.caches.specs.Caches.{Access, History, among, own, Past, never, held, lost, past}
use Rattle.tables.specs.declared.Mark.{Mark}
use Rattle.tables.specs.declared.Mark.TheVariants.{Never, Held, Lost}
use Rattle.tables.specs.Calls.{place_of}
use Rattle.trace.proofs.Blocks.{same_equal, same_refl}
use Rattle.stack_theory.specs.Stacks.{met}
use Rattle.stack_theory.proofs.Bound.{among_push}

pub place_in : (b : Block) (K : List Block) → among b K ≡ true → place_of b K < length K
place_in b [] e = absurd (both_ways false refl e)
place_in b (x ∷ K) e = let ih = place_in b K in grind arith

pub place_out : (b : Block) (K : List Block) → among b K ≡ false → place_of b K ≡ length K
place_out b [] e = refl
place_out b (x ∷ K) e = let ih = place_out b K in grind arith

pub place_push_in : (b c : Block) (K : List Block) → among c K ≡ true → place_of c (K ++ (b ∷ [])) ≡ place_of c K
place_push_in b c [] e = absurd (both_ways false refl e)
place_push_in b c (x ∷ K) e = let ih = place_push_in b c K in grind arith

pub place_push_new : (b : Block) (K : List Block) → among b K ≡ false → place_of b (K ++ (b ∷ [])) ≡ length K
place_push_new b [] e = let r = same_refl b in grind arith
place_push_new b (x ∷ K) e = let ih = place_push_new b K in grind arith

pub place_apart : (b c : Block) (K : List Block) → same b c ≡ false → among c K ≡ true → place_of c K ≡ place_of b K → ⊥
place_apart b c [] n e f = both_ways false refl e
place_apart b c (x ∷ K) n e f = let ih = place_apart b c K n in grind arith

set-place : (b : Block) (K : List Block) → among b K ≡ true → set K (place_of b K) b ≡ K
set-place b [] e = refl
set-place b (x ∷ K) e =
    let ih = set-place b K in
    let k = same_equal x b in
    grind arith

never_step : (p : ℕ) (b : Block) (a : Access) (K : List Block) (before : Past) → (among b K ≡ false → before ≡ never)
    → among b (cond (among a.block K) K (K ++ (a.block ∷ []))) ≡ false
    → cond (same a.block b) (cond (own p a) held (cond (writes a.operation) (elim before [ never ↦ never | held ↦ lost | lost ↦ lost ]) before)) before ≡ never
never_step p b a K before f e =
    let x = among_push a.block b K in
    let y = same_equal a.block b in
    grind arith

pub past_never : (p : ℕ) (b : Block) (h : History) → among b (met h) ≡ false → past p b h ≡ never
past_never p b [] e = refl
past_never p b (a ∷ h) e = never_step p b a (met h) (past p b h) (past_never p b h) e

-- the table of known blocks after a reference
pub known_step : (xs : List Block) (n : ℕ) (b : Block) → n ≤ length xs → (place_of b (take n xs) ≡ n → n < length xs) → length (take n xs) ≡ n
    → take (cond (eqb (place_of b (take n xs)) n) (n + 1) n) (set xs (place_of b (take n xs)) b) ≡ cond (among b (take n xs)) (take n xs) (take n xs ++ (b ∷ []))
known_step xs n b l f e = go (among b (take n xs)) refl
  where
    go : (t : Bool) → among b (take n xs) ≡ t → take (cond (eqb (place_of b (take n xs)) n) (n + 1) n) (set xs (place_of b (take n xs)) b) ≡ cond t (take n xs) (take n xs ++ (b ∷ []))
    go true x =
        let k : place_of b (take n xs) < n = omega (arith, place_in b (take n xs) x) in
        let z : eqb (place_of b (take n xs)) n ≡ false = ne_eqb (place_of b (take n xs)) n (λ y. omega arith) in
        rw z (take-set-lt n xs (place_of b (take n xs)) b k ∙ set-place b (take n xs) x)
    go false x =
        let k : place_of b (take n xs) ≡ n = place_out b (take n xs) x ∙ e in
        let z : eqb (place_of b (take n xs)) n ≡ true = eq-eqb (place_of b (take n xs)) n k in
        rw z (ap (λ y. take (n + 1) (set xs y b)) k ∙ take_more_set xs n b (f k))

-- ---- marks

abbrev pub mark_of : Past → Mark
mark_of never = Never
mark_of held = Held
mark_of lost = Lost

pub record Marks (p : ℕ) (h : History) (M : List Mark) : Type 0 where
  pub known : (c : Block) → among c (met h) ≡ true → get_or M (place_of c (met h)) Never ≡ mark_of (past p c h)
  pub fresh : (j : ℕ) → length (met h) ≤ j → get_or M j Never ≡ Never

pub mark_is : (p : ℕ) (h : History) (M : List Mark) → Marks p h M → (c : Block) → get_or M (place_of c (met h)) Never ≡ mark_of (past p c h)
mark_is p h M k c =
    elim (cases_Bool (among c (met h))) [
      | inl e ↦ k.known c e
      | inr e ↦ k.fresh (place_of c (met h)) (omega (arith, place_out c (met h) e)) ∙ ap mark_of (sym (past_never p c h e))
    ]

pub met-place : (b : Block) (K : List Block) → place_of b (cond (among b K) K (K ++ (b ∷ []))) ≡ place_of b K
met-place b K = let x = place_push_new b K in let y = place_out b K in grind arith

met-place_other : (b c : Block) (K : List Block) → same b c ≡ false → among c (cond (among b K) K (K ++ (b ∷ []))) ≡ true
    → (among c K ≡ true) × (place_of c (cond (among b K) K (K ++ (b ∷ []))) ≡ place_of c K)
met-place_other b c K n e =
    let x = among_push b c K in
    let y = place_push_in b c K in
    grind arith

met_in : (b : Block) (K : List Block) → place_of b K < length (cond (among b K) K (K ++ (b ∷ [])))
met_in b K = let x = place_in b K in let y = place_out b K in let z = length_push K b in grind arith

met_longer : (b : Block) (K : List Block) → length K ≤ length (cond (among b K) K (K ++ (b ∷ [])))
met_longer b K = let z = length_push K b in grind arith

past_other : (p : ℕ) (c : Block) (a : Access) (h : History) → same a.block c ≡ false → past p c (a ∷ h) ≡ past p c h
past_other p c a h n = cond-false (same a.block c) _ _ n

pub marks_step : (p : ℕ) (a : Access) (h : History) (M M' : List Mark) → Marks p h M
    → get_or M' (place_of a.block (met h)) Never ≡ mark_of (past p a.block (a ∷ h))
    → ((j : ℕ) → (j ≡ place_of a.block (met h) → ⊥) → get_or M' j Never ≡ get_or M j Never)
    → Marks p (a ∷ h) M'
marks_step p a h M M' k at out =
    record {
      known = λ c e. elim (cases_Bool (same a.block c)) [
        | inl x ↦ (
            subst (λ d. get_or M' (place_of d (met (a ∷ h))) Never ≡ mark_of (past p d (a ∷ h))) (same_equal a.block c x)
            (ap (λ n. get_or M' n Never) (met-place a.block (met h)) ∙ at))
        | inr x ↦ (let o = met-place_other a.block c (met h) x e in
            ap (λ n. get_or M' n Never) o.1 ∙ out (place_of c (met h)) (place_apart a.block c (met h) x o.0) ∙ k.known c o.0 ∙ ap mark_of (sym (past_other p c a h x)))
      ];
      fresh = λ j l.
          out j (λ e. omega (arith, met_in a.block (met h))) ∙ k.fresh j (omega (arith, met_longer a.block (met h)));
    }
