-- What a look through one processor's entries has passed, and what it says in the end.
use Rattle.std.proofs.Common.{◌≡◌, ℕ, zero, suc, ◌+◌, ◌-◌, ◌<◌, ◌≤◌, Bool, true, false, cond, not, ◌&&◌, List, [], ◌∷◌, ◌++◌, length, get_or, set, replicate, refl, inl, inr, arith}
use Rattle.std.specs.List.{list_all}
use native.Mathlib.Nat.{sub-zero}
use Rattle.std.proofs.lemmas.List.{get_or-set_same, get_or-set_other}
use Rattle.std.proofs.lemmas.Bool.{cases_Bool}
use Rattle.trace.specs.Items.{same}
use Rattle.trace.specs.declared.Block.{Block as MemoryBlock}
use Rattle.trace.proofs.Blocks.{same_equal}
use Rattle.caches.specs.Caches.{among}
use Rattle.stack.specs.declared.Entry.{Entry}
use Rattle.stack.specs.declared.Entry.TheVariants.{Empty, Block, Marker}
use Rattle.stack.specs.Stack.{stack}
use Rattle.tables.specs.declared.Mark.{Mark}
use Rattle.tables.specs.declared.Mark.TheVariants.{Never}
use Rattle.tables.specs.Calls.{place_of}
use Rattle.theory.proofs.Known.{place_in, place_apart}
use Rattle.order.specs.Order.{times, is_held, held_mark, Orderly}
use Rattle.order.specs.Looks.{all_empty, stack_in_order, row_in_order}
use Rattle.order.proofs.Lists.{among-place}

-- ---- behind the stack

abbrev pub is_empty : Entry → Bool
is_empty Empty = true
is_empty (Block b) = false
is_empty (Marker b v) = false

pub all_empty_list : (es : List Entry) → list_all is_empty es ≡ all_empty es
all_empty_list [] = refl
all_empty_list (Empty ∷ es) = all_empty_list es
all_empty_list (Block b ∷ es) = refl
all_empty_list (Marker b v ∷ es) = refl

-- ---- one block

-- whether a block may stand in the stack, where flags say by place which known ones were seen
abbrev pub may_stand : (K : List MemoryBlock) (M : List Mark) (flags : List Bool) → MemoryBlock → Bool
may_stand K M flags b = held_mark K M b && not (get_or flags (place_of b K) false)

module _ (K : List MemoryBlock) (M : List Mark) (flags : List Bool) (b : MemoryBlock) where
  pub held : (k : ℕ) → k ≡ place_of b K → k < length K → is_held (get_or M k Never) ≡ true → not (get_or flags k false) ≡ may_stand K M flags b
  held k p l h = let a = among-place b K (omega arith) in grind arith

  pub unknown : length K ≡ place_of b K → false ≡ may_stand K M flags b
  unknown l = let p = place_in b K in grind arith

-- ---- the stack

-- what is left of the entries decides: the blocks among those passed were seen
pub record Passed (K : List MemoryBlock) (M : List Mark) (es : List Entry) (flags : List Bool) (rest : List Entry) : Type 0 where
  pub seen : List MemoryBlock
  pub flagged : (b : MemoryBlock) → among b K ≡ true → get_or flags (place_of b K) false ≡ among b seen
  pub left : stack_in_order K M seen rest ≡ stack_in_order K M [] es

no_flag : (n k : ℕ) → get_or (replicate n false) k false ≡ false
no_flag zero k = refl
no_flag (suc n) zero = refl
no_flag (suc n) (suc k) = no_flag n k

module _ (K : List MemoryBlock) (M : List Mark) (es : List Entry) where
  pub none_passed : (n : ℕ) → Passed K M es (replicate n false) es
  none_passed n = record { seen = []; flagged = λ b a. no_flag n (place_of b K); left = refl }

  module _ (flags : List Bool) (b : MemoryBlock) (rest : List Entry) (x : Passed K M es flags (Block b ∷ rest)) where
    pub block_passed : (flags' : List Bool) → length K ≤ length flags → true ≡ may_stand K M flags b
        → flags' ≡ set flags (place_of b K) true → Passed K M es flags' rest
    block_passed flags' w m s =
        let f = x.flagged b in
        let p = place_in b K in
        record {
          seen = b ∷ x.seen;
          flagged = λ c d. elim (cases_Bool (same b c)) [
            | inl e ↦
                (let y = same_equal b c e in
                let w = get_or-set_same flags (place_of b K) true false (grind arith) in
                grind arith)
            | inr e ↦
                (let g = x.flagged c d in
                let o = get_or-set_other flags (place_of b K) (place_of c K) true false (place_apart b c K e d) in
                grind arith)
          ];
          left = (let n = x.left in grind arith);
        }

-- ---- what it says

all_empty_is : (es : List Entry) → all_empty es ≡ true → es ≡ replicate (length es) Empty
all_empty_is [] e = refl
all_empty_is (Empty ∷ es) e = let ih = all_empty_is es in grind arith
all_empty_is (Block b ∷ es) e = grind arith
all_empty_is (Marker b v ∷ es) e = grind arith

module _ (K : List MemoryBlock) (M : List Mark) where
  cleared_is : (seen : List MemoryBlock) (es : List Entry) → stack_in_order K M seen es ≡ true → es ≡ stack es ++ replicate (length es - length (stack es)) Empty
  cleared_is seen [] e = refl
  cleared_is seen (Empty ∷ es) e = let a = all_empty_is es in let z = sub-zero (suc (length es)) in grind arith
  cleared_is seen (Block b ∷ es) e =
      let ih = cleared_is (b ∷ seen) es in grind arith
  cleared_is seen (Marker b v ∷ es) e = let ih = cleared_is seen es in grind arith

  once_step : (b c : MemoryBlock) (seen : List MemoryBlock) (n : ℕ) → held_mark K M c ≡ true → among c seen ≡ false
      → n ≤ cond (held_mark K M b && not (among b (c ∷ seen))) 1 0
      → cond (same c b) 1 0 + n ≤ cond (held_mark K M b && not (among b seen)) 1 0
  once_step b c seen n h a l =
      let f = same_equal c b in grind arith

  once_is : (b : MemoryBlock) (seen : List MemoryBlock) (es : List Entry) → stack_in_order K M seen es ≡ true
      → times b (stack es) ≤ cond (held_mark K M b && not (among b seen)) 1 0
  once_is b seen [] e = omega arith
  once_is b seen (Empty ∷ es) e = omega arith
  once_is b seen (Block c ∷ es) e =
      let ih = once_is b (c ∷ seen) es in
      let s = once_step b c seen (times b (stack es)) in
      grind arith
  once_is b seen (Marker c v ∷ es) e = omega (arith, once_is b seen es e)

  pub row_orderly : (es : List Entry) → row_in_order K M es ≡ true → Orderly K es M
  row_orderly es e =
      let s : stack_in_order K M [] es ≡ true = grind arith in
      record {
        cleared = cleared_is [] es s;
        once = λ b. (let o = once_is b [] es s in grind arith);
      }
