-- One processor on its own lists: its stretch and its marks, beside the known blocks.
use Rattle.std.proofs.Common.{◌≡◌, ℕ, ◌-◌, ◌<◌, ◌≤◌, true, false, cond, List, [], ◌∷◌, ◌++◌, length, set, replicate, sym, refl, ap, ◌∙◌, subst, arith, length-append}
use Rattle.std.proofs.lemmas.List.{length_push, get_or_append_left, get_or_push, get_or-set_same, get_or-set_other}
use Rattle.setmap.specs.Mapping.{Mapping}
use Rattle.trace.specs.Items.{same}
use Rattle.trace.specs.declared.Block.{Block as MemoryBlock}
use Rattle.trace.proofs.Blocks.{same_equal, same_refl}
use Rattle.caches.specs.Caches.{among}
use Rattle.levels.specs.Levels.{no_level}
use Rattle.stack.specs.declared.Entry.{Entry}
use Rattle.stack.specs.declared.Entry.TheVariants.{Empty, Block}
use Rattle.stack.specs.Stack.{stack, touched, left, dropped, restack}
use Rattle.stack_theory.proofs.Bound.{among_push}
use Rattle.tables.specs.declared.Mark.{Mark}
use Rattle.tables.specs.declared.Mark.TheVariants.{Never}
use Rattle.tables.specs.declared.Event.TheVariants.{Own}
use Rattle.tables.specs.Calls.{place_of, marked}
use Rattle.theory.proofs.Known.{place_out, place_push_in, place_push_new, place_apart, met-place}
use Rattle.theory.proofs.Rows.{filled, length-filled, restack-filled, length-dropped}
use Rattle.order.specs.Order.{times, held_mark, Orderly, Distinct}
use Rattle.order.proofs.Times.{stack_past, stack_left, stack-dropped, times_left, times-dropped, dropped_absent}

-- ---- the known blocks

-- after a reference to q
abbrev pub grown : MemoryBlock → List MemoryBlock → List MemoryBlock
grown q K = cond (among q K) K (K ++ (q ∷ []))

pub among-place : (b : MemoryBlock) (K : List MemoryBlock) → place_of b K < length K → among b K ≡ true
among-place b K l = let k = place_out b K in grind arith

distinct_push : (q : MemoryBlock) (K : List MemoryBlock) → among q K ≡ false → Distinct K → Distinct (K ++ (q ∷ []))
distinct_push q K n d k b l e =
    let f = d k b in
    let g = get_or_append_left K (q ∷ []) b k in
    let h = get_or_push K q b k in
    let a = among-place b K in
    let i = place_push_in q b K in
    let o = place_push_new q K n in
    let w = length_push K q in
    grind arith

pub distinct_grown : (q : MemoryBlock) (K : List MemoryBlock) → Distinct K → Distinct (grown q K)
distinct_grown q K d =
    let p = distinct_push q K in grind arith

-- ---- the marks

-- a block marked as held stays so when one more is known
pub held_grown : (q b : MemoryBlock) (K : List MemoryBlock) (M : List Mark) → cond (held_mark K M b) 1 0 ≤ cond (held_mark (grown q K) M b) 1 0
held_grown q b K M =
    let a = among_push q b K in
    let i = place_push_in q b K in
    grind arith

-- and when another's mark is set
held-set : (q b : MemoryBlock) (K : List MemoryBlock) (M : List Mark) (v : Mark) → same q b ≡ false
    → cond (held_mark K M b) 1 0 ≤ cond (held_mark K (set M (place_of q K) v) b) 1 0
held-set q b K M v n =
    let a = place_apart q b K n in
    let o = get_or-set_other M (place_of q K) (place_of b K) v Never in
    grind arith

held_own : (q : MemoryBlock) (K : List MemoryBlock) (M : List Mark) (x : Mark) → place_of q K < length M
    → held_mark (grown q K) (set M (place_of q K) (marked x Own)) q ≡ true
held_own q K M x l =
    let r = same_refl q in
    let a = among_push q q K in
    let p = met-place q K in
    let g = get_or-set_same M (place_of q K) (marked x Own) Never l in
    grind arith

-- ---- the stretch

orderly_filled : (K : List MemoryBlock) (M : List Mark) (n : ℕ) (T : List Entry) → stack T ≡ T → length T ≤ n
    → ((b : MemoryBlock) → times b T ≤ cond (held_mark K M b) 1 0) → Orderly K (filled n T) M
orderly_filled K M n T e l f =
    let st = stack_past T (n - length T) in
    let z = length-filled n T l in
    record { cleared = grind arith; once = λ b. (let o = f b in grind arith) }

-- what a call leaves of one processor: its stretch is as long, and in order
pub record Left (K : List MemoryBlock) (es es' : List Entry) (M : List Mark) : Type 0 where
  pub size : length es' ≡ length es
  pub orderly : Orderly K es' M

tall_le : (K : List MemoryBlock) (M : List Mark) (es : List Entry) → Orderly K es M → length (stack es) ≤ length es
tall_le K M es o = let c = o.cleared in let l = length-append (stack es) (replicate (length es - length (stack es)) Empty) in grind arith

restacked : (K K' : List MemoryBlock) (M M' : List Mark) (es T : List Entry) → Orderly K es M → stack T ≡ T → length T ≤ length es
    → ((b : MemoryBlock) → times b T ≤ cond (held_mark K' M' b) 1 0) → Left K' es (restack T es) M'
restacked K K' M M' es T o e l f =
    let r : restack T es ≡ filled (length es) T = restack-filled (length es) (stack es) T es o.cleared refl (tall_le K M es o) l in
    record {
      size = ap length r ∙ length-filled (length es) T l;
      orderly = subst (λ X. Orderly K' X M') (sym r) (orderly_filled K' M' (length es) T e l f);
    }

module _ (q : MemoryBlock) (K : List MemoryBlock) (M : List Mark) (S T : List Entry)
    (once : (b : MemoryBlock) → times b S ≤ cond (held_mark K M b) 1 0)
    (less : (b : MemoryBlock) → times b T ≤ times b S - cond (same q b) 1 0) where
  at_most_one : times q T ≤ 0
  at_most_one = let r = same_refl q in let x = once q in let y = less q in grind arith

  own_once : (x : Mark) → place_of q K < length M → (b : MemoryBlock) → times b (Block q ∷ T) ≤ cond (held_mark (grown q K) (set M (place_of q K) (marked x Own)) b) 1 0
  own_once x l b =
      let v = marked x Own in
      let e = same_equal q b in
      let h = held_own q K M x l in
      let r = same_refl q in
      let z = at_most_one in
      let f = less b in
      let o = once b in
      let s = held-set q b K M v in
      let g = held_grown q b K (set M (place_of q K) v) in
      grind arith

  write_once : (v : Mark) (b : MemoryBlock) → times b T ≤ cond (held_mark K (set M (place_of q K) v) b) 1 0
  write_once v b =
      let e = same_equal q b in
      let z = at_most_one in
      let f = less b in
      let o = once b in
      let s = held-set q b K M v in
      grind arith

module _ (q : MemoryBlock) (K : List MemoryBlock) (es : List Entry) (M : List Mark) (o : Orderly K es M) where
  pub own_orderly : (m : Mapping) (x : Mark) → place_of q K < length M → length (touched m q (stack es)) ≤ length es
      → Left (grown q K) es (restack (touched m q (stack es)) es) (set M (place_of q K) (marked x Own))
  own_orderly m x l fits =
      let T = left m q no_level (stack es) in
      restacked K (grown q K) M (set M (place_of q K) (marked x Own)) es (Block q ∷ T) o (ap (λ X. Block q ∷ X) (stack_left m q no_level es)) fits
      (own_once q K M (stack es) T o.once (times_left m q no_level (stack es)) x l)

  pub write_orderly : (levels : ℕ) (v : Mark) → Left K es (restack (dropped levels q (stack es)) es) (set M (place_of q K) v)
  write_orderly levels v =
      let T = dropped levels q (stack es) in
      restacked K K M (set M (place_of q K) v) es T o (stack-dropped levels q es) (omega (arith, length-dropped levels q (stack es), tall_le K M es o))
      (write_once q K M (stack es) T o.once (times-dropped levels q (stack es)) v)

  -- a block that stands nowhere in the stack is not dropped from it
  pub write_absent : (levels : ℕ) → times q (stack es) ≤ 0 → restack (dropped levels q (stack es)) es ≡ es
  write_absent levels l =
      ap (λ T. restack T es) (dropped_absent q levels (stack es) l)
      ∙ restack-filled (length es) (stack es) (stack es) es o.cleared refl (tall_le K M es o) (tall_le K M es o)
      ∙ sym o.cleared
