-- How often a block stands in a stack, and what a call makes of that.
use Rattle.std.proofs.Common.{◌≡◌, ℕ, zero, suc, ◌-◌, ◌≤◌, cond, List, [], ◌∷◌, ◌++◌, replicate, None, refl, zero-le, arith}
use Rattle.setmap.specs.Mapping.{Mapping}
use Rattle.trace.specs.Items.{same}
use Rattle.trace.specs.declared.Block.{Block as MemoryBlock}
use Rattle.levels.specs.declared.Levels.{Levels}
use Rattle.levels.specs.Levels.{either}
use Rattle.stack.specs.declared.Entry.{Entry}
use Rattle.stack.specs.declared.Entry.TheVariants.{Empty, Marker}
use Rattle.stack.specs.Stack.{stack, position, gives, left, dropped}
use Rattle.tables.specs.declared.Settings.{Settings}
use Rattle.tables.specs.Calls.{scores}
use Rattle.theory.proofs.Rows.{stack_empty}
use Rattle.order.specs.Order.{times}

-- ---- a stack is all stack

pub stack_past : (T : List Entry) (k : ℕ) → stack (T ++ replicate k Empty) ≡ stack T
stack_past [] k = stack_empty k
stack_past (e ∷ T) k = let ih = stack_past T k in grind arith

stack-stack : (es : List Entry) → stack (stack es) ≡ stack es
stack-stack [] = refl
stack-stack (e ∷ es) = let ih = stack-stack es in grind arith

pub stack_left : (m : Mapping) (q : MemoryBlock) (g : Levels) (es : List Entry) → stack (left m q g (stack es)) ≡ left m q g (stack es)
stack_left m q g [] = refl
stack_left m q g (Marker b v ∷ es) = let ih = stack_left m q (either g (gives m q g b v)) es in grind arith
stack_left m q g (e ∷ es) =
    let ih = stack_left m q g es in
    let k = stack-stack es in
    grind arith

pub stack-dropped : (levels : ℕ) (q : MemoryBlock) (es : List Entry) → stack (dropped levels q (stack es)) ≡ dropped levels q (stack es)
stack-dropped levels q [] = refl
stack-dropped levels q (e ∷ es) =
    let ih = stack-dropped levels q es in
    let k = stack-stack es in
    grind arith

-- ---- a call leaves every other block as often, and the block itself once less

pub times_left : (m : Mapping) (q : MemoryBlock) (g : Levels) (S : List Entry) (b : MemoryBlock) → times b (left m q g S) ≤ times b S - cond (same q b) 1 0
times_left m q g [] b = zero-le
times_left m q g (Marker c v ∷ S) b = let ih = times_left m q (either g (gives m q g c v)) S b in grind arith
times_left m q g (e ∷ S) b = let ih = times_left m q g S b in grind arith

pub times-dropped : (levels : ℕ) (q : MemoryBlock) (S : List Entry) (b : MemoryBlock) → times b (dropped levels q S) ≤ times b S - cond (same q b) 1 0
times-dropped levels q [] b = zero-le
times-dropped levels q (e ∷ S) b = let ih = times-dropped levels q S b in grind arith

-- ---- a block that stands nowhere in the stack

module _ (q : MemoryBlock) where
  pub dropped_absent : (levels : ℕ) (S : List Entry) → times q S ≤ 0 → dropped levels q S ≡ S
  dropped_absent levels [] l = refl
  dropped_absent levels (e ∷ S) l = let ih = dropped_absent levels S in grind arith

  no_position : (m : Mapping) (i : ℕ) (S : List Entry) → times q S ≤ 0 → position m q i S ≡ None
  no_position m i [] l = refl
  no_position m i (e ∷ S) l = let ih = no_position m i S in grind arith

  pub no_scores : (m : Mapping) (s : Settings) (from : ℕ) (S : List Entry) (n : ℕ) (cs : List ℕ) → times q S ≤ 0 → scores m s from q S n cs ≡ cs
  no_scores m s from S zero cs l = refl
  no_scores m s from S (suc n) cs l =
      let p = no_position m n S l in
      let ih = no_scores m s from S n cs l in
      grind arith
