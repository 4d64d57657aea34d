-- References to tables in order.
use Rattle.std.proofs.Common.{◌≡◌, IfSome, is_some, Option, Some, None, ℕ, ◌<◌, ◌≤◌, Bool, true, false, not, ◌||◌, length, get_or, take, set, Ok, Err, Result, sym, refl, ap, ◌∙◌, subst, arith, length-set, length-take}
use Rattle.std.specs.Bool.{then_some}
use Rattle.std.proofs.lemmas.List.{get_or-set_same}
use Rattle.places.proofs.Places.{place-within}
use Rattle.setmap.specs.Mapping.{Mapping}
use Rattle.trace.specs.Items.{same}
use Rattle.trace.specs.declared.Block.{Block}
use Rattle.trace.specs.declared.Refusal.{Refusal}
use Rattle.trace.proofs.Blocks.{same_refl}
use Rattle.tables.specs.declared.Mark.TheVariants.{Never}
use Rattle.tables.specs.declared.Settings.{Settings}
use Rattle.tables.specs.Tables.{Tables, mark_at}
use Rattle.tables.specs.Calls.{place_of, no_more_entries, own_reference, others_write_to}
use Rattle.order.specs.Order.{InOrder, is_held}
use Rattle.order.proofs.Kept.{confirmed, own_in_order, write_in_order, write_skipped}
use Rattle.study.specs.Limits.{Long}
use Rattle.study.specs.Steps.{known_then, UnlessFull, KnownInOrder, LeftInOrder}
use Rattle.study.specs.declared.blocks.Spot.{Spot}

module _ (m : Mapping) (s : Settings) (n : ℕ) (t : Tables) (p : ℕ) (b : Spot) (l : Long s t) (lo : 1 ≤ p) (hi : p ≤ s.processors) where
  abbrev k : ℕ
  k = b.place

  abbrev q : Block
  q = b.block

  -- another's write
  module _ (o : KnownInOrder s n b t) where
    known : place_of q (take n t.known) < n
    known = subst (λ j. j < n) o.2 o.1

    written : (u : Tables) → u ≡ others_write_to m s p q k t → KnownInOrder s n b u
    written u e = (
      subst (InOrder s n) (sym e)
          (subst (λ j. InOrder s n (others_write_to m s p q j t)) (sym o.2) (write_in_order m s n t p q l.entries l.known l.marks lo hi o.0 known)),
      o.1,
      o.2 ∙ ap (λ x. place_of q (take n x.known)) (sym e),
    )

    skipped : is_held (get_or t.marks (mark_at s p k) Never) ≡ false → t ≡ others_write_to m s p q k t
    skipped x =
        subst (λ j. t ≡ others_write_to m s p q j t) (sym o.2)
        (sym (write_skipped m s n t p q l.entries l.known l.marks lo hi o.0 known (subst (λ j. is_held (get_or t.marks (mark_at s p j) Never) ≡ false) o.2 x)))

  -- an own reference, to a block that has a place or finds room
  module _ (o : InOrder s n t) (is : k ≡ place_of q (take n t.known)) (room : k < s.blocks) where
    reaches : k ≤ n
    reaches = subst (λ j. j ≤ n) (sym is) (omega (arith, place-within (λ x. same x q) (take n t.known), length-take n t.known))

    -- the place is among those known then
    grown : k < known_then n k
    grown = let r = reaches in grind arith

    module _ (u : Tables) (fits : no_more_entries m s t p q ≡ false) (e : u ≡ own_reference m s p q k t) where
      ordered : InOrder s (known_then n k) u
      ordered =
          subst (InOrder s (known_then n k)) (sym e)
          (subst (λ j. InOrder s (known_then n j) (own_reference m s p q j t)) (sym is)
          (own_in_order m s n t p q l.entries l.known l.marks lo hi o (subst (λ j. j < s.blocks) is room) fits))

      put : u.known ≡ set t.known k q
      put = ap (λ x. x.known) e

      longer : known_then n k ≤ length u.known
      longer = omega (arith, ordered.few, l.known, ap length put, length-set t.known k q)

      stands : same (get_or u.known k q) q ≡ true
      stands = ap (λ x. same (get_or x k q) q) put ∙ ap (λ x. same x q) (get_or-set_same t.known k q q (omega (arith, room, l.known))) ∙ same_refl q

      done : KnownInOrder s (known_then n k) b u
      done = (ordered, grown, sym (confirmed s (known_then n k) u ordered k q q grown longer stands))

    pub left_in_order : (r : Result (Unit {0}) Refusal) (u : Tables) → UnlessFull (no_more_entries m s t p q) t (own_reference m s p q k t) r u → LeftInOrder s n b r u
    left_in_order (Ok x) u f = done u f.0 f.1
    left_in_order (Err x) u f = subst (InOrder s n) (sym f.2) o

-- another's write, of tables that are in order with so many blocks known, if they are
module _ (m : Mapping) (s : Settings) (t : Tables) (p : ℕ) (b : Spot) (l : Long s t) (lo : 1 ≤ p) (hi : p ≤ s.processors) where
  pub written_so : (o : Option ℕ) → IfSome o (λ n. KnownInOrder s n b t) → (u : Tables) → u ≡ others_write_to m s p b.block b.place t → IfSome o (λ n. KnownInOrder s n b u)
  written_so None h u e = tt
  written_so (Some n) h u e = written m s n t p b l lo hi h u e

  -- to a processor that is passed by
  pub passed_by : (o : Option ℕ) → IfSome o (λ n. KnownInOrder s n b t) → (not (is_some o) || is_held (get_or t.marks (mark_at s p b.place) Never)) ≡ false
      → t ≡ others_write_to m s p b.block b.place t
  passed_by None h x = cc
  passed_by (Some n) h x = skipped m s n t p b l lo hi h x

pub if_ordered : (ordered : Bool) (n : ℕ) (P : ℕ → Type 0) → (ordered ≡ true → P n) → IfSome (then_some ordered n) P
if_ordered true n P f = f refl
if_ordered false n P f = tt
