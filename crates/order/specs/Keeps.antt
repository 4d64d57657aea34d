-- What keeps tables in order: a processor's own reference, and another's write to it.
use Rattle.std.specs.Prelude.{◌≡◌, ℕ, ◌+◌, ◌*◌, ◌<◌, ◌≤◌, false, cond, length, take, ◌==◌, nat_lt, slice_index_or}
use Rattle.setmap.specs.Mapping.{Mapping}
use Rattle.trace.specs.declared.Block.{Block}
use Rattle.stack.specs.Stack.{stack, touched}
use Rattle.tables.specs.declared.Mark.TheVariants.{Never}
use Rattle.tables.specs.declared.Settings.{Settings}
use Rattle.tables.specs.Tables.{Tables, stretch, mark_at}
use Rattle.tables.specs.Calls.{place_of, own_reference, others_write_to}
use Rattle.order.specs.Order.{is_held, InOrder}

-- An own reference to a block for which there is room keeps the tables in order.
abbrev pub OwnKeeps : Type 0
OwnKeeps =
    (m : Mapping) (s : Settings) (n : ℕ) (t : Tables) (p : ℕ) (q : Block)
    → s.processors * s.entries ≤ length t.entries → s.blocks ≤ length t.known → s.processors * s.blocks ≤ length t.marks
    → 1 ≤ p → p ≤ s.processors → InOrder s n t
    → place_of q (take n t.known) < s.blocks → nat_lt s.entries (length (touched m q (stack (stretch s p t)))) ≡ false
    → InOrder s (cond (place_of q (take n t.known) == n) (n + 1) n) (own_reference m s p q (place_of q (take n t.known)) t)

-- Another's write of a known block keeps them in order.
abbrev pub WriteKeeps : Type 0
WriteKeeps =
    (m : Mapping) (s : Settings) (n : ℕ) (t : Tables) (p : ℕ) (q : Block)
    → s.processors * s.entries ≤ length t.entries → s.blocks ≤ length t.known → s.processors * s.blocks ≤ length t.marks
    → 1 ≤ p → p ≤ s.processors → InOrder s n t
    → place_of q (take n t.known) < n
    → InOrder s n (others_write_to m s p q (place_of q (take n t.known)) t)

-- Where the block is not marked as held, the write changes nothing at all.
abbrev pub WriteSkips : Type 0
WriteSkips =
    (m : Mapping) (s : Settings) (n : ℕ) (t : Tables) (p : ℕ) (q : Block)
    → s.processors * s.entries ≤ length t.entries → s.blocks ≤ length t.known → s.processors * s.blocks ≤ length t.marks
    → 1 ≤ p → p ≤ s.processors → InOrder s n t
    → place_of q (take n t.known) < n
    → is_held (slice_index_or t.marks (mark_at s p (place_of q (take n t.known))) Never) ≡ false
    → others_write_to m s p q (place_of q (take n t.known)) t ≡ t

abbrev pub OrderKept : Type 0
OrderKept = OwnKeeps × WriteKeeps × WriteSkips
