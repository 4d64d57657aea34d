-- A bulk feed: feeds, one after another, until the source ends.
use Rattle.std.specs.Prelude.{◌≡◌, ℕ, ◌+◌, true, false, ◌⊎◌, List, [], ◌∷◌, ◌++◌, Ok, Err, Result}
use Rattle.setmap.specs.Mapping.{Mapping}
use Rattle.trace.specs.Items.{Item}
use Rattle.trace.specs.declared.Fault.{Fault}
use Rattle.trace.specs.declared.Layer.TheVariants.{Study}
use Rattle.trace.specs.declared.Refusal.TheVariants.{ShortTable}
use Rattle.trace.specs.declared.Fed.{Fed}
use Rattle.tables.specs.declared.Settings.{Settings}
use Rattle.tables.specs.Tables.{Tables}
use Rattle.tables.specs.Calls.{Kept, short, fed}

-- where a bulk feed stands: what the study keeps, the tables, the source's items still to come and the count of those answered, and the faults handed on
pub record Standing : Type 0 where
  pub kept : Kept
  pub tables : Tables
  pub items : List Item
  pub answered : ℕ
  pub faults : List Fault

abbrev pub standing_of : Kept → Tables → List Item → ℕ → List Fault → Standing
standing_of kept t items n fs = record { kept = kept; tables = t; items = items; answered = n; faults = fs }

-- the faults, and the one that a feed answered, if it did
abbrev pub faulted : List Fault → Result Fed Fault → List Fault
faulted fs (Ok x) = fs
faulted fs (Err f) = fs ++ (f ∷ [])

-- Feed, called once for each of these items, with `later` still to come after them.
abbrev pub fed_all : Mapping → Settings → Kept → Tables → (items later : List Item) (count : ℕ) → List Fault → Standing
fed_all m s kept t [] later n fs = standing_of kept t later n fs
fed_all m s kept t (x ∷ items) later n fs =
    let o = fed m s kept t (x ∷ (items ++ later)) n in
    fed_all m s o.kept o.tables items later (n + 1) (faulted fs o.answer)

-- Tables too short: a feed's fault, and nothing is altered.
abbrev pub Unfed : Settings → (before after : Standing) → Fault → Type 0
Unfed s before after f = (short s before.tables ≡ true) × (f ≡ record { refusal = ShortTable; item = 0; layer = Study }) × (after ≡ before)

-- All is as feed leaves it that was called for each of the first items; the fault of the last was not taken, and is answered.
abbrev pub Stopped : Mapping → Settings → (before after : Standing) → Fault → Type 0
Stopped m s before after f =
    (short s before.tables ≡ false)
    × ((fed_items : List Item) × (before.items ≡ fed_items ++ after.items)
    × (standing_of after.kept after.tables after.items after.answered (after.faults ++ (f ∷ []))
    ≡ fed_all m s before.kept before.tables fed_items after.items before.answered before.faults))

-- What a bulk feed answers and leaves: all is as feed leaves it that is called until it answers the end.
abbrev pub FedThrough : Mapping → Settings → (before after : Standing) → Result (Unit {0}) Fault → Type 0
FedThrough m s before after (Ok x) =
    (short s before.tables ≡ false)
    × (after ≡ fed_all m s before.kept before.tables before.items [] before.answered before.faults)
FedThrough m s before after (Err f) = Unfed s before after f ⊎ Stopped m s before after f
