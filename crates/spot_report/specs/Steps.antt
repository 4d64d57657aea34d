-- The steps by which a trace is put to the cache.
use Rattle.std.specs.Prelude.{◌≡◌, ℕ, ◌+◌, cond, List, [], ◌∷◌, ◌++◌, length, drop, Some, Ok, Err, Result}
use Rattle.setmap.specs.Mapping.{Mapping}
use Rattle.trace.specs.Items.{Item, reference, bad}
use Rattle.trace.specs.Refusals.{outside}
use Rattle.trace.specs.declared.Fault.{Fault}
use Rattle.trace.specs.declared.Layer.TheVariants.{Source, Study}
use Rattle.trace.specs.declared.Refusal.TheVariants.{Processor}
use Rattle.caches.specs.Caches.{History}
use Rattle.single.specs.declared.Settings.{Settings}
use Rattle.single.specs.Calls.{Tables, applied}
use Rattle.single.specs.Runs.{Call, Said, run}
use Rattle.trace.specs.declared.Fed.{Fed}
use Rattle.trace.specs.declared.Fed.TheVariants.{Accepted, End}
use Rattle.report.specs.declared.RefusedLine.{RefusedLine}
use Rattle.spot_report.specs.Spot.{reading}

-- the first item, the n-th by the source's count, put to a cache whose tables suffice and which has room for a reference more
abbrev pub fed_answer : Settings → List Item → ℕ → Result Fed Fault
fed_answer s [] n = Ok End
fed_answer s (bad x ∷ items) n = Err (record { refusal = x; item = n; layer = Source })
fed_answer s (reference r ∷ items) n = cond (outside 1 s.processors r.processor) (Err (record { refusal = Processor; item = n; layer = Study })) (Ok Accepted)

abbrev pub fed_accepted : Settings → List Item → ℕ → ℕ
fed_accepted s [] k = k
fed_accepted s (bad x ∷ items) k = k
fed_accepted s (reference r ∷ items) k = cond (outside 1 s.processors r.processor) k (k + 1)

abbrev pub fed_tables : Mapping → Settings → List Item → Tables → Tables
fed_tables m s [] t = t
fed_tables m s (bad x ∷ items) t = t
fed_tables m s (reference r ∷ items) t = cond (outside 1 s.processors r.processor) t (applied m s t r)

-- where a trace on its way stands: the items still to come, the count of those answered, and the cache's count and tables
pub record Standing : Type 0 where
  pub items : List Item
  pub answered : ℕ
  pub accepted : ℕ
  pub tables : Tables

abbrev pub standing_of : List Item → ℕ → ℕ → Tables → Standing
standing_of items n k t = record { items = items; answered = n; accepted = k; tables = t }

-- what a feed answers and leaves
pub record FedOne (m : Mapping) (s : Settings) (before : Standing) (answer : Result Fed Fault) (after : Standing) : Type 0 where
  pub told : answer ≡ fed_answer s before.items (before.answered + 1)
  pub accepted : after.accepted ≡ fed_accepted s before.items before.accepted
  pub tables : after.tables ≡ fed_tables m s before.items before.tables
  pub items : after.items ≡ drop 1 before.items
  pub answered : after.answered + length after.items ≡ before.answered + length before.items

-- some list of calls after a set-up on the tables t₀ has led to these accepted references, their count and these tables
abbrev pub Reached : Mapping → Settings → Tables → History → ℕ → Tables → Type 0
Reached m s t₀ h k t = (calls : List Call) × (said : List Said) × (run m s t₀ calls ≡ Some (record { history = h; said = said; accepted = k; tables = t }))

-- A trace is put to the cache from there on, to its end: where that leads, and the lines that are refused on the way.
abbrev pub PutThrough : Mapping → Settings → (before : Standing) (refused : List RefusedLine) → (accepted : ℕ) (tables : Tables) (refused' : List RefusedLine) → Type 0
PutThrough m s before refused accepted tables refused' =
    (t₀ : Tables) (h : History) → Reached m s t₀ h before.accepted before.tables
    → Reached m s t₀ (reading s (before.answered + 1) before.items h).history accepted tables × (refused' ≡ refused ++ (reading s (before.answered + 1) before.items h).refused)
