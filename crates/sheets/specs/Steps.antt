-- The steps by which a trace is put to the study.
use Rattle.std.specs.Prelude.{◌≡◌, Bool, true, false, List, Some, vec_items}
use Rattle.setmap.specs.Mapping.{Mapping}
use Rattle.caches.specs.Caches.{History}
use Rattle.tables.specs.declared.Settings.{Settings}
use Rattle.tables.specs.Tables.{Tables, tables_of}
use Rattle.tables.specs.Calls.{Kept}
use Rattle.theory.specs.Runs.{Call, Said, run}
use Rattle.sheets.specs.declared.owned.OwnTables.{OwnTables}

-- the tables that a study owns, in lists
abbrev pub lists_of : OwnTables → Tables
lists_of t = tables_of (vec_items t.entries) (vec_items t.known) (vec_items t.marks) (vec_items t.counters)

-- some list of calls after a set-up on the tables t₀ has led to a study, open or closed, with these accepted references, and to these tables
abbrev pub Leads : (still_open : Bool) → Mapping → Settings → Tables → History → Kept → Tables → Type 0
Leads still_open m s t₀ h kept t = (calls : List Call) × (said : List Said) × (run m s t₀ calls ≡ Some (record { history = h; said = said; still_open = still_open; kept = kept; tables = t }))

abbrev pub Reached : Mapping → Settings → Tables → History → Kept → Tables → Type 0
Reached = Leads true

abbrev pub Closed : Mapping → Settings → Tables → History → Kept → Tables → Type 0
Closed = Leads false

-- what is true of the history that a closed study and its tables stand for, of whatever list of calls that may be
abbrev pub Shows : Mapping → Settings → Tables → (History → Type 0) → Type 0
Shows m s t P = (t₀ : Tables) (h : History) (kept : Kept) → Closed m s t₀ h kept t → P h
