-- Lists of calls on a study: where they lead, and what is answered on the way.
use Rattle.std.specs.Prelude.{ℕ, Bool, true, false, List, [], ◌∷◌, ◌++◌, take, drop, Some, None, Ok, Err, Option, Result}
use Rattle.setmap.specs.Mapping.{Mapping}
use Rattle.trace.specs.Items.{block_of, Item, reference, bad}
use Rattle.trace.specs.declared.Block.{Block}
use Rattle.trace.specs.declared.Fault.{Fault}
use Rattle.trace.specs.declared.Reference.{Reference}
use Rattle.trace.specs.declared.Refusal.{Refusal}
use Rattle.caches.specs.declared.Figures.{Figures}
use Rattle.caches.specs.Caches.{Access, History}
use Rattle.trace.specs.declared.Fed.{Fed}
use Rattle.trace.specs.declared.Fed.TheVariants.{Accepted, End}
use Rattle.tables.specs.declared.Settings.{Settings}
use Rattle.tables.specs.Tables.{Tables, cleared}
use Rattle.tables.specs.Calls.{Kept, set_up_refusal, referenced, fed, held, counted}

-- ---- front parts

-- a call may be passed the front of each table only: so much of it
pub record Fronts : Type 0 where
  pub entries : ℕ
  pub known : ℕ
  pub marks : ℕ
  pub counters : ℕ

abbrev pub front : Fronts → Tables → Tables
front f t =
    record {
      entries = take f.entries t.entries;
      known = take f.known t.known;
      marks = take f.marks t.marks;
      counters = take f.counters t.counters;
    }

-- the tables t, after a call has left `new` of their front parts
abbrev pub behind : Fronts → Tables → Tables → Tables
behind f t new =
    record {
      entries = new.entries ++ drop f.entries t.entries;
      known = new.known ++ drop f.known t.known;
      marks = new.marks ++ drop f.marks t.marks;
      counters = new.counters ++ drop f.counters t.counters;
    }

-- ---- calls and answers

-- A call, with what it is passed. A feed's source is given by the items that it still has and how many it has answered.
pub data Call : Type 0 where
  referring : Fronts → Reference → Call
  feeding : Fronts → List Item → ℕ → Call
  holding_asked : Fronts → (p level ways : ℕ) → Block → Call
  closing : Call
  count_asked : Fronts → (p level ways : ℕ) → Call

-- what a call answered; with a question, the references that had been accepted by then
pub data Said : Type 0 where
  of_reference : Result (Unit {0}) Refusal → Said
  of_feed : Result Fed Fault → Said
  of_holds : History → (p level ways : ℕ) → Block → Result Bool Refusal → Said
  of_count : History → (p level ways : ℕ) → Result Figures Refusal → Said

-- where calls have led: the references accepted, all that was answered (the newest first), and the study with its tables
pub record World : Type 0 where
  pub history : History
  pub said : List Said
  pub still_open : Bool
  pub kept : Kept
  pub tables : Tables

-- ---- what is accepted

abbrev pub access : Settings → Reference → Access
access s r = record { processor = r.processor; operation = r.operation; block = block_of s.shift r.address }

-- the history after a reference was answered: a refused one leaves no trace
abbrev pub remembered : Settings → Reference → Result (Unit {0}) Refusal → History → History
remembered s r (Ok x) h = access s r ∷ h
remembered s r (Err n) h = h

-- the history after a feed was answered
abbrev pub remembered_fed : Settings → List Item → Result Fed Fault → History → History
remembered_fed s [] f h = h
remembered_fed s (bad x ∷ items) f h = h
remembered_fed s (reference r ∷ items) (Ok Accepted) h = access s r ∷ h
remembered_fed s (reference r ∷ items) (Ok End) h = h
remembered_fed s (reference r ∷ items) (Err x) h = h

-- ---- runs

abbrev pub after_set_up : Mapping → Settings → Tables → Option World
after_set_up m s t =
    elim (set_up_refusal m s t) [
      | None ↦ Some (record { history = []; said = []; still_open = true; kept = record { known = 0; accepted = 0 }; tables = cleared s t })
      | Some n ↦ None
    ]

-- an open study takes references, feeds and questions what is held, and can be closed
abbrev pub when_open : Mapping → Settings → Call → World → Option World
when_open m s (referring f r) w =
    let o = referenced m s w.kept (front f w.tables) r in
    Some (record { history = remembered s r o.answer w.history; said = of_reference o.answer ∷ w.said; still_open = true; kept = o.kept; tables = behind f w.tables o.tables })
when_open m s (feeding f items n) w =
    let o = fed m s w.kept (front f w.tables) items n in
    Some (record { history = remembered_fed s items o.answer w.history; said = of_feed o.answer ∷ w.said; still_open = true; kept = o.kept; tables = behind f w.tables o.tables })
when_open m s (holding_asked f p i d b) w =
    Some (record { history = w.history; said = of_holds w.history p i d b (held m s w.kept (front f w.tables) p i d b) ∷ w.said; still_open = true; kept = w.kept; tables = w.tables })
when_open m s closing w = Some (record { history = w.history; said = w.said; still_open = false; kept = w.kept; tables = w.tables })
when_open m s (count_asked f p i d) w = None

-- a closed study answers counts alone
abbrev pub when_closed : Mapping → Settings → Call → World → Option World
when_closed m s (referring f r) w = None
when_closed m s (feeding f items n) w = None
when_closed m s (holding_asked f p i d b) w = None
when_closed m s closing w = None
when_closed m s (count_asked f p i d) w =
    Some (record { history = w.history; said = of_count w.history p i d (counted m s (front f w.tables) p i d) ∷ w.said; still_open = false; kept = w.kept; tables = w.tables })

abbrev pub step : Mapping → Settings → Call → Option World → Option World
step m s c None = None
step m s c (Some w) = elim w.still_open [ true ↦ when_open m s c w | false ↦ when_closed m s c w ]

-- Where a set-up on the tables, and then the calls, lead; the newest call stands first. Nowhere, where the set-up is refused or the study's state does not allow a call.
abbrev pub run : Mapping → Settings → Tables → List Call → Option World
run m s t [] = after_set_up m s t
run m s t (c ∷ before) = step m s c (run m s t before)
