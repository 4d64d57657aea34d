-- Lists of calls on a single cache: where they lead, what they answer, and what the answers keep to.
use Rattle.std.specs.Prelude.{◌≡◌, ℕ, List, [], ◌∷◌, ◌++◌, take, drop, Some, None, Ok, Err, Option, Result}
use Rattle.std.specs.List.{AllByRecursion}
use Rattle.setmap.specs.Mapping.{Mapping}
use Rattle.trace.specs.Items.{block_of}
use Rattle.trace.specs.declared.Reference.{Reference}
use Rattle.trace.specs.declared.Refusal.{Refusal}
use Rattle.caches.specs.Caches.{Access, History, figures}
use Rattle.single.specs.declared.Settings.{Settings}
use Rattle.single.specs.declared.Tallies.{Tallies}
use Rattle.single.specs.Calls.{Tables, cleared, set_up_refusal, referenced, tallied}

-- how much of each table a call is passed, from the front
pub record Fronts : Type 0 where
  pub frames : ℕ
  pub counters : ℕ

abbrev pub front : Fronts → Tables → Tables
front f t = record { frames = take f.frames t.frames; counters = take f.counters t.counters }

-- the whole tables, once a call has made `new` of their front parts
abbrev pub behind : Fronts → Tables → Tables → Tables
behind f t new = record { frames = new.frames ++ drop f.frames t.frames; counters = new.counters ++ drop f.counters t.counters }

pub data Call : Type 0 where
  referring : Fronts → Reference → Call
  asking : Fronts → (p : ℕ) → Call

-- what a call answered; a question with the references accepted before it
pub data Said : Type 0 where
  of_reference : Result (Unit {0}) Refusal → Said
  of_question : History → (p : ℕ) → Result Tallies Refusal → Said

-- where a list of calls has led: the accepted references, what was answered, and the cache's count and tables
pub record World : Type 0 where
  pub history : History
  pub said : List Said
  pub accepted : ℕ
  pub tables : Tables

abbrev pub access : Settings → Reference → Access
access s r = record { processor = r.processor; operation = r.operation; block = block_of s.shift r.address }

-- the history after a reference
abbrev pub remembered : Settings → Reference → Result (Unit {0}) Refusal → History → History
remembered s r (Ok x) h = access s r ∷ h
remembered s r (Err x) h = h

abbrev pub after_set_up : Settings → Mapping → Tables → Option Refusal → Option World
after_set_up s m t None = Some (record { history = []; said = []; accepted = 0; tables = cleared m s t })
after_set_up s m t (Some x) = None

abbrev pub after_call : Mapping → Settings → Call → World → World
after_call m s (referring f r) w =
    let o = referenced m s w.accepted (front f w.tables) r in
    record { history = remembered s r o.answer w.history; said = of_reference o.answer ∷ w.said; accepted = o.accepted; tables = behind f w.tables o.tables }
after_call m s (asking f p) w =
    record { history = w.history; said = of_question w.history p (tallied m s (front f w.tables) p) ∷ w.said; accepted = w.accepted; tables = w.tables }

abbrev pub step : Mapping → Settings → Call → Option World → Option World
step m s c None = None
step m s c (Some w) = Some (after_call m s c w)

-- Where a set-up and then a list of calls leads, the latest call first; none where the set-up is refused.
abbrev pub run : Mapping → Settings → Tables → List Call → Option World
run m s t [] = after_set_up s m t (set_up_refusal m s t)
run m s t (c ∷ before) = step m s c (run m s t before)

-- the three figures of the separate cache
abbrev pub tallies : Mapping → Settings → (p : ℕ) → History → Tallies
tallies m s p h =
    let x = figures m p s.level s.ways h in
    record { references = x.references; hits = x.hits; drops = x.drops }

-- An unrefused question was answered as the separate cache answers it after the references accepted before it.
abbrev pub AsCache : Mapping → Settings → Said → Type 0
AsCache m s (of_reference a) = Unit {0}
AsCache m s (of_question h p (Ok x)) = x ≡ tallies m s p h
AsCache m s (of_question h p (Err x)) = Unit {0}

-- what every list of calls keeps to
abbrev pub AsSeparate : Mapping → Settings → Type 0
AsSeparate m s = (t : Tables) (calls : List Call) (w : World) → run m s t calls ≡ Some w → AllByRecursion (AsCache m s) w.said
