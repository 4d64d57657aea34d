-- The single cache: what each call answers and leaves, for all contents of the tables that it is passed.
use Rattle.std.specs.Prelude.{ℕ, zero, suc, ◌+◌, ◌-◌, ◌*◌, ◌^◌, max, Bool, true, false, cond, ◌||◌, List, [], ◌∷◌, ◌++◌, map, length, drop, replicate, Some, None, Ok, Err, Option, Result, ◌==◌, nat_le, nat_lt, slice_index}
use Rattle.places.specs.Parts.{part, put, start, more}
use Rattle.setmap.specs.Mapping.{Mapping, offered}
use Rattle.trace.specs.Items.{same, writes, block_of, number_of}
use Rattle.trace.specs.Refusals.{Case, first_given, unless_refused, outside}
use Rattle.trace.specs.declared.Block.{Block}
use Rattle.trace.specs.declared.Reference.{Reference}
use Rattle.trace.specs.declared.Refusal.{Refusal}
use Rattle.trace.specs.declared.Refusal.TheVariants.{Setting, Level, ShortTable, Processor, Blocks, Entries, References, Question, Form, Size, CutOff, Input}
use Rattle.caches.specs.Caches.{among, without, used}
use Rattle.single.specs.declared.Settings.{Settings}
use Rattle.single.specs.declared.TableSizes.{TableSizes}
use Rattle.single.specs.declared.Tallies.{Tallies}

-- the two tables that a call is passed; a frame holds a block or nothing
pub record Tables : Type 0 where
  pub frames : List (Option Block)
  pub counters : List ℕ

abbrev pub tables_of : List (Option Block) → List ℕ → Tables
tables_of fs cs = record { frames = fs; counters = cs }

-- ---- the layout of the tables

-- the cache's level, as the map answers it: an accepted set-up has an offered one
abbrev pub level_in : Mapping → Settings → ℕ
level_in m s = offered m s.level

abbrev pub set_of : Mapping → Settings → Block → ℕ
set_of m s q = m.set (level_in m s) q.number

-- a processor's frames, one set after another
abbrev pub cache_frames : Mapping → Settings → ℕ
cache_frames m s = m.sets (level_in m s) * s.ways

abbrev pub frames_needed : Mapping → Settings → ℕ
frames_needed m s = s.processors * cache_frames m s

-- where the frames of processor p's set begin
abbrev pub set_start : Mapping → Settings → (p set : ℕ) → ℕ
set_start m s p set = start (cache_frames m s) p + set * s.ways

-- processor p's counters: references, hits, drops
abbrev pub references_at : ℕ → ℕ
references_at p = start 3 p

abbrev pub hits_at : ℕ → ℕ
hits_at p = start 3 p + 1

abbrev pub drops_at : ℕ → ℕ
drops_at p = start 3 p + 2

-- a list is its frames before the first empty one
abbrev pub list_of : List (Option Block) → List Block
list_of [] = []
list_of (None ∷ fs) = []
list_of (Some b ∷ fs) = b ∷ list_of fs

abbrev pub vacant : Option Block → Bool
vacant None = true
vacant (Some b) = false

abbrev pub holds : Block → Option Block → Bool
holds q None = false
holds q (Some b) = same b q

-- The frames of a set whose list has become bs: places that the list gave up are empty, and those past it keep.
abbrev pub relisted : List Block → List (Option Block) → List (Option Block)
relisted bs fs = map Some bs ++ (replicate (length (list_of fs) - length bs) None ++ drop (max (length bs) (length (list_of fs))) fs)

-- ---- refusals

-- what a call is judged by
pub record Values : Type 0 where
  pub map : Mapping
  pub settings : Settings
  pub tables : Tables
  pub accepted : ℕ
  pub processor : ℕ

abbrev pub unlimited : Settings → Bool
unlimited s = outside 1 64 s.processors || (outside 0 12 s.shift || (outside 0 16 s.level || outside 1 16 s.ways))

abbrev pub short : Mapping → Settings → Tables → Bool
short m s t = nat_lt (length t.frames) (frames_needed m s) || nat_lt (length t.counters) (s.processors * 3)

-- each refusal, by its number and the values for which it is given; the single cache gives no other
abbrev pub case_of : Refusal → Case Values
case_of Setting = record { number = number_of Setting; given = λ v. unlimited v.settings }
case_of Level = record { number = number_of Level; given = λ v. nat_le v.map.levels v.settings.level }
case_of ShortTable = record { number = number_of ShortTable; given = λ v. short v.map v.settings v.tables }
case_of Processor = record { number = number_of Processor; given = λ v. outside 1 v.settings.processors v.processor }
case_of References = record { number = number_of References; given = λ v. (v.accepted == 2 ^ 32 - 1) }
case_of Blocks = record { number = number_of Blocks; given = λ _. false }
case_of Entries = record { number = number_of Entries; given = λ _. false }
case_of Question = record { number = number_of Question; given = λ _. false }
case_of Form = record { number = number_of Form; given = λ _. false }
case_of Size = record { number = number_of Size; given = λ _. false }
case_of CutOff = record { number = number_of CutOff; given = λ _. false }
case_of Input = record { number = number_of Input; given = λ _. false }

-- the order of each call's refusals
abbrev pub set_up_refusal : Mapping → Settings → Tables → Option Refusal
set_up_refusal m s t = first_given case_of (Setting ∷ (Level ∷ (ShortTable ∷ []))) (record { map = m; settings = s; tables = t; accepted = 0; processor = 0 })

abbrev pub reference_refusal : Mapping → Settings → ℕ → Tables → ℕ → Option Refusal
reference_refusal m s accepted t p =
    first_given case_of (ShortTable ∷ (References ∷ (Processor ∷ []))) (record { map = m; settings = s; tables = t; accepted = accepted; processor = p })

abbrev pub question_refusal : Mapping → Settings → Tables → ℕ → Option Refusal
question_refusal m s t p = first_given case_of (ShortTable ∷ (Processor ∷ [])) (record { map = m; settings = s; tables = t; accepted = 0; processor = p })

-- the tables that the settings need, or why a set-up would refuse them whatever the tables
abbrev pub settings_refusal : Mapping → Settings → Option Refusal
settings_refusal m s = first_given case_of (Setting ∷ (Level ∷ [])) (record { map = m; settings = s; tables = tables_of [] []; accepted = 0; processor = 0 })

abbrev pub sized : Mapping → Settings → Result TableSizes Refusal
sized m s = unless_refused (settings_refusal m s) (record { frames = frames_needed m s; counters = s.processors * 3 })

-- ---- the calls

-- A set-up empties and zeroes what the cache uses of the tables, and keeps the rest.
abbrev pub cleared : Mapping → Settings → Tables → Tables
cleared m s t =
    record {
      frames = put 0 (frames_needed m s) (replicate (frames_needed m s) None) t.frames;
      counters = put 0 (s.processors * 3) (replicate (s.processors * 3) 0) t.counters;
    }

-- processor p's own reference to the block q
abbrev pub own_reference : Mapping → Settings → ℕ → Block → Tables → Tables
own_reference m s p q t =
    let at = set_start m s p (set_of m s q) in
    let fs = part at s.ways t.frames in
    let cs = more (references_at p) t.counters in
    record {
      frames = put at s.ways (relisted (used s.ways q (list_of fs)) fs) t.frames;
      counters = cond (among q (list_of fs)) (more (hits_at p) cs) cs;
    }

-- what another's write of q does to processor p
abbrev pub others_write_to : Mapping → Settings → ℕ → Block → Tables → Tables
others_write_to m s p q t =
    let at = set_start m s p (set_of m s q) in
    let fs = part at s.ways t.frames in
    record {
      frames = put at s.ways (relisted (without q (list_of fs)) fs) t.frames;
      counters = cond (among q (list_of fs)) (more (drops_at p) t.counters) t.counters;
    }

-- a write by processor w, put to the first n processors but w itself
abbrev pub others_write_all : Mapping → Settings → ℕ → Block → ℕ → Tables → Tables
others_write_all m s w q zero t = t
others_write_all m s w q (suc n) t =
    let before = others_write_all m s w q n t in
    cond (suc n == w) before (others_write_to m s (suc n) q before)

-- what a reference leaves: its answer, the count of accepted references, and the tables
pub record Outcome : Type 0 where
  pub answer : Result (Unit {0}) Refusal
  pub accepted : ℕ
  pub tables : Tables

abbrev pub applied : Mapping → Settings → Tables → Reference → Tables
applied m s t r =
    let q = block_of s.shift r.address in
    let own = own_reference m s r.processor q t in
    cond (writes r.operation) (others_write_all m s r.processor q s.processors own) own

abbrev pub outcome : Mapping → Settings → ℕ → Tables → Reference → Option Refusal → Outcome
outcome m s accepted t r None = record { answer = Ok tt; accepted = accepted + 1; tables = applied m s t r }
outcome m s accepted t r (Some x) = record { answer = Err x; accepted = accepted; tables = t }

abbrev pub referenced : Mapping → Settings → ℕ → Tables → Reference → Outcome
referenced m s accepted t r = outcome m s accepted t r (reference_refusal m s accepted t r.processor)

abbrev pub tallied : Mapping → Settings → Tables → ℕ → Result Tallies Refusal
tallied m s t p =
    unless_refused (question_refusal m s t p)
    (record { references = slice_index t.counters (references_at p); hits = slice_index t.counters (hits_at p); drops = slice_index t.counters (drops_at p) })
