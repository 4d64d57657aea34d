-- What each call of a study answers and leaves, for all contents of the tables that it is passed.
use Rattle.std.specs.Prelude.{ℕ, zero, suc, ◌+◌, ◌-◌, ◌*◌, ◌^◌, Bool, false, cond, ◌&&◌, ◌||◌, List, [], ◌∷◌, length, take, Some, None, Ok, Err, sum, Option, Result, ◌==◌, nat_le, nat_lt, slice_index, slice_index_or, slice_set}
use Rattle.places.specs.Parts.{part, put, start, more}
use Rattle.places.specs.Place.{place}
use Rattle.setmap.specs.Mapping.{Mapping}
use Rattle.trace.specs.Items.{same, writes, block_of, number_of, Item, reference, bad}
use Rattle.trace.specs.Refusals.{Case, first_given, unless_refused, outside}
use Rattle.trace.specs.declared.Block.{Block}
use Rattle.trace.specs.declared.Fault.{Fault}
use Rattle.trace.specs.declared.Layer.TheVariants.{Source, Study}
use Rattle.trace.specs.declared.Reference.{Reference}
use Rattle.trace.specs.declared.Refusal.{Refusal}
use Rattle.trace.specs.declared.Refusal.TheVariants.{Setting, Level, ShortTable, Processor, Blocks, Entries, References, Question, Form, Size, CutOff, Input}
use Rattle.caches.specs.declared.Figures.{Figures}
use Rattle.stack.specs.declared.Entry.{Entry}
use Rattle.stack.specs.Stack.{stack, position, within, touched, dropped, restack}
use Rattle.tables.specs.declared.Event.{Event}
use Rattle.tables.specs.declared.Event.TheVariants.{Own, OthersWrite}
use Rattle.trace.specs.declared.Fed.{Fed}
use Rattle.trace.specs.declared.Fed.TheVariants.{Accepted, End}
use Rattle.tables.specs.declared.Mark.{Mark}
use Rattle.tables.specs.declared.Mark.TheVariants.{Never, Held, Lost}
use Rattle.tables.specs.declared.Settings.{Settings}
use Rattle.tables.specs.Tables.{Tables, row, references_at, cold_at, lost_at, hits_from, drops_from, stretch, mark_at}

-- what an open study keeps besides its settings
pub record Kept : Type 0 where
  pub known : ℕ
  pub accepted : ℕ

-- the first place of a block in a list, or its length
abbrev pub place_of : Block → List Block → ℕ
place_of b xs = place (λ x. same x b) xs

-- ---- refusals

-- what a call is judged by; a call leaves out what none of its refusals looks at
pub record Values : Type 0 where
  pub map : Mapping
  pub settings : Settings
  pub kept : Kept
  pub tables : Tables
  pub processor : ℕ
  pub block : Block
  pub level : ℕ
  pub ways : ℕ

abbrev pub unlimited : Settings → Bool
unlimited s =
    outside 1 64 s.processors || (outside 0 12 s.shift || (outside 1 17 s.levels || (outside 1 16 s.ways || (outside 1 4096 s.blocks || outside 1 69632 s.entries))))

abbrev pub short : Settings → Tables → Bool
short s t =
    nat_lt (length t.entries) (s.processors * s.entries) || (nat_lt (length t.known) s.blocks || (nat_lt (length t.marks) (s.processors * s.blocks) || nat_lt (length t.counters) (s.processors * row s)))

-- the block is not known, and no more can be
abbrev pub no_more_known : Settings → Kept → Tables → Block → Bool
no_more_known s kept t q = place_of q (take kept.known t.known) == kept.known && kept.known == s.blocks

-- the stack after an own reference would exceed the entries setting
abbrev pub no_more_entries : Mapping → Settings → Tables → (p : ℕ) → Block → Bool
no_more_entries m s t p q = nat_lt s.entries (length (touched m q (stack (stretch s p t))))

-- each refusal, by its number and the values for which it is given; a study gives no other
abbrev pub case_of : Refusal → Case Values
case_of Setting = record { number = number_of Setting; given = λ v. unlimited v.settings }
case_of Level = record { number = number_of Level; given = λ v. nat_lt v.map.levels v.settings.levels }
case_of ShortTable = record { number = number_of ShortTable; given = λ v. short v.settings v.tables }
case_of Processor = record { number = number_of Processor; given = λ v. outside 1 v.settings.processors v.processor }
case_of Blocks = record { number = number_of Blocks; given = λ v. no_more_known v.settings v.kept v.tables v.block }
case_of Entries = record { number = number_of Entries; given = λ v. no_more_entries v.map v.settings v.tables v.processor v.block }
case_of References = record { number = number_of References; given = λ v. (v.kept.accepted == 2 ^ 32 - 1) }
case_of Question = record { number = number_of Question; given = λ v. nat_le v.settings.levels v.level || outside 1 v.settings.ways v.ways }
case_of Form = record { number = number_of Form; given = λ _. false }
case_of Size = record { number = number_of Size; given = λ _. false }
case_of CutOff = record { number = number_of CutOff; given = λ _. false }
case_of Input = record { number = number_of Input; given = λ _. false }

abbrev no_kept : Kept
no_kept = record { known = 0; accepted = 0 }

abbrev no_block : Block
no_block = record { number = 0 }

-- the order of each call's refusals
abbrev pub set_up_refusal : Mapping → Settings → Tables → Option Refusal
set_up_refusal m s t =
    first_given case_of (Setting ∷ (Level ∷ (ShortTable ∷ [])))
    (record { map = m; settings = s; kept = no_kept; tables = t; processor = 0; block = no_block; level = 0; ways = 0 })

abbrev pub reference_refusal : Mapping → Settings → Kept → Tables → Reference → Option Refusal
reference_refusal m s kept t r =
    first_given case_of (ShortTable ∷ (References ∷ (Processor ∷ (Blocks ∷ (Entries ∷ [])))))
    (record { map = m; settings = s; kept = kept; tables = t; processor = r.processor; block = block_of s.shift r.address; level = 0; ways = 0 })

abbrev pub question_refusal : Mapping → Settings → Tables → (p level ways : ℕ) → Option Refusal
question_refusal m s t p i d =
    first_given case_of (ShortTable ∷ (Processor ∷ (Question ∷ [])))
    (record { map = m; settings = s; kept = no_kept; tables = t; processor = p; block = no_block; level = i; ways = d })

-- ---- marks and counters

-- an own reference makes a mark held, and another's write turns held to lost
abbrev pub marked : Mark → Event → Mark
marked Never Own = Held
marked Held Own = Held
marked Lost Own = Held
marked Never OthersWrite = Never
marked Held OthersWrite = Lost
marked Lost OthersWrite = Lost

-- the place of the counter of a position at a level, in counters that begin at `from`
abbrev pub cell : Settings → (from level position : ℕ) → ℕ
cell s from i k = from + (i * s.ways + (k - 1))

-- a position up to the ways adds one to its counter; a deeper one adds none
abbrev pub scored : Settings → (from level : ℕ) → Option ℕ → List ℕ → List ℕ
scored s from i None cs = cs
scored s from i (Some k) cs = cond (nat_le k s.ways) (more (cell s from i k) cs) cs

-- at each of the first n levels, one more at the counter of q's position in the stack
abbrev pub scores : Mapping → Settings → (from : ℕ) → Block → List Entry → ℕ → List ℕ → List ℕ
scores m s from q es zero cs = cs
scores m s from q es (suc n) cs = scored s from n (position m q n es) (scores m s from q es n cs)

-- cold is counted by the mark never, lost by the mark lost
abbrev pub past_counter : Settings → ℕ → Mark → List ℕ → List ℕ
past_counter s p Never cs = more (cold_at s p) cs
past_counter s p Held cs = cs
past_counter s p Lost cs = more (lost_at s p) cs

-- ---- references

-- processor p's own reference to the block q at place k of the known blocks
abbrev pub own_reference : Mapping → Settings → ℕ → Block → ℕ → Tables → Tables
own_reference m s p q k t =
    let es = stretch s p t in
    let mark = slice_index_or t.marks (mark_at s p k) Never in
    record {
      entries = put (start s.entries p) s.entries (restack (touched m q (stack es)) es) t.entries;
      known = slice_set t.known k q;
      marks = slice_set t.marks (mark_at s p k) (marked mark Own);
      counters = scores m s (hits_from s p) q (stack es) s.levels (past_counter s p mark (more (references_at s p) t.counters));
    }

-- what another's write of q does to processor p
abbrev pub others_write_to : Mapping → Settings → ℕ → Block → ℕ → Tables → Tables
others_write_to m s p q k t =
    let es = stretch s p t in
    record {
      entries = put (start s.entries p) s.entries (restack (dropped s.levels q (stack es)) es) t.entries;
      known = t.known;
      marks = slice_set t.marks (mark_at s p k) (marked (slice_index_or t.marks (mark_at s p k) Never) OthersWrite);
      counters = scores m s (drops_from s p) q (stack es) s.levels t.counters;
    }

-- a write by processor w, put to the first n processors but w itself
abbrev pub others_write_all : Mapping → Settings → ℕ → Block → ℕ → ℕ → Tables → Tables
others_write_all m s w q k zero t = t
others_write_all m s w q k (suc n) t =
    let before = others_write_all m s w q k n t in
    cond (suc n == w) before (others_write_to m s (suc n) q k before)

-- the tables after an accepted reference to the block at place k of the known ones
abbrev pub applied : Mapping → Settings → Reference → ℕ → Tables → Tables
applied m s r k t =
    let q = block_of s.shift r.address in
    let own = own_reference m s r.processor q k t in
    cond (writes r.operation) (others_write_all m s r.processor q k s.processors own) own

-- what a call leaves: its answer, what the study keeps, and the tables
pub record Outcome (A E : Type 0) : Type 0 where
  pub answer : Result A E
  pub kept : Kept
  pub tables : Tables

abbrev pub accepted_reference : Mapping → Settings → Kept → Tables → Reference → Outcome (Unit {0}) Refusal
accepted_reference m s kept t r =
    let k = place_of (block_of s.shift r.address) (take kept.known t.known) in
    record {
      answer = Ok tt;
      kept = record { known = cond (k == kept.known) (kept.known + 1) kept.known; accepted = kept.accepted + 1 };
      tables = applied m s r k t;
    }

abbrev pub outcome : {A : Type 0} → Option Refusal → Kept → Tables → Outcome A Refusal → Outcome A Refusal
outcome None kept t o = o
outcome (Some x) kept t o = record { answer = Err x; kept = kept; tables = t }

abbrev pub referenced : Mapping → Settings → Kept → Tables → Reference → Outcome (Unit {0}) Refusal
referenced m s kept t r = outcome (reference_refusal m s kept t r) kept t (accepted_reference m s kept t r)

-- ---- feeds

abbrev pub fed_answer : ℕ → Result (Unit {0}) Refusal → Result Fed Fault
fed_answer n (Ok x) = Ok Accepted
fed_answer n (Err x) = Err (record { refusal = x; item = n; layer = Study })

-- a feed of one item, the n-th by the source's count
abbrev pub fed_item : Mapping → Settings → Kept → Tables → Item → ℕ → Outcome Fed Fault
fed_item m s kept t (reference r) n =
    let o = referenced m s kept t r in
    record { answer = fed_answer n o.answer; kept = o.kept; tables = o.tables }
fed_item m s kept t (bad x) n = record { answer = Err (record { refusal = x; item = n; layer = Source }); kept = kept; tables = t }

abbrev pub fed_first : Mapping → Settings → Kept → Tables → (items : List Item) (count : ℕ) → Outcome Fed Fault
fed_first m s kept t [] n = record { answer = Ok End; kept = kept; tables = t }
fed_first m s kept t (x ∷ items) n = fed_item m s kept t x (n + 1)

-- a feed from a source with these items still to come and so many answered
abbrev pub fed : Mapping → Settings → Kept → Tables → (items : List Item) (count : ℕ) → Outcome Fed Fault
fed m s kept t items n =
    cond (short s t) (record { answer = Err (record { refusal = ShortTable; item = 0; layer = Study }); kept = kept; tables = t }) (fed_first m s kept t items n)

-- how many items a feed takes from its source
abbrev pub used_up : Settings → Tables → ℕ
used_up s t = cond (short s t) 0 1

-- ---- questions

abbrev pub held : Mapping → Settings → Kept → Tables → (p level ways : ℕ) → Block → Result Bool Refusal
held m s kept t p i d b =
    unless_refused (question_refusal m s t p i d) (nat_lt (place_of b (take kept.known t.known)) kept.known && within (position m b i (stack (stretch s p t))) d)

-- the sum of the first d counters of a level's row
abbrev pub summed : Settings → (from level d : ℕ) → List ℕ → ℕ
summed s from i d cs = sum (part (from + i * s.ways) d cs)

-- replaced is what is left of the references, or 0
abbrev pub read_off : Settings → Tables → (p level ways : ℕ) → Figures
read_off s t p i d =
    let cs = t.counters in
    record {
      references = slice_index cs (references_at s p);
      hits = summed s (hits_from s p) i d cs;
      drops = summed s (drops_from s p) i d cs;
      cold = slice_index cs (cold_at s p);
      lost = slice_index cs (lost_at s p);
      replaced = slice_index cs (references_at s p) - (summed s (hits_from s p) i d cs + (slice_index cs (cold_at s p) + slice_index cs (lost_at s p)));
    }

abbrev pub counted : Mapping → Settings → Tables → (p level ways : ℕ) → Result Figures Refusal
counted m s t p i d = unless_refused (question_refusal m s t p i d) (read_off s t p i d)
