-- The tables that the caller lends to a study, and their layout.
use Rattle.std.specs.Prelude.{ℕ, ◌+◌, ◌*◌, List, replicate}
use Rattle.places.specs.Parts.{part, put, start}
use Rattle.trace.specs.declared.Block.{Block}
use Rattle.stack.specs.declared.Entry.{Entry}
use Rattle.stack.specs.declared.Entry.TheVariants.{Empty}
use Rattle.tables.specs.declared.Mark.{Mark}
use Rattle.tables.specs.declared.Mark.TheVariants.{Never}
use Rattle.tables.specs.declared.Settings.{Settings}

-- the four tables that a call is passed
pub record Tables : Type 0 where
  pub entries : List Entry
  pub known : List Block
  pub marks : List Mark
  pub counters : List ℕ

abbrev pub tables_of : List Entry → List Block → List Mark → List ℕ → Tables
tables_of e k m c = record { entries = e; known = k; marks = m; counters = c }

-- counters of one processor: references, cold and lost, then a hit and a drop counter for each level and position
abbrev pub row : Settings → ℕ
row s = 2 * s.levels * s.ways + 3

abbrev pub references_at : Settings → ℕ → ℕ
references_at s p = start (row s) p

abbrev pub cold_at : Settings → ℕ → ℕ
cold_at s p = start (row s) p + 1

abbrev pub lost_at : Settings → ℕ → ℕ
lost_at s p = start (row s) p + 2

abbrev pub hits_from : Settings → ℕ → ℕ
hits_from s p = start (row s) p + 3

abbrev pub drops_from : Settings → ℕ → ℕ
drops_from s p = start (row s) p + (3 + s.levels * s.ways)

-- processor p's stretch of entries
abbrev pub stretch : Settings → ℕ → Tables → List Entry
stretch s p t = part (start s.entries p) s.entries t.entries

-- processor p's mark of the block at place k of the known ones
abbrev pub mark_at : Settings → (p k : ℕ) → ℕ
mark_at s p k = start s.blocks p + k

-- A set-up makes what the study uses of the tables empty, never and zero, and keeps the rest.
abbrev pub cleared : Settings → Tables → Tables
cleared s t =
    record {
      entries = put 0 (s.processors * s.entries) (replicate (s.processors * s.entries) Empty) t.entries;
      known = t.known;
      marks = put 0 (s.processors * s.blocks) (replicate (s.processors * s.blocks) Never) t.marks;
      counters = put 0 (s.processors * row s) (replicate (s.processors * row s) 0) t.counters;
    }
