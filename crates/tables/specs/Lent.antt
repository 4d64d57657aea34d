-- The tables as a caller lends them.
use Rattle.std.specs.Prelude.{◌≡◌, length}
use Rattle.tables.specs.declared.lent.LentTables.{LentTables}
use Rattle.tables.specs.declared.lent.SeenTables.{SeenTables}
use Rattle.tables.specs.Tables.{Tables, tables_of}

-- what the lent tables hold
abbrev pub lent : LentTables → Tables
lent t = tables_of t.entries.now t.known.now t.marks.now t.counters.now

-- the same of tables lent for a look
abbrev pub seen : SeenTables → Tables
seen t = tables_of t.entries.now t.known.now t.marks.now t.counters.now

-- each table is the same slice of the caller's as before, and as long
pub record SameSlices (t u : LentTables) : Type 0 where
  pub entries : u.entries.ghost_name ≡ t.entries.ghost_name
  pub known : u.known.ghost_name ≡ t.known.ghost_name
  pub marks : u.marks.ghost_name ≡ t.marks.ghost_name
  pub counters : u.counters.ghost_name ≡ t.counters.ghost_name
  pub entries_length : length u.entries.now ≡ length t.entries.now
  pub known_length : length u.known.now ≡ length t.known.now
  pub marks_length : length u.marks.now ≡ length t.marks.now
  pub counters_length : length u.counters.now ≡ length t.counters.now
