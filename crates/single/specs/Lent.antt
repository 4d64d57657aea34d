-- The tables as a caller lends them.
use Rattle.std.specs.Prelude.{◌≡◌, length}
use Rattle.single.specs.declared.lent.LentTables.{LentTables}
use Rattle.single.specs.Calls.{Tables, tables_of}

-- what the lent tables hold
abbrev pub lent : LentTables → Tables
lent t = tables_of t.frames.now t.counters.now

-- each table is the same slice of the caller's as before, and so has its length
pub record SameSlices (t u : LentTables) : Type 0 where
  pub frames : u.frames.ghost_name ≡ t.frames.ghost_name
  pub counters : u.counters.ghost_name ≡ t.counters.ghost_name
  pub frames_length : length u.frames.now ≡ length t.frames.now
  pub counters_length : length u.counters.now ≡ length t.counters.now
