-- Tables that are the same slices as before are long enough still.
use Rattle.std.proofs.Common.{◌≡◌, ℕ, false, List, length, ◌∙◌}
use Rattle.trace.specs.declared.Block.{Block}
use Rattle.stack.specs.declared.Entry.{Entry}
use Rattle.tables.specs.declared.lent.LentTables.{LentTables}
use Rattle.tables.specs.declared.Mark.{Mark}
use Rattle.tables.specs.declared.Settings.{Settings}
use Rattle.tables.specs.Tables.{tables_of}
use Rattle.tables.specs.Lent.{lent, SameSlices}
use Rattle.tables.specs.Calls.{short}

pub short_same : (s : Settings) (es fs : List Entry) (ks ls : List Block) (ms ns : List Mark) (cs ds : List ℕ)
    → length fs ≡ length es → length ls ≡ length ks → length ns ≡ length ms → length ds ≡ length cs → short s (tables_of es ks ms cs) ≡ false → short s (tables_of fs ls ns ds) ≡ false
short_same s es fs ks ls ms ns cs ds a b c d l = rw (a, b, c, d) l

pub short_kept : (s : Settings) (t u : LentTables) → SameSlices t u → short s (lent t) ≡ false → short s (lent u) ≡ false
short_kept s t u e = short_same s t.entries.now u.entries.now t.known.now u.known.now t.marks.now u.marks.now t.counters.now u.counters.now e.entries_length e.known_length e.marks_length e.counters_length

pub same_slices : (t u v : LentTables) → SameSlices t u → SameSlices u v → SameSlices t v
same_slices t u v e f =
    record {
      entries = f.entries ∙ e.entries;
      known = f.known ∙ e.known;
      marks = f.marks ∙ e.marks;
      counters = f.counters ∙ e.counters;
      entries_length = f.entries_length ∙ e.entries_length;
      known_length = f.known_length ∙ e.known_length;
      marks_length = f.marks_length ∙ e.marks_length;
      counters_length = f.counters_length ∙ e.counters_length;
    }
