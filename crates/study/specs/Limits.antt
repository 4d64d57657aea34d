-- What a study's settings and the tables of an unrefused call keep to.
use Rattle.std.specs.Prelude.{ℕ, ◌*◌, ◌≤◌, length}
use Rattle.tables.specs.declared.Settings.{Settings}
use Rattle.tables.specs.Tables.{Tables, row}

pub record Limited (s : Settings) : Type 0 where
  pub some_processor : 1 ≤ s.processors
  pub processors : s.processors ≤ 64
  pub shift : s.shift ≤ 12
  pub some_level : 1 ≤ s.levels
  pub levels : s.levels ≤ 17
  pub some_way : 1 ≤ s.ways
  pub ways : s.ways ≤ 16
  pub some_block : 1 ≤ s.blocks
  pub blocks : s.blocks ≤ 4096
  pub some_entry : 1 ≤ s.entries
  pub entries : s.entries ≤ 69632

-- a processor's number in the study
abbrev pub IsProcessor : Settings → ℕ → Type 0
IsProcessor s p = (1 ≤ p) × (p ≤ s.processors)

pub record Long (s : Settings) (t : Tables) : Type 0 where
  pub entries : s.processors * s.entries ≤ length t.entries
  pub known : s.blocks ≤ length t.known
  pub marks : s.processors * s.blocks ≤ length t.marks
  pub counters : s.processors * row s ≤ length t.counters
