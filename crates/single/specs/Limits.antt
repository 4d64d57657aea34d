-- What a single cache's settings and the tables of an unrefused call keep to.
use Rattle.std.specs.Prelude.{◌*◌, ◌≤◌, length}
use Rattle.setmap.specs.Mapping.{Mapping}
use Rattle.single.specs.declared.Settings.{Settings}
use Rattle.single.specs.Calls.{Tables, frames_needed}

pub record Limited (s : Settings) : Type 0 where
  pub some_processor : 1 ≤ s.processors
  pub processors : s.processors ≤ 64
  pub shift : s.shift ≤ 12
  pub level : s.level ≤ 16
  pub some_way : 1 ≤ s.ways
  pub ways : s.ways ≤ 16

pub record Long (m : Mapping) (s : Settings) (t : Tables) : Type 0 where
  pub frames : frames_needed m s ≤ length t.frames
  pub counters : s.processors * 3 ≤ length t.counters
