-- The theorem of the bench: whatever is called, a study tells what the separate caches would.
use Rattle.std.specs.Prelude.{◌≡◌, ℕ, ◌*◌, ◌≤◌, false, List, Some, Ok, Err, ◌≢◌}
use Rattle.std.specs.List.{AllByRecursion}
use Rattle.setmap.specs.Mapping.{Mapping, Lawful}
use Rattle.trace.specs.declared.Layer.TheVariants.{Study}
use Rattle.trace.specs.declared.Refusal.TheVariants.{Entries}
use Rattle.caches.specs.declared.Figures.{Figures}
use Rattle.caches.specs.Caches.{figures, holding}
use Rattle.caches.specs.Includes.{Includes}
use Rattle.caches.specs.Views.{view}
use Rattle.tables.specs.declared.Settings.{Settings}
use Rattle.tables.specs.Tables.{Tables}
use Rattle.tables.specs.Calls.{counted}
use Rattle.theory.specs.Runs.{Fronts, front, Call, Said, of_reference, of_feed, of_holds, of_count, World, run}

-- A question that was not refused has the answer that the separate caches give after the references accepted by then.
abbrev pub AsCaches : Mapping → Said → Type 0
AsCaches m (of_reference a) = Unit {0}
AsCaches m (of_feed f) = Unit {0}
AsCaches m (of_holds h p level ways block (Ok y)) = y ≡ holding m p level ways block h
AsCaches m (of_holds h p level ways block (Err n)) = Unit {0}
AsCaches m (of_count h p level ways (Ok x)) = x ≡ figures m p level ways h
AsCaches m (of_count h p level ways (Err n)) = Unit {0}

-- The study has refused no reference for want of entries. Of a feed's faults only the study's own are meant: a source may hand on any refusal.
abbrev pub HasRoom : Said → Type 0
HasRoom (of_reference (Ok x)) = Unit {0}
HasRoom (of_reference (Err n)) = n ≡ Entries → ⊥
HasRoom (of_feed (Ok x)) = Unit {0}
HasRoom (of_feed (Err x)) = x.layer ≡ Study → x.refusal ≢ Entries
HasRoom (of_holds h p level ways block a) = Unit {0}
HasRoom (of_count h p level ways a) = Unit {0}

-- Two closed studies, whatever their maps, settings, tables and calls: where a processor sees the same of every set of a level in both, both count the same for it there.
abbrev pub ViewsDecide : Mapping → Settings → Type 0
ViewsDecide m s =
    (m' : Mapping) (s' : Settings) (t t' : Tables) (calls calls' : List Call) (w w' : World) (f f' : Fronts) (p level ways : ℕ) (x x' : Figures)
    → Lawful m' → run m s t calls ≡ Some w → run m' s' t' calls' ≡ Some w' → w.still_open ≡ false → w'.still_open ≡ false
    → ((set : ℕ) → view m p level set w.history ≡ view m' p level set w'.history)
    → counted m s (front f w.tables) p level ways ≡ Ok x → counted m' s' (front f' w'.tables) p level ways ≡ Ok x'
    → x ≡ x'

-- what holds of every list of calls on a study of this map and these settings
pub record Faithful (m : Mapping) (s : Settings) : Type 0 where
  -- every answer is that of the separate caches
  pub as_caches : (t : Tables) (calls : List Call) (w : World) → run m s t calls ≡ Some w → AllByRecursion (AsCaches m) w.said
  -- larger caches hold what smaller ones hold
  pub includes : (t : Tables) (calls : List Call) (w : World) → run m s t calls ≡ Some w → Includes m w.history
  -- the views of the sets decide the counts
  pub views_decide : ViewsDecide m s
  -- entries for each level and block are enough
  pub has_room : s.levels * s.blocks ≤ s.entries → (t : Tables) (calls : List Call) (w : World) → run m s t calls ≡ Some w → AllByRecursion HasRoom w.said
