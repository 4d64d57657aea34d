-- A whole spot check: from the set-up to the rows.
use Rattle.std.proofs.Common.{◌≡◌, ℕ, false, leb, List, [], None, ap, ◌∙◌}
use Rattle.setmap.specs.Mapping.{Mapping}
use Rattle.trace.specs.Items.{Item}
use Rattle.trace.specs.declared.Refusal.TheVariants.{Setting, Level, ShortTable}
use Rattle.single.specs.declared.Settings.{Settings}
use Rattle.single.specs.Calls.{Tables, unlimited, short, set_up_refusal, cleared}
use Rattle.single.specs.Runs.{after_set_up}
use Rattle.single.proofs.Worlds.{no_first}
use Rattle.caches.specs.Caches.{History}
use Rattle.report.specs.declared.RefusedLine.{RefusedLine}
use Rattle.spot_report.specs.declared.Row.{Row}
use Rattle.report.specs.Reports.{whole}
use Rattle.spot_report.specs.Spot.{reading, rows, spotted_on}
use Rattle.spot_report.specs.Steps.{standing_of, Reached, PutThrough}

-- tables that a set-up accepts are long enough
pub accepted_long : (m : Mapping) (s : Settings) (t : Tables) → set_up_refusal m s t ≡ None → short m s t ≡ false
accepted_long m s t e = (no_first (unlimited s) (leb m.levels s.level) (short m s t) Setting Level ShortTable e).2

-- a set-up is where a list of calls begins
reached_first : (m : Mapping) (s : Settings) (t : Tables) → set_up_refusal m s t ≡ None → Reached m s t [] 0 (cleared m s t)
reached_first m s t e = ([], [], ap (after_set_up s m t) e)

-- what the parts of a spot check make, put together
module _ (m : Mapping) (s : Settings) (t : Tables) (accepted : set_up_refusal m s t ≡ None) (items : List Item) (k' : ℕ) (t' : Tables) (refused : List RefusedLine)
    (through : PutThrough m s (standing_of items 1 0 (cleared m s t)) [] k' t' refused) where
  pub put_whole : (v : List Row) → ((t₀ : Tables) (h : History) → Reached m s t₀ h k' t' → v ≡ rows m s h s.processors) → whole refused v ≡ spotted_on m s items
  put_whole v f =
      let x = through t [] (reached_first m s t accepted) in
      ap (λ y. whole y v) x.1 ∙ ap (whole (reading s 2 items []).refused) (f t (reading s 2 items []).history x.0)

-- what the cache, the source and the tables are after a set-up
pub through_after : (m m₁ : Mapping) (s s₁ : Settings) → m₁ ≡ m → s₁ ≡ s → (items items₁ : List Item) (n k k' : ℕ) (t t₁ t' : Tables) (refused₁ refused' : List RefusedLine)
    → items₁ ≡ items → n ≡ 1 → k ≡ 0 → t₁ ≡ t → refused₁ ≡ []
    → PutThrough m₁ s₁ (standing_of items₁ n k t₁) refused₁ k' t' refused' → PutThrough m s (standing_of items 1 0 t) [] k' t' refused'
through_after m m₁ s s₁ em es items items₁ n k k' t t₁ t' refused₁ refused' ei en ek et er p = rw (em, es, ei, en, ek, et, er) at p
