-- A call that is passed the whole tables, as one more in a list of calls.
use Rattle.std.proofs.Common.{◌≡◌, ℕ, true, List, ◌∷◌, length, Some, Option, ap, ◌∙◌}
use Rattle.std.proofs.lemmas.List.{append-nil}
use Rattle.std.proofs.Math.Seq.{take-length, drop-length}
use Rattle.setmap.specs.Mapping.{Mapping}
use Rattle.trace.specs.Items.{Item}
use Rattle.caches.specs.Caches.{History}
use Rattle.tables.specs.declared.Settings.{Settings}
use Rattle.tables.specs.Tables.{Tables}
use Rattle.tables.specs.Calls.{Kept, fed}
use Rattle.theory.specs.Runs.{Fronts, front, behind, feeding, closing, of_feed, World, remembered_fed, step}
use Rattle.sheets.specs.Steps.{Reached, Closed}

abbrev pub all_of : Tables → Fronts
all_of t = record { entries = length t.entries; known = length t.known; marks = length t.marks; counters = length t.counters }

pub front_all : (t : Tables) → front (all_of t) t ≡ t
front_all t = simp take-length

pub behind_all : (t u : Tables) → behind (all_of t) t u ≡ u
behind_all t u = simp (drop-length, append-nil)

module _ (m : Mapping) (s : Settings) (t₀ : Tables) (h : History) (kept : Kept) (t : Tables) (reached : Reached m s t₀ h kept t) where
  -- a feed more
  pub reached_fed : (items : List Item) (n : ℕ) → Reached m s t₀ (remembered_fed s items (fed m s kept t items n).answer h) (fed m s kept t items n).kept (fed m s kept t items n).tables
  reached_fed items n =
      let c = feeding (all_of t) items n in
      let o = fed m s kept t items n in
      let said = reached.1 in
      let after : Tables → Option World = λ u. Some (record { history = remembered_fed s items (fed m s kept u items n).answer h; said = of_feed (fed m s kept u items n).answer ∷ said; still_open = true; kept = (fed m s kept u items n).kept; tables = behind (all_of t) t (fed m s kept u items n).tables }) in (
        c ∷ reached.0,
        of_feed o.answer ∷ said,
        ap (step m s c) reached.2 ∙ ap after (front_all t)
            ∙ ap (λ u. Some (record { history = remembered_fed s items o.answer h; said = of_feed o.answer ∷ said; still_open = true; kept = o.kept; tables = u })) (behind_all t o.tables),
      )

  pub closes : Closed m s t₀ h kept t
  closes = (closing ∷ reached.0, reached.1, ap (step m s closing) reached.2)
