-- The figures that a cache answers are the separate cache's, so the rows are.
use Rattle.std.proofs.Common.{◌≡◌, ℕ, suc, ◌-◌, ◌≤◌, List, [], ◌∷◌, ◌++◌, Ok, sym, ap, ap₂, ◌∙◌, subst, arith}
use Rattle.setmap.specs.Mapping.{Mapping}
use Rattle.caches.specs.Caches.{History}
use Rattle.single.specs.declared.Settings.{Settings}
use Rattle.single.specs.declared.Tallies.{Tallies}
use Rattle.single.specs.Calls.{Tables, tallied}
use Rattle.single.specs.Runs.{asking, of_question, step, tallies, AsCache, AsSeparate}
use Rattle.spot_report.specs.declared.Row.{Row}
use Rattle.spot_report.specs.Spot.{rows}
use Rattle.spot_report.specs.Steps.{Reached}
use Rattle.spot_report.proofs.Underway.{all_of, front_all}

module _ (m : Mapping) (s : Settings) (separate : AsSeparate m s) (t₀ : Tables) (h : History) (k : ℕ) (t : Tables) (reached : Reached m s t₀ h k t) where
  pub tally_is : (p : ℕ) (x : Tallies) → tallied m s t p ≡ Ok x → x ≡ tallies m s p h
  tally_is p x e =
      let asked = separate t₀ (asking (all_of t) p ∷ reached.0) _ (ap (step m s (asking (all_of t) p)) reached.2) in
      subst (λ y. AsCache m s (of_question h p y)) (ap (λ u. tallied m s u p) (front_all t) ∙ e) asked.0

  -- a processor more
  pub rows_more : (p : ℕ) (x : Tallies) (v : List Row) → 1 ≤ p → tallied m s t p ≡ Ok x → v ≡ rows m s h (p - 1) → v ++ (record { processor = p; tallies = x } ∷ []) ≡ rows m s h p
  rows_more p x v some e f =
      let q : p ≡ suc (p - 1) = omega arith in
      ap₂ (λ y z. y ++ (record { processor = p; tallies = z } ∷ [])) f (tally_is p x e)
      ∙ ap (λ i. rows m s h (p - 1) ++ (record { processor = i; tallies = tallies m s i h } ∷ [])) q
      ∙ ap (rows m s h) (sym q)
