-- The figures that a closed study counts are the separate caches', so the sheet's lines are.
use Rattle.std.proofs.Common.{◌≡◌, ℕ, zero, suc, ◌+◌, ◌-◌, ◌<◌, ◌≤◌, List, [], ◌∷◌, ◌++◌, Ok, sym, refl, ap, ◌∙◌, subst, add-one, arith}
use Rattle.std.proofs.lemmas.List.{append_assoc}
use Rattle.setmap.specs.Mapping.{Mapping, Lawful, offered}
use Rattle.caches.specs.declared.Figures.{Figures}
use Rattle.caches.specs.Caches.{History, figures}
use Rattle.tables.specs.declared.Settings.{Settings}
use Rattle.tables.specs.Tables.{Tables}
use Rattle.tables.specs.Calls.{Kept, counted}
use Rattle.theory.specs.Runs.{count_asked, of_count, step}
use Rattle.theory.specs.Faithful.{AsCaches}
use Rattle.theory.proofs.Theorem.{faithful}
use Rattle.theory.proofs.Worlds.{run_good}
use Rattle.sheets.specs.declared.Row.{Row}
use Rattle.sheets.specs.Sheets.{row_of, ways_rows, level_rows, rows}
use Rattle.sheets.specs.Steps.{Closed}
use Rattle.sheets.proofs.Runs.{all_of, front_all}

module _ (m : Mapping) (s : Settings) (t : Tables) (t₀ : Tables) (h : History) (kept : Kept) (law : Lawful m) (closed : Closed m s t₀ h kept t) where
  figures_are : (p i d : ℕ) (x : Figures) → counted m s t p i d ≡ Ok x → x ≡ figures m p i d h
  figures_are p i d x e =
      let c = count_asked (all_of t) p i d in
      let asked = (faithful m law s).as_caches t₀ (c ∷ closed.0) _ (ap (step m s c) closed.2) in
      subst (λ y. AsCaches m (of_count h p i d y)) (ap (λ u. counted m s u p i d) (front_all t) ∙ e) asked.0

  -- a level of the study is one of the map's
  level_is : (i : ℕ) → i < s.levels → offered m i ≡ i
  level_is i l = omega (arith, (run_good m law s t₀ closed.0 _ closed.2).fit.offered)

  -- one line more
  pub ways_more : (p i d k sets : ℕ) (x : Figures) (old v u : List Row) → i < s.levels → 1 ≤ d → d ≡ k → sets ≡ m.sets (offered m i) → counted m s t p i d ≡ Ok x → v ≡ old ++ ways_rows m h p i (d - 1)
      → u ≡ v ++ (record { processor = p; level = i; sets = sets; ways = d; figures = x } ∷ []) → u ≡ old ++ ways_rows m h p i k
  ways_more p i zero k sets x old v u low some e l f a b = absurd (omega arith)
  ways_more p i (suc n) k sets x old v u low some e l f a b =
      let z = ap m.sets (level_is i low) in
      let y = figures_are p i (suc n) x f in
      let less : suc n - 1 ≡ n = omega arith in
      rw (b, a, less, l, z, y, sym e) (append_assoc old (ways_rows m h p i n) (row_of m h p i (suc n) ∷ []))

-- a level more, and a processor more
pub levels_more : (m : Mapping) (h : History) (p w i : ℕ) (old v u : List Row) → v ≡ old ++ level_rows m h p w i → u ≡ v ++ ways_rows m h p i w → u ≡ old ++ level_rows m h p w (i + 1)
levels_more m h p w i old v u e f = rw (f, e, add-one i) (append_assoc old (level_rows m h p w i) (ways_rows m h p i w))

pub processors_more : (m : Mapping) (h : History) (l w p i k : ℕ) (v u : List Row) → 1 ≤ p → p ≡ k → i ≡ l → v ≡ rows m h l w (p - 1) → u ≡ v ++ level_rows m h p w i → u ≡ rows m h l w k
processors_more m h l w zero i k v u some d a e f = absurd (omega arith)
processors_more m h l w (suc n) i k v u some d a e f =
    let less : suc n - 1 ≡ n = omega arith in
    rw (f, e, less, a, sym d) refl
