-- Every list of calls is faithful to the separate caches.
use Rattle.std.proofs.Common.{◌≡◌, ℕ, ◌<◌, Some, None, Ok, Option, sym, refl, ◌∙◌, arith}
use Rattle.setmap.specs.Mapping.{Mapping, Lawful}
use Rattle.trace.specs.declared.Refusal.{Refusal}
use Rattle.caches.specs.declared.Figures.{Figures}
use Rattle.caches.specs.Caches.{figures}
use Rattle.tables.specs.declared.Settings.{Settings}
use Rattle.tables.specs.Calls.{question_refusal, counted, read_off}
use Rattle.trace.specs.Refusals.{unless_refused}
use Rattle.theory.specs.Runs.{Fronts, front, World}
use Rattle.theory.specs.Faithful.{Faithful}
use Rattle.caches.proofs.Inclusion.{inclusion}
use Rattle.theory.proofs.Asked.{asked}
use Rattle.theory.proofs.Worlds.{Good, run_good, figures_are}
use Rattle.caches.proofs.Viewed.{views_decide}

-- an answered count is that of the separate caches, at a level that the map has
counted_as : (m : Mapping) → Lawful m → (s : Settings) (w : World) → Good m s w → (f : Fronts) (p i d : ℕ) (x : Figures)
    → counted m s (front f w.tables) p i d ≡ Ok x → (x ≡ figures m p i d w.history) × (i < m.levels)
counted_as m law s w g f p i d x = go (question_refusal m s (front f w.tables) p i d) refl
  where
    go : (y : Option Refusal) → question_refusal m s (front f w.tables) p i d ≡ y → unless_refused y (read_off s (front f w.tables) p i d) ≡ Ok x
        → (x ≡ figures m p i d w.history) × (i < m.levels)
    go None e k =
        let q = asked m s (front f w.tables) p i d e in
        let same_figures : read_off s (front f w.tables) p i d ≡ x = cc in
        (sym same_figures ∙ figures_are m law s g.fit w g f p i d q, omega (arith, q.level, g.fit.offered))
    go (Some n) e k = (let z : ◌≡◌ {A = ℕ} 0 1 = cc in absurd (omega arith))

pub faithful : (m : Mapping) → Lawful m → (s : Settings) → Faithful m s
faithful m law s =
    record {
      as_caches = λ t calls w e. (run_good m law s t calls w e).as_caches;
      includes = λ t calls w e. inclusion m law w.history;
      views_decide = λ m' s' t t' calls calls' w w' f f' p level ways x x' law' e e' o o' v k k'.
          (let a = counted_as m law s w (run_good m law s t calls w e) f p level ways x k in
          let b = counted_as m' law' s' w' (run_good m' law' s' t' calls' w' e') f' p level ways x' k' in
          a.0 ∙ views_decide m m' law law' p p level level ways w.history w'.history a.1 b.1 v ∙ sym b.0);
      has_room = λ wide t calls w e. (run_good m law s t calls w e).has_room wide;
    }
