-- What one processor sees of one set, and that this alone decides the figures.
use Rattle.std.specs.Prelude.{◌≡◌, ℕ, zero, suc, ◌+◌, ◌<◌, Bool, cond, ◌&&◌, ◌||◌, List, [], ◌∷◌, ◌==◌}
use Rattle.setmap.specs.Mapping.{Mapping, Lawful}
use Rattle.trace.specs.declared.Block.{Block}
use Rattle.caches.specs.declared.Figures.{Figures}
use Rattle.caches.specs.Caches.{History, own, others_write, figures}

-- one line of a view: a block, with the processor's own reference or another's write
pub record Seen : Type 0 where
  pub block : Block
  pub by_own : Bool

-- What processor p sees of a set at a level: its own accepted references and the others' accepted writes to blocks of that set, the newest first.
abbrev pub view : Mapping → (p level set : ℕ) → History → List Seen
view m p level set [] = []
view m p level set (a ∷ before) =
    cond (m.set level a.block.number == set && (own p a || others_write p a))
    (record { block = a.block; by_own = own p a } ∷ view m p level set before)
    (view m p level set before)

-- f 0 + … + f (n - 1)
abbrev pub sum_to : ℕ → (ℕ → ℕ) → ℕ
sum_to zero f = 0
sum_to (suc n) f = sum_to n f + f n

-- each figure added up over the first n sets
abbrev pub over_sets : ℕ → (ℕ → Figures) → Figures
over_sets n f =
    record {
      references = sum_to n (λ s. (f s).references);
      hits = sum_to n (λ s. (f s).hits);
      drops = sum_to n (λ s. (f s).drops);
      cold = sum_to n (λ s. (f s).cold);
      lost = sum_to n (λ s. (f s).lost);
      replaced = sum_to n (λ s. (f s).replaced);
    }

-- A view of a set, and the ways, tell figures of the set; the figures of a level are their sum over its sets.
abbrev pub ViewsTell : Type 0
ViewsTell =
    (told : ℕ → List Seen → Figures)
    × ((m : Mapping) → Lawful m → (p level ways : ℕ) (h : History) → level < m.levels → figures m p level ways h ≡ over_sets (m.sets level) (λ s. told ways (view m p level s h)))

-- Where two processors see the same of every set of a level each, their figures there are equal, whatever the maps and the histories.
abbrev pub ViewsDecide : Type 0
ViewsDecide =
    (m n : Mapping) → Lawful m → Lawful n → (p q i j ways : ℕ) (g h : History) → i < m.levels → j < n.levels
    → ((set : ℕ) → view m p i set g ≡ view n q j set h) → figures m p i ways g ≡ figures n q j ways h
