-- Every reference of a processor is of one kind.
use Rattle.std.specs.Prelude.{◌≡◌, ℕ, ◌+◌}
use Rattle.setmap.specs.Mapping.{Mapping}
use Rattle.caches.specs.declared.Figures.{Figures}
use Rattle.caches.specs.Caches.{History, figures}

-- a hit, or the processor's first reference to the block, or one to a block lost to another's write, or one to a block that was replaced
abbrev pub Parted : Figures → Type 0
Parted f = f.references ≡ f.hits + (f.cold + (f.lost + f.replaced))

abbrev pub AddsUp : Mapping → History → Type 0
AddsUp m h = (p level ways : ℕ) → Parted (figures m p level ways h)
