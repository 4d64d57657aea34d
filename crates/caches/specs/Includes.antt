-- Larger caches hold what smaller ones hold.
use Rattle.std.specs.Prelude.{◌≡◌, ℕ, ◌<◌, ◌≤◌, true}
use Rattle.setmap.specs.Mapping.{Mapping}
use Rattle.trace.specs.declared.Block.{Block}
use Rattle.caches.specs.Caches.{History, figures, holding}

-- What a cache holds, a cache of as many ways or more at the same or a later level holds too, and it has at least as many hits and drops.
abbrev pub Includes : Mapping → History → Type 0
Includes m h =
    (p level later ways more : ℕ) → level ≤ later → later < m.levels → 1 ≤ ways → ways ≤ more
    → ((b : Block) → holding m p level ways b h ≡ true → holding m p later more b h ≡ true)
    × ((figures m p level ways h).hits ≤ (figures m p later more h).hits)
    × ((figures m p level ways h).drops ≤ (figures m p later more h).drops)
