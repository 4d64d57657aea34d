-- Tallies over a history.
use Rattle.std.proofs.Common.{◌≡◌, ◌≤◌, Bool, true, [], ◌∷◌, length, zero-le, arith}
use Rattle.caches.specs.Caches.{Access, History, tally}

pub tally-short : (t : Access → History → Bool) (h : History) → tally t h ≤ length h
tally-short t [] = zero-le
tally-short t (a ∷ h) = let ih = tally-short t h in grind arith

-- a test that passes wherever another does passes at least as often
pub tally_mono : (t u : Access → History → Bool) → ((a : Access) (before : History) → t a before ≡ true → u a before ≡ true) → (h : History) → tally t h ≤ tally u h
tally_mono t u k [] = zero-le
tally_mono t u k (a ∷ h) =
    let ih = tally_mono t u k h in
    let x = k a h in
    grind arith
