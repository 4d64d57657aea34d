-- What a source's answer tells of the items that it had.
use Rattle.std.proofs.Common.{◌≡◌, ℕ, ◌+◌, List, [], ◌∷◌, Some, None, Ok, Err, refl}
use Rattle.trace.specs.Items.{Item, reference, bad}
use Rattle.trace.specs.Next.{Given}
use Rattle.trace.specs.declared.Reference.{Reference}
use Rattle.trace.specs.declared.Refusal.{Refusal}
use Rattle.trace.specs.declared.Fault.{Fault}
use Rattle.trace.specs.declared.Layer.TheVariants.{Source}

pub took : (items after : List Item) (n n' : ℕ) (r : Reference) → Given items n (Ok (Some r)) after n' → (items ≡ reference r ∷ after) × (n' ≡ n + 1)
took [] after n n' r g = let e = g.0 in cc
took (bad x ∷ items) after n n' r g = let e = g.0 in cc
took (reference q ∷ items) after n n' r g =
    let e = g.0 in
    let a = g.1 in
    (let same : reference q ∷ items ≡ reference r ∷ after = cc in same, g.2)

pub ended : (items after : List Item) (n n' : ℕ) → Given items n (Ok None) after n' → (items ≡ []) × (after ≡ []) × (n' ≡ n)
ended [] after n n' g = (refl, g.1, g.2)
ended (bad x ∷ items) after n n' g = let e = g.0 in cc
ended (reference q ∷ items) after n n' g = let e = g.0 in cc

pub faulted : (items after : List Item) (n n' : ℕ) (f : Fault) → Given items n (Err f) after n'
    → (x : Refusal) × ((items ≡ bad x ∷ after) × (f ≡ record { refusal = x; item = n + 1; layer = Source }) × (n' ≡ n + 1))
faulted [] after n n' f g = let e = g.0 in cc
faulted (bad x ∷ items) after n n' f g =
    let e = g.0 in
    let a = g.1 in
    (x, (let same : bad x ∷ items ≡ bad x ∷ after = cc in same, (let told : f ≡ record { refusal = x; item = n + 1; layer = Source } = cc in told), g.2))
faulted (reference q ∷ items) after n n' f g = let e = g.0 in cc
