-- Operations by the byte or the letter that names them.
use Rattle.std.specs.Prelude.{◌≡◌, Ok, Err, Result}
use Rattle.trace.specs.Text.{Parsed}
use Rattle.trace.specs.declared.Operation.{Operation}
use Rattle.trace.specs.declared.Refusal.TheVariants.{Form}
use Rattle.trace.specs.declared.UnknownOperation.{UnknownOperation}

-- a conversion answers what a reader makes of the byte; what names no operation is refused for its form
abbrev pub Reads : Parsed Operation → Result Operation UnknownOperation → Type 0
Reads p (Ok x) = p ≡ Ok x
Reads p (Err e) = p ≡ Err Form
