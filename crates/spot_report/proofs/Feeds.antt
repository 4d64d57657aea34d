-- One item put to the cache.
use Rattle.std.proofs.Common.{◌≡◌, ℕ, ◌-◌, ◌^◌, ◌<◌, Bool, false, cond, eqb, Some, None, ◌∙◌, arith}
use Rattle.std.proofs.lemmas.Bool.{cond-false, ne_eqb}
use Rattle.setmap.specs.Mapping.{Mapping}
use Rattle.trace.specs.Refusals.{outside}
use Rattle.trace.specs.declared.Reference.{Reference}
use Rattle.trace.specs.declared.Refusal.TheVariants.{Processor}
use Rattle.single.specs.declared.Settings.{Settings}
use Rattle.single.specs.Calls.{Tables, short, reference_refusal}

module _ (m : Mapping) (s : Settings) (k : ℕ) (t : Tables) (r : Reference) (long : short m s t ≡ false) (room : k < 2 ^ 32 - 1) where
  abbrev out : Bool
  out = outside 1 s.processors r.processor

  -- only the processor can be refused
  pub only_processor : reference_refusal m s k t r.processor ≡ cond out (Some Processor) None
  only_processor =
      cond-false (short m s t) _ _ long ∙ cond-false (eqb k (2 ^ 32 - 1)) _ _ (ne_eqb k (2 ^ 32 - 1) (λ e. omega arith))
