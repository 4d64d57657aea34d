use Rattle.std.proofs.Common.{◌≡◌, ℕ, ◌+◌, ◌-◌, ◌*◌, ◌^◌, min, drop, fold}
use Rattle.trace.specs.Text.{all_digits, digits_value}
use Rattle.text.proofs.fields.read_digits.Given as goal

-- some number v is what was read so far, and `value` is v up to the cap
abbrev pub invariant-loop-b : goal.invariant-loop-b
invariant-loop-b l =
    (v : ℕ) × (l.value ≡ min v (2 ^ 32)) × (fold (λ n d. n * 10 + (d - 48)) v (drop l.b-index l.field) ≡ digits_value l.field) × (all_digits (drop l.b-index l.field) ≡ all_digits l.field)
