use Rattle.std.proofs.Common.{take}
use Rattle.std.specs.Fmt.{IsPlainFormatter, HasWritten}
use Rattle.rendering.specs.Lines.{after_commas}
use Rattle.rendering.proofs.AfterCommasDisplay.fmt.Given as goal

-- the numbers so far are written
abbrev pub invariant-loop-number : goal.invariant-loop-number
invariant-loop-number g l = IsPlainFormatter l.initial.f → HasWritten g.W.Write.write_str_gives l.initial.f (after_commas (take l.number-index l.number-items)) l.f
