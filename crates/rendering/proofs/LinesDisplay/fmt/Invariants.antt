use Rattle.std.proofs.Common.{take, Ok}
use Rattle.std.specs.Fmt.{DisplaysOnOk}
use Rattle.rendering.specs.Lines.{shown_lines}
use Rattle.rendering.proofs.LinesDisplay.fmt.Given as goal

-- the lines so far are written
abbrev pub invariant-loop-line : goal.invariant-loop-line
invariant-loop-line g l = DisplaysOnOk g.W.Write.write_str_gives l.initial.f (Ok tt) (shown_lines g.T.Display.output (take l.line-index l.line-items)) l.f
