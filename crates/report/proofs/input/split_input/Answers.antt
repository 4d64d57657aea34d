use Rattle.std.proofs.Common.{arith}
use Rattle.report.proofs.Inputs.{input_parted}
use Rattle.report.proofs.input.split_input.Goals as goal

pub returns-in-Some : goal.returns-in-Some
returns-in-Some c =
    let split = c.in-Some.ensures in
    (input_parted c.args.input.now c.in-Some.split.0.now c.in-Some.split.1.now c.if-input-gt-INPUT_LIMIT.false split.0, omega (arith, split.1, c.if-input-gt-INPUT_LIMIT.false))
