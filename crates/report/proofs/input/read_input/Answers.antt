use Rattle.std.proofs.Common.{rules}
use Rattle.report.proofs.Inputs.{read_most}
use Rattle.report.proofs.input.read_input.Goals as goal

pub returns : goal.returns
returns g c = read_most (g.R.Read.remaining c.args.source) 65537 c.read_to_end.new.buf.items (search rules)
