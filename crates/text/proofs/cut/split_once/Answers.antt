use Rattle.text.proofs.Seeking.{found, missed}
use Rattle.text.proofs.cut.split_once.Goals as goal

pub returns-in_err-place : goal.returns-in_err-place
returns-in_err-place c = rw c.from_residual.ensures (missed c.args.at c.args.bytes.now c.in_err-place.ensures)

pub returns : goal.returns
returns c = found c.args.at c.args.bytes.now c.in_ok-place.place c.in_ok-place.ensures
