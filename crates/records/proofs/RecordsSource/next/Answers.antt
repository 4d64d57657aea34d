use Rattle.std.proofs.Common.{rules}
use Rattle.std.proofs.lemmas.List.{take_rest}
use Rattle.std.proofs.lemmas.Result.{err_from_is_err_and}
use Rattle.records.proofs.Cut.{accepted, refused}
use Rattle.records.proofs.RecordsSource.next.Goals as goal

pub returns-in_err-reference : goal.returns-in_err-reference
returns-in_err-reference c =
    let begun = c.in-Some.ensures in
    let bytes = c.in-Some.bytes.now in
    let p = err_from_is_err_and c.from_residual.result c.from_residual.ensures.1 in
    rw (p.1, p.2) (refused _ bytes _ _ _ _ begun.1 begun.2 begun.4 (search rules) (take_rest bytes 6) _ c.in_err-reference.ensures)

pub returns : goal.returns
returns c =
    let begun = c.in-Some.ensures in
    let bytes = c.in-Some.bytes.now in
    accepted _ bytes _ _ _ _ begun.1 begun.2 begun.4 (search rules) (take_rest bytes 6) _ c.in_ok-reference.ensures
