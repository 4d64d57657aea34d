use Rattle.std.proofs.Common.{ℕ, List, Bor, Option, Some, None, subst, arith}
use Rattle.std.proofs.lemmas.Result.{err_from_is_err_and}
use Rattle.text.specs.Cuts.{Parted, Whole}
use Rattle.text.proofs.Items.{accepted, refused}
use Rattle.text.proofs.source.TextSource.next.Goals as goal

abbrev Cut : List ℕ → Option (Bor (List ℕ) × Bor (List ℕ)) → Type 0
Cut bytes (Some x) = Parted 10 bytes x.0.now x.1.now
Cut bytes None = Whole 10 bytes

pub returns-in_err-reference : goal.returns-in_err-reference
returns-in_err-reference c =
    let begun = c.in-Some.ensures in
    let bytes = c.in-Some.bytes.now in
    let cut = subst (Cut bytes) c.in_ok-line.ensures.ok_part c.split_line.ensures in
    let p = err_from_is_err_and c.from_residual-in_err-reference.result c.from_residual-in_err-reference.ensures.1 in
    rw (p.1, p.2) (refused _ bytes c.in_ok-line.line.now c.in_ok-line.rest.now _ _ _ begun.1 begun.2 begun.4 cut.0 _ (omega arith) _ c.in_err-reference.ensures)

pub returns : goal.returns
returns c =
    let begun = c.in-Some.ensures in
    let bytes = c.in-Some.bytes.now in
    let cut = subst (Cut bytes) c.in_ok-line.ensures.ok_part c.split_line.ensures in
    accepted _ bytes c.in_ok-line.line.now c.in_ok-line.rest.now _ _ _ begun.1 begun.2 begun.4 cut.0 _ c.in_ok-reference.ensures
