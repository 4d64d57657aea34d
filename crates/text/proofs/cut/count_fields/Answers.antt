use Rattle.std.proofs.Common.{rules, ◌≡◌, ◌+◌, ◌==◌, sym, ap, ◌∙◌}
use Rattle.std.proofs.lemmas.List.Splits.{length-slice_split}
use Rattle.std.specs.List.{count_by}
use Rattle.text.proofs.Counting.{pieces-parts}
use Rattle.text.proofs.cut.count_fields.Goals as goal

pub returns : goal.returns
returns c =
    let line = c.args.line.now in
    let counted : c.count.result ≡ count_by (λ b. b == 44) line = search rules in
    let e = ap (λ n. n + 1) counted ∙ sym (length-slice_split (λ b. b == 44) line) in
    record { count = e; fields = pieces-parts _ _ _ e }
