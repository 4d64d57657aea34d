use Rattle.std.proofs.Common.{◌≡◌}
use Rattle.cutting.specs.Cutting.{whole}
use Rattle.cutting.proofs.Pieces.{pieces_at}
use Rattle.cutting.proofs.whole_items.Goals as goal

pub returns-in-Text : goal.returns-in-Text
returns-in-Text c =
    let v : c.whole_lines.result ≡ whole c.args.form c.args.bytes.now = rw c.in-Text.is c.whole_lines.ensures.value in
    let p = pieces_at c.args.form c.args.bytes.now c.whole_lines.result v in
    record { value = v; within = p.0; front = p.1; cut = p.2; rest = p.3 }

pub returns-in-Records : goal.returns-in-Records
returns-in-Records c =
    let v : c.whole_records.result ≡ whole c.args.form c.args.bytes.now = rw c.in-Records.is c.whole_records.ensures in
    let p = pieces_at c.args.form c.args.bytes.now c.whole_records.result v in
    record { value = v; within = p.0; front = p.1; cut = p.2; rest = p.3 }
