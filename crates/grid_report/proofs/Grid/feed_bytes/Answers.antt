use Rattle.std.proofs.Common.{◌+◌, ◌^◌, ◌<◌, length, vec_items, sym, ap, ◌∙◌, arith}
use Rattle.trace.specs.Text.{text_items}
use Rattle.trace.specs.Records.{record_items}
use Rattle.cutting.specs.Cutting.{items_of}
use Rattle.grid_report.proofs.Readings.{fed_as}
use Rattle.grid_report.proofs.Grid.feed_bytes.Goals as goal

pub returns-in_ok-feed_from-in-Text-clause-through : goal.returns-in_ok-feed_from-in-Text-clause-through
returns-in_ok-feed_from-in-Text-clause-through g c =
    let self = c.args.self.now in
    let bytes = c.args.bytes.now in
    let source = c.after in
    let room : self.count + length bytes < 2 ^ 64 = grind arith in
    let same = ap text_items (source.ensures.rest room) ∙ sym (ap (λ x. items_of x bytes) c.in-Text.is) in
    let fed = c.in_ok-feed_from-in-Text.ensures.through in
    fed_as (g.M.SetMap.meaning self.study.map) self.study c.feed_from.new.self.study (items_of self.form bytes) (text_items source.result.unread.bytes.now) self.count source.result.unread.answered
    c.feed_from.new.self.count (vec_items c.in_ok-feed_from-in-Text.field-0) same source.ensures.count fed.0 fed.1

pub returns-in_ok-feed_from-in-Records-clause-through : goal.returns-in_ok-feed_from-in-Records-clause-through
returns-in_ok-feed_from-in-Records-clause-through g c =
    let self = c.args.self.now in
    let bytes = c.args.bytes.now in
    let source = c.after-in-Records in
    let room : self.count + length bytes < 2 ^ 64 = grind arith in
    let same = source.ensures.items room ∙ sym (ap (λ x. items_of x bytes) c.in-Records.is) in
    let fed = c.in_ok-feed_from-in-Records.ensures.through in
    fed_as (g.M.SetMap.meaning self.study.map) self.study c.feed_from-in-Records.new.self.study (items_of self.form bytes) (record_items source.result.unread.bytes.now) self.count source.result.unread.answered
    c.feed_from-in-Records.new.self.count (vec_items c.in_ok-feed_from-in-Records.field-0) same source.ensures.answered fed.0 fed.1
