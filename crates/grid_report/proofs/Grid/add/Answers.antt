use Rattle.std.proofs.Common.{◌≡◌, ◌+◌, ◌≤◌, ◌++◌, length, take, drop, vec_items, vec_len, sym, ap, ◌∙◌, subst, arith}
use Rattle.std.proofs.lemmas.List.{take-append-drop}
use Rattle.cutting.specs.Cutting.{items_of, WholeItems, LeftOver}
use Rattle.sheets.specs.Studies.{PutThrough}
use Rattle.grid_report.proofs.Readings.{Read, read_more, told_more}
use Rattle.grid_report.proofs.Grid.add.Goals as goal

pub returns-clause-read : goal.returns-clause-read
returns-clause-read g c =
    let self = c.args.self.now in
    let n = c.whole_items-whole.result in
    let cut = c.whole_items-whole.ensures in
    let split = c.in_ok-rest.ensures in
    let all = vec_items c.extend_from_slice.new.self in
    let whole = c.as_slice-2.result.now in
    let rest = vec_items c.feed_bytes.new.self.held in
    let tail : rest ≡ drop n all = ap vec_items (c.feed_bytes.ensures.held ∙ c.replace-items.ensures.after) ∙ split.tail in
    let front : whole ≡ take n all = c.as_slice-2.ensures.value ∙ ap vec_items c.replace-items.ensures.value ∙ split.items in
    let joined : whole ++ rest ≡ all = ap (λ xs. xs ++ rest) front ∙ ap (λ ys. take n all ++ ys) tail ∙ take-append-drop n all in
    let ends : WholeItems self.form whole = subst (WholeItems self.form) (ap (take n) c.as_slice.ensures.value ∙ sym front) cut.front in
    let left : LeftOver self.form rest = subst (LeftOver self.form) (ap (drop n) c.as_slice.ensures.value ∙ sym tail) cut.rest in
    let less : self.count + length whole ≤ self.count + (vec_len self.held + length c.args.bytes.now) = omega (arith, ap vec_len c.replace-items.ensures.value, c.in_ok-extend_from_slice.ensures.len) in
    let m = g.M.SetMap.meaning self.study.map in
    let study = c.feed_bytes.new.self.study in
    told_more {P = λ v. PutThrough m self.study study (items_of self.form whole) (self.count + 1) (vec_items v) × (c.feed_bytes.new.self.count ≡ self.count + length (items_of self.form whole))}
    (self.count + length whole) _ c.feed_bytes.result less
    (λ v fed before refused read.
    subst (λ form. Read m study form rest c.feed_bytes.new.self.count (before ++ c.args.bytes.now) (refused ++ vec_items v)) (sym c.feed_bytes.ensures.form)
    (read_more m self.study study self.form (vec_items self.held) self.count before refused c.feed_bytes.ensures.settings
    c.args.bytes.now all whole rest c.feed_bytes.new.self.count (vec_items v) c.in_ok-extend_from_slice.ensures.items joined ends left fed.0 fed.1 read))
    c.feed_bytes.ensures.through
