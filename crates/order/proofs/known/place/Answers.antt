use Rattle.std.proofs.Common.{rules, ◌≡◌, ◌*◌, ◌/◌, length, drop, ap, ◌∙◌, arith}
use borrow.Author.Tests.{tests}
use Rattle.std.proofs.lemmas.List.{take_rest}
use Rattle.std.proofs.lemmas.Iterator.{YieldsList-from_slice}
use Rattle.std.proofs.lemmas.Iterator.Search.{position_from_yields_List}
use Rattle.caches.specs.Caches.{among}
use Rattle.trace.specs.Items.{same}
use Rattle.order.proofs.Blocks.{passed, passed_within, chunks_passed, place_behind}
use Rattle.order.proofs.known.place.Goals as goal

pub returns : goal.returns
returns c =
    let q = c.args.q in
    let xs = c.args.blocks.now in
    let n = length xs / 16 in
    let k = passed q 16 n xs * 16 in
    let at = position_from_yields_List (among q) _ _ c.position-hit.result c.position-hit.ensures.ran (YieldsList-from_slice c.as_chunks.result.0.now cc) (λ x b f k. search (rules, tests)) in
    let w = passed_within q 16 n xs in
    let b = place_behind q k xs (omega arith) (chunks_passed q 16 n xs (omega arith)) in
    let e : 16 * c.unwrap_or.result ≡ k = grind arith in
    let t = position_from_yields_List (λ b. same b q) _ _ c.position.result c.position.ensures.ran (YieldsList-from_slice (drop k xs) (c.iter-2.ensures.rest ∙ take_rest xs (16 * c.unwrap_or.result) ∙ ap (λ j. drop j xs) e)) (λ x b f k. search (rules, tests)) in
    search (rules, b, e, t)
