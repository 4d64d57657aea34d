use Rattle.std.proofs.Common.{◌≡◌, ℕ, ◌+◌, ◌<◌, List, [], ◌∷◌, ◌++◌, length, take, get_or, Option, Ok, sym, ap, ◌∙◌}
use Rattle.std.proofs.lemmas.List.{take_more}
use Rattle.std.proofs.Output.{displays_on_IsOk_append, displays_on_ok_of_eq}
use Rattle.std.specs.Fmt.{option_append, with_newline}
use Rattle.rendering.specs.Lines.{shown_lines}
use Rattle.rendering.proofs.Shown.{shown_more}
use Rattle.rendering.proofs.LinesDisplay.fmt.Goals as goal

line_more : {A : Type 0} (shown : A → Option (List ℕ)) (xs : List A) (i : ℕ) (x : A) → i < length xs → x ≡ get_or xs i x
    → option_append (shown_lines shown (take i xs)) (with_newline (shown x)) ≡ shown_lines shown (take (i + 1) xs)
line_more shown xs i x l e = sym (ap (shown_lines shown) (take_more xs i x l ∙ ap (λ y. take i xs ++ (y ∷ [])) (sym e)) ∙ shown_more shown (take i xs) x)

pub loop-line-preserved : goal.loop-line-preserved
loop-line-preserved g c =
    let took = g.W.Write.write_str_gives in
    let after = c.writeln.new.self in
    displays_on_ok_of_eq took c.args.f.now after (Ok tt) _ _ (line_more g.T.Display.output _ c.loop-line.line-index c.line-item.result c.loop-line-test.true c.line-item.is)
    (displays_on_IsOk_append took c.args.f.now c.loop-line.f after (Ok tt) (Ok tt) _ _ (λ ok. ok) c.loop-line.invariant c.in_ok-writeln.ensures.writes)
