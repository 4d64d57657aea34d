-- What the stack's work on a processor's stretch does to the whole table of entries.
use Rattle.std.proofs.Common.{◌≡◌, ℕ, ◌+◌, ◌≤◌, List, ◌++◌, length, take, drop, Some, None, Option, ap, ◌∙◌, subst, arith}
use borrow.Rule.Slice.PartMut.{put_mid}
use Rattle.std.proofs.lemmas.List.{take-append-drop}
use Rattle.std.proofs.lemmas.Bool.{cond-true, cond-false, leb-true, leb-false, lt-ltb, le-ltb}
use Rattle.places.specs.Parts.{part, put, start}
use Rattle.places.proofs.Portions.{part_is, length_part}
use Rattle.setmap.specs.Mapping.{Mapping}
use Rattle.trace.specs.declared.Block.{Block}
use Rattle.stack.specs.declared.Entry.{Entry}
use Rattle.stack.specs.declared.walk.Walk.{Walk}
use Rattle.stack.specs.Stack.{stack, touched, restack}
use Rattle.stack.specs.Touch.{has_room, after, Answered}
use Rattle.stack.specs.Walk.{Walked}
use Rattle.tables.specs.declared.Settings.{Settings}
use Rattle.study.specs.Steps.{own_part, with_part, Touched}

-- a part put back as it was
kept_part : (a k : ℕ) (es : List Entry) → put_mid a k es (take k (drop a es)) ≡ es
kept_part a k es = ap (λ ys. take a es ++ ys) (take-append-drop k (drop a es)) ∙ take-append-drop a es

module _ (m : Mapping) (s : Settings) (p : ℕ) (q : Block) (es : List Entry) (at k : ℕ) (e : at ≡ start s.entries p) (z : k ≡ s.entries) where
  abbrev lent : List Entry
  lent = take k (drop at es)

  pub lent_is : lent ≡ own_part s p es
  lent_is = ap (λ i. take i (drop at es)) z ∙ ap (λ i. take s.entries (drop i es)) e

  pub changed : (f : List Entry → List Entry) (ys : List Entry) → ys ≡ f lent → put_mid at k es ys ≡ with_part s p (f (own_part s p es)) es
  changed f ys y = part_is at s.entries k f es ys z y ∙ ap (λ i. put i s.entries (f (part i s.entries es)) es) e

  module _ (room : at + s.entries ≤ length es) (ys : List Entry) (y : ys ≡ after m q lent) where
    long : length lent ≡ s.entries
    long = ap length lent_is ∙ length_part (start s.entries p) s.entries es (omega (arith, e))

    grown : length (touched m q (stack lent)) ≡ length (touched m q (stack (own_part s p es)))
    grown = ap (λ xs. length (touched m q (stack xs))) lent_is

    pub touched_is : (r : Option Walk) → Answered m q lent r → Touched m s p q es r (put_mid at k es ys)
    touched_is None a = (
      lt-ltb s.entries _ (omega (arith, leb-false (length (touched m q (stack lent))) (length lent) a, long, grown)),
      ap (put_mid at k es) (y ∙ cond-false (has_room m q lent) _ _ a) ∙ kept_part at k es,
    )
    touched_is (Some w) a = (
      le-ltb s.entries _ (omega (arith, leb-true (length (touched m q (stack lent))) (length lent) a.0, long, grown)),
      subst (λ xs. Walked m q xs w) lent_is a.1,
      changed (λ xs. restack (touched m q (stack xs)) xs) ys (y ∙ cond-true (has_room m q lent) _ _ a.0),
    )
