use Rattle.std.proofs.Common.{◌≡◌, ◌≢◌, ℕ, ◌+◌, ◌<◌, ◌≤◌, length, get_or, Option, Some, None, sym, refl, ◌∙◌, rules}
use Rattle.cutting.proofs.Lines.{no_lines, lines_to}
use Rattle.cutting.proofs.whole_lines.Goals as goal

either : {A : Type 0} (r : Option ℕ) → ((i : ℕ) → r ≡ Some i → A) → (r ≡ None → A) → A
either (Some i) some none = some i refl
either None some none = none refl

pub returns-clause-value : goal.returns-clause-value
returns-clause-value c =
    let bytes = c.args.bytes.now in
    let inside : (i : ℕ) → c.rposition.result ≡ Some i → i < length bytes = λ i e. search rules in
    let here : (i : ℕ) → c.rposition.result ≡ Some i → get_or bytes i 0 ≡ 10 = λ i e. search rules in
    let after : (i : ℕ) → c.rposition.result ≡ Some i → (k : ℕ) → i + 1 ≤ k → k < length bytes → get_or bytes k 0 ≢ 10 = λ i e k l h. search rules in
    let none : c.rposition.result ≡ None → (k : ℕ) → k < length bytes → get_or bytes k 0 ≢ 10 = λ e k h. search rules in
    let more : (i : ℕ) → c.rposition.result ≡ Some i → c.map_or.result ≡ i + 1 = λ i e. search rules in
    let zero : c.rposition.result ≡ None → c.map_or.result ≡ 0 = λ e. search rules in
    either c.rposition.result
    (λ i e. more i e ∙ sym (lines_to bytes i (inside i e) (here i e) (after i e)))
    (λ e. zero e ∙ sym (no_lines bytes (none e)))
