-- An input that is read, and one with a first line.
use Rattle.std.proofs.Common.{◌≡◌, ℕ, ◌<◌, ◌≤◌, ltb, List, [], ◌∷◌, length, take, IfSome, Some, None, Ok, Option, refl, ap, ◌∙◌, arith}
use Rattle.std.proofs.lemmas.Bool.{cond-false, le-ltb}
use Rattle.std.specs.Option.{option_map}
use Rattle.trace.specs.Text.{pieces}
use Rattle.text.proofs.Counting.{some_piece}
use Rattle.report.specs.Inputs.{first_line_of, input_lines}

pub read_most : (known : Option (List ℕ)) (n : ℕ) (input : List ℕ) → IfSome (option_map (take n) known) (λ bytes. input ≡ bytes) → IfSome known (λ bytes. input ≡ take n bytes)
read_most None n input read = tt
read_most (Some bytes) n input read = read

line_more : (l : List ℕ) (ls : List (List ℕ)) → 0 < length ls → first_line_of (l ∷ ls) ≡ Ok (l, ls)
line_more l [] h = absurd (omega arith)
line_more [] (next ∷ ls) h = refl
line_more (b ∷ bs) (next ∷ ls) h = refl

pub input_parted : (input line rest : List ℕ) → length input ≤ 65536 → pieces 10 input ≡ line ∷ pieces 10 rest → input_lines input ≡ Ok (line, pieces 10 rest)
input_parted input line rest l e =
    cond-false (ltb 65536 (length input)) _ _ (le-ltb 65536 (length input) l) ∙ ap first_line_of e ∙ line_more line (pieces 10 rest) (some_piece 10 rest)
