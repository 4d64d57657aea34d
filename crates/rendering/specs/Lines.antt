-- The lines of a report, as bytes: 44 is a comma, 10 a line feed.
use Rattle.std.specs.Prelude.{ℕ, List, [], ◌∷◌, ◌++◌, Some, decimal, Option}
use Rattle.std.specs.Fmt.{option_append, with_newline}
use Rattle.std.specs.List.{flat_map}

-- the numbers in decimal digits, each after a comma
abbrev pub after_commas : List ℕ → List ℕ
after_commas ns = flat_map (λ n. 44 ∷ decimal n) ns

-- the numbers with a comma between each two
abbrev pub joined : List ℕ → List ℕ
joined [] = []
joined (n ∷ ns) = decimal n ++ after_commas ns

abbrev pub titled : List ℕ → List ℕ → List ℕ
titled title ns = title ++ after_commas ns

-- the bytes as a line
abbrev pub ended : List ℕ → List ℕ
ended bs = bs ++ (10 ∷ [])

abbrev pub line_text : List ℕ → List ℕ
line_text ns = ended (joined ns)

abbrev pub titled_text : List ℕ → List ℕ → List ℕ
titled_text title ns = ended (titled title ns)

abbrev pub heading_text : List ℕ → List ℕ
heading_text heading = ended heading

-- values as lines, where each shows a text
abbrev pub shown_lines : {A : Type 0} → (A → Option (List ℕ)) → List A → Option (List ℕ)
shown_lines shown [] = Some []
shown_lines shown (x ∷ xs) = option_append (with_newline (shown x)) (shown_lines shown xs)
