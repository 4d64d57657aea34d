-- Parts of a table: where they begin, what stands in them, and the table with one of them put anew.
use Rattle.std.specs.Prelude.{ℕ, ◌+◌, ◌-◌, ◌*◌, ◌^◌, min, List, ◌++◌, take, drop, slice_index, slice_set}

-- the part of a table from place a on, n long, and the table with that part put anew
abbrev pub part : {A : Type 0} → ℕ → ℕ → List A → List A
part a n xs = take n (drop a xs)

abbrev pub put : {A : Type 0} → ℕ → ℕ → List A → List A → List A
put a n ys xs = take a xs ++ (ys ++ drop (a + n) xs)

-- the place where the n-long part of processor p begins; processors are counted from 1
abbrev pub start : ℕ → ℕ → ℕ
start n p = (p - 1) * n

-- one more at a counter, but never past the largest number of 32 bits
abbrev pub more : ℕ → List ℕ → List ℕ
more i cs = slice_set cs i (min (slice_index cs i + 1) (2 ^ 32 - 1))
