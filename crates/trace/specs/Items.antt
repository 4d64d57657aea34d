-- Blocks, operations and the items of a trace, and the number of each refusal.
use Rattle.std.specs.Prelude.{ℕ, ◌/◌, ◌^◌, Bool, true, false, ◌==◌}
use Rattle.trace.specs.declared.Block.{Block}
use Rattle.trace.specs.declared.Operation.{Operation}
use Rattle.trace.specs.declared.Operation.TheVariants.{Read, Write, Fetch}
use Rattle.trace.specs.declared.Reference.{Reference}
use Rattle.trace.specs.declared.Refusal.{Refusal}
use Rattle.trace.specs.declared.Refusal.TheVariants.{Setting, Level, ShortTable, Processor, Blocks, Entries, References, Question, Form, Size, CutOff, Input}

-- the one equality of blocks
abbrev pub same : Block → Block → Bool
same a b = a.number == b.number

-- the block of an address, where a block has 2^shift addresses
abbrev pub block_of : (shift address : ℕ) → Block
block_of shift address = record { number = address / 2 ^ shift }

-- a fetch counts as a read
abbrev pub writes : Operation → Bool
writes Read = false
writes Write = true
writes Fetch = false

abbrev pub number_of : Refusal → ℕ
number_of Setting = 1
number_of Level = 2
number_of ShortTable = 3
number_of Processor = 4
number_of Blocks = 5
number_of Entries = 6
number_of References = 7
number_of Question = 8
number_of Form = 9
number_of Size = 10
number_of CutOff = 11
number_of Input = 12

-- one item of a trace: a reference, or the refusal of the piece that stood there
pub data Item : Type 0 where
  reference : Reference → Item
  bad : Refusal → Item
