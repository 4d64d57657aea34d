-- What the sheets of a study say of a trace, in the words of the separate caches: no table and no stack is named here.
use Rattle.std.specs.Prelude.{ℕ, zero, suc, ◌+◌, ◌-◌, ◌^◌, cond, not, ◌&&◌, List, [], ◌∷◌, ◌++◌, length, Some, None, codes, Option, ◌==◌}
use Rattle.setmap.specs.Mapping.{Mapping}
use Rattle.trace.specs.Items.{Item, reference, bad, block_of}
use Rattle.trace.specs.Refusals.{outside}
use Rattle.trace.specs.declared.Fault.{Fault}
use Rattle.trace.specs.declared.Reference.{Reference}
use Rattle.trace.specs.declared.Refusal.{Refusal}
use Rattle.trace.specs.declared.Refusal.TheVariants.{Processor, Blocks, References}
use Rattle.caches.specs.Caches.{History, among, figures}
use Rattle.stack_theory.specs.Stacks.{met}
use Rattle.tables.specs.declared.Settings.{Settings}
use Rattle.theory.specs.Runs.{access}
use Rattle.rendering.specs.Lines.{joined}
use Rattle.report.specs.Refused.{refused_line, Reading, refused_too}
use Rattle.report.specs.declared.RefusedLine.{RefusedLine}
use Rattle.sheets.specs.declared.Row.{Row}

-- why a reference is refused after the accepted ones, if it is: a reference too many, its processor, or a block too many
abbrev pub verdict : Settings → History → Reference → Option Refusal
verdict s h r =
    cond (length h == 2 ^ 32 - 1) (Some References)
    (cond (outside 1 s.processors r.processor) (Some Processor)
    (cond (not (among (block_of s.shift r.address) (met h)) && length (met h) == s.blocks) (Some Blocks) None))

-- a trace read to its end, from a line on and after some accepted references
abbrev pub reading : Settings → ℕ → List Item → History → Reading
reading s line [] h = record { refused = []; history = h }
reading s line (bad x ∷ items) h = refused_too (refused_line line x) (reading s (line + 1) items h)
reading s line (reference r ∷ items) h =
    elim (verdict s h r) [
      | None ↦ reading s (line + 1) items (access s r ∷ h)
      | Some x ↦ refused_too (refused_line line x) (reading s (line + 1) items h)
    ]

-- a fault by its item's number
abbrev pub fault_line : Fault → RefusedLine
fault_line f = refused_line f.item f.refusal

-- the lines of one processor and level for 1 to n ways, of one processor for the first n levels, and of the first n processors
abbrev pub row_of : Mapping → History → (p level ways : ℕ) → Row
row_of m h p i d = record { processor = p; level = i; sets = m.sets i; ways = d; figures = figures m p i d h }

abbrev pub ways_rows : Mapping → History → (p level n : ℕ) → List Row
ways_rows m h p i zero = []
ways_rows m h p i (suc d) = ways_rows m h p i d ++ (row_of m h p i (suc d) ∷ [])

abbrev pub level_rows : Mapping → History → (p ways n : ℕ) → List Row
level_rows m h p w zero = []
level_rows m h p w (suc i) = level_rows m h p w i ++ ways_rows m h p i w

abbrev pub rows : Mapping → History → (levels ways n : ℕ) → List Row
rows m h l w zero = []
rows m h l w (suc p) = rows m h l w p ++ level_rows m h (suc p) w l

-- ---- the text of a sheet

abbrev pub row_numbers : Row → List ℕ
row_numbers x =
    let f = x.figures in
    x.processor ∷ (x.level ∷ (x.sets ∷ (x.ways ∷ (f.references ∷ (f.hits ∷ (f.drops ∷ (f.cold ∷ (f.lost ∷ (f.replaced ∷ [])))))))))

-- what is written of a row, without its line feed
abbrev pub row_shown : Row → List ℕ
row_shown x = joined (row_numbers x)

abbrev pub heading : List ℕ
heading = codes "processor,level,sets,ways,references,hits,drops,cold,lost,replaced"
