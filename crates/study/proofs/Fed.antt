-- A feed whose source handed on a reference, and what is handed on of its answer.
use Rattle.std.proofs.Common.{◌≡◌, ℕ, ◌+◌, List, ◌∷◌, length, drop, Some, Ok, Err, Option, Result, sym, ap, ◌∙◌, subst, arith}
use Rattle.setmap.specs.Mapping.{Mapping}
use Rattle.trace.specs.Items.{Item, reference}
use Rattle.trace.specs.Next.{Given}
use Rattle.trace.specs.declared.Reference.{Reference}
use Rattle.trace.proofs.Nexts.{took}
use Rattle.trace.specs.declared.Fault.{Fault}
use Rattle.trace.specs.declared.Fed.{Fed}
use Rattle.trace.specs.declared.Fed.TheVariants.{Accepted, End}
use Rattle.tables.specs.declared.Settings.{Settings}
use Rattle.tables.specs.Tables.{Tables}
use Rattle.tables.specs.Calls.{Kept, fed_item, fed_first}
use Rattle.tables.specs.Bulk.{faulted}
use Rattle.study.specs.Steps.{HandedOn}

module _ (items after : List Item) (n n' : ℕ) (r : Reference) (y : Option Reference) (is : y ≡ Some r) (given : Given items n (Ok y) after n') where
  came : (items ≡ reference r ∷ after) × (n' ≡ n + 1)
  came = took items after n n' r (subst (λ x. Given items n (Ok x) after n') is given)

  pub fed_reference : (m : Mapping) (s : Settings) (kept : Kept) (t : Tables) (k : ℕ) → k ≡ n' → fed_item m s kept t (reference r) k ≡ fed_first m s kept t items n
  fed_reference m s kept t k e = ap (fed_item m s kept t (reference r)) (e ∙ came.1) ∙ sym (ap (λ xs. fed_first m s kept t xs n) came.0)

  pub used_one : after ≡ drop 1 items
  used_one = sym (ap (drop 1) came.0)

  pub counted_one : n' + length after ≡ n + length items
  counted_one = omega (arith, ap length came.0, came.1)

-- what is handed on tells the answer
pub handed_on : (fs fs' : List Fault) (a : Result Fed Fault) (x : Fed) → x ≡ Accepted → HandedOn fs a (Ok x) fs' → (a ≡ Ok End → ⊥) × (fs' ≡ faulted fs a)
handed_on fs fs' (Ok y) x e h = (λ z. let d : Accepted ≡ End = cc in cc, h.1)
handed_on fs fs' (Err f) x e h = (λ z. cc, h.1)

pub handed_back : (fs fs' : List Fault) (a : Result Fed Fault) (g : Fault) → HandedOn fs a (Err g) fs' → (a ≡ Err g) × (fs' ≡ fs)
handed_back fs fs' (Ok y) g h = cc
handed_back fs fs' (Err f) g h = (ap Err (sym h.0), h.1)
