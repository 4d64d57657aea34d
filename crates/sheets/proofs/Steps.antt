-- The steps of a study with tables of its own: set-up and bulk feeds.
use Rattle.std.proofs.Common.{◌≡◌, ℕ, ◌+◌, ◌*◌, ◌≤◌, true, List, [], length, Some, None, Ok, vec_items, vec_len, sym, refl, ap, ◌∙◌, subst}
use Rattle.std.specs.Vec.{with_items}
use Rattle.std.proofs.lemmas.List.{with_items_is}
use Rattle.setmap.specs.Mapping.{Mapping, Lawful}
use Rattle.trace.specs.Items.{Item}
use Rattle.trace.specs.declared.Block.{Block}
use Rattle.trace.specs.declared.Fault.{Fault}
use Rattle.caches.specs.Caches.{History}
use Rattle.stack.specs.declared.Entry.{Entry}
use Rattle.theory.specs.Runs.{World}
use Rattle.tables.specs.declared.Mark.{Mark}
use Rattle.tables.specs.declared.Settings.{Settings}
use Rattle.tables.specs.Tables.{Tables, tables_of, cleared}
use Rattle.tables.specs.Calls.{Kept, set_up_refusal}
use Rattle.tables.specs.Bulk.{standing_of, FedThrough}
use Rattle.sheets.specs.declared.owned.OwnTables.{OwnTables}
use Rattle.sheets.specs.Steps.{lists_of, Reached}
use Rattle.sheets.proofs.Feeds.{fed_count, Led, led}

-- the tables with new lists lent back
pub lists_back : (t : OwnTables) (es : List Entry) (ks : List Block) (ms : List Mark) (cs : List ℕ)
    → length es ≡ vec_len t.entries → length ks ≡ vec_len t.known → length ms ≡ vec_len t.marks → length cs ≡ vec_len t.counters
    → lists_of (record { entries = with_items t.entries es; known = with_items t.known ks; marks = with_items t.marks ms; counters = with_items t.counters cs }) ≡ tables_of es ks ms cs
lists_back t es ks ms cs a b c d = rw (with_items_is t.entries es a, with_items_is t.known ks b, with_items_is t.marks ms c, with_items_is t.counters cs d) refl

-- the same, where the known blocks stayed
pub lists_cleared : (t : OwnTables) (es : List Entry) (ms : List Mark) (cs : List ℕ)
    → length es ≡ vec_len t.entries → length ms ≡ vec_len t.marks → length cs ≡ vec_len t.counters
    → lists_of (record { entries = with_items t.entries es; known = t.known; marks = with_items t.marks ms; counters = with_items t.counters cs }) ≡ tables_of es (vec_items t.known) ms cs
lists_cleared t es ms cs a c d = rw (with_items_is t.entries es a, with_items_is t.marks ms c, with_items_is t.counters cs d) refl

-- ---- a set-up

-- a set-up is where a list of calls begins
pub begun : (m : Mapping) (s : Settings) (t u : Tables) (kept : Kept) → set_up_refusal m s t ≡ None → kept ≡ record { known = 0; accepted = 0 } → u ≡ cleared s t → Reached m s t [] kept u
begun m s t u kept e ek eu =
    let world : World = record { history = []; said = []; still_open = true; kept = record { known = 0; accepted = 0 }; tables = cleared s t } in
    ([], [], rw (ek, eu) (ap (λ x. elim x [ None ↦ Some world | Some n ↦ None ]) e))

-- ---- a bulk feed to the end

module _ (m : Mapping) (s : Settings) (kept kept' : Kept) (t t' : Tables) (items items' : List Item) (n n' : ℕ) (fs : List Fault)
    (through : FedThrough m s (standing_of kept t items n []) (standing_of kept' t' items' n' fs) (Ok tt)) where
  pub all_answered : n' ≡ n + length items
  all_answered = ap (λ z. z.answered) through.1 ∙ fed_count m s kept t items [] n []

  module _ (law : Lawful m) (wide : s.levels * s.blocks ≤ s.entries) (h : History) (t₀ : Tables) (reached : Reached m s t₀ h kept t) where
    pub leads : Led m law s wide t₀ items h n [] (standing_of kept' t' items' n' fs)
    leads = subst (Led m law s wide t₀ items h n []) (sym through.1) (led m law s wide t₀ items h kept t n [] reached through.0)
