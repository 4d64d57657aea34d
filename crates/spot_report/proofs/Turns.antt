-- A turn of the loop that feeds a trace.
use Rattle.std.proofs.Common.{◌≡◌, ℕ, ◌+◌, ◌-◌, ◌^◌, ◌<◌, ◌≤◌, false, List, [], ◌∷◌, ◌++◌, length, drop, Ok, Err, Result, refl, ap, arith}
use Rattle.setmap.specs.Mapping.{Mapping}
use Rattle.trace.specs.Items.{Item, reference, bad}
use Rattle.trace.specs.declared.Fault.{Fault}
use Rattle.caches.specs.Caches.{History}
use Rattle.single.specs.declared.Settings.{Settings}
use Rattle.single.specs.Calls.{Tables, short}
use Rattle.report.specs.declared.RefusedLine.{RefusedLine}
use Rattle.trace.specs.declared.Fed.{Fed}
use Rattle.trace.specs.declared.Fed.TheVariants.{Accepted, End}
use Rattle.report.specs.Refused.{refused_line}
use Rattle.spot_report.specs.Steps.{fed_answer, fed_accepted, fed_tables, Standing, FedOne, Reached}
use Rattle.spot_report.proofs.Underway.{Underway, underway_end, underway_accepted, underway_fault}

-- a feed that is not at the end took an item
some_accepted : (s : Settings) (items : List Item) (n : ℕ) → Ok Accepted ≡ fed_answer s items n → length (drop 1 items) + 1 ≡ length items
some_accepted s [] n e = cc
some_accepted s (x ∷ items) n e = omega arith

some_fault : (s : Settings) (items : List Item) (n : ℕ) (f : Fault) → Err f ≡ fed_answer s items n → length (drop 1 items) + 1 ≡ length items
some_fault s [] n f e = cc
some_fault s (x ∷ items) n f e = omega arith

one_more : (s : Settings) (items : List Item) (k : ℕ) → fed_accepted s items k ≤ k + 1
one_more s [] k = omega arith
one_more s (bad x ∷ items) k = omega arith
one_more s (reference r ∷ items) k = let z : k ≤ k + 1 = omega arith in grind arith

-- an answer that is known, and the map and the settings that a cache has kept
pub fed_under : {m m₁ : Mapping} {s s₁ : Settings} {b a : Standing} {r r₁ : Result Fed Fault} → m₁ ≡ m → s₁ ≡ s → r₁ ≡ r → FedOne m₁ s₁ b r₁ a → FedOne m s b r a
fed_under em es er f = rw (em, es, er) at f

module _ (m : Mapping) (s : Settings) (b a : Standing) (t₀ : Tables) (H : History) (R refused : List RefusedLine) where
  abbrev Before : Type 0
  Before = Underway m s t₀ H R b.items (b.answered + 1) b.accepted b.tables refused

  abbrev After : List RefusedLine → Type 0
  After refused' = Underway m s t₀ H R a.items (a.answered + 1) a.accepted a.tables refused'

  moved : (r : Result Fed Fault) → FedOne m s b r a → length (drop 1 b.items) + 1 ≡ length b.items → (refused' : List RefusedLine)
      → Underway m s t₀ H R (drop 1 b.items) ((b.answered + 1) + 1) (fed_accepted s b.items b.accepted) (fed_tables m s b.items b.tables) refused' → After refused'
  moved r f e refused' u =
      let line : a.answered + 1 ≡ (b.answered + 1) + 1 = omega (arith, f.answered, ap length f.items) in
      rw (line, f.items, f.tables, f.accepted) u

  pub turn_accepted : FedOne m s b (Ok Accepted) a → short m s b.tables ≡ false → b.accepted < 2 ^ 32 - 1 → Before → After refused
  turn_accepted f long small u =
      moved (Ok Accepted) f (some_accepted s b.items (b.answered + 1) f.told) refused
      (underway_accepted m s t₀ H R refused (b.answered + 1) b.accepted (b.answered + 1) b.tables b.items long small f.told u)

  pub turn_fault : (x : Fault) → FedOne m s b (Err x) a → Before → After (refused ++ (refused_line x.item x.refusal ∷ []))
  turn_fault x f u =
      moved (Err x) f (some_fault s b.items (b.answered + 1) x f.told) (refused ++ (refused_line x.item x.refusal ∷ []))
      (underway_fault m s t₀ H R refused (b.answered + 1) b.accepted (b.answered + 1) b.tables refl b.items x f.told u)

  pub turn_end : FedOne m s b (Ok End) a → Before → Reached m s t₀ H a.accepted a.tables × (refused ≡ R)
  turn_end f u = rw (f.tables, f.accepted) (underway_end m s t₀ H R refused (b.answered + 1) b.accepted (b.answered + 1) b.tables b.items f.told u)

-- room for the items to come
abbrev pub Room : Standing → Type 0
Room b = b.accepted + length b.items < 2 ^ 32 - 1

room_after : (m : Mapping) (s : Settings) (b a : Standing) (r : Result Fed Fault) → FedOne m s b r a → length (drop 1 b.items) + 1 ≡ length b.items → Room b → Room a
room_after m s b a r f e l = omega (arith, l, f.accepted, one_more s b.items b.accepted, ap length f.items)

pub room_accepted : (m : Mapping) (s : Settings) (b a : Standing) → FedOne m s b (Ok Accepted) a → Room b → Room a
room_accepted m s b a f = room_after m s b a (Ok Accepted) f (some_accepted s b.items (b.answered + 1) f.told)

pub room_fault : (m : Mapping) (s : Settings) (b a : Standing) (x : Fault) → FedOne m s b (Err x) a → Room b → Room a
room_fault m s b a x f = room_after m s b a (Err x) f (some_fault s b.items (b.answered + 1) x f.told)
