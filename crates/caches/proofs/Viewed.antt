-- The figures of a level are sums over its sets of figures that the view of a set tells.
use Rattle.std.proofs.Common.{◌≡◌, ℕ, ◌+◌, ◌<◌, Bool, true, false, cond, not, ◌&&◌, ◌||◌, eqb, List, [], ◌∷◌, sym, refl, ap, ◌∙◌, ap₂, inl, inr, arith}
use Rattle.std.proofs.lemmas.Bool.{cases_eq, eq-eqb, ne_eqb, eqb-false}
use Rattle.setmap.specs.Mapping.{Mapping}
use Rattle.trace.specs.Items.{same, writes}
use Rattle.trace.specs.declared.Block.{Block}
use Rattle.trace.proofs.Blocks.{same_equal}
use Rattle.caches.specs.declared.Figures.{Figures}
use Rattle.caches.specs.Caches.{Access, History, own, others_write, among, without, used, listed, holding, tally, figures, Past, never, held, lost, past, is_never, is_lost}
use Rattle.caches.specs.Views.{Seen, view, sum_to, over_sets, ViewsTell, ViewsDecide}
use Rattle.caches.proofs.Counting.{sum_none, sum_one}
use Rattle.caches.proofs.Used.{without_absent}
use Rattle.caches.proofs.Listed.{listed_in}

-- ---- what a view tells: the list of the set, the past of a block, and the figures

abbrev seen_list : ℕ → List Seen → List Block
seen_list ways [] = []
seen_list ways (x ∷ v) = cond x.by_own (used ways x.block (seen_list ways v)) (without x.block (seen_list ways v))

abbrev seen_past : Block → List Seen → Past
seen_past b [] = never
seen_past b (x ∷ v) = cond (same x.block b) (cond x.by_own held (elim (seen_past b v) [ never ↦ never | held ↦ lost | lost ↦ lost ])) (seen_past b v)

abbrev seen_tally : (Seen → List Seen → Bool) → List Seen → ℕ
seen_tally test [] = 0
seen_tally test (x ∷ v) = seen_tally test v + cond (test x v) 1 0

abbrev pub told : ℕ → List Seen → Figures
told ways v =
    record {
      references = seen_tally (λ x _. x.by_own) v;
      hits = seen_tally (λ x before. x.by_own && among x.block (seen_list ways before)) v;
      drops = seen_tally (λ x before. not x.by_own && among x.block (seen_list ways before)) v;
      cold = seen_tally (λ x before. x.by_own && is_never (seen_past x.block before)) v;
      lost = seen_tally (λ x before. x.by_own && is_lost (seen_past x.block before)) v;
      replaced = seen_tally (λ x before. x.by_own && (not (among x.block (seen_list ways before)) && (not (is_never (seen_past x.block before)) && not (is_lost (seen_past x.block before))))) v;
    }

-- ---- a view tells what the history tells

at_cond : {X Y : Type 0} (f : X → Y) (t : Bool) (x y : X) → f (cond t x y) ≡ cond t (f x) (f y)
at_cond f true x y = refl
at_cond f false x y = refl

-- t: the block belongs to the set; o: the access is the processor's own; w: it writes
list_step : (t o w : Bool) (U W L : List Block) → (t ≡ false → W ≡ L) → cond o (cond t U L) (cond w W L) ≡ cond (t && (o || (not o && w))) (cond o U W) L
list_step t o w U W L e = grind arith

listed_seen : (m : Mapping) (p i ways s : ℕ) (h : History) → listed m p i ways s h ≡ seen_list ways (view m p i s h)
listed_seen m p i ways s [] = refl
listed_seen m p i ways s (a ∷ h) =
    let b = a.block in
    let v = view m p i s h in
    let L = listed m p i ways s h in
    let t = eqb (m.set i b.number) s in
    let seen = t && (own p a || others_write p a) in
    let o = listed_in m p i ways s h b in
    let absent : t ≡ false → without b L ≡ L = λ e. without_absent b L (let n = eqb-false (m.set i b.number) s e in grind arith) in
    list_step t (own p a) (writes a.operation) (used ways b L) (without b L) L absent
    ∙ ap (λ (l : List Block). cond seen (cond (own p a) (used ways b l) (without b l)) l) (listed_seen m p i ways s h)
    ∙ sym (at_cond (seen_list ways) seen (record { block = b; by_own = own p a } ∷ v) v)

-- c: the access is to the block whose past is asked
past_step : (c t o w : Bool) (x y : Past) → (c ≡ true → t ≡ true) → cond c (cond o held (cond w y x)) x ≡ cond (t && (o || (not o && w))) (cond c (cond o held y) x) x
past_step c t o w x y e = grind arith

past_seen : (m : Mapping) (p i : ℕ) (b : Block) (h : History) → past p b h ≡ seen_past b (view m p i (m.set i b.number) h)
past_seen m p i b [] = refl
past_seen m p i b (a ∷ h) =
    let s = m.set i b.number in
    let v = view m p i s h in
    let c = same a.block b in
    let t = eqb (m.set i a.block.number) s in
    let seen = t && (own p a || others_write p a) in
    let here : c ≡ true → t ≡ true = λ e. eq-eqb (m.set i a.block.number) s (ap (λ (d : Block). m.set i d.number) (same_equal a.block b e)) in
    past_step c t (own p a) (writes a.operation) (past p b h) (elim (past p b h) [ never ↦ never | held ↦ lost | lost ↦ lost ]) here
    ∙ ap (λ (x : Past). cond seen (cond c (cond (own p a) held (elim x [ never ↦ never | held ↦ lost | lost ↦ lost ])) x) x) (past_seen m p i b h)
    ∙ sym (at_cond (seen_past b) seen (record { block = a.block; by_own = own p a } ∷ v) v)

-- ---- tallies, and so figures, over the sets

tally_step : (test : Seen → List Seen → Bool) (t o : Bool) (x : Seen) (v : List Seen)
    → seen_tally test (cond (t && o) (x ∷ v) v) ≡ seen_tally test v + cond t (cond (o && test x v) 1 0) 0
tally_step test true true x v = refl
tally_step test true false x v = omega arith
tally_step test false o x v = omega arith

module _ (m : Mapping) (p i N : ℕ) (inside : (b : ℕ) → m.set i b < N) where
  abbrev seen_of : Access → Seen
  seen_of a = record { block = a.block; by_own = own p a }

  abbrev before_it : Access → History → List Seen
  before_it a h = view m p i (m.set i a.block.number) h

  tally-sum : (T : Access → History → Bool) (test : Seen → List Seen → Bool)
      → ((a : Access) (before : History) → T a before ≡ ((own p a || others_write p a) && test (seen_of a) (before_it a before)))
      → (h : History) → tally T h ≡ sum_to N (λ s. seen_tally test (view m p i s h))
  tally-sum T test e [] = sum_none N
  tally-sum T test e (a ∷ h) =
      let j = m.set i a.block.number in
      let o = own p a || others_write p a in
      let f : ℕ → ℕ = λ s. seen_tally test (view m p i s h) in
      let c : ℕ → ℕ = λ s. cond (o && test (seen_of a) (view m p i s h)) 1 0 in
      let k : (s : ℕ) → seen_tally test (view m p i s (a ∷ h)) ≡ f s + cond (eqb j s) (c j) 0 = λ s. tally_step test (eqb j s) o (seen_of a) (view m p i s h) ∙ at_set s j (f s) c in
      omega (arith, tally-sum T test e h, ap {B = ℕ} (λ z. cond z 1 0) (e a h), sum_one N j (c j) f (λ s. seen_tally test (view m p i s (a ∷ h))) k (inside a.block.number))
    where
      at_set : (s j n : ℕ) (c : ℕ → ℕ) → n + cond (eqb j s) (c s) 0 ≡ n + cond (eqb j s) (c j) 0
      at_set s j n c = elim (cases_eq j s) [ inl z ↦ rw z | inr z ↦ rw (ne_eqb j s z) ]

  -- tests of the processor's own references, and of the others' writes
  module _ (T : Block → History → Bool) (test : Block → List Seen → Bool) (e : (a : Access) (before : History) → T a.block before ≡ test a.block (before_it a before)) where
    own_sum : (h : History) → tally (λ a before. own p a && T a.block before) h ≡ sum_to N (λ s. seen_tally (λ x v. x.by_own && test x.block v) (view m p i s h))
    own_sum = tally-sum _ (λ x v. x.by_own && test x.block v) (λ a before. ap (λ z. own p a && z) (e a before) ∙ seen (own p a) (writes a.operation) (test a.block (before_it a before)))
      where
        seen : (o w z : Bool) → (o && z) ≡ ((o || (not o && w)) && (o && z))
        seen o w z = grind arith

    others_sum : (h : History) → tally (λ a before. others_write p a && T a.block before) h ≡ sum_to N (λ s. seen_tally (λ x v. not x.by_own && test x.block v) (view m p i s h))
    others_sum = tally-sum _ (λ x v. not x.by_own && test x.block v) (λ a before. ap (λ z. others_write p a && z) (e a before) ∙ seen (own p a) (writes a.operation) (test a.block (before_it a before)))
      where
        seen : (o w z : Bool) → ((not o && w) && z) ≡ ((o || (not o && w)) && (not o && z))
        seen o w z = grind arith

  -- the figures of a level, from the views of its N sets
  pub figures-told : (ways : ℕ) (h : History) → figures m p i ways h ≡ over_sets N (λ s. told ways (view m p i s h))
  figures-told ways h =
      let here : (a : Access) (before : History) → holding m p i ways a.block before ≡ among a.block (seen_list ways (before_it a before)) = λ a before. ap (among a.block) (listed_seen m p i ways (m.set i a.block.number) before) in
      let been : (a : Access) (before : History) → past p a.block before ≡ seen_past a.block (before_it a before) = λ a before. past_seen m p i a.block before in
      λ x. record {
        references = tally-sum (λ a _. own p a) (λ y _. y.by_own) (λ a _. seen (own p a) (writes a.operation)) h x;
        hits = own_sum (λ b before. holding m p i ways b before) (λ b v. among b (seen_list ways v)) here h x;
        drops = others_sum (λ b before. holding m p i ways b before) (λ b v. among b (seen_list ways v)) here h x;
        cold = own_sum (λ b before. is_never (past p b before)) (λ b v. is_never (seen_past b v)) (λ a before. ap is_never (been a before)) h x;
        lost = own_sum (λ b before. is_lost (past p b before)) (λ b v. is_lost (seen_past b v)) (λ a before. ap is_lost (been a before)) h x;
        replaced = own_sum
            (λ b before. not (holding m p i ways b before) && (not (is_never (past p b before)) && not (is_lost (past p b before))))
            (λ b v. not (among b (seen_list ways v)) && (not (is_never (seen_past b v)) && not (is_lost (seen_past b v))))
            (λ a before. ap₂ (λ y z. not y && (not (is_never z) && not (is_lost z))) (here a before) (been a before)) h x;
      }
    where
      seen : (o w : Bool) → o ≡ ((o || (not o && w)) && o)
      seen o w = grind arith

pub views_tell : ViewsTell
views_tell = (told, λ m law p i ways h l. figures-told m p i (m.sets i) (λ b. law.within i b l) ways h)

pub views_decide : ViewsDecide
views_decide m n law law' p q i j ways g h l l' e =
    let N = m.sets i + n.sets j in
    figures-told m p i N (λ b. omega (arith, law.within i b l)) ways g
    ∙ ap (λ (v : ℕ → List Seen). over_sets N (λ s. told ways (v s))) (λ x s. e s x)
    ∙ sym (figures-told n q j N (λ b. omega (arith, law'.within j b l')) ways h)
