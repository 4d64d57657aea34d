-- One processor's caches after a history, and what each kind of access makes of them.
use Rattle.std.proofs.Common.{◌≡◌, ℕ, ◌+◌, ◌-◌, ◌^◌, ◌<◌, ◌≤◌, Bool, true, false, cond, ◌&&◌, List, ◌∷◌, length, get_or, Option, sym, refl, ap, ◌∙◌, inl, inr, arith}
use Rattle.std.proofs.lemmas.Bool.{cases_eq}
use Rattle.places.specs.Parts.{part, put, start, more}
use Rattle.places.proofs.Portions.{part_in, length_more, more_at, more_out}
use Rattle.setmap.specs.Mapping.{Mapping}
use Rattle.trace.specs.Items.{writes}
use Rattle.trace.specs.declared.Block.{Block}
use Rattle.caches.specs.Caches.{Access, History, among, without, used, own, others_write, listed, holding, figures}
use Rattle.caches.proofs.Used.{without-short, used-short}
use Rattle.caches.proofs.Listed.{listed-short, listed_own, listed_own_elsewhere, listed_write, listed_write_elsewhere, listed_read}
use Rattle.caches.proofs.Tallies.{tally-short}
use Rattle.single.specs.declared.Settings.{Settings}
use Rattle.single.specs.Calls.{Tables, level_in, set_of, set_start, references_at, hits_at, drops_at, list_of, relisted, own_reference, others_write_to}
use Rattle.single.proofs.Padded.{padded, list_padded, length-padded, relisted-padded}
use Rattle.single.specs.Limits.{Long}
use Rattle.single.proofs.Apart.{Alike, put_there, put_elsewhere, put-length, more_if_length, more_if_at, more_if_out, counters_apart}

-- every set's frames hold its list, and the counters the three figures
pub record Row (m : Mapping) (s : Settings) (p : ℕ) (h : History) (t : Tables) : Type 0 where
  pub sets : (k : ℕ) → k < m.sets (level_in m s) → part (set_start m s p k) s.ways t.frames ≡ padded s.ways (listed m p (level_in m s) s.ways k h)
  pub references : get_or t.counters (references_at p) 0 ≡ (figures m p (level_in m s) s.ways h).references
  pub hits : get_or t.counters (hits_at p) 0 ≡ (figures m p (level_in m s) s.ways h).hits
  pub drops : get_or t.counters (drops_at p) 0 ≡ (figures m p (level_in m s) s.ways h).drops

-- a row that a change elsewhere leaves
pub record Kept (m : Mapping) (s : Settings) (p : ℕ) (t u : Tables) : Type 0 where
  pub sets : (k : ℕ) → k < m.sets (level_in m s) → part (set_start m s p k) s.ways u.frames ≡ part (set_start m s p k) s.ways t.frames
  pub counters : (j : ℕ) → j < 3 → get_or u.counters (start 3 p + j) 0 ≡ get_or t.counters (start 3 p + j) 0

plus_zero : (cs : List ℕ) (n : ℕ) → get_or cs (n + 0) 0 ≡ get_or cs n 0
plus_zero cs n = let e : n + 0 ≡ n = omega arith in ap (λ k. get_or cs k 0) e

pub row_kept : (m : Mapping) (s : Settings) (p : ℕ) (h : History) (t u : Tables) → Kept m s p t u → Row m s p h t → Row m s p h u
row_kept m s p h t u k r =
    record {
      sets = λ j l. k.sets j l ∙ r.sets j l;
      references = sym (plus_zero u.counters (start 3 p)) ∙ k.counters 0 (omega arith) ∙ plus_zero t.counters (start 3 p) ∙ r.references;
      hits = k.counters 1 (omega arith) ∙ r.hits;
      drops = k.counters 2 (omega arith) ∙ r.drops;
    }

module _ (m : Mapping) (s : Settings) (t : Tables) (l : Long m s t) (p : ℕ) (lo : 1 ≤ p) (hi : p ≤ s.processors) (a : Access) (here : set_of m s a.block < m.sets (level_in m s)) where
  abbrev i : ℕ
  i = level_in m s

  abbrev q : Block
  q = a.block

  abbrev at : ℕ
  at = set_start m s p (set_of m s q)

  abbrev fs : List (Option Block)
  fs = part at s.ways t.frames

  counters_in : start 3 p + 3 ≤ length t.counters
  counters_in = omega (arith, part_in p s.processors 3 lo hi, l.counters)

  -- a change of the set's list to what `f` makes of it
  module _ (h : History) (r : Row m s p h t) (f : List Block → List Block) (short : length (f (listed m p i s.ways (set_of m s q) h)) ≤ s.ways) where
    abbrev L : List Block
    L = listed m p i s.ways (set_of m s q) h

    frames_are : fs ≡ padded s.ways L
    frames_are = r.sets (set_of m s q) here

    list_is : list_of fs ≡ L
    list_is = ap list_of frames_are ∙ list_padded s.ways L

    listed_is : among q (list_of fs) ≡ holding m p i s.ways q h
    listed_is = ap (among q) list_is

    new_frames : relisted (f (list_of fs)) fs ≡ padded s.ways (f L)
    new_frames =
        ap (λ bs. relisted (f bs) fs) list_is ∙ ap (relisted (f L)) frames_are
        ∙ relisted-padded s.ways L (f L) (listed-short m p i s.ways (set_of m s q) h) short

    new_size : length (relisted (f (list_of fs)) fs) ≡ s.ways
    new_size = ap length new_frames ∙ length-padded s.ways (f L) short

    -- the sets of the processor, where an access leaves the lists of other sets
    new_sets : (h' : History) → listed m p i s.ways (set_of m s q) h' ≡ f L
        → ((k : ℕ) → (set_of m s q ≡ k → ⊥) → listed m p i s.ways k h' ≡ listed m p i s.ways k h)
        → (k : ℕ) → k < m.sets i → part (set_start m s p k) s.ways (put at s.ways (relisted (f (list_of fs)) fs) t.frames) ≡ padded s.ways (listed m p i s.ways k h')
    new_sets h' e o k lk =
        let ys = relisted (f (list_of fs)) fs in
        elim (cases_eq (set_of m s q) k) [
          | inl x ↦ ap (λ j. part (set_start m s p j) s.ways (put at s.ways ys t.frames)) (sym x)
              ∙ put_there m s p (set_of m s q) lo hi here t.frames ys l.frames new_size ∙ new_frames ∙ ap (padded s.ways) (sym e)
              ∙ ap (λ j. padded s.ways (listed m p i s.ways j h')) x
          | inr n ↦ put_elsewhere m s p (set_of m s q) lo hi here t.frames ys l.frames new_size p k lo lk (λ _ x. n x) ∙ r.sets k lk ∙ ap (padded s.ways) (sym (o k n))
        ]

    kept_sets : (x k : ℕ) → 1 ≤ x → (p ≡ x → ⊥) → k < m.sets i
        → part (set_start m s x k) s.ways (put at s.ways (relisted (f (list_of fs)) fs) t.frames) ≡ part (set_start m s x k) s.ways t.frames
    kept_sets x k lx n lk = put_elsewhere m s p (set_of m s q) lo hi here t.frames (relisted (f (list_of fs)) fs) l.frames new_size x k lx lk (λ e _. n e)

    new_length : length (put at s.ways (relisted (f (list_of fs)) fs) t.frames) ≡ length t.frames
    new_length = put-length m s p (set_of m s q) lo hi here t.frames (relisted (f (list_of fs)) fs) l.frames new_size

  -- ---- an own reference

  module _ (h : History) (few : length h < 2 ^ 32 - 1) (r : Row m s p h t) (o : own p a ≡ true) where
    used_fits : length (used s.ways q (listed m p i s.ways (set_of m s q) h)) ≤ s.ways
    used_fits = used-short s.ways q (listed m p i s.ways (set_of m s q) h) (listed-short m p i s.ways (set_of m s q) h)

    abbrev hit : Bool
    hit = among q (list_of fs)

    pub row_own : Row m s p (a ∷ h) (own_reference m s p q t)
    row_own =
        let c = t.counters in
        let c₁ = more (references_at p) c in
        let n₁ = length_more (references_at p) c in
        let n = holding m p i s.ways q h in
        let e : ◌≡◌ {A = ℕ} (cond hit 1 0) (cond n 1 0) = ap {B = ℕ} (λ b. cond b 1 0) (listed_is h r (used s.ways q) used_fits) in
        let d₁ : get_or c₁ (hits_at p) 0 ≡ get_or c (hits_at p) 0 = more_out (references_at p) (hits_at p) c (λ x. omega arith) in
        record {
          sets = new_sets h r (used s.ways q) used_fits (a ∷ h) (listed_own m p i s.ways (set_of m s q) a h o refl) (λ k x. listed_own_elsewhere m p i s.ways k a h o x);
          references =
              more_if_out hit (hits_at p) (references_at p) c₁ (λ x. omega arith)
              ∙ more_at (references_at p) c (omega (arith, counters_in)) (omega (arith, r.references, tally-short (λ b _. own p b) h))
              ∙ rw o (omega (arith, r.references));
          hits =
              more_if_at hit (hits_at p) c₁ (omega (arith, counters_in)) (omega (arith, r.hits, tally-short (λ b before. own p b && holding m p i s.ways b.block before) h))
              ∙ rw o (omega (arith, r.hits));
          drops =
              more_if_out hit (hits_at p) (drops_at p) c₁ (λ x. omega arith) ∙ more_out (references_at p) (drops_at p) c (λ x. omega arith)
              ∙ rw o (omega (arith, r.drops));
        }

    pub own_kept : (x : ℕ) → 1 ≤ x → (p ≡ x → ⊥) → Kept m s x t (own_reference m s p q t)
    own_kept x lx n =
        let c₁ = more (references_at p) t.counters in
        let z : start 3 p + 0 ≡ start 3 p = omega arith in
        record {
          sets = λ k lk. kept_sets h r (used s.ways q) used_fits x k lx n lk;
          counters = λ j lj. more_if_out hit (hits_at p) (start 3 x + j) c₁ (counters_apart p x 1 j lo lx n (omega arith) lj)
              ∙ more_out (references_at p) (start 3 x + j) t.counters (λ e. counters_apart p x 0 j lo lx n (omega arith) lj (e ∙ sym z));
        }

    pub own_alike : Alike t (own_reference m s p q t)
    own_alike =
        record {
          frames = new_length h r (used s.ways q) used_fits;
          counters = more_if_length hit (hits_at p) (more (references_at p) t.counters) ∙ length_more (references_at p) t.counters;
        }

  -- ---- another's write

  module _ (h : History) (few : length h < 2 ^ 32 - 1) (r : Row m s p h t) (o : own p a ≡ false) (w : writes a.operation ≡ true) where
    without_fits : length (without q (listed m p i s.ways (set_of m s q) h)) ≤ s.ways
    without_fits = omega (arith, without-short q (listed m p i s.ways (set_of m s q) h), listed-short m p i s.ways (set_of m s q) h)

    abbrev loss : Bool
    loss = among q (list_of fs)

    pub row_write : Row m s p (a ∷ h) (others_write_to m s p q t)
    row_write =
        let c = t.counters in
        let n = holding m p i s.ways q h in
        let e : ◌≡◌ {A = ℕ} (cond loss 1 0) (cond n 1 0) = ap {B = ℕ} (λ b. cond b 1 0) (listed_is h r (without q) without_fits) in
        record {
          sets = new_sets h r (without q) without_fits (a ∷ h) (listed_write m p i s.ways (set_of m s q) a h o w) (λ k x. listed_write_elsewhere m p i s.ways k a h o w x);
          references = more_if_out loss (drops_at p) (references_at p) c (λ x. omega arith) ∙ rw o (omega (arith, r.references));
          hits = more_if_out loss (drops_at p) (hits_at p) c (λ x. omega arith) ∙ rw o (omega (arith, r.hits));
          drops =
              more_if_at loss (drops_at p) c (omega (arith, counters_in)) (omega (arith, r.drops, tally-short (λ b before. others_write p b && holding m p i s.ways b.block before) h))
              ∙ rw (o, w) (omega (arith, r.drops));
        }

    pub write_kept : (x : ℕ) → 1 ≤ x → (p ≡ x → ⊥) → Kept m s x t (others_write_to m s p q t)
    write_kept x lx n =
        record {
          sets = λ k lk. kept_sets h r (without q) without_fits x k lx n lk;
          counters = λ j lj. more_if_out loss (drops_at p) (start 3 x + j) t.counters (counters_apart p x 2 j lo lx n (omega arith) lj);
        }

    pub write_alike : Alike t (others_write_to m s p q t)
    write_alike = record { frames = new_length h r (without q) without_fits; counters = more_if_length loss (drops_at p) t.counters }

-- ---- another's read

pub row_read : (m : Mapping) (s : Settings) (p : ℕ) (a : Access) (h : History) (t : Tables) → Row m s p h t → own p a ≡ false → writes a.operation ≡ false → Row m s p (a ∷ h) t
row_read m s p a h t r o w =
    let i = level_in m s in
    record {
      sets = λ k l. r.sets k l ∙ ap (padded s.ways) (sym (listed_read m p i s.ways k a h o w));
      references = rw o (omega (arith, r.references));
      hits = rw o (omega (arith, r.hits));
      drops = rw (o, w) (omega (arith, r.drops));
    }
