-- The same on the tables: a call changes the parts of one processor and leaves the others'.
use Rattle.std.proofs.Common.{◌≡◌, ℕ, ◌+◌, ◌-◌, ◌*◌, ◌^◌, ◌<◌, ◌≤◌, true, false, ltb, ◌⊎◌, List, ◌∷◌, length, get_or, set, sym, refl, ap, ◌∙◌, subst, inl, inr, arith, length-set}
use Rattle.std.proofs.lemmas.Bool.{ltb-false, or_parts}
use Rattle.setmap.specs.Mapping.{Mapping}
use Rattle.trace.specs.Items.{writes}
use Rattle.trace.specs.declared.Block.{Block}
use Rattle.caches.specs.Caches.{Access, History, own}
use Rattle.stack.specs.declared.Entry.{Entry}
use Rattle.stack.specs.Stack.{stack, touched, dropped, restack}
use Rattle.tables.specs.declared.Mark.{Mark}
use Rattle.tables.specs.declared.Mark.TheVariants.{Never, Held, Lost}
use Rattle.tables.specs.declared.Settings.{Settings}
use Rattle.tables.specs.Tables.{Tables, row, stretch, hits_from, drops_from}
use Rattle.places.specs.Parts.{part, start, more}
use Rattle.tables.specs.Calls.{place_of, short, scores, marked, past_counter, own_reference, others_write_to}
use Rattle.tables.specs.declared.Event.TheVariants.{Own, OthersWrite}
use Rattle.places.proofs.Portions.{part_in, apart, length_part, get_d_part, part_set, part_set-out, part_put, part_put-out, length-put, part_more, part_more_out, length_more}
use Rattle.theory.proofs.Scores.{scores_part, scores_part_out, scores-length}
use Rattle.stack_theory.specs.Stacks.{met}
use Rattle.theory.proofs.Counts.{twice, past_more}
use Rattle.theory.proofs.Rows.{Row, row_own, row_write, row_read, length-filled}

pub record Long (s : Settings) (t : Tables) : Type 0 where
  pub entries : s.processors * s.entries ≤ length t.entries
  pub known : s.blocks ≤ length t.known
  pub marks : s.processors * s.blocks ≤ length t.marks
  pub counters : s.processors * row s ≤ length t.counters

pub long : (s : Settings) (t : Tables) → short s t ≡ false → Long s t
long s t e =
    let a = or_parts (ltb (length t.entries) (s.processors * s.entries)) _ e in
    let b = or_parts (ltb (length t.known) s.blocks) _ a.1 in
    let c = or_parts (ltb (length t.marks) (s.processors * s.blocks)) (ltb (length t.counters) (s.processors * row s)) b.1 in
    record {
      entries = ltb-false (length t.entries) (s.processors * s.entries) a.0;
      known = ltb-false (length t.known) s.blocks b.0;
      marks = ltb-false (length t.marks) (s.processors * s.blocks) c.0;
      counters = ltb-false (length t.counters) (s.processors * row s) c.1;
    }

-- tables of the same lengths
pub record Alike (t u : Tables) : Type 0 where
  pub entries : length u.entries ≡ length t.entries
  pub known : length u.known ≡ length t.known
  pub marks : length u.marks ≡ length t.marks
  pub counters : length u.counters ≡ length t.counters

pub alike_trans : (t u v : Tables) → Alike t u → Alike u v → Alike t v
alike_trans t u v a b = record { entries = b.entries ∙ a.entries; known = b.known ∙ a.known; marks = b.marks ∙ a.marks; counters = b.counters ∙ a.counters }

pub long_alike : (s : Settings) (t u : Tables) → Long s t → Alike t u → Long s u
long_alike s t u l a =
    record { entries = omega (arith, l.entries, a.entries); known = omega (arith, l.known, a.known); marks = omega (arith, l.marks, a.marks); counters = omega (arith, l.counters, a.counters) }

abbrev pub marks_of : Settings → ℕ → Tables → List Mark
marks_of s p t = part (start s.blocks p) s.blocks t.marks

abbrev pub counters_of : Settings → ℕ → Tables → List ℕ
counters_of s p t = part (start (row s) p) (row s) t.counters

-- the parts of processor p are the same in both
pub record KeptPart (s : Settings) (p : ℕ) (t u : Tables) : Type 0 where
  pub entries : stretch s p u ≡ stretch s p t
  pub marks : marks_of s p u ≡ marks_of s p t
  pub counters : counters_of s p u ≡ counters_of s p t

pub kept_trans : (s : Settings) (p : ℕ) (t u v : Tables) → KeptPart s p t u → KeptPart s p u v → KeptPart s p t v
kept_trans s p t u v a b = record { entries = b.entries ∙ a.entries; marks = b.marks ∙ a.marks; counters = b.counters ∙ a.counters }

abbrev pub RowAt : Mapping → Settings → ℕ → History → Tables → Type 0
RowAt m s p h t = Row m s p h (stretch s p t) (marks_of s p t) (counters_of s p t)

pub moved : (m : Mapping) (s : Settings) (p : ℕ) (h : History) (E E' : List Entry) (M M' : List Mark) (C C' : List ℕ) → E' ≡ E → M' ≡ M → C' ≡ C → Row m s p h E M C → Row m s p h E' M' C'
moved m s p h E E' M M' C C' x y z r =
    subst (λ X. Row m s p h X M' C') (sym x) (subst (λ X. Row m s p h E X C') (sym y) (subst (λ X. Row m s p h E M X) (sym z) r))

pub row_kept : (m : Mapping) (s : Settings) (p : ℕ) (h : History) (t u : Tables) → KeptPart s p t u → RowAt m s p h t → RowAt m s p h u
row_kept m s p h t u k r = moved m s p h (stretch s p t) (stretch s p u) (marks_of s p t) (marks_of s p u) (counters_of s p t) (counters_of s p u) k.entries k.marks k.counters r

-- ---- counters of one part

past_counter_part : (s : Settings) (p : ℕ) (k : Mark) (cs : List ℕ) → part (start (row s) p) (row s) (past_counter s p k cs) ≡ past_more k (part (start (row s) p) (row s) cs)
past_counter_part s p Never cs = part_more (start (row s) p) (row s) 1 cs (omega arith)
past_counter_part s p Held cs = refl
past_counter_part s p Lost cs = part_more (start (row s) p) (row s) 2 cs (omega arith)

past_counter-length : (s : Settings) (p : ℕ) (k : Mark) (cs : List ℕ) → length (past_counter s p k cs) ≡ length cs
past_counter-length s p Never cs = length_more (start (row s) p + 1) cs
past_counter-length s p Held cs = refl
past_counter-length s p Lost cs = length_more (start (row s) p + 2) cs

pub out_of : (a b n x : ℕ) → (a + n ≤ b) ⊎ (b + n ≤ a) → a ≤ x → x < a + n → (x < b) ⊎ (b + n ≤ x)
out_of a b n x o l k = elim o [ inl z ↦ inl (omega arith) | inr z ↦ inr (omega arith) ]

past_counter-out : (s : Settings) (p q : ℕ) (k : Mark) (cs : List ℕ) → (start (row s) p + row s ≤ start (row s) q) ⊎ (start (row s) q + row s ≤ start (row s) p)
    → part (start (row s) q) (row s) (past_counter s p k cs) ≡ part (start (row s) q) (row s) cs
past_counter-out s p q Never cs o = part_more_out (start (row s) q) (row s) (start (row s) p + 1) cs (out_of (start (row s) p) (start (row s) q) (row s) (start (row s) p + 1) o (omega arith) (omega arith))
past_counter-out s p q Held cs o = refl
past_counter-out s p q Lost cs o = part_more_out (start (row s) q) (row s) (start (row s) p + 2) cs (out_of (start (row s) p) (start (row s) q) (row s) (start (row s) p + 2) o (omega arith) (omega arith))

own_counters : (m : Mapping) (s : Settings) (p : ℕ) (b : Block) (es : List Entry) (k : Mark) (cs : List ℕ)
    → part (start (row s) p) (row s) (scores m s (hits_from s p) b es s.levels (past_counter s p k (more (start (row s) p) cs)))
    ≡ scores m s 3 b es s.levels (past_more k (more 0 (part (start (row s) p) (row s) cs)))
own_counters m s p b es k cs =
    let a = start (row s) p in
    let z : a + 0 ≡ a = omega arith in
    scores_part m s a (row s) 3 b es s.levels (past_counter s p k (more a cs)) (omega (arith, twice s))
    ∙ ap (scores m s 3 b es s.levels) (past_counter_part s p k (more a cs) ∙ ap (past_more k) (ap (λ x. part a (row s) (more x cs)) (sym z) ∙ part_more a (row s) 0 cs (omega arith)))

own_counters_out : (m : Mapping) (s : Settings) (p q : ℕ) (b : Block) (es : List Entry) (k : Mark) (cs : List ℕ)
    → (start (row s) p + row s ≤ start (row s) q) ⊎ (start (row s) q + row s ≤ start (row s) p)
    → part (start (row s) q) (row s) (scores m s (hits_from s p) b es s.levels (past_counter s p k (more (start (row s) p) cs))) ≡ part (start (row s) q) (row s) cs
own_counters_out m s p q b es k cs o =
    let a = start (row s) p in
    let c = start (row s) q in
    let w : (a + 3 + s.levels * s.ways ≤ c) ⊎ (c + row s ≤ a + 3) = elim o [ inl z ↦ inl (omega (arith, twice s)) | inr z ↦ inr (omega arith) ] in
    scores_part_out m s c (row s) (a + 3) b es s.levels (past_counter s p k (more a cs)) w
    ∙ past_counter-out s p q k (more a cs) o ∙ part_more_out c (row s) a cs (out_of a c (row s) a o (omega arith) (omega arith))

write_counters : (m : Mapping) (s : Settings) (p : ℕ) (b : Block) (es : List Entry) (cs : List ℕ)
    → part (start (row s) p) (row s) (scores m s (drops_from s p) b es s.levels cs) ≡ scores m s (3 + s.levels * s.ways) b es s.levels (part (start (row s) p) (row s) cs)
write_counters m s p b es cs = scores_part m s (start (row s) p) (row s) (3 + s.levels * s.ways) b es s.levels cs (omega (arith, twice s))

write_counters_out : (m : Mapping) (s : Settings) (p q : ℕ) (b : Block) (es : List Entry) (cs : List ℕ)
    → (start (row s) p + row s ≤ start (row s) q) ⊎ (start (row s) q + row s ≤ start (row s) p)
    → part (start (row s) q) (row s) (scores m s (drops_from s p) b es s.levels cs) ≡ part (start (row s) q) (row s) cs
write_counters_out m s p q b es cs o =
    let a = start (row s) p in
    let c = start (row s) q in
    let w : (a + (3 + s.levels * s.ways) + s.levels * s.ways ≤ c) ⊎ (c + row s ≤ a + (3 + s.levels * s.ways)) = elim o [ inl z ↦ inl (omega (arith, twice s)) | inr z ↦ inr (omega arith) ] in
    scores_part_out m s c (row s) (a + (3 + s.levels * s.ways)) b es s.levels cs w

-- ---- the calls

module _ (m : Mapping) (s : Settings) (some : 1 ≤ s.levels) (most : s.levels ≤ 32) (t : Tables) (l : Long s t) (p : ℕ) (lo : 1 ≤ p) (hi : p ≤ s.processors)
    (h : History) (r : RowAt m s p h t) (a : Access) (few : length h < 2 ^ 32 - 1) (width : place_of a.block (met h) < s.blocks) where
  size_e : start s.entries p + s.entries ≤ length t.entries
  size_e = omega (arith, part_in p s.processors s.entries lo hi, l.entries)

  size_m : start s.blocks p + s.blocks ≤ length t.marks
  size_m = omega (arith, part_in p s.processors s.blocks lo hi, l.marks)

  size_c : start (row s) p + row s ≤ length t.counters
  size_c = omega (arith, part_in p s.processors (row s) lo hi, l.counters)

  size : length (counters_of s p t) ≡ row s
  size = length_part (start (row s) p) (row s) t.counters size_c

  wide : place_of a.block (met h) < length (marks_of s p t)
  wide = omega (arith, length_part (start s.blocks p) s.blocks t.marks size_m)

  mark_part : (f : Mark → Mark) → part (start s.blocks p) s.blocks (set t.marks (start s.blocks p + place_of a.block (met h)) (f (get_or t.marks (start s.blocks p + place_of a.block (met h)) Never)))
      ≡ set (marks_of s p t) (place_of a.block (met h)) (f (get_or (marks_of s p t) (place_of a.block (met h)) Never))
  mark_part f =
      let k = place_of a.block (met h) in
      let x = start s.blocks p in
      part_set x s.blocks k t.marks (f (get_or t.marks (x + k) Never)) width
      ∙ ap (λ y. set (marks_of s p t) k (f y)) (sym (get_d_part x s.blocks k t.marks Never width))

  same_mark : get_or t.marks (start s.blocks p + place_of a.block (met h)) Never ≡ get_or (marks_of s p t) (place_of a.block (met h)) Never
  same_mark = sym (get_d_part (start s.blocks p) s.blocks (place_of a.block (met h)) t.marks Never width)

  module _ (e : own p a ≡ true) (fits : length (touched m a.block (stack (stretch s p t))) ≤ s.entries) where
    own_local : Row m s p (a ∷ h) (restack (touched m a.block (stack (stretch s p t))) (stretch s p t))
        (set (marks_of s p t) (place_of a.block (met h)) (marked (get_or (marks_of s p t) (place_of a.block (met h)) Never) Own))
        (scores m s 3 a.block (stack (stretch s p t)) s.levels (past_more (get_or (marks_of s p t) (place_of a.block (met h)) Never) (more 0 (counters_of s p t))))
    own_local = row_own m s some most p h (stretch s p t) (marks_of s p t) (counters_of s p t) r a size few wide e fits

    own_size : length (restack (touched m a.block (stack (stretch s p t))) (stretch s p t)) ≡ s.entries
    own_size = ap length own_local.entries ∙ length-filled s.entries _ own_local.room

    pub own_at : RowAt m s p (a ∷ h) (own_reference m s p a.block (place_of a.block (met h)) t)
    own_at =
        let k = place_of a.block (met h) in
        let es = stretch s p t in
        moved m s p (a ∷ h) _ _ _ _ _ _
        (part_put (start s.entries p) s.entries (restack (touched m a.block (stack es)) es) t.entries own_size (omega (arith, size_e)))
        (mark_part (λ y. marked y Own))
        (own_counters m s p a.block (stack es) (get_or t.marks (start s.blocks p + k) Never) t.counters
        ∙ ap (λ y. scores m s 3 a.block (stack es) s.levels (past_more y (more 0 (counters_of s p t)))) same_mark)
        own_local

    pub own_kept : (q : ℕ) → 1 ≤ q → (p ≡ q → ⊥) → KeptPart s q t (own_reference m s p a.block (place_of a.block (met h)) t)
    own_kept q lq n =
        let k = place_of a.block (met h) in
        let es = stretch s p t in
        record {
          entries = part_put-out (start s.entries p) (start s.entries q) s.entries (restack (touched m a.block (stack es)) es) t.entries own_size size_e
              (elim (apart p q s.entries lo lq n) [ inl z ↦ inr z | inr z ↦ inl z ]);
          marks = part_set-out (start s.blocks q) s.blocks (start s.blocks p + k) t.marks (marked (get_or t.marks (start s.blocks p + k) Never) Own)
              (out_of (start s.blocks p) (start s.blocks q) s.blocks (start s.blocks p + k) (apart p q s.blocks lo lq n) (omega arith) (omega arith));
          counters = own_counters_out m s p q a.block (stack es) (get_or t.marks (start s.blocks p + k) Never) t.counters (apart p q (row s) lo lq n);
        }

    pub own_alike : Alike t (own_reference m s p a.block (place_of a.block (met h)) t)
    own_alike =
        let k = place_of a.block (met h) in
        let es = stretch s p t in
        let mk = get_or t.marks (start s.blocks p + k) Never in
        record {
          entries = length-put (start s.entries p) s.entries (restack (touched m a.block (stack es)) es) t.entries own_size size_e;
          known = length-set t.known k a.block;
          marks = length-set t.marks (start s.blocks p + k) (marked mk Own);
          counters = scores-length m s (hits_from s p) a.block (stack es) s.levels (past_counter s p mk (more (start (row s) p) t.counters))
              ∙ past_counter-length s p mk (more (start (row s) p) t.counters) ∙ length_more (start (row s) p) t.counters;
        }

  module _ (e : own p a ≡ false) (w : writes a.operation ≡ true) where
    write_local : Row m s p (a ∷ h) (restack (dropped s.levels a.block (stack (stretch s p t))) (stretch s p t))
        (set (marks_of s p t) (place_of a.block (met h)) (marked (get_or (marks_of s p t) (place_of a.block (met h)) Never) OthersWrite))
        (scores m s (3 + s.levels * s.ways) a.block (stack (stretch s p t)) s.levels (counters_of s p t))
    write_local = row_write m s some most p h (stretch s p t) (marks_of s p t) (counters_of s p t) r a size few wide e w

    write_size : length (restack (dropped s.levels a.block (stack (stretch s p t))) (stretch s p t)) ≡ s.entries
    write_size = ap length write_local.entries ∙ length-filled s.entries _ write_local.room

    pub write_at : RowAt m s p (a ∷ h) (others_write_to m s p a.block (place_of a.block (met h)) t)
    write_at =
        let es = stretch s p t in
        moved m s p (a ∷ h) _ _ _ _ _ _
        (part_put (start s.entries p) s.entries (restack (dropped s.levels a.block (stack es)) es) t.entries write_size (omega (arith, size_e)))
        (mark_part (λ y. marked y OthersWrite))
        (write_counters m s p a.block (stack es) t.counters)
        write_local

    pub write_kept : (q : ℕ) → 1 ≤ q → (p ≡ q → ⊥) → KeptPart s q t (others_write_to m s p a.block (place_of a.block (met h)) t)
    write_kept q lq n =
        let k = place_of a.block (met h) in
        let es = stretch s p t in
        record {
          entries = part_put-out (start s.entries p) (start s.entries q) s.entries (restack (dropped s.levels a.block (stack es)) es) t.entries write_size size_e
              (elim (apart p q s.entries lo lq n) [ inl z ↦ inr z | inr z ↦ inl z ]);
          marks = part_set-out (start s.blocks q) s.blocks (start s.blocks p + k) t.marks (marked (get_or t.marks (start s.blocks p + k) Never) OthersWrite)
              (out_of (start s.blocks p) (start s.blocks q) s.blocks (start s.blocks p + k) (apart p q s.blocks lo lq n) (omega arith) (omega arith));
          counters = write_counters_out m s p q a.block (stack es) t.counters (apart p q (row s) lo lq n);
        }

    pub write_alike : Alike t (others_write_to m s p a.block (place_of a.block (met h)) t)
    write_alike =
        let k = place_of a.block (met h) in
        let es = stretch s p t in
        let mk = get_or t.marks (start s.blocks p + k) Never in
        record {
          entries = length-put (start s.entries p) s.entries (restack (dropped s.levels a.block (stack es)) es) t.entries write_size size_e;
          known = refl;
          marks = length-set t.marks (start s.blocks p + k) (marked mk OthersWrite);
          counters = scores-length m s (drops_from s p) a.block (stack es) s.levels t.counters;
        }

  pub read_at : own p a ≡ false → writes a.operation ≡ false → RowAt m s p (a ∷ h) t
  read_at e w = row_read m s some most p h (stretch s p t) (marks_of s p t) (counters_of s p t) r a size few wide e w
