-- The first byte `at` of a list, and what it parts.
use Rattle.std.proofs.Common.{◌≡◌, ℕ, ◌+◌, ◌-◌, ◌<◌, ◌≤◌, ◌==◌, Bool, true, false, not, cond, ◌⊎◌, List, [], length, get_or, take, drop, take_all, length-drop, Some, None, sym, refl, inl, inr, arith}
use Rattle.std.proofs.lemmas.Bool.{cases_lt, ltb-true, ltb-false}
use Rattle.std.proofs.lemmas.List.{length-take-le, drop_all, take_rest}
use Rattle.std.proofs.lemmas.List.Elements.{All-from_get_or}
use Rattle.std.proofs.lemmas.List.Splits.{slice_split_none, slice_split_first}
use Rattle.std.proofs.lemmas.List.Sums.{prefix_len_passes}
use Rattle.std.proofs.lemmas.Option.{cond_some}
use Rattle.std.specs.List.{position, position_or_len}
use Rattle.text.specs.Cuts.{upto, past, Parted, Whole}

fails : (t : Bool) → not t ≡ true → t ≡ false
fails true h = cc
fails false h = refl

cond_none : (t : Bool) (n : ℕ) → None ≡ cond t (Some n) None → t ≡ false
cond_none true n e = cc
cond_none false n e = refl

module _ (at : ℕ) (bs : List ℕ) where
  parted : position_or_len (λ b. b == at) bs < length bs → Parted at bs (upto at bs) (past at bs)
  parted h =
      let n = position_or_len (λ b. b == at) bs in
      (slice_split_first (λ b. b == at) bs 0 h, omega (arith, length-take-le n bs, length-drop (n + 1) bs))

  whole : length bs ≤ position_or_len (λ b. b == at) bs → Whole at bs × (upto at bs ≡ bs) × (past at bs ≡ [])
  whole h =
      let n = position_or_len (λ b. b == at) bs in (
        slice_split_none (λ b. b == at) bs (All-from_get_or (λ b. (b == at) ≡ false) bs 0 (λ i k. fails (get_or bs i 0 == at) (prefix_len_passes (λ b. not (b == at)) bs i 0 (omega arith)))),
        take_all n bs h,
        drop_all (n + 1) bs (omega arith),
      )

  -- a first `at` parts the list, or the list is one piece
  pub cut : Parted at bs (upto at bs) (past at bs) ⊎ (Whole at bs × (upto at bs ≡ bs) × (past at bs ≡ []))
  cut = elim (cases_lt (position_or_len (λ b. b == at) bs) (length bs)) [ inl h ↦ inl (parted h) | inr h ↦ inr (whole h) ]

  -- the parts around the place n that was found, as `&bytes[..n]` and `&bytes[n + 1..]` have them
  pub found : (n : ℕ) → Some n ≡ position (λ b. b == at) bs
      → Parted at bs (take n bs) (take (length bs - (n + 1)) (drop (n + 1) bs)) × (take n bs ≡ upto at bs) × (take (length bs - (n + 1)) (drop (n + 1) bs) ≡ past at bs)
  found n e =
      let (below, same) = cond_some _ _ _ (sym e) in
      rw (take_rest bs (n + 1), ← same) (parted (ltb-true _ _ below), refl, refl)

  pub missed : None ≡ position (λ b. b == at) bs → Whole at bs × (upto at bs ≡ bs) × (past at bs ≡ [])
  missed e = whole (ltb-false _ _ (cond_none _ _ e))
