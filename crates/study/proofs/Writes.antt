-- A write, put to one processor more.
use Rattle.std.proofs.Common.{◌≡◌, ℕ, suc, ◌-◌, ◌≤◌, cond, sym, ap, ◌∙◌, subst, arith}
use Rattle.std.specs.Prelude.{◌==◌}
use Rattle.setmap.specs.Mapping.{Mapping}
use Rattle.trace.specs.declared.Block.{Block}
use Rattle.tables.specs.declared.Settings.{Settings}
use Rattle.tables.specs.Tables.{Tables}
use Rattle.tables.specs.Calls.{others_write_to, others_write_all}

pub write_step : (m : Mapping) (s : Settings) (w : ℕ) (q : Block) (k p : ℕ) (t u v : Tables) → 1 ≤ p → u ≡ others_write_all m s w q k (p - 1) t
    → v ≡ cond (p == w) u (others_write_to m s p q k u) → (j : ℕ) → j ≡ p → v ≡ others_write_all m s w q k j t
write_step m s w q k p t u v low inv e j up =
    let is : suc (p - 1) ≡ p = omega arith in
    let goes : suc (p - 1) ≡ j = omega arith in
    let put : ℕ → Tables → Tables = λ i x. cond (i == w) x (others_write_to m s i q k x) in
    subst (λ i. v ≡ others_write_all m s w q k i t) goes (e ∙ ap (λ i. put i u) (sym is) ∙ ap (put (suc (p - 1))) inv)
