-- What a sweep comes to in nodes.
use Rattle.std.proofs.Common.{◌≡◌, ℕ, zero, suc, ◌+◌, ◌<◌, ◌≤◌, true, false, cond, Option, Some, List, [], ◌∷◌, length, refl, sym, ap, subst, ◌∙◌, arith}
use Rattle.recency.specs.declared.limits.Limits.{Limits}
use Rattle.recency.specs.declared.row.Row.{Row}
use Rattle.recency.specs.Rows.{AreRows, oldest}
use Rattle.recency.specs.Sweeps.{is_dropped, swept_rows}

-- rows without the oldest are still a client list's
pub AreRows-rest : (limits : Limits) (row : Row) (rows all : List Row) → all ≡ row ∷ rows → AreRows limits all → AreRows limits rows
AreRows-rest limits row rows all is kept =
    let all_kept : AreRows limits (row ∷ rows) = subst (λ (all : List Row). AreRows limits all) is kept in
    record { distinct = all_kept.distinct.1; rising = all_kept.rising.1; each = all_kept.each.1; depth = omega (arith, all_kept.depth) }

-- no rows are left of none
pub swept-empty : (limits : Limits) (rows : List Row) (moment : ℕ) → length rows ≡ 0 → rows ≡ swept_rows limits rows moment
swept-empty limits [] moment empty = refl
swept-empty limits (row ∷ rows) moment empty = absurd (omega (arith, empty))

-- the oldest row goes
pub swept-dropped : (limits : Limits) (row : Row) (rows all : List Row) (moment count : ℕ) → all ≡ row ∷ rows → count ≡ length all → is_dropped limits row count moment ≡ true
    → swept_rows limits rows moment ≡ swept_rows limits all moment
swept-dropped limits row rows all moment count is counted drops =
    let at : is_dropped limits row (length (row ∷ rows)) moment ≡ true = ap (λ n. is_dropped limits row n moment) (sym (counted ∙ ap length is)) ∙ drops in
    sym (ap (λ all. swept_rows limits all moment) is ∙ ap (λ b. cond b (swept_rows limits rows moment) (row ∷ rows)) at)

-- or all stay
pub swept-kept : (limits : Limits) (row : Row) (all : List Row) (moment count : ℕ) → oldest all ≡ Some row → count ≡ length all → is_dropped limits row count moment ≡ false → all ≡ swept_rows limits all moment
swept-kept limits row [] moment count is counted stays = refl
swept-kept limits row (first ∷ rows) moment count is counted stays =
    let same : first ≡ row = some_some first row is in
    let at : is_dropped limits first (length (first ∷ rows)) moment ≡ false = ap (λ row. is_dropped limits row (length (first ∷ rows)) moment) same ∙ ap (λ n. is_dropped limits row n moment) (sym counted) ∙ stays in
    sym (ap (λ b. cond b (swept_rows limits rows moment) (first ∷ rows)) at)
  where
    some_some : (one other : Row) → Some one ≡ Some other → one ≡ other
    some_some one other same = cc
