-- What a clock in memory tells.
use Rattle.std.proofs.Common.{◌≡◌, ℕ, ◌+◌, ◌-◌, ◌<◌, ◌^◌, Bool, true, false, cond, nat_lt, Option, Some, None, List, [], ◌∷◌, ◌++◌, map, refl, sym, ap, ◌∙◌, arith}
use Rattle.std.proofs.lemmas.Bool.{ltb-true, lt-ltb}
use Rattle.std.proofs.lemmas.List.FromFn.{map-range_with_len_more}
use Rattle.std.specs.List.{range_with_len}
use Rattle.edge_traits.specs.Counts.{next_count}
use Rattle.edge_traits.specs.Told.{gained, Grows}
use Rattle.edge_traits.specs.Memory.{reading_at, readings_told}

-- a list that was told and is told gains what it grew by
gained-cond : (told now : Bool) (before after more : List ℕ) → told ≡ true → now ≡ true → after ≡ before ++ more → cond now (Some after) None ≡ gained (cond told (Some before) None) more
gained-cond true true before after more was is grew = ap Some grew
gained-cond false now before after more was is grew = absurd (cc was)
gained-cond true false before after more was is grew = absurd (cc is)

-- what gains as long as it is told grows
Grows-cond : (old : Option (List ℕ)) (now : Bool) (after more : List ℕ) → (now ≡ true → cond now (Some after) None ≡ gained old more) → Grows old (cond now (Some after) None) more
Grows-cond old false after more gains = tt
Grows-cond None true after more gains = absurd (cc (gains refl))
Grows-cond (Some told) true after more gains = cc (gains refl)

-- one more reading is told, as long as the readings can be counted
pub readings_told-next : (readings : List ℕ) (n m reading : ℕ) → m ≡ next_count n → reading ≡ reading_at readings n → m < 2 ^ 64 - 1 → readings_told readings m ≡ gained (readings_told readings n) (reading ∷ [])
readings_told-next readings n m reading next is counted =
    let top : ℕ = 2 ^ 64 - 1 in
    let one_more : m ≡ n + 1 = omega arith in
    gained-cond (nat_lt n top) (nat_lt m top) _ _ (reading ∷ []) (lt-ltb n top (omega arith)) (lt-ltb m top counted)
    (ap (λ k. map (reading_at readings) (range_with_len 0 k)) one_more
    ∙ map-range_with_len_more (reading_at readings) 0 n n (omega arith)
    ∙ ap (λ r. map (reading_at readings) (range_with_len 0 n) ++ r ∷ []) (sym is))

-- one more reading is told, or none any longer
pub Grows-readings_told : (readings : List ℕ) (n m reading : ℕ) → m ≡ next_count n → reading ≡ reading_at readings n → Grows (readings_told readings n) (readings_told readings m) (reading ∷ [])
Grows-readings_told readings n m reading next is =
    let top : ℕ = 2 ^ 64 - 1 in
    Grows-cond (readings_told readings n) (nat_lt m top) _ (reading ∷ [])
    (λ below. readings_told-next readings n m reading next is (ltb-true m top below))
