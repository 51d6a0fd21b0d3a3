use Rattle.std.proofs.Common.{◌≡◌, refl, ℕ, List, codes}
use Rattle.mru_items.specs.Names.{values_of}
use Rattle.mru_items.proofs.QueryLemmas.{once-is}
use Rattle.mru_items.proofs.query_reading.has_nonce.Goals as goal

pub returns-in-Some : goal.returns-in-Some
returns-in-Some c = (
  λ _. (_, once-is (λ (value it : List ℕ). value ≡ it) (values_of (codes "nonce") c.args.items.now) _ _ c.in-Some.ensures refl),
  λ _. refl,
)
