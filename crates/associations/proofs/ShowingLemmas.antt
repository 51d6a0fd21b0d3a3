-- One view more.
use Rattle.std.proofs.Common.{◌≡◌, ℕ, ◌+◌, ◌<◌, inl, inr, List, [], ◌∷◌, ◌++◌, length, get_or, sym, ap, subst, ◌∙◌, arith}
use Rattle.std.proofs.Math.Seq.{get_or-append_seam}
use Rattle.std.proofs.lemmas.Bool.{cases_lt}
use Rattle.std.proofs.lemmas.List.{get_or_append_left}
use Rattle.std.proofs.lemmas.List.Elements.{at_read}
use Rattle.sys_vars.specs.declared.peer_view.PeerView.{PeerView}
use Rattle.associations.specs.Showing.{IsViewOf}
use Rattle.associations.specs.declared.association.Association.{Association}

-- the servers before a place have their views, and then the one at that place has its view too
pub views_more : (xs : List Association) (vs ws : List PeerView) (i : ℕ) (x : Association) (w : PeerView) → length vs ≡ i
    → ((k : ℕ) (p : Association) (v : PeerView) → k < i → IsViewOf (k + 1) (get_or xs k p) (get_or vs k v))
    → i < length xs → x ≡ get_or xs i x → IsViewOf (i + 1) x w → ws ≡ vs ++ w ∷ []
    → (k : ℕ) (p : Association) (v : PeerView) → k < i + 1 → IsViewOf (k + 1) (get_or xs k p) (get_or ws k v)
views_more xs vs ws i x w count before within is here pushed k p v below =
    elim (cases_lt k i) [
      | inl less ↦
          let kept : get_or ws k v ≡ get_or vs k v =
          ap (λ us. get_or us k v) pushed ∙ get_or_append_left vs (w ∷ []) v k (omega (arith, less, count)) in
          subst (λ (u : PeerView). IsViewOf (k + 1) (get_or xs k p) u) (sym kept) (before k p v less)
      | inr past ↦
          let place : i ≡ k = omega (arith, past, below) in
          let last : get_or ws i v ≡ w =
          ap (λ us. get_or us i v) pushed ∙ ap (λ j. get_or (vs ++ w ∷ []) j v) (sym count) ∙ get_or-append_seam vs w [] v in
          let seen : IsViewOf (i + 1) x (get_or ws i v) = subst (λ (u : PeerView). IsViewOf (i + 1) x u) (sym last) here in
          subst (λ (j : ℕ). IsViewOf (j + 1) (get_or xs j p) (get_or ws j v)) place
          (at_read xs (λ (z : Association). IsViewOf (i + 1) z (get_or ws i v)) i x within is seen p)
    ]
