-- How the steps of a script add up.
use Rattle.std.proofs.Common.{◌≡◌, ◌∙◌, List, [], ◌∷◌, ◌++◌, refl, sym, ap, subst, append_assoc, append-nil, add_assoc, add-zero, zero-add}
use Rattle.pilot.specs.Gains.{Gain, gain_of_all, joined, nothing}
use Rattle.pilot.specs.Turns.{Chain}

-- one step more
pub Chain-more : {State Step : Type 0} (rule : State → Step → State → Type 0) (a b c : State) (steps : List Step) (step : Step) → Chain rule a steps b → rule b step c → Chain rule a (steps ++ step ∷ []) c
Chain-more rule a b c [] step is then = (c, subst (λ s. rule s step c) is then, refl)
Chain-more rule a b c (first ∷ steps) step (next, here, later) then = (next, here, Chain-more rule next b c steps step later then)

-- nothing and then a gain are the gain
pub nothing-joined : (g : Gain) → joined nothing g ≡ g
nothing-joined g = simp zero-add

pub joined-nothing : (g : Gain) → joined g nothing ≡ g
joined-nothing g = simp (append-nil, add-zero)

pub joined-assoc : (f g h : Gain) → joined (joined f g) h ≡ joined f (joined g h)
joined-assoc f g h = simp (append_assoc, add_assoc)

-- one step more gains after the others
pub gain_of_all-more : {Step : Type 0} (gain : Step → Gain) (steps : List Step) (step : Step) → gain_of_all gain (steps ++ step ∷ []) ≡ joined (gain_of_all gain steps) (gain step)
gain_of_all-more gain [] step = joined-nothing (gain step) ∙ sym (nothing-joined (gain step))
gain_of_all-more gain (first ∷ steps) step =
    ap (joined (gain first)) (gain_of_all-more gain steps step)
    ∙ sym (joined-assoc (gain first) (gain_of_all gain steps) (gain step))
