-- A row that grows by one text.
use Rattle.std.proofs.Common.{◌≡◌, ℕ, List, ◌++◌, ap, ◌∙◌, append_assoc}

-- a text behind what was appended so far, with a gap before it
pub append-next : (start done text more gap piece : List ℕ) → text ≡ start ++ done → more ≡ (text ++ gap) ++ piece
    → more ≡ start ++ ((done ++ gap) ++ piece)
append-next start done text more gap piece so_far next =
    next
    ∙ ap (λ front. (front ++ gap) ++ piece) so_far
    ∙ ap (λ front. front ++ piece) (append_assoc start done gap)
    ∙ append_assoc start (done ++ gap) piece
