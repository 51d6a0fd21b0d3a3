-- The constants by their numbers, and what a datagram's number makes of a queue.
use Rattle.std.proofs.Common.{◌≡◌, ◌*◌, ◌^◌, false, [], ◌∷◌, refl}
use Rattle.drawn_link.specs.Links.{placed, queue_after}
use Rattle.drawn_link.specs.declared.begin.TheConstants.{MAX_AGE, MAX_DEPTH, MIN_DEPTH, ORIGIN, SECOND}
use Rattle.drawn_link.specs.declared.link.TheConstants.{DRAWN_GIVES, TICK}

MIN_DEPTH-is : MIN_DEPTH ≡ 64
MIN_DEPTH-is = refl

MAX_DEPTH-is : MAX_DEPTH ≡ 512
MAX_DEPTH-is = refl

-- an hour
MAX_AGE-is : MAX_AGE ≡ 3600
MAX_AGE-is = refl

SECOND-is : SECOND ≡ 2 ^ 32
SECOND-is = refl

-- the beginning of 1970, counted from that of 1900
ORIGIN-is : ORIGIN ≡ 2208988800 * 2 ^ 32
ORIGIN-is = refl

-- a sixteenth of a second
TICK-is : TICK ≡ 2 ^ 28
TICK-is = refl

DRAWN_GIVES-is : DRAWN_GIVES ≡ 400
DRAWN_GIVES-is = refl

-- one is lost, one comes twice, one comes early, and one waits at the end
each_fate : placed 0 (1 ∷ []) (placed 1 (2 ∷ []) (placed 2 (3 ∷ []) (placed 3 (4 ∷ []) ((0 ∷ []) ∷ [])))) ≡ (3 ∷ []) ∷ (0 ∷ []) ∷ (4 ∷ []) ∷ (2 ∷ []) ∷ (2 ∷ []) ∷ []
each_fate = refl

-- what is not drawn waits at the end
undrawn : queue_after false 7 ((1 ∷ []) ∷ (2 ∷ []) ∷ []) ((0 ∷ []) ∷ []) ≡ (0 ∷ []) ∷ (1 ∷ []) ∷ (2 ∷ []) ∷ []
undrawn = refl
