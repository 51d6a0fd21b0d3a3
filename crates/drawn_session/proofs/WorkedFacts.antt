-- The constants by their numbers, and worked datagrams.
use Rattle.std.proofs.Common.{◌≡◌, ◌*◌, ◌^◌, [], ◌∷◌, refl, length}
use Rattle.drawn_session.specs.Datagrams.{control_octets, cut_octets, kind_of, request_octets}
use Rattle.drawn_session.specs.declared.datagrams.Kind.TheVariants.{Cut}
use Rattle.drawn_session.specs.declared.datagrams.TheConstants.{CUT_TRANSMIT, DATAGRAMS, KINDS, WORKERS}
use Rattle.drawn_session.specs.declared.opening.TheConstants.{ORIGIN, PILOT, READINGS, TICK}

DATAGRAMS-is : DATAGRAMS ≡ 4096
DATAGRAMS-is = refl

WORKERS-is : WORKERS ≡ 2
WORKERS-is = refl

KINDS-is : KINDS ≡ 16
KINDS-is = refl

CUT_TRANSMIT-is : CUT_TRANSMIT ≡ 2208988800 * 2 ^ 32
CUT_TRANSMIT-is = refl

ORIGIN-is : ORIGIN ≡ 2208988800 * 2 ^ 32
ORIGIN-is = refl

TICK-is : TICK ≡ 2 ^ 26
TICK-is = refl

READINGS-is : READINGS ≡ 8192
READINGS-is = refl

PILOT-is : PILOT ≡ 2
PILOT-is = refl

-- a request is a whole header
request_length : length (request_octets 4095) ≡ 48
request_length = refl

cut_length : length cut_octets ≡ 47
cut_length = refl

-- a request for `stratum` of sequence 258
worked_control : control_octets 258 ≡ 0x16 ∷ 0x02 ∷ 1 ∷ 2 ∷ 0 ∷ 0 ∷ 0 ∷ 0 ∷ 0 ∷ 0 ∷ 0 ∷ 7 ∷ 115 ∷ 116 ∷ 114 ∷ 97 ∷ 116 ∷ 117 ∷ 109 ∷ 0 ∷ []
worked_control = refl

kinds : (kind_of 0 ≡ Cut)
kinds = refl
