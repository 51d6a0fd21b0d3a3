-- Worked values, by hand: the constants, reports of variables, of associations and of peers, and what is no value of a peer.
use Rattle.std.proofs.Common.{◌≡◌, ℕ, List, [], ◌∷◌, Some, None, refl, lit≤, ap, length, arith, codes}
use Rattle.std.specs.Fmt.{digits}
use Rattle.hex.specs.Hex.{encode_with}
use Rattle.mode6_frame.specs.declared.items.Item.{Item}
use Rattle.mode6_frame.specs.declared.selections.TheConstants.{REJECTED, FALSETICKER, EXCESS, OUTLIER, SURVIVOR, BACKUP, SYSTEM_PEER, PPS_PEER}
use Rattle.text_words.specs.Numbers.{SpellsNumber}
use Rattle.ntpq_report.specs.declared.associations.AssociationStatus.{AssociationStatus}
use Rattle.ntpq_report.specs.declared.associations.TheConstants.{ASSOCIATION_LEN}
use Rattle.ntpq_report.specs.declared.association_report.TheConstants.{ORDINAL_WIDTH, ASSOCIATION_WIDTH}
use Rattle.ntpq_report.specs.declared.peer_variables.TheConstants.{MAX_HPOLL}
use Rattle.ntpq_report.specs.Variables.{rv_text}
use Rattle.ntpq_report.specs.Associations.{as_text, status_body}
use Rattle.ntpq_report.specs.Columns.{row_text}
use Rattle.ntpq_report.specs.Peers.{value_in, tally_of, peers_header, peer_line_of}

ASSOCIATION_LEN-is : ASSOCIATION_LEN ≡ 4
ASSOCIATION_LEN-is = refl

ORDINAL_WIDTH-is : ORDINAL_WIDTH ≡ 3
ORDINAL_WIDTH-is = refl

ASSOCIATION_WIDTH-is : ASSOCIATION_WIDTH ≡ 5
ASSOCIATION_WIDTH-is = refl

MAX_HPOLL-is : MAX_HPOLL ≡ 17
MAX_HPOLL-is = refl

-- an item with a value
abbrev valued : List ℕ → List ℕ → Item
valued name value = record { name = name; value = Some value }

-- an item without one
abbrev bare : List ℕ → Item
bare name = record { name = name; value = None }

-- the system of a server that does not know the time
stratum-report : rv_text 0 0xc011 (valued (codes "stratum") (codes "16") ∷ []) ≡ codes "associd=0 status=c011\nstratum=16\n"
unfolding digits encode_with
stratum-report = refl

-- quotes stand where there are spaces, but not around a list of numbers; the last item has no value and no comma
quoted-report : rv_text 65535 0x0a (valued (codes "version") (codes "ntpd profile 1") ∷ valued (codes "filtdelay") (codes "0.1 0.2") ∷ bare (codes "leap") ∷ []) ≡ codes "associd=65535 status=000a\nversion=\"ntpd profile 1\",\nfiltdelay=0.1 0.2,\nleap\n"
unfolding digits encode_with
quoted-report = refl

no-items-report : rv_text 1 0x8000 [] ≡ codes "associd=1 status=8000\n"
unfolding digits encode_with
no-items-report = refl

-- an association and its status word
abbrev status_of : ℕ → ℕ → AssociationStatus
status_of assoc status = record { assoc = assoc; status = status }

-- the octets of two associations
two-associations : status_body (status_of 1 0x8000 ∷ status_of 258 0x961a ∷ []) ≡ 0 ∷ 1 ∷ 0x80 ∷ 0 ∷ 1 ∷ 2 ∷ 0x96 ∷ 0x1a ∷ []
two-associations = refl

no-association-report : as_text [] ≡ codes "no associations\n"
no-association-report = refl

one-association-report : as_text (status_of 1 0x8000 ∷ []) ≡ codes "ind assid status\n  1     1 8000\n"
unfolding digits encode_with
one-association-report = refl

two-associations-report : as_text (status_of 65535 0x8000 ∷ status_of 258 0x961a ∷ []) ≡ codes "ind assid status\n  1 65535 8000\n  2   258 961a\n"
unfolding digits encode_with
two-associations-report = refl

header : peers_header ≡ codes " remote                                  refid           st   poll reach          delay         offset         jitter\n"
unfolding row_text
header = refl

-- a server that has not answered yet
silent-peer : peer_line_of REJECTED (record {
  srcadr = codes "10.0.0.1";
  refid = codes "INIT";
  stratum = codes "16";
  hpoll = 6;
  reach = codes "000";
  delay = codes "0.000000";
  offset = codes "0.000000";
  jitter = codes "0.000000";
}) ≡ codes " 10.0.0.1                                INIT            16     64   000       0.000000       0.000000       0.000000\n"
unfolding row_text digits
silent-peer = refl

-- the system peer, with the greatest poll exponent and an offset that is wider than its column
wide-peer : peer_line_of SYSTEM_PEER (record {
  srcadr = codes "10.0.0.1";
  refid = codes "INIT";
  stratum = codes "16";
  hpoll = 17;
  reach = codes "377";
  delay = codes "0.000000";
  offset = codes "-1234567.123456";
  jitter = codes "0.000000";
}) ≡ codes "*10.0.0.1                                INIT            16 131072   377       0.000000 -1234567.123456       0.000000\n"
unfolding row_text digits
wide-peer = refl

falseticker : tally_of FALSETICKER ≡ codes "x"
falseticker = refl

outlier : tally_of OUTLIER ≡ codes "-"
outlier = refl

survivor : tally_of SURVIVOR ≡ codes "+"
survivor = refl

system_peer : tally_of SYSTEM_PEER ≡ codes "*"
system_peer = refl

excess : tally_of EXCESS ≡ codes " "
excess = refl

backup : tally_of BACKUP ≡ codes " "
backup = refl

pps_peer : tally_of PPS_PEER ≡ codes " "
pps_peer = refl

-- items of other names do not matter
named-once : value_in (valued (codes "delay") (codes "1") ∷ valued (codes "reach") (codes "377") ∷ bare (codes "reaches") ∷ []) (codes "reach") ≡ Some (codes "377")
named-once = refl

missing : value_in (valued (codes "delay") (codes "1") ∷ []) (codes "reach") ≡ None
missing = refl

without-value : value_in (bare (codes "reach") ∷ []) (codes "reach") ≡ None
without-value = refl

named-twice : value_in (valued (codes "reach") (codes "377") ∷ valued (codes "reach") (codes "377") ∷ []) (codes "reach") ≡ None
named-twice = refl

-- the greatest poll exponent, and one that is greater
greatest-hpoll : SpellsNumber 0 MAX_HPOLL (codes "17") 17
unfolding digits
greatest-hpoll = (refl, lit≤ tt, lit≤ tt)

greater-hpoll : ¬ SpellsNumber 0 MAX_HPOLL (codes "18") 18
greater-hpoll (spelled, least, most) = omega (arith, most)

-- a zero that says nothing
zero-before-hpoll : ¬ SpellsNumber 0 MAX_HPOLL (codes "06") 6
unfolding digits
zero-before-hpoll (spelled, least, most) = omega (arith, ap length spelled)
