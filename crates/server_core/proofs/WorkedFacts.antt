-- The numbers of the server, and each threshold from both sides. They are our own rules, but for those of RFC 5905.
use Rattle.std.proofs.Common.{◌≡◌, ◌+◌, ◌-◌, ◌^◌, ℕ, true, false, Option, Some, None, List, [], ◌∷◌, negsuc, codes, refl, lit≤}
use Rattle.access_rules.specs.declared.flags.TheConstants.{IGNORE, NOMRULIST, NOQUERY, NOSERVE, NOTRUST, VERSION}
use Rattle.mac_keys.specs.declared.checking.Auth.TheVariants.{Good, Bad}
use Rattle.server_core.specs.declared.kiss.TheConstants.{RATE}
use Rattle.server_core.specs.declared.op.Op.TheVariants.{Arrive, Read}
use Rattle.server_core.specs.declared.op.TheConstants.{MAX_ENTRIES, MAX_PUBLICATIONS}
use Rattle.server_core.specs.declared.step.StepFault.TheVariants.{ClockEnd}
use Rattle.mode6_frame.specs.declared.items.Item.{Item}
use Rattle.mru_read.specs.declared.pages.Page.{Page}
use Rattle.server_core.specs.declared.class.ReadAsk.{ReadAsk}
use Rattle.server_core.specs.declared.read_reply.ReadReply.TheVariants.{Ignored, Prohibited, Refused}
use Rattle.server_core.specs.ReadReplies.{read_stamp, reply_under}
use Rattle.server_core.specs.Reads.{nonce_in}
use Rattle.server_core.specs.Reply.{rate_header, shown_stratum}
use Rattle.server_core.specs.States.{refusal_of}
use Rattle.server_core.specs.Verdicts.{drawn, is_denied, is_due}
use Rattle.server_core.proofs.StandardFacts.{ask}

MAX_ENTRIES-is : MAX_ENTRIES ≡ 262144
MAX_ENTRIES-is = refl

MAX_PUBLICATIONS-is : MAX_PUBLICATIONS ≡ 4096
MAX_PUBLICATIONS-is = refl

RATE-is : RATE ≡ codes "RATE"
RATE-is = refl

-- the kiss code says that no time is known, with a precision of 2^-20 seconds
kiss_leap : (rate_header ask).leap ≡ 3
unfolding rate_header
kiss_leap = refl

kiss_precision : (rate_header ask).precision ≡ negsuc 19
unfolding rate_header
kiss_precision = refl

kiss_code : (rate_header ask).refid ≡ 82 ∷ 65 ∷ 84 ∷ 69 ∷ []
unfolding rate_header
kiss_code = refl

-- the last stamp but one may be followed by another, and the last may not
before_the_last_stamp : refusal_of [] (2 ^ 64 - 2) (Arrive ask 0) ≡ None
before_the_last_stamp = refl

at_the_last_stamp : refusal_of [] (2 ^ 64 - 1) (Arrive ask 0) ≡ Some ClockEnd
at_the_last_stamp = refl

-- nor may a read follow it, whatever becomes of it
read_before_the_last_stamp : (read : ReadAsk) → refusal_of [] (2 ^ 64 - 2) (Read read 0) ≡ None
read_before_the_last_stamp read = refl

read_at_the_last_stamp : (read : ReadAsk) → refusal_of [] (2 ^ 64 - 1) (Read read 0) ≡ Some ClockEnd
read_at_the_last_stamp read = refl

-- a moment after the last stamp is drawn, and any other draws the next stamp
later_moment : drawn 5 7 ≡ 7
later_moment = refl

same_moment : drawn 7 7 ≡ 8
same_moment = refl

earlier_moment : drawn 8 7 ≡ 9
earlier_moment = refl

-- a client is told again once the spacing has passed
not_due : is_due 10 19 (Some 10) ≡ false
not_due = refl

due_again : is_due 10 20 (Some 10) ≡ true
due_again = refl

-- a packet has stratum 0 for 16
synchronized : shown_stratum 15 ≡ 15
synchronized = refl

unsynchronized : shown_stratum 16 ≡ 0
unsynchronized = refl

-- `version` refuses all but version 4, `notrust` all without a good MAC, and `noserve` all
version_4 : is_denied VERSION ask ≡ false
version_4 = refl

version_3 : is_denied VERSION (record ask { version = 3; version_least = lit≤ tt; version_most = lit≤ tt }) ≡ true
version_3 = refl

no_mac : is_denied NOTRUST ask ≡ true
no_mac = refl

bad_mac : is_denied NOTRUST (record ask { auth = Bad }) ≡ true
bad_mac = refl

good_mac : is_denied NOTRUST (record ask { auth = Good 7 }) ≡ false
good_mac = refl

no_service : is_denied NOSERVE (record ask { auth = Good 7 }) ≡ true
no_service = refl

-- `noquery` and `ignore` come before `nomrulist`, and other flags refuse no read
no_query : (page : Option Page) → reply_under (NOQUERY + NOMRULIST) 0 page ≡ Ignored
no_query page = refl

ignored : (page : Option Page) → reply_under (IGNORE + NOMRULIST) 0 page ≡ Ignored
ignored page = refl

no_list : (page : Option Page) → reply_under NOMRULIST 0 page ≡ Prohibited
no_list page = refl

other_flags : reply_under (NOSERVE + NOTRUST + VERSION) 0 None ≡ Refused
other_flags = refl

-- a read that is refused draws no stamp
refused_stamp : read_stamp Refused 7 9 ≡ 7
refused_stamp = refl

-- the first item `nonce` is the one that is judged, and shows nothing without a value
abbrev item : List ℕ → Option (List ℕ) → Item
item name value = record { name = name; value = value }

first_nonce : nonce_in (item (codes "frags") (Some (codes "4")) ∷ item (codes "nonce") (Some (codes "a")) ∷ item (codes "nonce") (Some (codes "b")) ∷ []) ≡ Some (codes "a")
first_nonce = refl

no_value : nonce_in (item (codes "nonce") None ∷ item (codes "nonce") (Some (codes "b")) ∷ []) ≡ None
no_value = refl
