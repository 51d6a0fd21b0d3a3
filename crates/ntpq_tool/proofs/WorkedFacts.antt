-- The words, numbers and lines of the program, by hand. They are our own rules.
use Rattle.std.proofs.Common.{◌≡◌, ◌∷◌, [], Some, None, codes, true, false, lit≤, refl}
use Rattle.std.specs.Fmt.{digits}
use Rattle.std.specs.List.{list_all}
use Rattle.ntpq_tool.specs.declared.words.TheConstants.{NTP_PORT, MAX_ASSOC, MAX_NAME}
use Rattle.ntpq_tool.specs.declared.options.TheConstants.{DEFAULT_FRAGS}
use Rattle.ntpq_tool.specs.declared.words.Wanted.TheVariants.{Associations, Peers, Clients}
use Rattle.ntpq_tool.specs.declared.usage.TheConstants.{VERSION}
use Rattle.ntpq_client.specs.declared.fault.AskFault.TheVariants.{NoReply, Refused, Closed}
use Rattle.ntpq_tool.specs.declared.ending.Failure.TheVariants.{Words, Ask, BadReply}
use Rattle.ntpq_client.specs.declared.request.TheConstants.{REQUEST_VERSION}
use Rattle.ntpq_tool.specs.declared.requests.TheConstants.{PEER_VARIABLES}
use Rattle.ntpq_tool.specs.Scripts.{next_of, peer_request, status_request, variables_request}
use Rattle.ntpq_tool.specs.Command.{AreFor, is_name_octet, joined}
use Rattle.ntpq_tool.specs.Ending.{failure_line, failure_status}
use Rattle.ntpq_tool.specs.Options.{IsQueryOf, given, is_option}
use Rattle.mru_items.specs.Values.{SpellsMask}

-- each constant by its number, and the version by its line
NTP_PORT-is : NTP_PORT ≡ 123
NTP_PORT-is = refl

REQUEST_VERSION-is : REQUEST_VERSION ≡ 2
REQUEST_VERSION-is = refl

MAX_ASSOC-is : MAX_ASSOC ≡ 65535
MAX_ASSOC-is = refl

MAX_NAME-is : MAX_NAME ≡ 32
MAX_NAME-is = refl

DEFAULT_FRAGS-is : DEFAULT_FRAGS ≡ 32
DEFAULT_FRAGS-is = refl

VERSION-is : VERSION.now ≡ codes "ntpq 0.1.0\n"
VERSION-is = refl

-- requests have version 2, and ask for variables by operation 2 and for the associations by operation 1
variables : variables_request 1 (codes "stratum") ≡ record { version = 2; opcode = 2; assoc = 1; body = codes "stratum" }
variables = refl

associations : status_request ≡ record { version = 2; opcode = 1; assoc = 0; body = [] }
associations = refl

PEER_VARIABLES-is : PEER_VARIABLES.now ≡ codes "srcadr,refid,stratum,hpoll,reach,delay,offset,jitter"
PEER_VARIABLES-is = refl

-- of two associations the second is asked for after one line
second : next_of Peers (record { assoc = 3; status = 0 } ∷ record { assoc = 7; status = 0 } ∷ []) (record { status = 0; text = [] } ∷ record { status = 0; text = [] } ∷ []) ≡ Some (peer_request 7)
second = refl

-- two names in the body of a request
two_names : joined (codes "sys.peer" ∷ codes "stratum" ∷ []) ≡ codes "sys.peer,stratum"
two_names = refl

-- octets of names, and one that is none
of_names : list_all is_name_octet (codes "azAZ09_.") ≡ true
of_names = refl

no_comma : is_name_octet 44 ≡ false
no_comma = refl

no_hyphen : is_name_octet 45 ≡ false
no_hyphen = refl

-- `as` alone wants the associations
as_alone : AreFor (codes "as" ∷ []) Associations
as_alone = refl

-- `mrulist` alone wants all clients, in pages of 32 datagrams
mrulist_alone : AreFor (codes "mrulist" ∷ []) (Clients (record { filter = record { mincount = 1; resall = 0; resany = 0 }; limit = None; frags = 32 }))
mrulist_alone = ([], refl, record { each = refl; limit = refl; frags = refl; mincount = refl; resall = refl; resany = refl })

-- two options, of which one gives a limit and a least count; and one that is given twice
options : IsQueryOf (codes "mincount=2" ∷ codes "limit=20" ∷ []) (record { filter = record { mincount = 2; resall = 0; resany = 0 }; limit = Some 20; frags = 32 })
unfolding digits
options = record {
  each = refl;
  limit = (refl, lit≤ tt, lit≤ tt);
  frags = refl;
  mincount = (refl, lit≤ tt, lit≤ tt);
  resall = refl;
  resany = refl;
}

twice : given (codes "limit=") (codes "limit=1" ∷ codes "frags=2" ∷ codes "limit=1" ∷ []) ≡ Some (codes "1") ∷ Some (codes "1") ∷ []
twice = refl

-- words that give no option: one of another name, and one without a value
other_name : is_option (codes "kod=1") ≡ false
other_name = refl

no_value : is_option (codes "limit") ≡ false
no_value = refl

-- a mask has digits of either case
mask : SpellsMask (codes "0x5Df") 0x5df
mask = record { digits = codes "5Df"; spelled = refl; each = refl; some = lit≤ tt; few = lit≤ tt; value = refl }

-- lines of failures
words : failure_line Words ≡ codes "ntpq: words\n"
unfolding failure_line
words = refl

no_reply : failure_line (Ask NoReply) ≡ codes "ntpq: no reply\n"
unfolding failure_line
no_reply = refl

bad_reply : failure_line BadReply ≡ codes "ntpq: bad reply\n"
unfolding failure_line
bad_reply = refl

-- statuses
refused-status : failure_status (Ask (Refused 7)) ≡ 5
refused-status = refl

closed-status : failure_status (Ask Closed) ≡ 11
closed-status = refl
