-- What `ntpd once` does at its port and its clock: one datagram, answered by a server that has just begun (our own rule, over RFC 5905 and RFC 9327).
use Rattle.std.specs.Prelude.{◌≡◌, ◌≢◌, ◌⊎◌, ◌<◌, ◌*◌, ◌^◌, ℕ, List, [], ◌∷◌, ◌++◌, length, take, replicate, Bool, IsTrue}
use Rattle.fixed_time.specs.declared.time.Ntp64.{Ntp64}
use Rattle.mac_keys.specs.declared.keys.Key.{Key}
use Rattle.net_addr.specs.declared.addr.Addr.{Addr}
use Rattle.edge_traits.specs.Told.{Rose}
use Rattle.edge_traits.specs.declared.port.Event.{Event}
use Rattle.edge_traits.specs.declared.status.Status.{Status}
use Rattle.edge_traits.specs.declared.port.Event.TheVariants.{Took, Silence}
use Rattle.recency.specs.declared.limits.Limits.{Limits}
use Rattle.recency.specs.declared.limits.TheConstants.{PLAIN_MAXAGE, PLAIN_MAXDEPTH, PLAIN_MINAGE, PLAIN_MINDEPTH}
use Rattle.sys_vars.specs.Opening.{IsOpening}
use Rattle.sys_vars.specs.declared.context.Context.{Context}
use Rattle.server_core.specs.States.{ServerState}
use Rattle.server_core.specs.declared.response.Response.{Response}
use Rattle.server_core.specs.declared.response.Response.TheVariants.{Silent as NoAnswer}
use Rattle.server_core.specs.declared.response.Silence.{Silence as Reason}
use Rattle.server_core.specs.declared.response.Silence.TheVariants.{Ignored, Limited}
use Rattle.server_core.specs.Books.{BookParts}
use Rattle.server_core.specs.Class.{IsClass}
use Rattle.server_core.specs.declared.class.Class.TheVariants.{Silent as NotHeard}
use Rattle.server_core.specs.declared.class.Unheard.{Unheard}
use Rattle.server_core.specs.Responses.{IsResponse, grams_of}
use Rattle.giving.specs.Gives.{sent_events}
use Rattle.shared_book.specs.Contexts.{context_at}
use Rattle.shared_book.specs.declared.common.Common.{Common}
use Rattle.ntpd_serve.specs.declared.ending.Ending.{Ending}
use Rattle.ntpd_serve.specs.declared.ending.Ending.TheVariants.{Answered, Silent, Failed}
use Rattle.ntpd_serve.specs.declared.ending.Failure.{Failure}
use Rattle.ntpd_serve.specs.declared.ending.Failure.TheVariants.{Words, Conf, Keys, TooLong, Host, Port, Clock, Quiet, Closed, NoMemory}
use Rattle.ntpd_serve.specs.declared.once.TheConstants.{PATIENCE}

-- so many takes in a row that found nothing
unfoldable pub silences : ℕ → List Event
silences n = replicate n Silence

-- the limits of a client list where nothing else is said
pub record ArePlainLimits (limits : Limits) : Type 0 where
  pub mindepth : limits.mindepth ≡ PLAIN_MINDEPTH
  pub maxdepth : limits.maxdepth ≡ PLAIN_MAXDEPTH
  pub minage : limits.minage ≡ PLAIN_MINAGE * 2 ^ 32
  pub maxage : limits.maxage ≡ PLAIN_MAXAGE * 2 ^ 32

-- the server that a run begins with: an opening record is published, and nobody has asked yet
pub record IsOpeningState (origin : Ntp64) (s : ServerState) : Type 0 where
  pub published : IsOpening origin s.published
  pub rows : s.rows ≡ []
  pub stamp : s.stamp ≡ 0
  pub limits : ArePlainLimits s.limits
  pub origin_is : s.origin ≡ origin

-- a front of these datagrams was given, and not all of them
abbrev pub IsCutShort : Addr → List (List ℕ) → List Event → Type 0
IsCutShort to grams events = (given : ℕ) × (given < length grams) × (events ≡ sent_events to (take given grams))

-- the response to what came in this context is these datagrams, one at least, where it is given at this moment
abbrev pub IsMade : List Key → Context → ℕ → Response → List (List ℕ) → Type 0
IsMade keys context sent response grams = (grams_of keys context sent response ≡ grams) × (0 < length grams)

-- The datagram is answered by these, in their order. The clock was read when the datagram was classed, and once again
-- before the answer was given.
pub record IsAnswer (common : Common) (s : ServerState) (from : Addr) (octets : List ℕ) (readings : List ℕ) (grams : List (List ℕ)) : Type 0 where
  pub response : Response
  pub came : ℕ
  pub sent : ℕ
  pub read : readings ≡ came ∷ sent ∷ []
  pub is_response : IsResponse s common.keys (context_at common came) from octets response
  pub made : IsMade common.keys (context_at common came) sent response grams

-- The datagram gets no answer, for this reason, and none is given. The clock was read once.
pub record IsUnanswered (common : Common) (s : ServerState) (from : Addr) (octets : List ℕ) (why : Reason) (events : List Event) (readings : List ℕ) : Type 0 where
  pub came : ℕ
  pub read : readings ≡ came ∷ []
  pub is_response : IsResponse s common.keys (context_at common came) from octets (NoAnswer why)
  pub none : events ≡ []

-- what follows a datagram at the port of a server in this state, and what is read of the clock, by how the call ends;
-- where the port fails, or has no memory, a front of the answer was given
abbrev pub Follows : Common → ServerState → Ending → Addr → List ℕ → List Event → List ℕ → Type 0
Follows common s (Answered count) from octets events readings =
    (grams : List (List ℕ)) × IsAnswer common s from octets readings grams
    × (events ≡ sent_events from grams) × (count ≡ length grams)
Follows common s (Silent why) from octets events readings =
    IsUnanswered common s from octets why events readings
Follows common s (Failed Port) from octets events readings =
    (grams : List (List ℕ)) × IsAnswer common s from octets readings grams × IsCutShort from grams events
Follows common s (Failed NoMemory) from octets events readings =
    (events ≡ [])
    ⊎ ((grams : List (List ℕ)) × IsAnswer common s from octets readings grams × IsCutShort from grams events)
Follows common s (Failed _) from octets events readings = ⊥

-- a datagram that is not heard at the moment of the first of these readings leaves the server as it was
abbrev pub LeavesUnheard : Common → Addr → List ℕ → List ℕ → BookParts → BookParts → Type 0
LeavesUnheard common from octets [] old new = new ≡ old
LeavesUnheard common from octets (came ∷ readings) old new =
    (why : Unheard) → IsClass octets from common.keys (context_at common came) (NotHeard why) → new ≡ old

-- a datagram came after fewer silences than end the call, to a server that has just begun and so refuses nobody
pub record Comes (common : Common) (ending : Ending) (events : List Event) (readings : List ℕ) : Type 0 where
  pub quiets : ℕ
  pub from : Addr
  pub octets : List ℕ
  pub after : List Event
  pub server : ServerState
  pub opening : IsOpeningState common.origin server
  pub in_time : quiets < PATIENCE
  pub gained : events ≡ silences quiets ++ Took from octets ∷ after
  pub follows : Follows common server ending from octets after readings
  pub unrefused : (ending ≢ Silent Ignored) × (ending ≢ Silent Limited)

-- nothing but silences came, by why the call gives up
abbrev pub OnlySilences : Failure → List Event → Type 0
OnlySilences Quiet events = events ≡ silences PATIENCE
OnlySilences Words events = ⊥
OnlySilences (Conf line word) events = ⊥
OnlySilences (Keys line word) events = ⊥
OnlySilences TooLong events = ⊥
OnlySilences Host events = ⊥
OnlySilences Clock events = ⊥
OnlySilences _ events = (quiets : ℕ) × (quiets < PATIENCE) × (events ≡ silences quiets)

-- what one call does at the port and the clock, by how it ends
abbrev pub Happens : Common → Ending → List Event → List ℕ → Type 0
Happens common ending events readings =
    Comes common ending events readings
    ⊎ ((why : Failure) × (ending ≡ Failed why) × OnlySilences why events × (readings ≡ []))

-- what stands behind an ending: faults of the port that rose, takes that found nothing, or its end
pub record Causes (ending : Ending) (faults faults' quiets quiets' : ℕ) (is_closed : Bool) : Type 0 where
  pub failed : ending ≡ Failed Port → Rose 1 faults faults'
  pub quiet : ending ≡ Failed Quiet → Rose PATIENCE quiets quiets'
  pub closed : ending ≡ Failed Closed → IsTrue is_closed

-- a datagram was taken
abbrev pub HasCome : List Event → Type 0
HasCome events =
    (before : List Event) × (from : Addr) × (octets : List ℕ) × (after : List Event)
    × (events ≡ before ++ Took from octets ∷ after)

-- the datagram was served, or there was no memory to serve it
abbrev pub IsServed : Status → Type 0
IsServed status = (status.0 ≡ 0) ⊎ (status.0 ≡ 9)
