-- The datagrams that a number draws for a session: our own rule, over RFC 5905, section 7.3, and RFC 9327, section 2.
use Rattle.std.specs.Prelude.{ℕ, zero, suc, ◌+◌, ◌%◌, ◌<◌, ◌==◌, Bool, true, false, if◌then◌else◌, List, [], ◌∷◌, ◌++◌, codes, replicate, take}
use Rattle.std.specs.Int.{to_be_bytes, w16, w64}
use Rattle.std.specs.List.{filter}
use Rattle.draws.specs.Clients.{client_addr}
use Rattle.draws.specs.Draws.{drawn, next_state}
use Rattle.draws.specs.declared.clients.TheConstants.{CLIENTS}
use Rattle.edge_traits.specs.declared.port.Event.{Event}
use Rattle.edge_traits.specs.declared.port.Event.TheVariants.{Took, Silence, Sent}
use Rattle.drawn_session.specs.declared.datagrams.DrawnDatagram.{DrawnDatagram}
use Rattle.drawn_session.specs.declared.datagrams.Kind.{Kind}
use Rattle.drawn_session.specs.declared.datagrams.Kind.TheVariants.{Cut, Control, Time}
use Rattle.drawn_session.specs.declared.datagrams.TheConstants.{CUT_TRANSMIT, DATAGRAMS, KINDS, WORKERS}

-- what a datagram is, by the number that is drawn for it: one in sixteen is cut short, and one in sixteen a control request
abbrev pub kind_of : ℕ → Kind
kind_of number = if number == 0 then Cut else (if number == 1 then Control else Time)

-- the datagram of a number, as it is drawn from this state: first its client, and then what it is
abbrev pub datagram_at : ℕ → ℕ → DrawnDatagram
datagram_at number x = record { number = number; client = drawn x % CLIENTS; kind = kind_of (drawn (next_state x) % KINDS) }

-- the state after a datagram was drawn
abbrev pub state_behind_one : ℕ → ℕ
state_behind_one x = next_state (next_state x)

-- so many datagrams that are drawn one after another, the first of which has this number
unfoldable pub datagrams_from : ℕ → ℕ → ℕ → List DrawnDatagram
datagrams_from zero number x = []
datagrams_from (suc left) number x = datagram_at number x ∷ datagrams_from left (number + 1) (state_behind_one x)

-- the state after so many datagrams were drawn
unfoldable pub state_behind : ℕ → ℕ → ℕ
state_behind zero x = x
state_behind (suc left) x = state_behind left (state_behind_one x)

-- the datagrams of a session that a number draws
unfoldable pub datagrams_of : ℕ → List DrawnDatagram
datagrams_of number = datagrams_from DATAGRAMS 0 number

-- a datagram goes to the worker of this number, or to another host
abbrev pub is_for : ℕ → DrawnDatagram → Bool
is_for host d = d.client % WORKERS == host

-- the datagrams that a number draws for a host, in their order
unfoldable pub datagrams_for : ℕ → ℕ → List DrawnDatagram
datagrams_for number host = filter (is_for host) (datagrams_of number)

-- a request for the time by a client whose transmit timestamp is this: version 4, mode 3, poll 6, precision -23, and all
-- else is 0
abbrev pub request_octets : ℕ → List ℕ
request_octets transmit = 0x23 ∷ 0x00 ∷ 0x06 ∷ 0xe9 ∷ (replicate 36 0 ++ to_be_bytes w64 transmit)

-- one without its last octet
abbrev pub cut_octets : List ℕ
cut_octets = take 47 (request_octets CUT_TRANSMIT)

-- a control request of this sequence for the variable `stratum` of the system: its text, and an octet of padding
abbrev pub control_octets : ℕ → List ℕ
control_octets sequence =
    0x16 ∷ 0x02 ∷ (to_be_bytes w16 sequence ++ 0 ∷ 0 ∷ 0 ∷ 0 ∷ 0 ∷ 0 ∷ 0 ∷ 7 ∷ (codes "stratum" ++ 0 ∷ []))

-- the octets of a datagram, by what it is; a request tells its number as its transmit timestamp, or as its sequence
abbrev pub octets_by : Kind → ℕ → List ℕ
octets_by Cut number = cut_octets
octets_by Control number = control_octets number
octets_by Time number = request_octets number

-- the octets of a datagram
abbrev pub octets_of : DrawnDatagram → List ℕ
octets_of d = octets_by d.kind d.number

-- a datagram was taken
abbrev pub took_of : DrawnDatagram → Event
took_of d = Took (client_addr d.client) (octets_of d)

-- a take of a datagram
abbrev pub is_take : Event → Bool
is_take (Took from octets) = true
is_take Silence = false
is_take (Sent to octets) = false

-- a client has an address, and a datagram fits its sequence
pub record IsDrawn (d : DrawnDatagram) : Type 0 where
  pub named : d.client < CLIENTS
  pub numbered : d.number < DATAGRAMS
