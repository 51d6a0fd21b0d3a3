-- What a server answered to the requests of a client, and what the client was told of it: our own words.
use Rattle.std.specs.Prelude.{◌≡◌, ℕ, List, [], ◌∷◌, ◌++◌, Result, Ok, Err, Contains}
use Rattle.std.specs.List.{AllByRecursion}
use Rattle.net_addr.specs.declared.addr.Addr.{Addr}
use Rattle.edge_traits.specs.declared.port.Event.{Event}
use Rattle.edge_traits.specs.declared.port.Event.TheVariants.{Took, Silence, Sent}
use Rattle.mode6_frame.specs.Frames.{FrameParts}
use Rattle.mode6_frame.specs.Places.{frame_at}
use Rattle.mode6_frame.specs.Served.{Served, Refusal, IsDatagramOf, Tells, AreServed}
use Rattle.ntpq_client.specs.declared.fault.AskFault.{AskFault}
use Rattle.ntpq_client.specs.declared.fault.AskFault.TheVariants.{Refused}
use Rattle.ntpq_client.specs.declared.news.News.{News}
use Rattle.ntpq_client.specs.declared.news.News.TheVariants.{Nothing, Answered, Denied, Quiet}
use Rattle.ntpq_client.specs.Talks.{Talk, news_of}
use Rattle.ntpq_client.specs.Dialogues.{Dialogue, Asking, after_one}

-- a response is a datagram of one of these answers
abbrev pub IsOfOne : List Served → FrameParts → Type 0
IsOfOne answers f = (answer : Served) × Contains answers answer × IsDatagramOf answer f

-- a datagram that was taken from the server is one of an answer to the request of its sequence number
abbrev pub IsAnswered : Addr → (ℕ → List Served) → Event → Type 0
IsAnswered server answers (Took from octets) =
    from ≡ server → IsOfOne (answers (frame_at octets).sequence) (frame_at octets)
IsAnswered server answers Silence = Unit {0}
IsAnswered server answers (Sent to octets) = Unit {0}

-- a server's answers to the request of each sequence number, for what was taken from it in these events: each can be sent, a
-- tag names one of those to one request, and each datagram is one of theirs
pub record AreAnswers (server : Addr) (answers : ℕ → List Served) (events : List Event) : Type 0 where
  pub served : (sequence : ℕ) → AreServed (answers sequence)
  pub taken : AllByRecursion (IsAnswered server answers) events

-- a datagram belongs to an answer to the request that the client posted last; of each one to which it belongs this is so
pub record IsToldBy (answers : ℕ → List Served) (t : Talk) (octets : List ℕ) (P : Served → Type 0) : Type 0 where
  pub answer : Served
  pub current : (frame_at octets).sequence ≡ t.posted
  pub among : Contains (answers t.posted) answer
  pub datagram : IsDatagramOf answer (frame_at octets)
  pub told : P answer
  pub each : (other : Served) → Contains (answers t.posted) other → IsDatagramOf other (frame_at octets) → P other

-- an event took a datagram of an answer to the request that the client posted last, of which this is so
abbrev pub TookOf : (ℕ → List Served) → Event → Talk → (Served → Type 0) → Type 0
TookOf answers event t P = (octets : List ℕ) × (event ≡ Took t.server octets) × IsToldBy answers t octets P

-- the news of an event are those of these answers: a whole answer tells one of them, and a refusal is one
abbrev pub IsNewsOf : (ℕ → List Served) → Event → Talk → News → Type 0
IsNewsOf answers event t Nothing = Unit {0}
IsNewsOf answers event t (Answered status text) = TookOf answers event t (Tells status text)
IsNewsOf answers event t (Denied code) = TookOf answers event t (λ answer. answer ≡ Refusal code)
IsNewsOf answers event t Quiet = Unit {0}

-- each whole answer and each refusal that a client was told amid a dialogue is one of these answers
abbrev pub EachIsTold : {S : Type 0} → Dialogue S → (ℕ → List Served) → Asking S → List Event → Type 0
EachIsTold d answers a [] = Unit {0}
EachIsTold d answers a (event ∷ events) =
    IsNewsOf answers event a.talk (news_of event a.talk) × EachIsTold d answers (after_one d event a) events

-- the last of these events took a datagram of an answer to the request that the client posted last, of which this is so
abbrev pub LastTold : (ℕ → List Served) → Talk → List Event → (Served → Type 0) → Type 0
LastTold answers t events P =
    (before : List Event) × (octets : List ℕ) × (events ≡ before ++ Took t.server octets ∷ [])
    × IsToldBy answers t octets P

-- what a call answers after these events is one of these answers, the one whose datagram was taken last
abbrev pub AnswersOne : (ℕ → List Served) → Result (ℕ × List ℕ) AskFault → Talk → List Event → Type 0
AnswersOne answers (Ok answer) t events = LastTold answers t events (Tells answer.0 answer.1)
AnswersOne answers (Err (Refused code)) t events = LastTold answers t events (λ answer. answer ≡ Refusal code)
AnswersOne answers (Err fault) t events = Unit {0}
