-- What a client sends and when: one definition for every command, over the events at its port, oldest first (our own rule).
use Rattle.std.specs.Prelude.{◌≡◌, ℕ, ◌+◌, ◌<◌, Bool, true, false, Option, Some, None, List, [], ◌∷◌}
use Rattle.edge_traits.specs.Told.{gained}
use Rattle.edge_traits.specs.declared.port.Event.{Event}
use Rattle.edge_traits.specs.declared.port.Event.TheVariants.{Took, Silence, Sent}
use Rattle.mode6_frame.specs.Places.{frame_at}
use Rattle.ntpq_client.specs.declared.client.TheConstants.{MAX_REQUESTS}
use Rattle.ntpq_client.specs.declared.news.News.{News}
use Rattle.ntpq_client.specs.declared.news.News.TheVariants.{Nothing, Answered, Denied, Quiet}
use Rattle.ntpq_client.specs.declared.request.Request.{Request}
use Rattle.ntpq_client.specs.Requests.{request_octets, request_parts}
use Rattle.ntpq_client.specs.Talks.{Talk, stuck, after_event, news_of, post_of}

-- what a command asks: the request that is due as far as it has come, none where it is over; and how far it has come
-- after a whole answer, a refusal, and a take that found nothing
pub record Dialogue (S : Type 0) : Type 0 where
  pub due : S → Option Request
  pub whole : ℕ → List ℕ → S → S
  pub refused : ℕ → S → S
  pub silent : S → S

-- a dialogue by its four parts
abbrev pub dialogue_by : {S : Type 0} → (S → Option Request) → (ℕ → List ℕ → S → S) → (ℕ → S → S) → (S → S) → Dialogue S
dialogue_by due whole refused silent = record { due = due; whole = whole; refused = refused; silent = silent }

-- a client amid a dialogue: what it knows, how far the dialogue has come, and whether it waits for an answer
pub record Asking (S : Type 0) : Type 0 where
  pub talk : Talk
  pub plan : S
  pub waits : Bool

-- how far a dialogue has come after this news
abbrev pub told : {S : Type 0} → Dialogue S → News → S → S
told d Nothing plan = plan
told d (Answered status text) plan = d.whole status text plan
told d (Denied code) plan = d.refused code plan
told d Quiet plan = d.silent plan

-- a client goes on waiting after this news
abbrev pub waits_on : News → Bool
waits_on Nothing = true
waits_on (Answered status text) = false
waits_on (Denied code) = false
waits_on Quiet = false

-- a client amid a dialogue after one event
abbrev pub after_one : {S : Type 0} → Dialogue S → Event → Asking S → Asking S
after_one d event a = record {
  talk = after_event event a.talk;
  plan = told d (news_of event a.talk) a.plan;
  waits = waits_on (news_of event a.talk);
}

-- a client amid a dialogue after several events, oldest first
abbrev pub after_all : {S : Type 0} → Dialogue S → List Event → Asking S → Asking S
after_all d [] a = a
after_all d (event ∷ events) a = after_all d events (after_one d event a)

-- an event is one of a take, and not of a give
abbrev pub IsTaken : Event → Type 0
IsTaken (Sent to octets) = ⊥
IsTaken Silence = Unit {0}
IsTaken (Took from octets) = Unit {0}

-- a request is posted with the next sequence number, in octets that are read back as this request
pub record IsPostOf (request : Request) (t : Talk) (event : Event) : Type 0 where
  pub few : t.posted < MAX_REQUESTS
  pub posted : event ≡ post_of request t
  pub reads : frame_at (request_octets request (t.posted + 1)) ≡ request_parts request (t.posted + 1)

-- the request that is due is posted
abbrev pub IsPosted : Option Request → Talk → Event → Type 0
IsPosted None t event = ⊥
IsPosted (Some request) t event = IsPostOf request t event

-- a client that waits takes, and one that does not wait posts the request that is due
abbrev pub IsTurn : Bool → Option Request → Talk → Event → Type 0
IsTurn true due t event = IsTaken event
IsTurn false due t event = IsPosted due t event

-- an event may come next: the client has not given up, and it takes or posts as its turn is
pub record IsNext {S : Type 0} (d : Dialogue S) (a : Asking S) (event : Event) : Type 0 where
  pub unstuck : stuck a.talk ≡ None
  pub turn : IsTurn a.waits (d.due a.plan) a.talk event

-- events that may come one after another
abbrev pub Follows : {S : Type 0} → Dialogue S → Asking S → List Event → Type 0
Follows d a [] = Unit {0}
Follows d a (event ∷ events) = IsNext d a event × Follows d (after_one d event a) events

-- a dialogue goes from one client to another, while its port's trace grows from `before` to `after`
pub record Goes {S : Type 0} (d : Dialogue S) (a b : Asking S) (before after : Option (List Event)) : Type 0 where
  pub events : List Event
  pub gains : after ≡ gained before events
  pub follows : Follows d a events
  pub leads : after_all d events a ≡ b

-- a client that waits for the answer to the request that it posted last
abbrev pub waiting : {S : Type 0} → Talk → S → Asking S
waiting t plan = record { talk = t; plan = plan; waits = true }

-- a client that is to post what is due
abbrev pub ready : {S : Type 0} → Talk → S → Asking S
ready t plan = record { talk = t; plan = plan; waits = false }

-- the dialogue of one that only waits for news
abbrev pub listening : Dialogue News
listening = record {
  due = λ news. None;
  whole = λ status text news. Answered status text;
  refused = λ code news. Denied code;
  silent = λ news. Quiet;
}

-- what is due in the dialogue of one request: it is posted again after each silence, until it is answered or refused
abbrev pub due_again : Request → News → Option Request
due_again request Nothing = Some request
due_again request Quiet = Some request
due_again request (Answered status text) = None
due_again request (Denied code) = None

-- the dialogue of one request, which comes to an answer or a refusal
abbrev pub asking : Request → Dialogue News
asking request = record {
  due = due_again request;
  whole = λ status text news. Answered status text;
  refused = λ code news. Denied code;
  silent = λ news. Quiet;
}

-- one request, and what was heard of it
pub record SingleParts : Type 0 where
  pub request : Request
  pub news : News
