-- How calls of a client end, by what it then knows; each answer has its cause (our own rule).
use Rattle.std.specs.Prelude.{◌≡◌, ◌⊎◌, ◌<◌, ℕ, true, false, Bool, IsTrue, IsSome, OnOk, Option, Some, None, List, [], ◌∷◌, Result, Ok, Err}
use Rattle.net_addr.specs.declared.addr.Addr.{Addr}
use Rattle.edge_traits.specs.Told.{gained, Rose}
use Rattle.edge_traits.specs.declared.port.Event.{Event}
use Rattle.edge_traits.specs.declared.port.Event.TheVariants.{Took}
use Rattle.mode6_frame.specs.Served.{Served}
use Rattle.ntpq_client.specs.declared.client.TheConstants.{MAX_REQUESTS}
use Rattle.ntpq_client.specs.declared.fault.AskFault.{AskFault}
use Rattle.ntpq_client.specs.declared.fault.AskFault.TheVariants.{Port, Closed, NoReply, Refused, Incomplete, Flooded, NoMemory}
use Rattle.ntpq_client.specs.declared.news.News.{News}
use Rattle.ntpq_client.specs.declared.news.News.TheVariants.{Nothing, Answered, Denied, Quiet}
use Rattle.ntpq_client.specs.declared.polling.Got.{Got}
use Rattle.ntpq_client.specs.declared.polling.Got.TheVariants as Found
use Rattle.ntpq_client.specs.declared.request.Request.{Request}
use Rattle.ntpq_client.specs.Talks.{Talk, stuck}
use Rattle.ntpq_client.specs.Answered.{AreAnswers, AnswersOne, EachIsTold}
use Rattle.ntpq_client.specs.Dialogues.{Dialogue, Asking, Goes, waiting, ready, listening, asking}

-- what stands behind a fault: faults of the port that rose in the call, or its end
pub record Causes {A : Type 0} (result : Result A AskFault) (faults faults' : ℕ) (is_closed : Bool) : Type 0 where
  pub failed : result ≡ Err Port → Rose 1 faults faults'
  pub closed : result ≡ Err Closed → IsTrue is_closed

-- the trace was reached here, or has one datagram more, for which there was no memory
abbrev pub MissesOne : Option (List Event) → Option (List Event) → Type 0
MissesOne reached after =
    (after ≡ reached) ⊎ ((from : Addr) × (octets : List ℕ) × (after ≡ gained reached (Took from octets ∷ [])))

-- all that a call did at its port reached the client; only without memory it may miss the last datagram
abbrev pub Misses : {A : Type 0} → Result A AskFault → Option (List Event) → Option (List Event) → Type 0
Misses (Err NoMemory) reached after = MissesOne reached after
Misses (Err fault) reached after = after ≡ reached
Misses (Ok value) reached after = after ≡ reached

-- how posting ends, by what a client knows before it: it has given up, or has posted all that it may, exactly where that is
-- the answer
abbrev pub PostEnds : Result (Unit {0}) AskFault → Talk → Type 0
PostEnds (Ok done) t = (stuck t ≡ None) × (t.posted < MAX_REQUESTS)
PostEnds (Err NoReply) t = stuck t ≡ Some NoReply
PostEnds (Err Flooded) t = stuck t ≡ Some Flooded
PostEnds (Err Incomplete) t = (stuck t ≡ None) × (t.posted ≡ MAX_REQUESTS)
PostEnds (Err Port) t = (stuck t ≡ None) × (t.posted < MAX_REQUESTS)
PostEnds (Err NoMemory) t = (stuck t ≡ None) × (t.posted < MAX_REQUESTS)
PostEnds (Err Closed) t = ⊥
PostEnds (Err (Refused code)) t = ⊥

-- where one that waits for news stands, by what its call answers: it has given up exactly where that is the answer, and a
-- refusal is told exactly where one came
abbrev pub Heard : Result Got AskFault → Asking News → Type 0
Heard (Ok (Found.Whole status text)) a = (stuck a.talk ≡ None) × (a.plan ≡ Answered status text) × (a.waits ≡ false)
Heard (Ok Found.Quiet) a = (stuck a.talk ≡ None) × (a.plan ≡ Quiet) × (a.waits ≡ false)
Heard (Err (Refused code)) a = (stuck a.talk ≡ None) × (a.plan ≡ Denied code) × (a.waits ≡ false)
Heard (Err NoReply) a = stuck a.talk ≡ Some NoReply
Heard (Err Flooded) a = stuck a.talk ≡ Some Flooded
Heard (Err Port) a = (stuck a.talk ≡ None) × (a.waits ≡ true)
Heard (Err Closed) a = (stuck a.talk ≡ None) × (a.waits ≡ true)
Heard (Err Incomplete) a = ⊥
Heard (Err NoMemory) a = Unit {0}

-- a client listened: what happened led to where it stands, which is what its call answers
pub record Listened (old new : Talk) (result : Result Got AskFault) (before after : Option (List Event)) : Type 0 where
  pub to : Asking News
  pub reached : Option (List Event)
  pub goes : Goes listening (waiting old Nothing) to before reached
  pub misses : Misses result reached after
  pub ends : Heard result to
  pub leaves : new ≡ to.talk

-- a dialogue is over: nothing is due, and nothing is waited for
abbrev pub IsOver : {S : Type 0} → Dialogue S → Asking S → Type 0
IsOver d a = (a.waits ≡ false) × (d.due a.plan ≡ None)

-- where a dialogue stands, by what its call answers: it is over, or the client has given up or has a request to post after it
-- posted all that it may, exactly where that is the answer
abbrev pub Ends : {S : Type 0} → Dialogue S → Result (Unit {0}) AskFault → Asking S → Type 0
Ends d (Ok done) a = (stuck a.talk ≡ None) × IsOver d a
Ends d (Err NoReply) a = stuck a.talk ≡ Some NoReply
Ends d (Err Flooded) a = stuck a.talk ≡ Some Flooded
Ends d (Err Incomplete) a =
    (stuck a.talk ≡ None) × (a.waits ≡ false) × IsSome (d.due a.plan) × (a.talk.posted ≡ MAX_REQUESTS)
Ends d (Err Port) a = (stuck a.talk ≡ None) × ¬ IsOver d a
Ends d (Err Closed) a = (stuck a.talk ≡ None) × (a.waits ≡ true)
Ends d (Err NoMemory) a = Unit {0}
Ends d (Err (Refused code)) a = ⊥

-- a client led a dialogue: what happened led to where it stands, which is what its call answers; and whatever answers served
-- the datagrams that it took, each whole answer and each refusal that it was told is one of these
pub record Conversed {S : Type 0} (d : Dialogue S) (old : Talk) (plan : S) (new : Talk) (plan' : S) (result : Result (Unit {0}) AskFault) (before after : Option (List Event)) : Type 0 where
  pub to : Asking S
  pub reached : Option (List Event)
  pub goes : Goes d (ready old plan) to before reached
  pub misses : Misses result reached after
  pub ends : Ends d result to
  pub told : (answers : ℕ → List Served) → AreAnswers old.server answers goes.events → EachIsTold d answers (ready old plan) goes.events
  pub leaves : new ≡ to.talk
  pub plan_leaves : OnOk result (plan' ≡ to.plan)

-- where one that asked stands, by what its call answers: each answer exactly where it is so
abbrev pub AskEnds : Request → Result (ℕ × List ℕ) AskFault → Asking News → Type 0
AskEnds request (Ok answer) a =
    (stuck a.talk ≡ None) × (a.waits ≡ false) × (a.plan ≡ Answered answer.0 answer.1)
AskEnds request (Err (Refused code)) a = (stuck a.talk ≡ None) × (a.waits ≡ false) × (a.plan ≡ Denied code)
AskEnds request (Err fault) a = Ends (asking request) (Err fault) a

-- a request was asked: what happened led to where the client stands, which is what its call answers; and whatever answers
-- served the datagrams that it took, it is one of these
pub record Asked (request : Request) (old new : Talk) (result : Result (ℕ × List ℕ) AskFault) (before after : Option (List Event)) : Type 0 where
  pub to : Asking News
  pub reached : Option (List Event)
  pub goes : Goes (asking request) (ready old Nothing) to before reached
  pub misses : Misses result reached after
  pub ends : AskEnds request result to
  pub told : (answers : ℕ → List Served) → AreAnswers old.server answers goes.events → AnswersOne answers result to.talk goes.events
  pub leaves : new ≡ to.talk
