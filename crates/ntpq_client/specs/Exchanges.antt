-- What one take, and one request with its answer, are to a client (our own rule).
use Rattle.std.specs.Prelude.{◌≡◌, ◌⊎◌, ℕ, Bool, true, false, Option, None, List, [], ◌∷◌, Result, Ok, Err}
use Rattle.edge_traits.specs.Told.{gained}
use Rattle.edge_traits.specs.declared.port.Event.{Event}
use Rattle.ntpq_client.specs.declared.fault.AskFault.{AskFault}
use Rattle.ntpq_client.specs.declared.fault.AskFault.TheVariants.{Port, Closed, Refused, NoMemory}
use Rattle.ntpq_client.specs.declared.news.News.{News}
use Rattle.ntpq_client.specs.declared.news.News.TheVariants.{Nothing, Answered, Denied, Quiet}
use Rattle.ntpq_client.specs.declared.polling.Got.{Got}
use Rattle.ntpq_client.specs.declared.polling.Got.TheVariants as Found
use Rattle.ntpq_client.specs.Talks.{Talk, stuck, after_event, news_of}
use Rattle.ntpq_client.specs.Dialogues.{Dialogue, Goes, IsTaken, ready}
use Rattle.ntpq_client.specs.Ends.{Conversed, MissesOne}

-- what one take is to a client: one event and what the client knows after it; or none, where the port failed or is
-- closed; or a datagram missed, without memory
abbrev pub TookOne : Talk → Talk → Result News AskFault → Option (List Event) → Option (List Event) → Type 0
TookOne old new (Ok news) before after =
    (event : Event) × IsTaken event × (after ≡ gained before (event ∷ []))
    × (new ≡ after_event event old) × (news ≡ news_of event old)
TookOne old new (Err Port) before after = (new ≡ old) × (after ≡ before)
TookOne old new (Err Closed) before after = (new ≡ old) × (after ≡ before)
TookOne old new (Err NoMemory) before after = (new ≡ old) × MissesOne before after
TookOne old new (Err _) before after = ⊥

-- what one request and its answer are to a dialogue: it goes on, or was over before
abbrev pub Exchanged : {S : Type 0} → Dialogue S → Talk → S → Talk → S → Result Bool AskFault → Option (List Event) → Option (List Event) → Type 0
Exchanged d old plan new plan' (Ok true) before after =
    Goes d (ready old plan) (ready new plan') before after × (stuck new ≡ None)
Exchanged d old plan new plan' (Ok false) before after =
    (new ≡ old) × (plan' ≡ plan) × (d.due plan ≡ None) × (after ≡ before)
Exchanged d old plan new plan' (Err fault) before after = Conversed d old plan new plan' (Err fault) before after

-- a dialogue went on to here, or had no memory to
abbrev pub WentOn : {S : Type 0} → S → S → Result Bool AskFault → Type 0
WentOn to plan' result = ((result ≡ Ok true) × (plan' ≡ to)) ⊎ (result ≡ Err NoMemory)

-- a dialogue was told what its client found, and goes on; or it had no memory to
abbrev pub ToldTo : {S : Type 0} → Dialogue S → Result Got AskFault → S → S → Result Bool AskFault → Type 0
ToldTo d (Ok (Found.Whole status text)) plan plan' result = WentOn (d.whole status text plan) plan' result
ToldTo d (Ok Found.Quiet) plan plan' result = WentOn (d.silent plan) plan' result
ToldTo d (Err (Refused code)) plan plan' result = WentOn (d.refused code plan) plan' result
ToldTo d (Err fault) plan plan' result = (result ≡ Err fault) × (plan' ≡ plan)

-- news after which nothing is due
abbrev pub IsOutcome : News → Type 0
IsOutcome Nothing = ⊥
IsOutcome Quiet = ⊥
IsOutcome (Answered status text) = Unit {0}
IsOutcome (Denied code) = Unit {0}

-- what is answered of the news at which nothing is due any longer
abbrev pub AnswerIs : Result (ℕ × List ℕ) AskFault → News → Type 0
AnswerIs (Ok answer) news = news ≡ Answered answer.0 answer.1
AnswerIs (Err (Refused code)) news = news ≡ Denied code
AnswerIs (Err _) news = ⊥
