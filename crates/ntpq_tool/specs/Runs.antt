-- How a run of `ntpq` goes at its port, by how it ends: our own rule, over the requests of RFC 9327, section 4.
use Rattle.std.specs.Prelude.{◌≡◌, ◌⊎◌, ℕ, Bool, false, Option, None, Some, List, [], ◌∷◌, length, Result, Ok, Err, IsTrue, Contains, IsSome, ◌≢◌}
use Rattle.std.specs.List.{AllByRecursion}
use Rattle.net_addr.specs.declared.addr.Addr.{Addr}
use Rattle.edge_traits.specs.Told.{Rose}
use Rattle.edge_traits.specs.declared.port.Event.{Event}
use Rattle.mode6_frame.specs.Served.{Served, Tells}
use Rattle.ntpq_client.specs.Answered.{AreAnswers, EachIsTold}
use Rattle.ntpq_client.specs.declared.client.TheConstants.{MAX_REQUESTS}
use Rattle.ntpq_client.specs.declared.fault.AskFault.{AskFault}
use Rattle.ntpq_client.specs.declared.fault.AskFault.TheVariants.{Port, Closed, Refused}
use Rattle.ntpq_client.specs.declared.fault.AskFault.TheVariants as Fault
use Rattle.ntpq_client.specs.declared.news.News.{News}
use Rattle.ntpq_client.specs.declared.news.News.TheVariants.{Nothing, Answered}
use Rattle.ntpq_client.specs.declared.request.Request.{Request}
use Rattle.ntpq_client.specs.Dialogues.{Asking, Dialogue, Goes, asking, ready}
use Rattle.ntpq_client.specs.Ends.{AskEnds, Ends, IsOver, Misses}
use Rattle.ntpq_client.specs.Talks.{Talk, new_talk, stuck}
use Rattle.ntpq_report.specs.declared.associations.AssociationStatus.{AssociationStatus}
use Rattle.ntpq_report.specs.Associations.{IsStatusBody}
use Rattle.ntpq_tool.specs.declared.ending.Failure.{Failure}
use Rattle.ntpq_tool.specs.declared.ending.Failure.TheVariants.{Words, Ask, BadReply, NoMemory}
use Rattle.ntpq_tool.specs.declared.words.Command.{Command}
use Rattle.ntpq_tool.specs.declared.words.Wanted.{Wanted}
use Rattle.ntpq_tool.specs.declared.words.Wanted.TheVariants.{Variables, Associations, Peers, Clients}
use Rattle.ntpq_tool.specs.Answers.{ArePeerLines, IsBad, IsReport}
use Rattle.ntpq_tool.specs.Command.{IsCommand, IsNoCommand}
use Rattle.ntpq_tool.specs.declared.answers.Answer.{Answer}
use Rattle.ntpq_tool.specs.Listings.{RanListing}
use Rattle.ntpq_tool.specs.Scripts.{AreNamed, Course, course_of, script_of}

-- where one that asked a request stands, by what is made of its answer: this report; or a fault, of which a bad reply is an
-- answer that has no report
abbrev pub AnsweredBy : (Answer → List ℕ → Type 0) → Request → Result (List ℕ) Failure → Asking News → Type 0
AnsweredBy IsIts request (Ok report) a =
    (stuck a.talk ≡ None) × (a.waits ≡ false)
    × ((answer : Answer) × (a.plan ≡ Answered answer.status answer.text) × IsIts answer report)
AnsweredBy IsIts request (Err BadReply) a =
    (stuck a.talk ≡ None) × (a.waits ≡ false)
    × ((answer : Answer) × (a.plan ≡ Answered answer.status answer.text)
    × ((report : List ℕ) → ¬ (IsIts answer report)))
AnsweredBy IsIts request (Err (Ask fault)) a = AskEnds request (Err fault) a
AnsweredBy IsIts request (Err NoMemory) a = Unit {0}
AnsweredBy IsIts request (Err Words) a = ⊥

-- all that a command did at its port reached its client; only without memory it may miss the last datagram
abbrev pub MissesLast : {A : Type 0} → Result A Failure → Option (List Event) → Option (List Event) → Type 0
MissesLast (Err (Ask fault)) reached after = Misses {A = Unit {0}} (Err fault) reached after
MissesLast (Err Words) reached after = after ≡ reached
MissesLast (Err BadReply) reached after = after ≡ reached
MissesLast (Err NoMemory) reached after = after ≡ reached
MissesLast (Ok made) reached after = after ≡ reached

-- a request was asked, and this was made of its answer: what happened led to where the client stands
pub record Inquired (IsIts : Answer → List ℕ → Type 0) (request : Request) (old new : Talk) (result : Result (List ℕ) Failure) (before after : Option (List Event)) : Type 0 where
  pub to : Asking News
  pub reached : Option (List Event)
  pub goes : Goes (asking request) (ready old Nothing) to before reached
  pub misses : MissesLast result reached after
  pub ends : AnsweredBy IsIts request result to
  pub leaves : new ≡ to.talk

-- where a command stands that ended by this fault of asking: it was refused exactly there
abbrev pub AskedUntil : Dialogue Course → AskFault → Asking Course → Type 0
AskedUntil d (Refused code) a = (stuck a.talk ≡ None) × (a.waits ≡ false) × (a.plan.refused ≡ Some code)
AskedUntil d fault a = Ends d (Err fault) a

-- where a command stands, by how it ends: all its answers were taken, and this is their report; or the last answer is bad; or
-- it was refused, or its client has given up, or the port failed or is closed
abbrev pub EndsBy : Wanted → List AssociationStatus → Result (List ℕ) Failure → Asking Course → Type 0
EndsBy what associations (Ok report) a =
    (stuck a.talk ≡ None) × IsOver (script_of what associations) a × (a.plan.refused ≡ None)
    × IsReport what a.plan.answers report
EndsBy what associations (Err BadReply) a =
    (stuck a.talk ≡ None) × (a.waits ≡ false) × (a.plan.refused ≡ None)
    × IsBad what associations a.plan.answers
EndsBy what associations (Err (Ask fault)) a = AskedUntil (script_of what associations) fault a
EndsBy what associations (Err NoMemory) a = Unit {0}
EndsBy what associations (Err Words) a = ⊥

-- a run ended for want of memory
abbrev pub IsWant : Result (List ℕ) Failure → Type 0
IsWant ending = (ending ≡ Err NoMemory) ⊎ (ending ≡ Err (Ask Fault.NoMemory))

-- a run ended so where its last answer is bad: by that, unless memory was wanting
abbrev pub MayBeBad : Result (List ℕ) Failure → Type 0
MayBeBad ending = (ending ≡ Err BadReply) ⊎ IsWant ending

-- A command ran, from a client at a talk and a command that took these answers on: its requests, and what came, led to where
-- it stands when it ends
pub record Runs (what : Wanted) (old : Talk) (answers : List Answer) (ending : Result (List ℕ) Failure) (before after : Option (List Event)) : Type 0 where
  pub associations : List AssociationStatus
  pub to : Asking Course
  pub reached : Option (List Event)
  pub goes : Goes (script_of what associations) (ready old (course_of answers)) to before reached
  pub misses : MissesLast ending reached after
  pub named : AreNamed to.plan.answers associations
  pub ends : EndsBy what associations ending to
  pub bad_only : IsBad what associations to.plan.answers → MayBeBad ending

-- an answer is one of those that a server sent to the requests of its sequence numbers
pub record IsOfServer (served : ℕ → List Served) (answer : Answer) : Type 0 where
  pub sequence : ℕ
  pub sent : Served
  pub among : Contains (served sequence) sent
  pub tells : Tells answer.status answer.text sent

-- a client that has not given up has a request to post, and posted all that it may
pub record IsFull (d : Dialogue Course) (a : Asking Course) : Type 0 where
  pub unstuck : stuck a.talk ≡ None
  pub ready_to : a.waits ≡ false
  pub due : IsSome (d.due a.plan)
  pub all : a.talk.posted ≡ MAX_REQUESTS

-- A command ran with a new client of its server. Whatever answers served the datagrams that it took from there, each whole
-- answer and each refusal that it was told is one of these to the request that it had posted last; so each answer of which
-- the report is made is one. Where it was refused, or its client has given up or posted all that it may, that is how
-- it ended, unless memory was wanting.
pub record RanScript (what : Wanted) (server : Addr) (ending : Result (List ℕ) Failure) (before after : Option (List Event)) : Type 0 where
  pub run : Runs what (new_talk server) [] ending before after
  pub told : (served : ℕ → List Served) → AreAnswers server served run.goes.events → EachIsTold (script_of what run.associations) served (ready (new_talk server) (course_of [])) run.goes.events
  pub each : (served : ℕ → List Served) → AreAnswers server served run.goes.events → AllByRecursion (IsOfServer served) run.to.plan.answers
  pub refused_only : (code : ℕ) → run.to.plan.refused ≡ Some code → (ending ≡ Err (Ask (Refused code))) ⊎ IsWant ending
  pub stuck_only : (fault : AskFault) → stuck run.to.talk ≡ Some fault → (ending ≡ Err (Ask fault)) ⊎ IsWant ending
  pub incomplete_only : IsFull (script_of what run.associations) run.to → ¬ (IsBad what run.associations run.to.plan.answers) → ending ≢ Err (Ask Port) → (ending ≡ Err (Ask Fault.Incomplete)) ⊎ IsWant ending

-- a command ran with a new client of its server: it asked its requests, one after another, or listed the clients
abbrev pub Ran : Wanted → Addr → Result (List ℕ) Failure → Option (List Event) → Option (List Event) → Type 0
Ran (Variables assoc names) = RanScript (Variables assoc names)
Ran Associations = RanScript Associations
Ran Peers = RanScript Peers
Ran (Clients query) = RanListing query

-- what happens at the port, by the words: nothing where they are no command, or where there is no memory to read them; else
-- their command runs
abbrev pub Happens : List (List ℕ) → Result (List ℕ) Failure → Option (List Event) → Option (List Event) → Type 0
Happens words ending before after =
    ((ending ≡ Err Words) × IsNoCommand words × (after ≡ before))
    ⊎ (((ending ≡ Err NoMemory) × (after ≡ before))
    ⊎ ((command : Command) × IsCommand words command
    × Ran command.what command.server ending before after))

-- where the lines of peers stand that were asked after the first answer, by how that ends
abbrev pub LinesEnd : Answer → List AssociationStatus → Result (List ℕ) Failure → Asking Course → Type 0
LinesEnd first associations (Ok lines) a =
    (stuck a.talk ≡ None) × (a.waits ≡ false)
    × ((answers : List Answer) × (length answers ≡ length associations) × (a.plan ≡ course_of (first ∷ answers))
    × ArePeerLines associations answers lines)
LinesEnd first associations (Err why) a = EndsBy Peers associations (Err why) a

-- the lines of peers were asked after this first answer
pub record LinesRun (first : Answer) (associations : List AssociationStatus) (old : Talk) (ending : Result (List ℕ) Failure) (before after : Option (List Event)) : Type 0 where
  pub to : Asking Course
  pub reached : Option (List Event)
  pub goes : Goes (script_of Peers associations) (ready old (course_of (first ∷ []))) to before reached
  pub misses : MissesLast ending reached after
  pub begins : (answers : List Answer) × (to.plan.answers ≡ first ∷ answers)
  pub ends : LinesEnd first associations ending to
  pub bad_only : IsStatusBody first.text associations → IsBad Peers associations to.plan.answers → MayBeBad ending

-- what stands behind an ending at the port: faults that rose, or its end
pub record Behind {A : Type 0} (ending : Result A Failure) (faults faults' : ℕ) (is_closed : Bool) : Type 0 where
  pub failed : ending ≡ Err (Ask Port) → Rose 1 faults faults'
  pub closed : ending ≡ Err (Ask Closed) → IsTrue is_closed
