-- What a run of a command tells, once it is whole.
use Rattle.std.proofs.Common.{◌≡◌, ◌≢◌, ℕ, Bool, false, IsSome, Option, Some, None, List, [], ◌∷◌, ◌++◌, Result, Ok, Err, ◌⊎◌, inl, inr, refl, ap, subst}
use Rattle.std.specs.List.{AllByRecursion}
use Rattle.net_addr.specs.declared.addr.Addr.{Addr}
use Rattle.edge_traits.specs.declared.port.Event.{Event}
use Rattle.mode6_frame.specs.Served.{Served}
use Rattle.ntpq_client.specs.declared.fault.AskFault.{AskFault}
use Rattle.ntpq_client.specs.declared.fault.AskFault.TheVariants as Fault
use Rattle.ntpq_client.specs.declared.news.News.{News}
use Rattle.ntpq_client.specs.declared.news.News.TheVariants.{Nothing, Answered, Denied, Quiet}
use Rattle.ntpq_client.specs.declared.request.Request.{Request}
use Rattle.ntpq_client.specs.Answered.{AreAnswers, IsNewsOf}
use Rattle.ntpq_client.specs.Dialogues.{Asking, Goes, Follows, IsTurn, told, waits_on, after_all, after_one, ready}
use Rattle.ntpq_client.specs.Talks.{Talk, stuck, after_event, news_of, new_talk}
use Rattle.ntpq_client.proofs.AnsweredLemmas.{EachIsTold-Goes, EachIsTold-keeps}
use Rattle.ntpq_client.proofs.TalkLemmas.{after_event-unstuck}
use Rattle.ntpq_report.specs.declared.associations.AssociationStatus.{AssociationStatus}
use Rattle.ntpq_tool.specs.declared.ending.Failure.{Failure}
use Rattle.ntpq_tool.specs.declared.ending.Failure.TheVariants.{Words, Ask, BadReply, NoMemory}
use Rattle.ntpq_tool.specs.declared.words.Wanted.{Wanted}
use Rattle.ntpq_tool.specs.Answers.{IsBad}
use Rattle.ntpq_tool.specs.Runs.{EndsBy, IsFull, IsOfServer, IsWant, RanScript, Runs}
use Rattle.ntpq_tool.specs.declared.answers.Answer.{Answer}
use Rattle.ntpq_tool.specs.Scripts.{Course, course_of, due_unless, next_of, script, script_of}

-- one more of which this holds
AllByRecursion-more : {A : Type 0} (P : A → Type 0) (xs : List A) (x : A) → AllByRecursion P xs → P x → AllByRecursion P (xs ++ x ∷ [])
AllByRecursion-more P [] x all one = (one, tt)
AllByRecursion-more P (y ∷ xs) x (first, all) one = (first, AllByRecursion-more P xs x all one)

-- news keep each answer one of the server's
keeps-served : (next : List Answer → Option Request) (served : ℕ → List Served) (event : Event) (t : Talk) (news : News) (c : Course) → IsNewsOf served event t news → AllByRecursion (IsOfServer served) c.answers → AllByRecursion (IsOfServer served) (told (script next) news c).answers
keeps-served next served event t Nothing c of each = each
keeps-served next served event t Quiet c of each = each
keeps-served next served event t (Denied code) c of each = each
keeps-served next served event t (Answered status text) c (octets, took, by) each =
    AllByRecursion-more (IsOfServer served) c.answers (record { status = status; text = text }) each
    (record { sequence = t.posted; sent = by.answer; among = by.among; tells = by.told })

-- each answer that was taken is one of the server's
each-served : (what : Wanted) (associations : List AssociationStatus) (t : Talk) (to : Asking Course) (before reached : Option (List Event)) (goes : Goes (script_of what associations) (ready t (course_of [])) to before reached) (served : ℕ → List Served) → AreAnswers t.server served goes.events → AllByRecursion (IsOfServer served) to.plan.answers
each-served what associations t to before reached goes served are =
    subst (λ (a : Asking Course). AllByRecursion (IsOfServer served) a.plan.answers) goes.leads
    (EachIsTold-keeps (script_of what associations) served (λ (c : Course). AllByRecursion (IsOfServer served) c.answers) (λ event t' news c of each. keeps-served (next_of what associations) served event t' news c of each) goes.events (ready t (course_of [])) (EachIsTold-Goes (script_of what associations) t (course_of []) to before reached goes served are) tt)

-- a command that was refused waits for nothing, and has not given up
abbrev IsStopped : Asking Course → Type 0
IsStopped a = (code : ℕ) → a.plan.refused ≡ Some code → (a.waits ≡ false) × (stuck a.talk ≡ None)

-- nothing comes to a command that was refused
not-refused : (next : List Answer → Option Request) (a : Asking Course) (event : Event) → IsStopped a → IsTurn a.waits ((script next).due a.plan) a.talk event → (code : ℕ) → ¬ (a.plan.refused ≡ Some code)
not-refused next a event stopped turn code is =
    subst (λ (w : Bool). IsTurn w None a.talk event) (stopped code is).0
    (subst (λ (r : Option ℕ). IsTurn a.waits (due_unless r (next a.plan.answers)) a.talk event) is turn)

-- a refusal leaves a command that waits for nothing, and has not given up
stops : (next : List Answer → Option Request) (news : News) (event : Event) (t : Talk) (c : Course) → news ≡ news_of event t → stuck t ≡ None → ((code : ℕ) → ¬ (c.refused ≡ Some code)) → (code : ℕ) → (told (script next) news c).refused ≡ Some code → (waits_on news ≡ false) × (stuck (after_event event t) ≡ None)
stops next Nothing event t c same unstuck open_yet code is = absurd (open_yet code is)
stops next Quiet event t c same unstuck open_yet code is = absurd (open_yet code is)
stops next (Answered status text) event t c same unstuck open_yet code is = absurd (open_yet code is)
stops next (Denied its) event t c same unstuck open_yet code is =
    (refl, after_event-unstuck event t unstuck (λ nothing. absurd (cc (same, nothing))) (λ quiet. absurd (cc (same, quiet))))

-- and so it is after every event
stopped-after : (next : List Answer → Option Request) (events : List Event) (a : Asking Course) → IsStopped a → Follows (script next) a events → IsStopped (after_all (script next) events a)
stopped-after next [] a stopped follows = stopped
stopped-after next (event ∷ events) a stopped (now, follows) =
    stopped-after next events (after_one (script next) event a)
    (stops next (news_of event a.talk) event a.talk a.plan refl now.unstuck (not-refused next a event stopped now.turn)) follows

-- and so it is where a dialogue goes
IsStopped-Goes : (what : Wanted) (associations : List AssociationStatus) (t : Talk) (answers : List Answer) (to : Asking Course) (before reached : Option (List Event)) → Goes (script_of what associations) (ready t (course_of answers)) to before reached → IsStopped to
IsStopped-Goes what associations t answers to before reached goes =
    subst IsStopped goes.leads (stopped-after (next_of what associations) goes.events (ready t (course_of answers)) (λ code none. absurd (cc none)) goes.follows)

-- a command that was refused ended so, unless memory was wanting
refused-only : (what : Wanted) (associations : List AssociationStatus) (ending : Result (List ℕ) Failure) (a : Asking Course) → EndsBy what associations ending a → IsStopped a → (code : ℕ) → a.plan.refused ≡ Some code → (ending ≡ Err (Ask (Fault.Refused code))) ⊎ IsWant ending
refused-only what associations (Ok report) a ends stopped code is = absurd (cc (ends.2, is))
refused-only what associations (Err BadReply) a ends stopped code is = absurd (cc (ends.2, is))
refused-only what associations (Err NoMemory) a ends stopped code is = inr (inl refl)
refused-only what associations (Err Words) a ends stopped code is = absurd ends
refused-only what associations (Err (Ask (Fault.Refused its))) a ends stopped code is =
    let same : its ≡ code = cc (ends.2, is) in
    inl (ap (λ (c : ℕ). Err (Ask (Fault.Refused c))) same)
refused-only what associations (Err (Ask Fault.NoReply)) a ends stopped code is = absurd (cc (ends, (stopped code is).1))
refused-only what associations (Err (Ask Fault.Flooded)) a ends stopped code is = absurd (cc (ends, (stopped code is).1))
refused-only what associations (Err (Ask Fault.Incomplete)) a ends stopped code is =
    absurd (cc (subst (λ (r : Option ℕ). IsSome (due_unless r (next_of what associations a.plan.answers))) is ends.2))
refused-only what associations (Err (Ask Fault.Port)) a ends stopped code is =
    absurd (ends.1 ((stopped code is).0, ap (λ (r : Option ℕ). due_unless r (next_of what associations a.plan.answers)) is))
refused-only what associations (Err (Ask Fault.Closed)) a ends stopped code is = absurd (cc (ends.1, (stopped code is).0))
refused-only what associations (Err (Ask Fault.NoMemory)) a ends stopped code is = inr (inr refl)

-- a client that has given up ended a command, unless memory was wanting
stuck-only : (what : Wanted) (associations : List AssociationStatus) (ending : Result (List ℕ) Failure) (a : Asking Course) → EndsBy what associations ending a → (fault : AskFault) → stuck a.talk ≡ Some fault → (ending ≡ Err (Ask fault)) ⊎ IsWant ending
stuck-only what associations (Ok report) a ends fault is = absurd (cc (ends.0, is))
stuck-only what associations (Err BadReply) a ends fault is = absurd (cc (ends.0, is))
stuck-only what associations (Err NoMemory) a ends fault is = inr (inl refl)
stuck-only what associations (Err Words) a ends fault is = absurd ends
stuck-only what associations (Err (Ask (Fault.Refused its))) a ends fault is = absurd (cc (ends.0, is))
stuck-only what associations (Err (Ask Fault.NoReply)) a ends fault is =
    let same : Fault.NoReply ≡ fault = cc (ends, is) in
    inl (ap (λ (f : AskFault). Err (Ask f)) same)
stuck-only what associations (Err (Ask Fault.Flooded)) a ends fault is =
    let same : Fault.Flooded ≡ fault = cc (ends, is) in
    inl (ap (λ (f : AskFault). Err (Ask f)) same)
stuck-only what associations (Err (Ask Fault.Incomplete)) a ends fault is = absurd (cc (ends.0, is))
stuck-only what associations (Err (Ask Fault.Port)) a ends fault is = absurd (cc (ends.0, is))
stuck-only what associations (Err (Ask Fault.Closed)) a ends fault is = absurd (cc (ends.0, is))
stuck-only what associations (Err (Ask Fault.NoMemory)) a ends fault is = inr (inr refl)

-- a client that posted all that it may, and has a request to post, ended a command, unless memory was wanting or the port
-- failed
incomplete-only : (what : Wanted) (associations : List AssociationStatus) (ending : Result (List ℕ) Failure) (a : Asking Course) → EndsBy what associations ending a → IsFull (script_of what associations) a → ¬ (IsBad what associations a.plan.answers) → ending ≢ Err (Ask Fault.Port) → (ending ≡ Err (Ask Fault.Incomplete)) ⊎ IsWant ending
incomplete-only what associations (Ok report) a ends full good well =
    absurd (cc (subst (λ (r : Option Request). IsSome r) ends.1.1 full.due))
incomplete-only what associations (Err BadReply) a ends full good well = absurd (good ends.3)
incomplete-only what associations (Err NoMemory) a ends full good well = inr (inl refl)
incomplete-only what associations (Err Words) a ends full good well = absurd ends
incomplete-only what associations (Err (Ask (Fault.Refused code))) a ends full good well =
    absurd (cc (subst (λ (r : Option ℕ). IsSome (due_unless r (next_of what associations a.plan.answers))) ends.2 full.due))
incomplete-only what associations (Err (Ask Fault.NoReply)) a ends full good well = absurd (cc (ends, full.unstuck))
incomplete-only what associations (Err (Ask Fault.Flooded)) a ends full good well = absurd (cc (ends, full.unstuck))
incomplete-only what associations (Err (Ask Fault.Incomplete)) a ends full good well = inl refl
incomplete-only what associations (Err (Ask Fault.Port)) a ends full good well = absurd (well refl)
incomplete-only what associations (Err (Ask Fault.Closed)) a ends full good well = absurd (cc (ends.1, full.ready_to))
incomplete-only what associations (Err (Ask Fault.NoMemory)) a ends full good well = inr (inr refl)

-- a run is whole
pub RanScript-Runs : (what : Wanted) (server : Addr) (ending : Result (List ℕ) Failure) (before after : Option (List Event)) → Runs what (new_talk server) [] ending before after → RanScript what server ending before after
RanScript-Runs what server ending before after run = record {
  run = run;
  told = λ served are. EachIsTold-Goes (script_of what run.associations) (new_talk server) (course_of []) run.to before run.reached run.goes served are;
  each = λ served are. each-served what run.associations (new_talk server) run.to before run.reached run.goes served are;
  refused_only = refused-only what run.associations ending run.to run.ends (IsStopped-Goes what run.associations (new_talk server) [] run.to before run.reached run.goes);
  stuck_only = stuck-only what run.associations ending run.to run.ends;
  incomplete_only = incomplete-only what run.associations ending run.to run.ends;
}
