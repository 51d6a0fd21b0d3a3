-- How a command runs, put together from the requests that it asks.
use Rattle.std.proofs.Common.{◌≡◌, ◌-◌, ℕ, Bool, false, IsSome, Option, Some, None, List, [], ◌∷◌, ◌++◌, Result, Ok, Err, ◌⊎◌, inl, inr, refl, sym, ap, subst, arith}
use Rattle.edge_traits.specs.Told.{Rose}
use Rattle.edge_traits.specs.declared.port.Event.{Event}
use Rattle.ntpq_client.specs.declared.fault.AskFault.{AskFault}
use Rattle.ntpq_client.specs.declared.fault.AskFault.TheVariants as Fault
use Rattle.ntpq_client.specs.declared.news.News.{News}
use Rattle.ntpq_client.specs.declared.news.News.TheVariants.{Nothing, Answered, Denied, Quiet}
use Rattle.ntpq_client.specs.declared.request.Request.{Request}
use Rattle.ntpq_client.specs.Dialogues.{Asking, Goes, Follows, IsTurn, told, waits_on, after_all, after_one, asking, due_again, ready}
use Rattle.ntpq_client.specs.Ends.{AskEnds}
use Rattle.ntpq_client.specs.Talks.{Talk, stuck, after_event, news_of}
use Rattle.ntpq_client.proofs.DialogueLemmas.{relayed}
use Rattle.ntpq_client.proofs.TalkLemmas.{after_event-unstuck}
use Rattle.ntpq_report.specs.declared.associations.AssociationStatus.{AssociationStatus}
use Rattle.ntpq_tool.specs.declared.ending.Failure.{Failure}
use Rattle.ntpq_tool.specs.declared.ending.Failure.TheVariants.{Words, Ask, BadReply, NoMemory}
use Rattle.ntpq_tool.specs.declared.words.Wanted.{Wanted}
use Rattle.ntpq_tool.specs.declared.words.Wanted.TheVariants.{Variables, Associations}
use Rattle.ntpq_tool.specs.Answers.{IsBad, IsReport, IsStatusReport, IsVariablesReport}
use Rattle.ntpq_tool.specs.Runs.{AnsweredBy, AskedUntil, Behind, EndsBy, Inquired, MayBeBad, Runs}
use Rattle.ntpq_tool.specs.declared.answers.Answer.{Answer}
use Rattle.ntpq_tool.specs.Scripts.{AreNamed, Course, course_of, next_of, script_of, status_request, variables_request}
use Rattle.ntpq_tool.proofs.ScriptLemmas.{Goes-asking}

-- where a command stands that has asked a request after these answers
abbrev pub course_at : Wanted → List AssociationStatus → List Answer → Asking News → Asking Course
course_at what associations answers to = relayed (script_of what associations) (course_of answers) to

-- where one who asks is not over, a command is not
not-over : (what : Wanted) (associations : List AssociationStatus) (answers : List Answer) (request : Request) (heard : News) → next_of what associations answers ≡ Some request → ¬ (due_again request heard ≡ None) → ¬ ((script_of what associations).due (told (script_of what associations) heard (course_of answers)) ≡ None)
not-over what associations answers request Nothing due open_yet = λ none. absurd (cc (due, none))
not-over what associations answers request Quiet due open_yet = λ none. absurd (cc (due, none))
not-over what associations answers request (Answered status text) due open_yet = λ none. open_yet refl
not-over what associations answers request (Denied code) due open_yet = λ none. open_yet refl

-- where something is due to one who asks, something is to a command
still-due : (what : Wanted) (associations : List AssociationStatus) (answers : List Answer) (request : Request) (heard : News) → next_of what associations answers ≡ Some request → IsSome (due_again request heard) → IsSome ((script_of what associations).due (told (script_of what associations) heard (course_of answers)))
still-due what associations answers request Nothing due some = subst (λ (r : Option Request). IsSome r) (sym due) some
still-due what associations answers request Quiet due some = subst (λ (r : Option Request). IsSome r) (sym due) some
still-due what associations answers request (Answered status text) due some = absurd (cc some)
still-due what associations answers request (Denied code) due some = absurd (cc some)

-- a command stands where its request failed
pub AskedUntil-asked : (what : Wanted) (associations : List AssociationStatus) (answers : List Answer) (request : Request) (fault : AskFault) (to : Asking News) → next_of what associations answers ≡ Some request → AskEnds request (Err fault) to → AskedUntil (script_of what associations) fault (course_at what associations answers to)
AskedUntil-asked what associations answers request Fault.Port to due ends =
    (ends.0, λ over. not-over what associations answers request to.plan due (λ none. ends.1 (over.0, none)) over.1)
AskedUntil-asked what associations answers request Fault.Closed to due ends = ends
AskedUntil-asked what associations answers request Fault.NoReply to due ends = ends
AskedUntil-asked what associations answers request (Fault.Refused code) to due ends =
    (ends.0, ends.1, ap (λ (heard : News). (told (script_of what associations) heard (course_of answers)).refused) ends.2)
AskedUntil-asked what associations answers request Fault.Incomplete to due ends =
    (ends.0, ends.1, still-due what associations answers request to.plan due ends.2, ends.3)
AskedUntil-asked what associations answers request Fault.Flooded to due ends = ends
AskedUntil-asked what associations answers request Fault.NoMemory to due ends = tt

-- where a command goes that asks what is due
pub Goes-due : (what : Wanted) (associations : List AssociationStatus) (answers : List Answer) (request : Request) (t : Talk) (to : Asking News) (before after : Option (List Event)) → next_of what associations answers ≡ Some request → Goes (asking request) (ready t Nothing) to before after → Goes (script_of what associations) (ready t (course_of answers)) (course_at what associations answers to) before after
Goes-due what associations answers request t to before after due goes =
    Goes-asking (script_of what associations) t (course_of answers) request to before after refl due goes

-- a command that took a whole answer
pub course-answered : (what : Wanted) (associations : List AssociationStatus) (answers : List Answer) (to : Asking News) (answer : Answer) → to.plan ≡ Answered answer.status answer.text → (course_at what associations answers to).plan ≡ course_of (answers ++ answer ∷ [])
course-answered what associations answers to answer same = ap (λ (heard : News). told (script_of what associations) heard (course_of answers)) same

-- one that was answered waits for nothing, and has not given up
abbrev IsDone : Asking News → Type 0
IsDone a = (status : ℕ) (text : List ℕ) → a.plan ≡ Answered status text → (a.waits ≡ false) × (stuck a.talk ≡ None)

-- nothing comes to one that was answered
not-done : (request : Request) (a : Asking News) (event : Event) → IsDone a → IsTurn a.waits (due_again request a.plan) a.talk event → (status : ℕ) (text : List ℕ) → ¬ (a.plan ≡ Answered status text)
not-done request a event done turn status text is =
    subst (λ (w : Bool). IsTurn w None a.talk event) (done status text is).0
    (subst (λ (heard : News). IsTurn a.waits (due_again request heard) a.talk event) is turn)

-- an answer leaves a client that waits for nothing, and has not given up
ends-asking : (request : Request) (news heard : News) (event : Event) (t : Talk) → news ≡ news_of event t → stuck t ≡ None → ((status : ℕ) (text : List ℕ) → ¬ (heard ≡ Answered status text)) → (status : ℕ) (text : List ℕ) → told (asking request) news heard ≡ Answered status text → (waits_on news ≡ false) × (stuck (after_event event t) ≡ None)
ends-asking request Nothing heard event t same unstuck open_yet status text is = absurd (open_yet status text is)
ends-asking request Quiet heard event t same unstuck open_yet status text is = absurd (cc is)
ends-asking request (Denied code) heard event t same unstuck open_yet status text is = absurd (cc is)
ends-asking request (Answered its words) heard event t same unstuck open_yet status text is =
    (refl, after_event-unstuck event t unstuck (λ nothing. absurd (cc (same, nothing))) (λ quiet. absurd (cc (same, quiet))))

-- and so it is after every event
done-after : (request : Request) (events : List Event) (a : Asking News) → IsDone a → Follows (asking request) a events → IsDone (after_all (asking request) events a)
done-after request [] a done follows = done
done-after request (event ∷ events) a done (now, follows) =
    done-after request events (after_one (asking request) event a)
    (ends-asking request (news_of event a.talk) a.plan event a.talk refl now.unstuck (not-done request a event done now.turn)) follows

-- where asking failed no answer was taken, unless memory was wanting
pub unanswered : (request : Request) (fault : AskFault) (t : Talk) (to : Asking News) (before reached : Option (List Event)) → Goes (asking request) (ready t Nothing) to before reached → AskEnds request (Err fault) to → (status : ℕ) (text : List ℕ) → to.plan ≡ Answered status text → fault ≡ Fault.NoMemory
unanswered request fault t to before reached goes ends status text same =
    let done = subst IsDone goes.leads (done-after request goes.events (ready t Nothing) (λ its words none. absurd (cc none)) goes.follows) status text same in
    by_fault fault ends done
  where
    by_fault : (its : AskFault) → AskEnds request (Err its) to → (to.waits ≡ false) × (stuck to.talk ≡ None) → its ≡ Fault.NoMemory
    by_fault Fault.Port now done = absurd (now.1 (done.0, ap (due_again request) same))
    by_fault Fault.Closed now done = absurd (cc (now.1, done.0))
    by_fault Fault.NoReply now done = absurd (cc (now, done.1))
    by_fault (Fault.Refused code) now done = absurd (cc (now.2, same))
    by_fault Fault.Incomplete now done = absurd (cc (subst (λ (heard : News). IsSome (due_again request heard)) same now.2))
    by_fault Fault.Flooded now done = absurd (cc (now, done.1))
    by_fault Fault.NoMemory now done = refl

-- a command's answers are those before, or one more was taken
pub took-no_more : (what : Wanted) (associations : List AssociationStatus) (answers : List Answer) (heard : News) → IsBad what associations (told (script_of what associations) heard (course_of answers)).answers → IsBad what associations answers ⊎ ((status : ℕ) × (text : List ℕ) × (heard ≡ Answered status text))
took-no_more what associations answers Nothing bad = inl bad
took-no_more what associations answers Quiet bad = inl bad
took-no_more what associations answers (Denied code) bad = inl bad
took-no_more what associations answers (Answered status text) bad = inr (status, text, refl)

-- where asking failed a bad answer is one of those before
pub bad-before : (what : Wanted) (associations : List AssociationStatus) (answers : List Answer) (request : Request) (fault : AskFault) (t : Talk) (to : Asking News) (before reached : Option (List Event)) → ¬ IsBad what associations answers → Goes (asking request) (ready t Nothing) to before reached → AskEnds request (Err fault) to → IsBad what associations (course_at what associations answers to).plan.answers → MayBeBad (Err (Ask fault))
bad-before what associations answers request fault t to before reached good goes ends bad =
    elim (took-no_more what associations answers to.plan bad) [
      | inl earlier ↦ absurd (good earlier)
      | inr (status, text, same) ↦ inr (inr (ap (λ (f : AskFault). Err (Ask f)) (unanswered request fault t to before reached goes ends status text same)))
    ]

-- no associations are named
pub AreNamed-none : (answers : List Answer) → AreNamed answers []
AreNamed-none [] = tt
AreNamed-none (first ∷ answers) = inr refl

-- what ends a command of one request
pub record IsOnly (what : Wanted) (request : Request) (IsIts : Answer → List ℕ → Type 0) : Type 0 where
  pub first : next_of what [] [] ≡ Some request
  pub last : (answer : Answer) → next_of what [] (answer ∷ []) ≡ None
  pub report : (answer : Answer) (report : List ℕ) → IsIts answer report → IsReport what (answer ∷ []) report
  pub bad : (answer : Answer) → ((report : List ℕ) → ¬ (IsIts answer report)) → IsBad what [] (answer ∷ [])
  pub good : (answer : Answer) (report : List ℕ) → IsIts answer report → ¬ (IsBad what [] (answer ∷ []))
  pub none : ¬ (IsBad what [] [])

-- where a command of one request stands when it ends
EndsBy-inquired : (what : Wanted) (request : Request) (IsIts : Answer → List ℕ → Type 0) (result : Result (List ℕ) Failure) (to : Asking News) → IsOnly what request IsIts → AnsweredBy IsIts request result to → EndsBy what [] result (course_at what [] [] to)
EndsBy-inquired what request IsIts (Ok report) to only (unstuck, over, (answer, same, is)) =
    let At : Course → Type 0 = λ (c : Course). (stuck to.talk ≡ None) × ((to.waits ≡ false) × ((script_of what []).due c ≡ None)) × (c.refused ≡ None) × IsReport what c.answers report in
    subst At (sym (course-answered what [] [] to answer same)) (unstuck, (over, only.last answer), refl, only.report answer report is)
EndsBy-inquired what request IsIts (Err BadReply) to only (unstuck, over, (answer, same, none)) =
    let At : Course → Type 0 = λ (c : Course). (stuck to.talk ≡ None) × (to.waits ≡ false) × (c.refused ≡ None) × IsBad what [] c.answers in
    subst At (sym (course-answered what [] [] to answer same)) (unstuck, over, refl, only.bad answer none)
EndsBy-inquired what request IsIts (Err (Ask fault)) to only ends = AskedUntil-asked what [] [] request fault to only.first ends
EndsBy-inquired what request IsIts (Err NoMemory) to only ends = tt
EndsBy-inquired what request IsIts (Err Words) to only ends = absurd ends

-- a command of one request ends so where its answer is bad
bad-inquired : (what : Wanted) (request : Request) (IsIts : Answer → List ℕ → Type 0) (result : Result (List ℕ) Failure) (t : Talk) (to : Asking News) (before reached : Option (List Event)) → IsOnly what request IsIts → Goes (asking request) (ready t Nothing) to before reached → AnsweredBy IsIts request result to → IsBad what [] (course_at what [] [] to).plan.answers → MayBeBad result
bad-inquired what request IsIts (Ok report) t to before reached only goes (unstuck, over, (answer, same, is)) bad =
    absurd (only.good answer report is (subst (λ (c : Course). IsBad what [] c.answers) (course-answered what [] [] to answer same) bad))
bad-inquired what request IsIts (Err BadReply) t to before reached only goes ends bad = inl refl
bad-inquired what request IsIts (Err NoMemory) t to before reached only goes ends bad = inr (inl refl)
bad-inquired what request IsIts (Err Words) t to before reached only goes ends bad = absurd ends
bad-inquired what request IsIts (Err (Ask fault)) t to before reached only goes ends bad =
    bad-before what [] [] request fault t to before reached only.none goes ends bad

-- a command of one request
pub Runs-inquired : (what : Wanted) (request : Request) (IsIts : Answer → List ℕ → Type 0) (old new : Talk) (result : Result (List ℕ) Failure) (before after : Option (List Event)) → IsOnly what request IsIts → Inquired IsIts request old new result before after → Runs what old [] result before after
Runs-inquired what request IsIts old new result before after only inquired = record {
  associations = [];
  to = course_at what [] [] inquired.to;
  reached = inquired.reached;
  goes = Goes-due what [] [] request old inquired.to before inquired.reached only.first inquired.goes;
  misses = inquired.misses;
  named = AreNamed-none _;
  ends = EndsBy-inquired what request IsIts result inquired.to only inquired.ends;
  bad_only = bad-inquired what request IsIts result old inquired.to before inquired.reached only inquired.goes inquired.ends;
}

-- the command for variables asks one request
pub only_variables : (assoc : ℕ) (names : List ℕ) → IsOnly (Variables assoc names) (variables_request assoc names) (IsVariablesReport assoc)
only_variables assoc names = record { first = refl; last = λ answer. refl; report = λ answer report is. is; bad = λ answer none. none; good = λ answer report is bad. bad report is; none = λ bad. bad }

-- so does the command for the associations
pub only_associations : IsOnly Associations status_request IsStatusReport
only_associations = record { first = refl; last = λ answer. refl; report = λ answer report is. is; bad = λ answer none. none; good = λ answer report is bad. bad report is; none = λ bad. bad }

-- want of memory needs no cause at the port
pub Behind-no_memory : {A : Type 0} (faults faults' : ℕ) (is_closed : Bool) → Behind {A = A} (Err NoMemory) faults faults' is_closed
Behind-no_memory faults faults' is_closed = record { failed = λ is. absurd (cc is); closed = λ is. absurd (cc is) }

-- what runs for this is what runs for the same
pub Runs-same : (what its : Wanted) (t old : Talk) (result : Result (List ℕ) Failure) (before after : Option (List Event)) → what ≡ its → old ≡ t → Runs its old [] result before after → Runs what t [] result before after
Runs-same what its t old result before after same is run =
    subst (λ (w : Wanted). Runs w t [] result before after) (sym same)
    (subst (λ (k : Talk). Runs its k [] result before after) is run)

-- takes that found nothing add up, and a client may have counted from nothing between
pub Rose-more : (start between now old mid new : ℕ) → Rose (between - start) old mid → Rose (now - between) mid new → Rose (now - start) old new
Rose-more start between now old mid new first second = omega arith
