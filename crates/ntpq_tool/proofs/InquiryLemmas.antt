-- How asking one request ends, once something is made of its answer.
use Rattle.std.proofs.Common.{◌≡◌, ◌≤◌, ℕ, Option, Some, List, Result, Ok, Err, refl, ap, subst, ◌∙◌, arith}
use Rattle.std.proofs.lemmas.Bool.Decides.{nat_tests}
use Rattle.edge_traits.specs.declared.port.Event.{Event}
use Rattle.ntpq_client.specs.declared.client.TheConstants.{MAX_QUIETS}
use Rattle.ntpq_client.specs.declared.fault.AskFault.{AskFault}
use Rattle.ntpq_client.specs.declared.fault.AskFault.TheVariants as Fault
use Rattle.ntpq_client.specs.declared.news.News.{News}
use Rattle.ntpq_client.specs.declared.news.News.TheVariants.{Nothing}
use Rattle.ntpq_client.specs.declared.request.Request.{Request}
use Rattle.ntpq_client.specs.Dialogues.{Asking, asking, ready}
use Rattle.ntpq_client.specs.Ends.{Asked, AskEnds, Misses}
use Rattle.ntpq_client.specs.Talks.{Talk, stuck}
use Rattle.ntpq_client.proofs.DialogueLemmas.{Goes-none}
use Rattle.ntpq_tool.specs.declared.ending.Failure.{Failure}
use Rattle.ntpq_tool.specs.declared.ending.Failure.TheVariants.{Words, Ask, BadReply, NoMemory}
use Rattle.ntpq_tool.specs.Answers.{Judges}
use Rattle.ntpq_tool.specs.Runs.{AnsweredBy, Inquired, MissesLast}
use Rattle.ntpq_tool.specs.declared.answers.Answer.{Answer}

-- the answer of this status and text
abbrev pub answer_of : ℕ × List ℕ → Answer
answer_of pair = record { status = pair.0; text = pair.1 }

-- what was made of a whole answer is where the client stands
AnsweredBy-asked : (IsIts : Answer → List ℕ → Type 0) (request : Request) (pair : ℕ × List ℕ) (result : Result (List ℕ) Failure) (to : Asking News) → AskEnds request (Ok pair) to → Judges (IsIts (answer_of pair)) result → AnsweredBy IsIts request result to
AnsweredBy-asked IsIts request pair (Ok report) to ends judges = (ends.0, ends.1, (answer_of pair, ends.2, judges))
AnsweredBy-asked IsIts request pair (Err BadReply) to ends judges = (ends.0, ends.1, (answer_of pair, ends.2, judges))
AnsweredBy-asked IsIts request pair (Err NoMemory) to ends judges = tt
AnsweredBy-asked IsIts request pair (Err Words) to ends judges = absurd judges
AnsweredBy-asked IsIts request pair (Err (Ask fault)) to ends judges = absurd judges

-- what was made of an answer missed nothing
MissesLast-judged : (IsIts : List ℕ → Type 0) (result : Result (List ℕ) Failure) (reached after : Option (List Event)) → Judges IsIts result → after ≡ reached → MissesLast result reached after
MissesLast-judged IsIts (Ok report) reached after judges same = same
MissesLast-judged IsIts (Err BadReply) reached after judges same = same
MissesLast-judged IsIts (Err NoMemory) reached after judges same = same
MissesLast-judged IsIts (Err Words) reached after judges same = absurd judges
MissesLast-judged IsIts (Err (Ask fault)) reached after judges same = absurd judges

-- what asking missed, the command missed
pub MissesLast-asked : (fault : AskFault) (reached after : Option (List Event)) → Misses {A = ℕ × List ℕ} (Err fault) reached after → MissesLast {A = List ℕ} (Err (Ask fault)) reached after
MissesLast-asked Fault.Port reached after misses = misses
MissesLast-asked Fault.Closed reached after misses = misses
MissesLast-asked Fault.NoReply reached after misses = misses
MissesLast-asked (Fault.Refused code) reached after misses = misses
MissesLast-asked Fault.Incomplete reached after misses = misses
MissesLast-asked Fault.Flooded reached after misses = misses
MissesLast-asked Fault.NoMemory reached after misses = misses

-- a whole answer came
pub Inquired-answered : (IsIts : Answer → List ℕ → Type 0) (request asked_for : Request) (old new : Talk) (status : ℕ) (text : List ℕ) (result : Result (List ℕ) Failure) (before after : Option (List Event)) → asked_for ≡ request → Asked asked_for old new (Ok (status, text)) before after → Judges (IsIts (record { status = status; text = text })) result → Inquired IsIts request old new result before after
Inquired-answered IsIts request asked_for old new status text result before after same asked judges =
    subst (λ (r : Request). Inquired IsIts r old new result before after) same (record {
      to = asked.to;
      reached = asked.reached;
      goes = asked.goes;
      misses = MissesLast-judged (IsIts (record { status = status; text = text })) result asked.reached after judges asked.misses;
      ends = AnsweredBy-asked IsIts asked_for (status, text) result asked.to asked.ends judges;
      leaves = asked.leaves;
    })

-- none came
pub Inquired-fault : (IsIts : Answer → List ℕ → Type 0) (request asked_for : Request) (old new : Talk) (fault : AskFault) (before after : Option (List Event)) → asked_for ≡ request → Asked asked_for old new (Err fault) before after → Inquired IsIts request old new (Err (Ask fault)) before after
Inquired-fault IsIts request asked_for old new fault before after same asked =
    subst (λ (r : Request). Inquired IsIts r old new (Err (Ask fault)) before after) same
    (record {
      to = asked.to;
      reached = asked.reached;
      goes = asked.goes;
      misses = MissesLast-asked fault asked.reached after asked.misses;
      ends = asked.ends;
      leaves = asked.leaves;
    })

-- there was no memory for the request
pub Inquired-nothing : (IsIts : Answer → List ℕ → Type 0) (request : Request) (old : Talk) (before : Option (List Event)) → Inquired IsIts request old old (Err NoMemory) before before
Inquired-nothing IsIts request old before = record {
  to = ready old Nothing;
  reached = before;
  goes = Goes-none (asking request) (ready old Nothing) before;
  misses = refl;
  ends = tt;
  leaves = refl;
}

-- a client has given up for want of a reply once so many takes found nothing
stuck-quiets : (t : Talk) → stuck t ≡ Some Fault.NoReply → MAX_QUIETS ≤ t.quiets
unfolding stuck
stuck-quiets t is = grind (arith, nat_tests)

-- a client that asked and has no reply has given up
pub no_reply-quiets : (request : Request) (old new : Talk) (fault : AskFault) (before after : Option (List Event)) → Asked request old new (Err fault) before after → fault ≡ Fault.NoReply → MAX_QUIETS ≤ new.quiets
no_reply-quiets request old new fault before after asked same =
    let ends : AskEnds request (Err Fault.NoReply) asked.to = subst (λ (f : AskFault). AskEnds request (Err f) asked.to) same asked.ends in
    stuck-quiets new (ap stuck asked.leaves ∙ ends)
