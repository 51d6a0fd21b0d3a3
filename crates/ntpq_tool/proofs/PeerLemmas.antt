-- How the lines of peers are asked, one after another.
use Rattle.std.proofs.Common.{◌≡◌, ◌<◌, ℕ, zero, suc, ◌+◌, Bool, false, Option, Some, None, List, [], ◌∷◌, ◌++◌, append_assoc, length, length-append, take, drop, slice_index_or, Result, Ok, Err, inl, inr, refl, sym, ap, subst, ◌∙◌, arith}
use Rattle.std.specs.Bool.{if◌then◌else◌}
use Rattle.std.specs.Result.{is_ok, is_err}
use Rattle.std.proofs.lemmas.List.{append-nil, drop_all, drop_more, take_all, take_more}
use Rattle.edge_traits.specs.declared.port.Event.{Event}
use Rattle.ntpq_client.specs.declared.fault.AskFault.{AskFault}
use Rattle.ntpq_client.specs.declared.news.News.{News}
use Rattle.ntpq_client.specs.declared.news.News.TheVariants.{Nothing, Answered, Denied, Quiet}
use Rattle.ntpq_client.specs.declared.request.Request.{Request}
use Rattle.ntpq_client.specs.Dialogues.{Asking, Dialogue, Goes, ready, told, asking}
use Rattle.ntpq_client.specs.Ends.{Asked}
use Rattle.ntpq_client.specs.Talks.{Talk, stuck}
use Rattle.ntpq_client.proofs.DialogueLemmas.{Goes-none, Goes-then}
use Rattle.ntpq_report.specs.declared.associations.AssociationStatus.{AssociationStatus}
use Rattle.ntpq_report.specs.Associations.{IsStatusBody, as_text}
use Rattle.ntpq_report.specs.Peers.{peers_header}
use Rattle.ntpq_tool.specs.declared.ending.Failure.{Failure}
use Rattle.ntpq_tool.specs.declared.ending.Failure.TheVariants.{Words, Ask, BadReply, NoMemory}
use Rattle.ntpq_tool.specs.declared.words.Wanted.TheVariants.{Peers}
use Rattle.ntpq_tool.specs.Answers.{ArePeerLines, HasNoLine, IsBad, IsPeerLine, IsReport, Judges}
use Rattle.ntpq_tool.specs.Runs.{AnsweredBy, EndsBy, Inquired, LinesEnd, LinesRun, MayBeBad, MissesLast, Runs}
use Rattle.ntpq_tool.specs.declared.answers.Answer.{Answer}
use Rattle.ntpq_tool.specs.Scripts.{AreNamed, Course, course_of, next_of, peer_due, peer_request, script_of, status_request}
use Rattle.ntpq_tool.proofs.InquiryLemmas.{MissesLast-asked}
use Rattle.ntpq_tool.proofs.RunLemmas.{AreNamed-none, AskedUntil-asked, Goes-due, bad-before, course_at, course-answered}

-- one line more
pub ArePeerLines-more : (associations : List AssociationStatus) (answers : List Answer) (lines : List ℕ) (a : AssociationStatus) (answer : Answer) (line : List ℕ) → ArePeerLines associations answers lines → IsPeerLine a answer line → ArePeerLines (associations ++ a ∷ []) (answers ++ answer ∷ []) (lines ++ line)
ArePeerLines-more [] [] lines a answer line are is =
    (line, [], is, refl, ap (λ (front : List ℕ). front ++ line) are ∙ sym (append-nil line))
ArePeerLines-more (b ∷ associations) (its ∷ answers) lines a answer line (first, rest, is_first, are, same) is =
    (first, rest ++ line, is_first, ArePeerLines-more associations answers rest a answer line are is, ap (λ (front : List ℕ). front ++ line) same ∙ append_assoc first rest line)
ArePeerLines-more [] (its ∷ answers) lines a answer line are is = absurd are
ArePeerLines-more (b ∷ associations) [] lines a answer line are is = absurd are

-- the lines that were made so far, of as many associations
pub record LinesSoFar (associations : List AssociationStatus) (start t : Talk) (place : ℕ) (lines : List ℕ) (before now : Option (List Event)) : Type 0 where
  pub answers : List Answer
  pub count : length answers ≡ place
  pub are : ArePeerLines (take place associations) answers lines
  pub goes : (first : Answer) → Goes (script_of Peers associations) (ready start (course_of (first ∷ []))) (ready t (course_of (first ∷ answers))) before now
  pub unstuck : stuck t ≡ None

-- none yet
pub LinesSoFar-none : (associations : List AssociationStatus) (t : Talk) (before : Option (List Event)) → stuck t ≡ None → LinesSoFar associations t t 0 [] before before
LinesSoFar-none associations t before unstuck = record {
  answers = [];
  count = refl;
  are = refl;
  goes = λ first. Goes-none (script_of Peers associations) (ready t (course_of (first ∷ []))) before;
  unstuck = unstuck;
}

-- a client that is to post what is due
is-ready : (a : Asking Course) (t : Talk) (plan : Course) → t ≡ a.talk → a.plan ≡ plan → a.waits ≡ false → a ≡ ready t plan
is-ready a t plan is same over =
    ap (λ (talk : Talk). record { talk = talk; plan = a.plan; waits = a.waits }) (sym is)
    ∙ ap (λ (c : Course). record { talk = t; plan = c; waits = a.waits }) same
    ∙ ap (λ (w : Bool). record { talk = t; plan = plan; waits = w }) over

-- the associations from a place on begin with the one there
from-place : (associations : List AssociationStatus) (place : ℕ) (a : AssociationStatus) → place < length associations → a ≡ slice_index_or associations place a → drop place associations ≡ a ∷ drop (place + 1) associations
from-place associations place a within is =
    drop_more associations place a within ∙ ap (λ (b : AssociationStatus). b ∷ drop (place + 1) associations) (sym is)

-- after so many lines that of the next association is due
due-peer : (associations : List AssociationStatus) (first : Answer) (answers : List Answer) (place : ℕ) (a : AssociationStatus) → place < length associations → a ≡ slice_index_or associations place a → length answers ≡ place → next_of Peers associations (first ∷ answers) ≡ Some (peer_request a.assoc)
due-peer associations first answers place a within is count =
    ap (λ (n : ℕ). peer_due (drop n associations)) count ∙ ap peer_due (from-place associations place a within is)

-- where a command stands that asked for one peer more
Goes-peer : (associations : List AssociationStatus) (start t t' : Talk) (place : ℕ) (lines : List ℕ) (a : AssociationStatus) (result : Result (List ℕ) Failure) (before now after : Option (List Event)) → place < length associations → a ≡ slice_index_or associations place a → (so_far : LinesSoFar associations start t place lines before now) → (inquired : Inquired (IsPeerLine a) (peer_request a.assoc) t t' result now after) → (first : Answer) → Goes (script_of Peers associations) (ready start (course_of (first ∷ []))) (course_at Peers associations (first ∷ so_far.answers) inquired.to) before inquired.reached
Goes-peer associations start t t' place lines a result before now after within is so_far inquired first =
    Goes-then (script_of Peers associations) (ready start (course_of (first ∷ []))) (ready t (course_of (first ∷ so_far.answers))) (course_at Peers associations (first ∷ so_far.answers) inquired.to) before now inquired.reached (so_far.goes first)
    (Goes-due Peers associations (first ∷ so_far.answers) (peer_request a.assoc) t inquired.to now inquired.reached (due-peer associations first so_far.answers place a within is so_far.count) inquired.goes)

-- one line more was made
pub LinesSoFar-more : (associations : List AssociationStatus) (start t t' : Talk) (place : ℕ) (lines line : List ℕ) (a : AssociationStatus) (before now after : Option (List Event)) → place < length associations → a ≡ slice_index_or associations place a → LinesSoFar associations start t place lines before now → Inquired (IsPeerLine a) (peer_request a.assoc) t t' (Ok line) now after → LinesSoFar associations start t' (place + 1) (lines ++ line) before after
LinesSoFar-more associations start t t' place lines line a before now after within is so_far inquired =
    let answered = inquired.ends in
    let answer = answered.2.0 in
    let taken : take (place + 1) associations ≡ take place associations ++ a ∷ [] = take_more associations place a within ∙ ap (λ (b : AssociationStatus). take place associations ++ b ∷ []) (sym is) in
    let count = so_far.count in
    record {
      answers = so_far.answers ++ answer ∷ [];
      count = length-append so_far.answers (answer ∷ []) ∙ ap (λ (n : ℕ). n + 1) count;
      are = subst (λ (asked : List AssociationStatus). ArePeerLines asked (so_far.answers ++ answer ∷ []) (lines ++ line)) (sym taken) (ArePeerLines-more (take place associations) so_far.answers lines a answer line so_far.are answered.2.2);
      goes = λ first.
          subst (λ (trace : Option (List Event)). Goes (script_of Peers associations) (ready start (course_of (first ∷ []))) (ready t' (course_of (first ∷ so_far.answers ++ answer ∷ []))) before trace) (sym inquired.misses)
          (subst (λ (at : Asking Course). Goes (script_of Peers associations) (ready start (course_of (first ∷ []))) at before inquired.reached)
          (is-ready (course_at Peers associations (first ∷ so_far.answers) inquired.to) t' (course_of (first ∷ so_far.answers ++ answer ∷ [])) inquired.leaves (course-answered Peers associations (first ∷ so_far.answers) inquired.to answer answered.2.1) answered.1)
          (Goes-peer associations start t t' place lines a (Ok line) before now after within is so_far inquired first));
      unstuck = ap stuck inquired.leaves ∙ answered.0;
    }

-- a command keeps its first answer
begins-told : (associations : List AssociationStatus) (first : Answer) (answers : List Answer) (heard : News) → (more : List Answer) × ((told (script_of Peers associations) heard (course_of (first ∷ answers))).answers ≡ first ∷ more)
begins-told associations first answers Nothing = (answers, refl)
begins-told associations first answers Quiet = (answers, refl)
begins-told associations first answers (Answered status text) = (answers ++ record { status = status; text = text } ∷ [], refl)
begins-told associations first answers (Denied code) = (answers, refl)

-- the last answer for a peer is bad
IsBad-peer : (associations : List AssociationStatus) (first : Answer) (answers : List Answer) (answer : Answer) → HasNoLine associations (answers ++ answer ∷ []) → IsBad Peers associations (first ∷ answers ++ answer ∷ [])
IsBad-peer associations first [] answer has = has
IsBad-peer associations first (one ∷ answers) answer has = has

-- an answer to the request for an association's line, where the lines before it and its own were made, has one
has-line : (associations : List AssociationStatus) (n : ℕ) (before : List Answer) (last : Answer) (lines : List ℕ) (a : AssociationStatus) (behind : List AssociationStatus) → ArePeerLines (take n associations) (before ++ last ∷ []) lines → drop (length before) associations ≡ a ∷ behind → (line : List ℕ) × IsPeerLine a last line
has-line associations zero [] last lines a behind are asked = absurd are
has-line associations zero (one ∷ before) last lines a behind are asked = absurd are
has-line [] (suc n) [] last lines a behind are asked = absurd are
has-line [] (suc n) (one ∷ before) last lines a behind are asked = absurd are
has-line (b ∷ associations) (suc n) [] last lines a behind (line, rest, is, are, same) asked =
    let its : b ≡ a = cc asked in
    (line, subst (λ (k : AssociationStatus). IsPeerLine k last line) its is)
has-line (b ∷ associations) (suc n) (one ∷ before) last lines a behind (line, rest, is, are, same) asked =
    has-line associations n before last rest a behind are asked

-- where a line was made of each answer, none is bad
lines-good : (associations : List AssociationStatus) (first : Answer) (answers : List Answer) (n : ℕ) (lines : List ℕ) → IsStatusBody first.text associations → ArePeerLines (take n associations) answers lines → ¬ (IsBad Peers associations (first ∷ answers))
lines-good associations first [] n lines body are bad =
    bad (as_text associations) (record { associations = associations; read = body; printed = refl })
lines-good associations first (one ∷ answers) n lines body are bad =
    let has = has-line associations n bad.before bad.last lines bad.a bad.behind (subst (λ (all : List Answer). ArePeerLines (take n associations) all lines) bad.are are) bad.asked in
    bad.unread has.0 has.1

-- where the lines stand when one was not made
LinesEnd-failed : (associations : List AssociationStatus) (first : Answer) (answers : List Answer) (place : ℕ) (a : AssociationStatus) (why : Failure) (to : Asking News) → place < length associations → a ≡ slice_index_or associations place a → length answers ≡ place → AnsweredBy (IsPeerLine a) (peer_request a.assoc) (Err why) to → LinesEnd first associations (Err why) (course_at Peers associations (first ∷ answers) to)
LinesEnd-failed associations first answers place a BadReply to within is count (unstuck, over, (answer, same, none)) =
    let At : Course → Type 0 = λ (c : Course). (stuck to.talk ≡ None) × (to.waits ≡ false) × (c.refused ≡ None) × IsBad Peers associations c.answers in
    let has : HasNoLine associations (answers ++ answer ∷ []) = record {
      before = answers;
      last = answer;
      are = refl;
      a = a;
      behind = drop (place + 1) associations;
      asked = ap (λ (n : ℕ). drop n associations) count ∙ from-place associations place a within is;
      unread = none;
    } in
    subst At (sym (course-answered Peers associations (first ∷ answers) to answer same)) (unstuck, over, refl, IsBad-peer associations first answers answer has)
LinesEnd-failed associations first answers place a (Ask fault) to within is count ends =
    AskedUntil-asked Peers associations (first ∷ answers) (peer_request a.assoc) fault to (due-peer associations first answers place a within is count) ends
LinesEnd-failed associations first answers place a NoMemory to within is count ends = tt
LinesEnd-failed associations first answers place a Words to within is count ends = absurd ends

-- lines that were not made end so where the last answer is bad
bad-line : (associations : List AssociationStatus) (first : Answer) (answers : List Answer) (place : ℕ) (lines : List ℕ) (a : AssociationStatus) (why : Failure) (t : Talk) (to : Asking News) (before reached : Option (List Event)) → ArePeerLines (take place associations) answers lines → Goes (asking (peer_request a.assoc)) (ready t Nothing) to before reached → AnsweredBy (IsPeerLine a) (peer_request a.assoc) (Err why) to → IsStatusBody first.text associations → IsBad Peers associations (course_at Peers associations (first ∷ answers) to).plan.answers → MayBeBad (Err why)
bad-line associations first answers place lines a BadReply t to before reached are goes ends body bad = inl refl
bad-line associations first answers place lines a NoMemory t to before reached are goes ends body bad = inr (inl refl)
bad-line associations first answers place lines a Words t to before reached are goes ends body bad = absurd ends
bad-line associations first answers place lines a (Ask fault) t to before reached are goes ends body bad =
    bad-before Peers associations (first ∷ answers) (peer_request a.assoc) fault t to before reached (lines-good associations first answers place lines body are) goes ends bad

-- a line was not made
pub LinesRun-failed : (associations : List AssociationStatus) (start t t' : Talk) (place : ℕ) (lines : List ℕ) (a : AssociationStatus) (why : Failure) (before now after : Option (List Event)) → place < length associations → a ≡ slice_index_or associations place a → LinesSoFar associations start t place lines before now → Inquired (IsPeerLine a) (peer_request a.assoc) t t' (Err why) now after → (first : Answer) → LinesRun first associations start (Err why) before after
LinesRun-failed associations start t t' place lines a why before now after within is so_far inquired first = record {
  to = course_at Peers associations (first ∷ so_far.answers) inquired.to;
  reached = inquired.reached;
  goes = Goes-peer associations start t t' place lines a (Err why) before now after within is so_far inquired first;
  misses = inquired.misses;
  begins = begins-told associations first so_far.answers inquired.to.plan;
  ends = LinesEnd-failed associations first so_far.answers place a why inquired.to within is so_far.count inquired.ends;
  bad_only = bad-line associations first so_far.answers place lines a why t inquired.to now inquired.reached so_far.are inquired.goes inquired.ends;
}

-- there was no memory for a line more
pub LinesRun-full : (associations : List AssociationStatus) (start t : Talk) (place : ℕ) (lines : List ℕ) (before now : Option (List Event)) → LinesSoFar associations start t place lines before now → (first : Answer) → LinesRun first associations start (Err NoMemory) before now
LinesRun-full associations start t place lines before now so_far first = record {
  to = ready t (course_of (first ∷ so_far.answers));
  reached = now;
  goes = so_far.goes first;
  misses = refl;
  begins = (so_far.answers, refl);
  ends = tt;
  bad_only = λ body bad. inr (inl refl);
}

-- all lines were made
pub LinesRun-done : (associations : List AssociationStatus) (start t : Talk) (place : ℕ) (lines : List ℕ) (before now : Option (List Event)) → place ≡ length associations → LinesSoFar associations start t place lines before now → (first : Answer) → LinesRun first associations start (Ok lines) before now
LinesRun-done associations start t place lines before now all so_far first = record {
  to = ready t (course_of (first ∷ so_far.answers));
  reached = now;
  goes = so_far.goes first;
  misses = refl;
  begins = (so_far.answers, refl);
  ends = (so_far.unstuck, refl, (so_far.answers, so_far.count ∙ all, refl, subst (λ (asked : List AssociationStatus). ArePeerLines asked so_far.answers lines) (take_all place associations (omega (arith, all))) so_far.are));
  bad_only = λ body bad. absurd (lines-good associations first so_far.answers place lines body so_far.are bad);
}

-- the associations were not read
pub Runs-unread : (first : Answer) (t : Talk) (why : Failure) (before : Option (List Event)) → stuck t ≡ None → Judges (IsStatusBody first.text) (Err why) → Runs Peers t (first ∷ []) (Err why) before before
Runs-unread first t why before unstuck judges = record {
  associations = [];
  to = ready t (course_of (first ∷ []));
  reached = before;
  goes = Goes-none (script_of Peers []) (ready t (course_of (first ∷ []))) before;
  misses = misses-unread why judges;
  named = inr refl;
  ends = ends-unread why judges;
  bad_only = λ bad. bad-unread why judges;
} where
  ends-unread : (its : Failure) → Judges (IsStatusBody first.text) (Err its) → EndsBy Peers [] (Err its) (ready t (course_of (first ∷ [])))
  ends-unread BadReply none = (unstuck, refl, refl, λ report is. none is.associations is.read)
  ends-unread NoMemory none = tt
  ends-unread Words none = absurd none
  ends-unread (Ask fault) none = absurd none

  bad-unread : (its : Failure) → Judges (IsStatusBody first.text) (Err its) → MayBeBad (Err its)
  bad-unread BadReply none = inl refl
  bad-unread NoMemory none = inr (inl refl)
  bad-unread Words none = absurd none
  bad-unread (Ask fault) none = absurd none

  misses-unread : (its : Failure) → Judges (IsStatusBody first.text) (Err its) → MissesLast {A = List ℕ} (Err its) before before
  misses-unread BadReply none = refl
  misses-unread NoMemory none = refl
  misses-unread Words none = refl
  misses-unread (Ask fault) none = absurd none

-- the first answer names the associations
named-first : (first : Answer) (associations : List AssociationStatus) (answers : List Answer) (more : List Answer) → IsStatusBody first.text associations → answers ≡ first ∷ more → AreNamed answers associations
named-first first associations answers more body same = subst (λ (all : List Answer). AreNamed all associations) (sym same) (inl body)

-- the lines were not made
pub Runs-failed : (first : Answer) (associations : List AssociationStatus) (t : Talk) (why : Failure) (before after : Option (List Event)) → IsStatusBody first.text associations → LinesRun first associations t (Err why) before after → Runs Peers t (first ∷ []) (Err why) before after
Runs-failed first associations t why before after body run = record {
  associations = associations;
  to = run.to;
  reached = run.reached;
  goes = run.goes;
  misses = run.misses;
  named = named-first first associations run.to.plan.answers run.begins.0 body run.begins.1;
  ends = run.ends;
  bad_only = run.bad_only body;
}

-- there was no memory for the report
pub Runs-full : (first : Answer) (associations : List AssociationStatus) (t : Talk) (lines : List ℕ) (before after : Option (List Event)) → IsStatusBody first.text associations → LinesRun first associations t (Ok lines) before after → Runs Peers t (first ∷ []) (Err NoMemory) before after
Runs-full first associations t lines before after body run = record {
  associations = associations;
  to = run.to;
  reached = run.reached;
  goes = run.goes;
  misses = run.misses;
  named = named-first first associations run.to.plan.answers run.begins.0 body run.begins.1;
  ends = tt;
  bad_only = λ bad. inr (inl refl);
}

-- what was made is no failure
not-made : (made : List ℕ) → ¬ MayBeBad (Ok made)
not-made made (inl is) = absurd (cc is)
not-made made (inr (inl is)) = absurd (cc is)
not-made made (inr (inr is)) = absurd (cc is)

-- the report of the peers was made
pub Runs-peers : (first : Answer) (associations : List AssociationStatus) (t : Talk) (lines report : List ℕ) (before after : Option (List Event)) → IsStatusBody first.text associations → LinesRun first associations t (Ok lines) before after → report ≡ peers_header ++ lines → Runs Peers t (first ∷ []) (Ok report) before after
Runs-peers first associations t lines report before after body run printed =
    let At : Course → Type 0 = λ (c : Course). (stuck run.to.talk ≡ None) × ((run.to.waits ≡ false) × ((script_of Peers associations).due c ≡ None)) × (c.refused ≡ None) × IsReport Peers c.answers report in
    let answers = run.ends.2.0 in
    let count = run.ends.2.1 in
    record {
      associations = associations;
      to = run.to;
      reached = run.reached;
      goes = run.goes;
      misses = run.misses;
      named = named-first first associations run.to.plan.answers run.begins.0 body run.begins.1;
      ends = subst At (sym run.ends.2.2) (
        run.ends.0,
        (run.ends.1, ap peer_due (drop_all (length answers) associations (omega (arith, count)))),
        refl,
        record { associations = associations; lines = lines; read = body; are = run.ends.2.3; printed = printed },
      );
      bad_only = λ bad. absurd (not-made lines (run.bad_only body bad));
    }

-- the first answer came, and the command went on
pub Runs-later : (old t : Talk) (request : Request) (status : ℕ) (text : List ℕ) (result : Result (List ℕ) Failure) (before between after : Option (List Event)) → request ≡ status_request → Asked request old t (Ok (status, text)) before between → Runs Peers t (record { status = status; text = text } ∷ []) result between after → Runs Peers old [] result before after
Runs-later old t request status text result before between after is asked run =
    let first : Answer = record { status = status; text = text } in
    let d : Dialogue Course = script_of Peers run.associations in
    let due : next_of Peers run.associations [] ≡ Some request = ap Some (sym is) in
    record {
      associations = run.associations;
      to = run.to;
      reached = run.reached;
      goes = Goes-then d (ready old (course_of [])) (ready t (course_of (first ∷ []))) run.to before between run.reached
          (subst (λ (trace : Option (List Event)). Goes d (ready old (course_of [])) (ready t (course_of (first ∷ []))) before trace) (sym asked.misses)
          (subst (λ (at : Asking Course). Goes d (ready old (course_of [])) at before asked.reached)
          (is-ready (course_at Peers run.associations [] asked.to) t (course_of (first ∷ [])) asked.leaves (course-answered Peers run.associations [] asked.to first asked.ends.2) asked.ends.1)
          (Goes-due Peers run.associations [] request old asked.to before asked.reached due asked.goes)))
          run.goes;
      misses = run.misses;
      named = run.named;
      ends = run.ends;
      bad_only = run.bad_only;
    }

-- no first answer came
pub Runs-unanswered : (old t : Talk) (request : Request) (fault : AskFault) (before after : Option (List Event)) → request ≡ status_request → Asked request old t (Err fault) before after → Runs Peers old [] (Err (Ask fault)) before after
Runs-unanswered old t request fault before after is asked =
    let due : next_of Peers [] [] ≡ Some request = ap Some (sym is) in
    record {
      associations = [];
      to = course_at Peers [] [] asked.to;
      reached = asked.reached;
      goes = Goes-due Peers [] [] request old asked.to before asked.reached due asked.goes;
      misses = MissesLast-asked fault asked.reached after asked.misses;
      named = AreNamed-none _;
      ends = AskedUntil-asked Peers [] [] request fault asked.to due asked.ends;
      bad_only = bad-before Peers [] [] request fault old asked.to before asked.reached (λ bad. bad) asked.goes asked.ends;
    }

-- octets are appended unless that failed
pub appended : {U F : Type 0} (result : Result U F) (old new lent more : List ℕ) → new ≡ (if is_ok result then old ++ lent else old) → false ≡ is_err result → lent ≡ more → new ≡ old ++ more
appended (Ok done) old new lent more gained well same = gained ∙ ap (λ (octets : List ℕ). old ++ octets) same
appended (Err why) old new lent more gained well same = absurd (cc well)
