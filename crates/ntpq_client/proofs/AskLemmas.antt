-- How one request is asked.
use Rattle.std.proofs.Common.{◌≡◌, ℕ, false, Option, None, IsSome, List, Result, Ok, Err, refl, sym, ap, subst, ◌∙◌}
use Rattle.edge_traits.specs.declared.port.Event.{Event}
use Rattle.ntpq_client.specs.declared.fault.AskFault.{AskFault}
use Rattle.ntpq_client.specs.declared.fault.AskFault.TheVariants.{Port, Closed, NoReply, Refused, Incomplete, Flooded, NoMemory}
use Rattle.ntpq_client.specs.declared.news.News.{News}
use Rattle.ntpq_client.specs.declared.news.News.TheVariants.{Nothing, Answered, Denied, Quiet}
use Rattle.ntpq_client.specs.declared.request.Request.{Request}
use Rattle.ntpq_client.specs.Talks.{Talk, stuck}
use Rattle.ntpq_client.specs.Dialogues.{Dialogue, Asking, Goes, told, ready, asking, due_again, dialogue_by, SingleParts}
use Rattle.ntpq_client.specs.Ends.{Ends, Conversed, Asked, AskEnds}
use Rattle.ntpq_client.specs.Exchanges.{AnswerIs}
use Rattle.ntpq_client.proofs.DialogueLemmas.{Goes-same}
use Rattle.ntpq_client.proofs.AnsweredLemmas.{AnswersOne-Goes}
use Rattle.ntpq_client.proofs.EndLemmas.{Misses-none, Misses-fault}

-- the dialogue of one request that is kept beside its news
abbrev pub single : Dialogue SingleParts
single = dialogue_by (λ s. due_again s.request s.news) (λ status text s. record s { news = Answered status text }) (λ code s. record s { news = Denied code }) (λ s. record s { news = Quiet })

-- it keeps this request, and has heard this
abbrev IsSingle : Request → SingleParts → News → Type 0
IsSingle request s news = (s.request ≡ request) × (s.news ≡ news)

due_single : (request : Request) (s : SingleParts) (news : News) → IsSingle request s news → due_again s.request s.news ≡ due_again request news
due_single request s news same = ap (λ (r : Request). due_again r s.news) same.0 ∙ ap (due_again request) same.1

told_single : (request : Request) (news : News) (s : SingleParts) (heard : News) → IsSingle request s heard → IsSingle request (told single news s) (told (asking request) news heard)
told_single request Nothing s heard same = same
told_single request (Answered status text) s heard same = (same.0, refl)
told_single request (Denied code) s heard same = (same.0, refl)
told_single request Quiet s heard same = (same.0, refl)

-- where it goes, the dialogue of the request goes
Goes-single : (request : Request) (old : Talk) (to : Asking SingleParts) (before after : Option (List Event)) → Goes single (ready old (record { request = request; news = Nothing })) to before after → (news : News) × IsSingle request to.plan news × Goes (asking request) (ready old Nothing) (record { talk = to.talk; plan = news; waits = to.waits }) before after
Goes-single request old to before after goes =
    Goes-same single (asking request) (IsSingle request) (due_single request) (told_single request) (ready old (record { request = request; news = Nothing })) to Nothing before after (refl, refl) goes

-- where it ends by a fault, the dialogue of the request ends so
AskEnds-fault : (request : Request) (to : Asking SingleParts) (news : News) (fault : AskFault) → IsSingle request to.plan news → Ends single (Err fault) to → AskEnds request (Err fault) (record { talk = to.talk; plan = news; waits = to.waits })
AskEnds-fault request to news NoReply same ends = ends
AskEnds-fault request to news Flooded same ends = ends
AskEnds-fault request to news Closed same ends = ends
AskEnds-fault request to news NoMemory same ends = tt
AskEnds-fault request to news (Refused code) same ends = absurd ends
AskEnds-fault request to news Incomplete same ends = (ends.0, ends.1, subst IsSome (due_single request to.plan news same) ends.2, ends.3)
AskEnds-fault request to news Port same ends = (ends.0, λ over. ends.1 (over.0, due_single request to.plan news same ∙ over.1))

-- a request that was asked in vain
pub Asked-fault : (request : Request) (old new : Talk) (plan' : SingleParts) (fault : AskFault) (before after : Option (List Event)) → Conversed single old (record { request = request; news = Nothing }) new plan' (Err fault) before after → Asked request old new (Err fault) before after
Asked-fault request old new plan' fault before after conversed =
    let goes = Goes-single request old conversed.to before conversed.reached conversed.goes in
    let to : Asking News = record { talk = conversed.to.talk; plan = goes.0; waits = conversed.to.waits } in
    let ends : AskEnds request (Err fault) to = AskEnds-fault request conversed.to goes.0 fault goes.1 conversed.ends in
    record {
      to = to;
      reached = conversed.reached;
      goes = goes.2;
      misses = Misses-fault (Unit {0}) (ℕ × List ℕ) fault conversed.reached after conversed.misses;
      ends = ends;
      told = AnswersOne-Goes request old to before conversed.reached goes.2 (Err fault) ends;
      leaves = conversed.leaves;
    }

-- where a dialogue of one request is over, its answer or its refusal is the answer
AskEnds-over : (request : Request) (a : Asking News) (result : Result (ℕ × List ℕ) AskFault) (news : News) → stuck a.talk ≡ None → a.waits ≡ false → a.plan ≡ news → AnswerIs result news → AskEnds request result a
AskEnds-over request a (Ok answer) news unstuck over is answered = (unstuck, over, is ∙ answered)
AskEnds-over request a (Err (Refused code)) news unstuck over is answered = (unstuck, over, is ∙ answered)
AskEnds-over request a (Err Port) news unstuck over is answered = absurd answered
AskEnds-over request a (Err Closed) news unstuck over is answered = absurd answered
AskEnds-over request a (Err NoReply) news unstuck over is answered = absurd answered
AskEnds-over request a (Err Incomplete) news unstuck over is answered = absurd answered
AskEnds-over request a (Err Flooded) news unstuck over is answered = absurd answered
AskEnds-over request a (Err NoMemory) news unstuck over is answered = absurd answered

-- a request that was answered or refused
pub Asked-over : (request : Request) (old new : Talk) (plan' : SingleParts) (news : News) (result : Result (ℕ × List ℕ) AskFault) (before after : Option (List Event)) → Conversed single old (record { request = request; news = Nothing }) new plan' (Ok tt) before after → plan'.news ≡ news → AnswerIs result news → Asked request old new result before after
Asked-over request old new plan' news result before after conversed is answered =
    let goes = Goes-single request old conversed.to before conversed.reached conversed.goes in
    let to : Asking News = record { talk = conversed.to.talk; plan = goes.0; waits = conversed.to.waits } in
    let ends : AskEnds request result to =
    AskEnds-over request to result news conversed.ends.0 conversed.ends.1.0 (sym goes.1.1 ∙ ap (λ (s : SingleParts). s.news) (sym conversed.plan_leaves) ∙ is) answered in
    record {
      to = to;
      reached = conversed.reached;
      goes = goes.2;
      misses = Misses-none (ℕ × List ℕ) result conversed.reached after conversed.misses;
      ends = ends;
      told = AnswersOne-Goes request old to before conversed.reached goes.2 result ends;
      leaves = conversed.leaves;
    }
