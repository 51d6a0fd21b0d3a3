-- How a client leads a dialogue.
use Rattle.std.proofs.Common.{◌≡◌, ◌≢◌, ℕ, Bool, false, Option, Some, None, IsSome, List, Result, Ok, Err, inl, inr, refl, sym, ap, subst, ◌∙◌}
use Rattle.edge_traits.specs.declared.port.Event.{Event}
use Rattle.ntpq_client.specs.declared.fault.AskFault.{AskFault}
use Rattle.ntpq_client.specs.declared.fault.AskFault.TheVariants.{Port, Closed, NoReply, Refused, Incomplete, Flooded, NoMemory}
use Rattle.ntpq_client.specs.declared.news.News.{News}
use Rattle.ntpq_client.specs.declared.news.News.TheVariants.{Nothing, Answered, Denied, Quiet}
use Rattle.ntpq_client.specs.declared.polling.Got.{Got}
use Rattle.ntpq_client.specs.declared.polling.Got.TheVariants as Found
use Rattle.ntpq_client.specs.declared.request.Request.{Request}
use Rattle.ntpq_client.specs.Talks.{Talk, stuck}
use Rattle.ntpq_client.specs.Dialogues.{Dialogue, Asking, Goes, told, waiting, ready, listening}
use Rattle.ntpq_client.specs.Ends.{Heard, Listened, PostEnds, Ends, Conversed}
use Rattle.ntpq_client.specs.Exchanges.{Exchanged, ToldTo, WentOn}
use Rattle.ntpq_client.proofs.TalkLemmas.{stuck-causes}
use Rattle.ntpq_client.proofs.AnsweredLemmas.{EachIsTold-Goes}
use Rattle.ntpq_client.proofs.EndLemmas.{Misses-none, Misses-fault}
use Rattle.ntpq_client.proofs.DialogueLemmas.{relayed, Goes-none, Goes-then, Goes-listening}

-- a client that has given up ends every dialogue
pub Ends-stuck : {S : Type 0} (d : Dialogue S) (a : Asking S) (fault : AskFault) → stuck a.talk ≡ Some fault → Ends d (Err fault) a
Ends-stuck d a fault given_up = elim (stuck-causes a.talk fault given_up) [
  | inl no_reply ↦ subst (λ (f : AskFault). Ends d (Err f) a) (sym no_reply) (subst (λ (f : AskFault). stuck a.talk ≡ Some f) no_reply given_up)
  | inr flooded ↦ subst (λ (f : AskFault). Ends d (Err f) a) (sym flooded) (subst (λ (f : AskFault). stuck a.talk ≡ Some f) flooded given_up)
]

-- a dialogue ends where its request could not be posted
Ends-unposted : {S : Type 0} (d : Dialogue S) (t : Talk) (plan : S) (request : Request) (fault : AskFault) → d.due plan ≡ Some request → PostEnds (Err fault) t → Ends d (Err fault) (ready t plan)
Ends-unposted d t plan request NoReply due ends = ends
Ends-unposted d t plan request Flooded due ends = ends
Ends-unposted d t plan request Incomplete due ends = (ends.0, refl, subst IsSome (sym due) refl, ends.1)
Ends-unposted d t plan request Port due ends = (ends.0, λ over. absurd (cc (due, over.1)))
Ends-unposted d t plan request NoMemory due ends = tt
Ends-unposted d t plan request Closed due ends = absurd ends
Ends-unposted d t plan request (Refused code) due ends = absurd ends

-- a dialogue whose request could not be posted
pub Conversed-unposted : {S : Type 0} (d : Dialogue S) (t t' : Talk) (plan : S) (request : Request) (fault : AskFault) (before after : Option (List Event)) → d.due plan ≡ Some request → PostEnds (Err fault) t → t' ≡ t → after ≡ before → Conversed d t plan t' plan (Err fault) before after
Conversed-unposted d t t' plan request fault before after due ends kept same = record {
  to = ready t plan;
  reached = before;
  goes = Goes-none d (ready t plan) before;
  misses = Misses-none (Unit {0}) (Err fault) before after same;
  ends = Ends-unposted d t plan request fault due ends;
  told = EachIsTold-Goes d t plan (ready t plan) before before (Goes-none d (ready t plan) before);
  leaves = kept;
  plan_leaves = tt;
}

-- a dialogue that was told the news is ready to go on
relayed-ready : {S : Type 0} (d : Dialogue S) (plan plan' : S) (t' : Talk) (a : Asking News) (news : News) → t' ≡ a.talk → a.plan ≡ news → a.waits ≡ false → plan' ≡ told d news plan → relayed d plan a ≡ ready t' plan'
relayed-ready d plan plan' t' a news talk_is news_is over plan_is = cc (ap (λ (n : News). told d n plan) news_is)

-- a request and what was heard of it
Goes-answered : {S : Type 0} (d : Dialogue S) (old t : Talk) (plan : S) (to : Asking News) (before between after : Option (List Event)) → Goes d (ready old plan) (waiting t plan) before between → Goes listening (waiting t Nothing) to between after → Goes d (ready old plan) (relayed d plan to) before after
Goes-answered d old t plan to before between after goes heard =
    Goes-then d (ready old plan) (waiting t plan) (relayed d plan to) before between after goes (Goes-listening d t plan to between after heard)

-- a dialogue went on after the news, or had no memory to
Exchanged-on : {S : Type 0} (d : Dialogue S) (old t' : Talk) (plan plan' : S) (a : Asking News) (news : News) (result : Result Bool AskFault) (before reached after : Option (List Event)) → Goes d (ready old plan) (relayed d plan a) before reached → after ≡ reached → t' ≡ a.talk → stuck a.talk ≡ None → a.plan ≡ news → a.waits ≡ false → WentOn (told d news plan) plan' result → Exchanged d old plan t' plan' result before after
Exchanged-on d old t' plan plan' a news result before reached after goes same talk_is unstuck news_is over (inl on) =
    subst (λ (r : Result Bool AskFault). Exchanged d old plan t' plan' r before after) (sym on.0) (
      subst (λ (trace : Option (List Event)). Goes d (ready old plan) (ready t' plan') before trace) (sym same)
          (subst (λ (to : Asking _). Goes d (ready old plan) to before reached) (relayed-ready d plan plan' t' a news talk_is news_is over on.1) goes),
      ap stuck talk_is ∙ unstuck,
    )
Exchanged-on d old t' plan plan' a news result before reached after goes same talk_is unstuck news_is over (inr no_memory) =
    subst (λ (r : Result Bool AskFault). Exchanged d old plan t' plan' r before after) (sym no_memory)
    (record { to = relayed d plan a; reached = reached; goes = goes; misses = inl same; ends = tt; told = EachIsTold-Goes d old plan (relayed d plan a) before reached goes; leaves = talk_is; plan_leaves = tt })

-- a dialogue ends where its client found no news
Ends-unheard : {S : Type 0} (d : Dialogue S) (plan : S) (a : Asking News) (fault : AskFault) → Heard (Err fault) a → ((code : ℕ) → fault ≢ Refused code) → Ends d (Err fault) (relayed d plan a)
Ends-unheard d plan a NoReply ends other = ends
Ends-unheard d plan a Flooded ends other = ends
Ends-unheard d plan a Port ends other = (ends.0, λ over. absurd (cc (ends.1, over.0)))
Ends-unheard d plan a Closed ends other = ends
Ends-unheard d plan a NoMemory ends other = tt
Ends-unheard d plan a Incomplete ends other = absurd ends
Ends-unheard d plan a (Refused code) ends other = absurd (other code refl)

-- a dialogue whose client found no news
Exchanged-unheard : {S : Type 0} (d : Dialogue S) (old t t' : Talk) (plan plan' : S) (fault : AskFault) (result : Result Bool AskFault) (before between after : Option (List Event)) → Goes d (ready old plan) (waiting t plan) before between → Listened t t' (Err fault) between after → ((code : ℕ) → fault ≢ Refused code) → result ≡ Err fault → Exchanged d old plan t' plan' result before after
Exchanged-unheard d old t t' plan plan' fault result before between after goes heard other is =
    subst (λ (r : Result Bool AskFault). Exchanged d old plan t' plan' r before after) (sym is)
    (record {
      to = relayed d plan heard.to;
      reached = heard.reached;
      goes = Goes-answered d old t plan heard.to before between heard.reached goes heard.goes;
      misses = Misses-fault Got (Unit {0}) fault heard.reached after heard.misses;
      ends = Ends-unheard d plan heard.to fault heard.ends other;
      told = EachIsTold-Goes d old plan (relayed d plan heard.to) before heard.reached (Goes-answered d old t plan heard.to before between heard.reached goes heard.goes);
      leaves = heard.leaves;
      plan_leaves = tt;
    })

-- a request and its answer, by what the client found
pub Exchanged-told : {S : Type 0} (d : Dialogue S) (old t t' : Talk) (plan plan' : S) (got : Result Got AskFault) (result : Result Bool AskFault) (before between after : Option (List Event)) → Goes d (ready old plan) (waiting t plan) before between → Listened t t' got between after → ToldTo d got plan plan' result → Exchanged d old plan t' plan' result before after
Exchanged-told d old t t' plan plan' (Ok (Found.Whole status text)) result before between after goes heard on =
    Exchanged-on d old t' plan plan' heard.to (Answered status text) result before heard.reached after
    (Goes-answered d old t plan heard.to before between heard.reached goes heard.goes)
    heard.misses heard.leaves heard.ends.0 heard.ends.1 heard.ends.2 on
Exchanged-told d old t t' plan plan' (Ok Found.Quiet) result before between after goes heard on =
    Exchanged-on d old t' plan plan' heard.to Quiet result before heard.reached after
    (Goes-answered d old t plan heard.to before between heard.reached goes heard.goes)
    heard.misses heard.leaves heard.ends.0 heard.ends.1 heard.ends.2 on
Exchanged-told d old t t' plan plan' (Err (Refused code)) result before between after goes heard on =
    Exchanged-on d old t' plan plan' heard.to (Denied code) result before heard.reached after
    (Goes-answered d old t plan heard.to before between heard.reached goes heard.goes)
    heard.misses heard.leaves heard.ends.0 heard.ends.1 heard.ends.2 on
Exchanged-told d old t t' plan plan' (Err Port) result before between after goes heard on =
    Exchanged-unheard d old t t' plan plan' Port result before between after goes heard (λ code is. absurd (cc is)) on.0
Exchanged-told d old t t' plan plan' (Err Closed) result before between after goes heard on =
    Exchanged-unheard d old t t' plan plan' Closed result before between after goes heard (λ code is. absurd (cc is)) on.0
Exchanged-told d old t t' plan plan' (Err NoReply) result before between after goes heard on =
    Exchanged-unheard d old t t' plan plan' NoReply result before between after goes heard (λ code is. absurd (cc is)) on.0
Exchanged-told d old t t' plan plan' (Err Incomplete) result before between after goes heard on =
    Exchanged-unheard d old t t' plan plan' Incomplete result before between after goes heard (λ code is. absurd (cc is)) on.0
Exchanged-told d old t t' plan plan' (Err Flooded) result before between after goes heard on =
    Exchanged-unheard d old t t' plan plan' Flooded result before between after goes heard (λ code is. absurd (cc is)) on.0
Exchanged-told d old t t' plan plan' (Err NoMemory) result before between after goes heard on =
    Exchanged-unheard d old t t' plan plan' NoMemory result before between after goes heard (λ code is. absurd (cc is)) on.0

-- a client led a dialogue from further back
pub Conversed-then : {S : Type 0} (d : Dialogue S) (old t t' : Talk) (plan here plan' : S) (result : Result (Unit {0}) AskFault) (before between after : Option (List Event)) → Goes d (ready old plan) (ready t here) before between → Conversed d t here t' plan' result between after → Conversed d old plan t' plan' result before after
Conversed-then d old t t' plan here plan' result before between after goes rest = record {
  to = rest.to;
  reached = rest.reached;
  goes = Goes-then d (ready old plan) (ready t here) rest.to before between rest.reached goes rest.goes;
  misses = rest.misses;
  ends = rest.ends;
  told = EachIsTold-Goes d old plan rest.to before rest.reached (Goes-then d (ready old plan) (ready t here) rest.to before between rest.reached goes rest.goes);
  leaves = rest.leaves;
  plan_leaves = rest.plan_leaves;
}

-- a dialogue that is over
pub Conversed-over : {S : Type 0} (d : Dialogue S) (t t' : Talk) (plan plan' : S) (before after : Option (List Event)) → stuck t ≡ None → t' ≡ t → plan' ≡ plan → d.due plan ≡ None → after ≡ before → Conversed d t plan t' plan' (Ok tt) before after
Conversed-over d t t' plan plan' before after unstuck kept plan_kept over same = record {
  to = ready t plan;
  reached = before;
  goes = Goes-none d (ready t plan) before;
  misses = same;
  ends = (unstuck, (refl, over));
  told = EachIsTold-Goes d t plan (ready t plan) before before (Goes-none d (ready t plan) before);
  leaves = kept;
  plan_leaves = plan_kept;
}

-- a dialogue of a client that has given up
pub Conversed-stuck : {S : Type 0} (d : Dialogue S) (t : Talk) (plan : S) (fault : AskFault) (before : Option (List Event)) → stuck t ≡ Some fault → Conversed d t plan t plan (Err fault) before before
Conversed-stuck d t plan fault before given_up = record {
  to = ready t plan;
  reached = before;
  goes = Goes-none d (ready t plan) before;
  misses = Misses-none (Unit {0}) (Err fault) before before refl;
  ends = Ends-stuck d (ready t plan) fault given_up;
  told = EachIsTold-Goes d t plan (ready t plan) before before (Goes-none d (ready t plan) before);
  leaves = refl;
  plan_leaves = tt;
}
