-- How calls of a client end.
use Rattle.std.proofs.Common.{◌-◌, ◌≡◌, ◌≢◌, ℕ, ◌≤◌, Bool, false, Option, Some, None, List, Result, Ok, Err, OnOk, IfOk, IfErr, inl, inr, refl, sym, ap, subst, ◌∙◌, arith}
use Rattle.net_addr.specs.declared.addr.Addr.{Addr}
use Rattle.edge_traits.specs.Ports.{IsPortKept}
use Rattle.edge_traits.specs.Told.{Rose}
use Rattle.edge_traits.specs.declared.port.Event.{Event}
use Rattle.ntpq_client.specs.declared.fault.AskFault.{AskFault}
use Rattle.ntpq_client.specs.declared.fault.AskFault.TheVariants.{Port, Closed, NoReply, Refused, Incomplete, Flooded, NoMemory}
use Rattle.ntpq_client.specs.declared.news.News.{News}
use Rattle.ntpq_client.specs.declared.news.News.TheVariants.{Nothing, Answered, Denied, Quiet}
use Rattle.ntpq_client.specs.declared.polling.Got.{Got}
use Rattle.ntpq_client.specs.declared.polling.Got.TheVariants as Found
use Rattle.ntpq_client.specs.Talks.{Talk, stuck}
use Rattle.ntpq_client.specs.Dialogues.{Asking, Goes, waits_on, waiting, listening}
use Rattle.ntpq_client.specs.Ends.{Heard, Causes, Misses, Listened, PostEnds}
use Rattle.ntpq_client.specs.Exchanges.{TookOne}
use Rattle.ntpq_client.proofs.TalkLemmas.{stuck-causes, after_event-unstuck}
use Rattle.ntpq_client.proofs.DialogueLemmas.{Goes-then, Goes-heard}

-- faults that rose later rose in all
pub Causes-later : {A B : Type 0} (fault : AskFault) (old between new : ℕ) (is_closed : Bool) → old ≤ between → Causes {A = A} (Err fault) between new is_closed → Causes {A = B} (Err fault) old new is_closed
Causes-later fault old between new is_closed grew causes = record {
  failed = λ is. let rose : Rose 1 between new = causes.failed (cc is) in omega arith;
  closed = λ is. causes.closed (cc is);
}

-- giving up needs no cause at the port
pub Causes-stuck : {A : Type 0} (t : Talk) (fault : AskFault) (old new : ℕ) (is_closed : Bool) → stuck t ≡ Some fault → Causes {A = A} (Err fault) old new is_closed
Causes-stuck t fault old new is_closed given_up = elim (stuck-causes t fault given_up) [
  | inl no_reply ↦ record { failed = λ is. absurd (cc (is, no_reply)); closed = λ is. absurd (cc (is, no_reply)) }
  | inr flooded ↦ record { failed = λ is. absurd (cc (is, flooded)); closed = λ is. absurd (cc (is, flooded)) }
]

-- nor does a silence
pub Causes-quiet : {A : Type 0} (t : Talk) (result : Result A AskFault) (old new : ℕ) (is_closed : Bool) → IfErr result (λ fault. stuck t ≡ Some fault) → Causes result old new is_closed
Causes-quiet t (Ok value) old new is_closed given_up = record { failed = λ is. absurd (cc is); closed = λ is. absurd (cc is) }
Causes-quiet t (Err fault) old new is_closed given_up = Causes-stuck t fault old new is_closed given_up

-- a port that is kept twice is kept
pub IsPortKept-then : {P : Type 0} (faults quiets : P → ℕ) (address : P → Addr) (most : P → ℕ) (old between new : P) → IsPortKept faults quiets address most old between → IsPortKept faults quiets address most between new → IsPortKept faults quiets address most old new
IsPortKept-then faults quiets address most old between new one two =
    let faults_kept = one.faults_kept in
    let faults_kept' = two.faults_kept in
    let quiets_kept = one.quiets_kept in
    let quiets_kept' = two.quiets_kept in
    record {
      faults_kept = omega (arith, faults_kept, faults_kept');
      quiets_kept = omega (arith, quiets_kept, quiets_kept');
      address_kept = two.address_kept ∙ one.address_kept;
      most_kept = two.most_kept ∙ one.most_kept;
    }

-- a port found nothing as often as a count rose, in two stretches
pub Rose-then : (count count' count'' old between new : ℕ) → Rose (count' - count) old between → Rose (count'' - count') between new → Rose (count'' - count) old new
Rose-then count count' count'' old between new one two = omega arith

-- posting ends at once where the client has given up
pub PostEnds-stuck : (t : Talk) (fault : AskFault) → stuck t ≡ Some fault → PostEnds (Err fault) t
PostEnds-stuck t fault given_up = elim (stuck-causes t fault given_up) [
  | inl no_reply ↦ subst (λ (f : AskFault). PostEnds (Err f) t) (sym no_reply) (subst (λ (f : AskFault). stuck t ≡ Some f) no_reply given_up)
  | inr flooded ↦ subst (λ (f : AskFault). PostEnds (Err f) t) (sym flooded) (subst (λ (f : AskFault). stuck t ≡ Some f) flooded given_up)
]

-- so does listening
pub Heard-stuck : (a : Asking News) (fault : AskFault) → stuck a.talk ≡ Some fault → Heard (Err fault) a
Heard-stuck a fault given_up = elim (stuck-causes a.talk fault given_up) [
  | inl no_reply ↦ subst (λ (f : AskFault). Heard (Err f) a) (sym no_reply) (subst (λ (f : AskFault). stuck a.talk ≡ Some f) no_reply given_up)
  | inr flooded ↦ subst (λ (f : AskFault). Heard (Err f) a) (sym flooded) (subst (λ (f : AskFault). stuck a.talk ≡ Some f) flooded given_up)
]

-- nothing was missed
pub Misses-none : (A : Type 0) (result : Result A AskFault) (reached after : Option (List Event)) → after ≡ reached → Misses result reached after
Misses-none A (Ok value) reached after same = same
Misses-none A (Err Port) reached after same = same
Misses-none A (Err Closed) reached after same = same
Misses-none A (Err NoReply) reached after same = same
Misses-none A (Err (Refused code)) reached after same = same
Misses-none A (Err Incomplete) reached after same = same
Misses-none A (Err Flooded) reached after same = same
Misses-none A (Err NoMemory) reached after same = inl same

-- what a call missed, another that ends by its fault missed
pub Misses-fault : (A B : Type 0) (fault : AskFault) (reached after : Option (List Event)) → Misses {A = A} (Err fault) reached after → Misses {A = B} (Err fault) reached after
Misses-fault A B Port reached after missed = missed
Misses-fault A B Closed reached after missed = missed
Misses-fault A B NoReply reached after missed = missed
Misses-fault A B (Refused code) reached after missed = missed
Misses-fault A B Incomplete reached after missed = missed
Misses-fault A B Flooded reached after missed = missed
Misses-fault A B NoMemory reached after missed = missed

-- a listener that has given up
pub Listened-stuck : (old t : Talk) (fault : AskFault) (before after : Option (List Event)) → Goes listening (waiting old Nothing) (waiting t Nothing) before after → stuck t ≡ Some fault → Listened old t (Err fault) before after
Listened-stuck old t fault before after goes given_up = record {
  to = waiting t Nothing;
  reached = after;
  goes = goes;
  misses = Misses-none Got (Err fault) after after refl;
  ends = Heard-stuck (waiting t Nothing) fault given_up;
  leaves = refl;
}

-- one take leads a listener to its news
pub Goes-took : (old t t' : Talk) (news : News) (before between after : Option (List Event)) → Goes listening (waiting old Nothing) (waiting t Nothing) before between → stuck t ≡ None → TookOne t t' (Ok news) between after → Goes listening (waiting old Nothing) (record { talk = t'; plan = news; waits = waits_on news }) before after
Goes-took old t t' news before between after goes unstuck (event, taken, gains, is, news_is) =
    Goes-then listening (waiting old Nothing) (waiting t Nothing) (record { talk = t'; plan = news; waits = waits_on news }) before between after goes
    (Goes-heard t t' news event between after unstuck taken gains is news_is)

-- an answer or a refusal leaves a listener that has not given up so
took-unstuck : (t t' : Talk) (news : News) (between after : Option (List Event)) → stuck t ≡ None → TookOne t t' (Ok news) between after → news ≢ Nothing → news ≢ Quiet → stuck t' ≡ None
took-unstuck t t' news between after unstuck (event, taken, gains, is, news_is) ends hears =
    ap stuck is ∙ after_event-unstuck event t unstuck (λ none. ends (news_is ∙ none)) (λ none. hears (news_is ∙ none))

-- a listener that took the end of a whole answer
pub Listened-whole : (old t t' : Talk) (status : ℕ) (text : List ℕ) (before between after : Option (List Event)) → Goes listening (waiting old Nothing) (waiting t Nothing) before between → stuck t ≡ None → TookOne t t' (Ok (Answered status text)) between after → Listened old t' (Ok (Found.Whole status text)) before after
Listened-whole old t t' status text before between after goes unstuck took = record {
  to = record { talk = t'; plan = Answered status text; waits = false };
  reached = after;
  goes = Goes-took old t t' (Answered status text) before between after goes unstuck took;
  misses = refl;
  ends = (took-unstuck t t' (Answered status text) between after unstuck took (λ is. absurd (cc is)) (λ is. absurd (cc is)), refl, refl);
  leaves = refl;
}

-- a listener that took a refusal
pub Listened-denied : (old t t' : Talk) (code : ℕ) (before between after : Option (List Event)) → Goes listening (waiting old Nothing) (waiting t Nothing) before between → stuck t ≡ None → TookOne t t' (Ok (Denied code)) between after → Listened old t' (Err (Refused code)) before after
Listened-denied old t t' code before between after goes unstuck took = record {
  to = record { talk = t'; plan = Denied code; waits = false };
  reached = after;
  goes = Goes-took old t t' (Denied code) before between after goes unstuck took;
  misses = refl;
  ends = (took-unstuck t t' (Denied code) between after unstuck took (λ is. absurd (cc is)) (λ is. absurd (cc is)), refl, refl);
  leaves = refl;
}

-- what one silence is to a listener
Heard-quiet : (a : Asking News) (result : Result Got AskFault) → a.plan ≡ Quiet → a.waits ≡ false → OnOk result (stuck a.talk ≡ None) → IfOk result (λ got. got ≡ Found.Quiet) → IfErr result (λ fault. stuck a.talk ≡ Some fault) → Heard result a
Heard-quiet a (Ok Found.Quiet) silent over unstuck is given_up = (unstuck, silent, over)
Heard-quiet a (Ok (Found.Whole status text)) silent over unstuck is given_up = absurd (cc is)
Heard-quiet a (Err fault) silent over unstuck is given_up = Heard-stuck a fault given_up

-- a listener whose take found nothing
pub Listened-quiet : (old t t' : Talk) (result : Result Got AskFault) (before between after : Option (List Event)) → Goes listening (waiting old Nothing) (waiting t Nothing) before between → stuck t ≡ None → TookOne t t' (Ok Quiet) between after → OnOk result (stuck t' ≡ None) → IfOk result (λ got. got ≡ Found.Quiet) → IfErr result (λ fault. stuck t' ≡ Some fault) → Listened old t' result before after
Listened-quiet old t t' result before between after goes unstuck took still is given_up = record {
  to = record { talk = t'; plan = Quiet; waits = false };
  reached = after;
  goes = Goes-took old t t' Quiet before between after goes unstuck took;
  misses = Misses-none Got result after after refl;
  ends = Heard-quiet (record { talk = t'; plan = Quiet; waits = false }) result refl refl still is given_up;
  leaves = refl;
}

-- a listener whose take failed
pub Listened-failed : (old t t' : Talk) (fault : AskFault) (before between after : Option (List Event)) → Goes listening (waiting old Nothing) (waiting t Nothing) before between → stuck t ≡ None → TookOne t t' (Err fault) between after → Listened old t' (Err fault) before after
Listened-failed old t t' Port before between after goes unstuck (kept, same) = record { to = waiting t Nothing; reached = between; goes = goes; misses = same; ends = (unstuck, refl); leaves = kept }
Listened-failed old t t' Closed before between after goes unstuck (kept, same) = record { to = waiting t Nothing; reached = between; goes = goes; misses = same; ends = (unstuck, refl); leaves = kept }
Listened-failed old t t' NoMemory before between after goes unstuck (kept, missed) = record { to = waiting t Nothing; reached = between; goes = goes; misses = missed; ends = tt; leaves = kept }
Listened-failed old t t' NoReply before between after goes unstuck took = absurd took
Listened-failed old t t' (Refused code) before between after goes unstuck took = absurd took
Listened-failed old t t' Incomplete before between after goes unstuck took = absurd took
Listened-failed old t t' Flooded before between after goes unstuck took = absurd took
