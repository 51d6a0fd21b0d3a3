-- What a run is, put together from the dialogue that it led.
use Rattle.std.proofs.Common.{◌≡◌, ◌≢◌, ◌≤◌, ℕ, Bool, false, Option, Some, None, List, [], ◌∷◌, ◌++◌, Result, Ok, Err, inl, refl, sym, ap, subst, ◌∙◌, arith}
use Rattle.std.proofs.lemmas.Bool.Decides.{nat_tests}
use Rattle.edge_traits.specs.declared.port.Event.{Event}
use Rattle.mode6_frame.specs.declared.errors.TheConstants.{BAD_NAME}
use Rattle.mru_items.specs.declared.query.Query.{Query}
use Rattle.mru_items.specs.declared.shown.ShownRow.{ShownRow}
use Rattle.mru_items.specs.Queries.{IsQuery}
use Rattle.mrulist_coverage.proofs.LowerFacts.{lower-laws, names-four}
use Rattle.mrulist_coverage.proofs.RunLemmas.{covered-listing}
use Rattle.mrulist_coverage.proofs.StillRuns.{IsStillEnd, still-listing}
use Rattle.mrulist_coverage.specs.Coverage.{Covers, IsCoveredListing}
use Rattle.mrulist_coverage.specs.Still.{IsCompleteIf, IsStill}
use Rattle.mrulist_coverage.specs.Tellings.{IsTelling, IsToldFrom, Telling, nothing_known}
use Rattle.mrulist_reader.specs.declared.listing.End.{End}
use Rattle.mrulist_reader.specs.declared.listing.End.TheVariants as Ended
use Rattle.mrulist_reader.specs.declared.listing.Listing.{Listing}
use Rattle.mrulist_reader.specs.Readers.{ReaderParts, listing_dialogue, new_reader}
use Rattle.mrulist_run.specs.declared.fault.RunFault.{RunFault}
use Rattle.mrulist_run.specs.declared.fault.RunFault.TheVariants.{Ask, BadReply, NoMemory}
use Rattle.mrulist_run.specs.Runs.{CameTo, IsComplete, IsCovering, Run, RunEnds, RunMisses, run_fault_of}
use Rattle.ntpq_client.specs.declared.client.TheConstants.{MAX_QUIETS}
use Rattle.ntpq_client.specs.declared.fault.AskFault.{AskFault}
use Rattle.ntpq_client.specs.declared.fault.AskFault.TheVariants as Fault
use Rattle.ntpq_client.specs.Dialogues.{Asking, Follows, Goes, after_all, ready}
use Rattle.ntpq_client.specs.Ends.{Conversed, Ends, Misses}
use Rattle.ntpq_client.specs.Talks.{Talk, new_talk, stuck}

-- where a listing stands that is over
RunEnds-came : (a : Asking ReaderParts) (result : Result Listing RunFault) → Ends listing_dialogue (Ok tt) a → CameTo a.plan result → RunEnds result a
RunEnds-came a (Ok listing) ends came = (ends.0, ends.1.0, came.0, came.1)
RunEnds-came a (Err (BadReply place)) ends came = (ends.0, ends.1.0, came.0, came.1)
RunEnds-came a (Err (Ask (Fault.Refused code))) ends came = (ends.0, ends.1.0, came)
RunEnds-came a (Err (Ask Fault.Port)) ends came = absurd came
RunEnds-came a (Err (Ask Fault.Closed)) ends came = absurd came
RunEnds-came a (Err (Ask Fault.NoReply)) ends came = absurd came
RunEnds-came a (Err (Ask Fault.Incomplete)) ends came = absurd came
RunEnds-came a (Err (Ask Fault.Flooded)) ends came = absurd came
RunEnds-came a (Err (Ask Fault.NoMemory)) ends came = absurd came
RunEnds-came a (Err NoMemory) ends came = tt

-- a listing that is over missed nothing
RunMisses-came : (r : ReaderParts) (result : Result Listing RunFault) (reached after : Option (List Event)) → CameTo r result → after ≡ reached → RunMisses result reached after
RunMisses-came r (Ok listing) reached after came same = same
RunMisses-came r (Err (BadReply place)) reached after came same = same
RunMisses-came r (Err (Ask (Fault.Refused code))) reached after came same = same
RunMisses-came r (Err (Ask Fault.Port)) reached after came same = same
RunMisses-came r (Err (Ask Fault.Closed)) reached after came same = same
RunMisses-came r (Err (Ask Fault.NoReply)) reached after came same = same
RunMisses-came r (Err (Ask Fault.Incomplete)) reached after came same = same
RunMisses-came r (Err (Ask Fault.Flooded)) reached after came same = same
RunMisses-came r (Err (Ask Fault.NoMemory)) reached after came same = inl same
RunMisses-came r (Err NoMemory) reached after came same = inl same

-- a listing that is over covers the list, as the law says
IsCovering-came : (query : Query) (t : Telling) (places : List (Option ℕ)) (r : ReaderParts) (result : Result Listing RunFault) → CameTo r result → IsCoveredListing t places query r → IsCovering query t places result
IsCovering-came query t places r (Ok listing) came law =
    let covered = law.covers listing.now came.0 in
    let rows_are : r.rows ≡ listing.rows = sym (ap (λ (l : Listing). l.rows) came.1) in
    (covered.1, covered.0, covered.2, subst (λ (rows : List ShownRow). Covers t places query.filter covered.0 rows listing.now) rows_are covered.3)
IsCovering-came query t places r (Err (BadReply place)) came law = law.never_bad came.0
IsCovering-came query t places r (Err (Ask (Fault.Refused code))) came law =
    λ is. law.never_refused (came ∙ ap (λ (why : ℕ). Some (Ended.Refused why)) is)
IsCovering-came query t places r (Err (Ask Fault.Port)) came law = tt
IsCovering-came query t places r (Err (Ask Fault.Closed)) came law = tt
IsCovering-came query t places r (Err (Ask Fault.NoReply)) came law = tt
IsCovering-came query t places r (Err (Ask Fault.Incomplete)) came law = tt
IsCovering-came query t places r (Err (Ask Fault.Flooded)) came law = tt
IsCovering-came query t places r (Err (Ask Fault.NoMemory)) came law = tt
IsCovering-came query t places r (Err NoMemory) came law = tt

-- a listing that went on to here is a covered one, whatever history it was told from
went-covered : (query : Query) (old : Talk) (to : Asking ReaderParts) (before reached : Option (List Event)) (t : Telling) (places : List (Option ℕ)) → IsQuery query → (goes : Goes listing_dialogue (ready old (new_reader query)) to before reached) → IsTelling t → IsToldFrom t old.server nothing_known goes.events places → IsCoveredListing t places query to.plan
went-covered query old to before reached t places is_query goes telling told =
    subst (λ (a : Asking ReaderParts). IsCoveredListing t places query a.plan) goes.leads
    (covered-listing lower-laws t old query goes.events places telling is_query goes.follows told)

-- a listing over a still trace comes to its end, or memory was wanting, or the port failed
complete-still : (result : Result Listing RunFault) (a : Asking ReaderParts) → RunEnds result a → IsStillEnd a → IsComplete result
complete-still (Ok listing) a ends still = tt
complete-still (Err NoMemory) a ends still = tt
complete-still (Err (BadReply place)) a ends still = subst IsCompleteIf ends.2 still.complete
complete-still (Err (Ask (Fault.Refused code))) a ends still = subst IsCompleteIf ends.2 still.complete
complete-still (Err (Ask Fault.NoMemory)) a ends still = tt
complete-still (Err (Ask Fault.Port)) a ends still = tt
complete-still (Err (Ask Fault.Closed)) a ends still = tt
complete-still (Err (Ask Fault.NoReply)) a ends still = absurd (cc (ends, still.unstuck))
complete-still (Err (Ask Fault.Flooded)) a ends still = absurd (cc (ends, still.unstuck))
complete-still (Err (Ask Fault.Incomplete)) a ends still = absurd (omega (arith, ends.3, still.few))

-- a listing of a new client that went on to here over a still trace
went-still : (query : Query) (old : Talk) (to : Asking ReaderParts) (before reached : Option (List Event)) (t : Telling) (places : List (Option ℕ)) → IsQuery query → (goes : Goes listing_dialogue (ready old (new_reader query)) to before reached)
    → old ≡ new_talk old.server → IsTelling t → IsToldFrom t old.server nothing_known goes.events places → IsStill t old.server query.filter goes.events places → IsStillEnd to
went-still query old to before reached t places is_query goes is_new telling told still =
    let Begun : Talk → Type 0 = λ talk. Follows listing_dialogue (ready talk (new_reader query)) goes.events in
    let Ended : Talk → Type 0 = λ talk. IsStillEnd (after_all listing_dialogue goes.events (ready talk (new_reader query))) in
    subst IsStillEnd goes.leads
    (subst Ended (sym is_new) (still-listing lower-laws names-four t old.server query goes.events places telling is_query (subst Begun is_new goes.follows) told still))

-- a listing that is over ran
pub Run-came : (query : Query) (old new : Talk) (plan : ReaderParts) (result : Result Listing RunFault) (before after : Option (List Event)) → IsQuery query → Conversed listing_dialogue old (new_reader query) new plan (Ok tt) before after → CameTo plan result → Run query old new result before after
Run-came query old new plan result before after is_query conversed came =
    let it : CameTo conversed.to.plan result = subst (λ (r : ReaderParts). CameTo r result) conversed.plan_leaves came in
    record {
      to = conversed.to;
      reached = conversed.reached;
      goes = conversed.goes;
      misses = RunMisses-came conversed.to.plan result conversed.reached after it conversed.misses;
      ends = RunEnds-came conversed.to result conversed.ends it;
      told = conversed.told;
      covers = λ t places telling told. IsCovering-came query t places conversed.to.plan result it (went-covered query old conversed.to before conversed.reached t places is_query conversed.goes telling told);
      completes = λ is_new t places telling told still. complete-still result conversed.to (RunEnds-came conversed.to result conversed.ends it) (went-still query old conversed.to before conversed.reached t places is_query conversed.goes is_new telling told still);
      leaves = conversed.leaves;
    }

-- where a listing stands whose client has no whole answer
RunEnds-fault : (a : Asking ReaderParts) (fault : AskFault) → Ends listing_dialogue (Err fault) a → RunEnds (Err (run_fault_of fault)) a
RunEnds-fault a Fault.Port ends = ends
RunEnds-fault a Fault.Closed ends = ends
RunEnds-fault a Fault.NoReply ends = ends
RunEnds-fault a (Fault.Refused code) ends = absurd ends
RunEnds-fault a Fault.Incomplete ends = ends
RunEnds-fault a Fault.Flooded ends = ends
RunEnds-fault a Fault.NoMemory ends = tt

-- what its client missed, a run missed
RunMisses-fault : (fault : AskFault) (reached after : Option (List Event)) → Misses {A = Unit {0}} (Err fault) reached after → RunMisses (Err (run_fault_of fault)) reached after
RunMisses-fault Fault.Port reached after misses = misses
RunMisses-fault Fault.Closed reached after misses = misses
RunMisses-fault Fault.NoReply reached after misses = misses
RunMisses-fault (Fault.Refused code) reached after misses = misses
RunMisses-fault Fault.Incomplete reached after misses = misses
RunMisses-fault Fault.Flooded reached after misses = misses
RunMisses-fault Fault.NoMemory reached after misses = misses

-- a run that has no whole answer covers nothing
IsCovering-fault : (query : Query) (t : Telling) (places : List (Option ℕ)) (a : Asking ReaderParts) (fault : AskFault) → Ends listing_dialogue (Err fault) a → IsCovering query t places (Err (run_fault_of fault))
IsCovering-fault query t places a Fault.Port ends = tt
IsCovering-fault query t places a Fault.Closed ends = tt
IsCovering-fault query t places a Fault.NoReply ends = tt
IsCovering-fault query t places a (Fault.Refused code) ends = absurd ends
IsCovering-fault query t places a Fault.Incomplete ends = tt
IsCovering-fault query t places a Fault.Flooded ends = tt
IsCovering-fault query t places a Fault.NoMemory ends = tt

-- a listing ran whose client has no whole answer
pub Run-fault : (query : Query) (old new : Talk) (plan : ReaderParts) (fault : AskFault) (before after : Option (List Event)) → IsQuery query → Conversed listing_dialogue old (new_reader query) new plan (Err fault) before after → Run query old new (Err (run_fault_of fault)) before after
Run-fault query old new plan fault before after is_query conversed = record {
  to = conversed.to;
  reached = conversed.reached;
  goes = conversed.goes;
  misses = RunMisses-fault fault conversed.reached after conversed.misses;
  ends = RunEnds-fault conversed.to fault conversed.ends;
  told = conversed.told;
  covers = λ t places telling told. IsCovering-fault query t places conversed.to fault conversed.ends;
  completes = λ is_new t places telling told still. complete-still (Err (run_fault_of fault)) conversed.to (RunEnds-fault conversed.to fault conversed.ends) (went-still query old conversed.to before conversed.reached t places is_query conversed.goes is_new telling told still);
  leaves = conversed.leaves;
}

-- a run that has no reply is one whose client has none
fault-no_reply : (fault : AskFault) → run_fault_of fault ≡ Ask Fault.NoReply → fault ≡ Fault.NoReply
fault-no_reply Fault.Port is = absurd (cc is)
fault-no_reply Fault.Closed is = absurd (cc is)
fault-no_reply Fault.NoReply is = refl
fault-no_reply (Fault.Refused code) is = absurd (cc is)
fault-no_reply Fault.Incomplete is = absurd (cc is)
fault-no_reply Fault.Flooded is = absurd (cc is)
fault-no_reply Fault.NoMemory is = absurd (cc is)

-- a client has given up for want of a reply once so many takes found nothing
stuck-quiets : (t : Talk) → stuck t ≡ Some Fault.NoReply → MAX_QUIETS ≤ t.quiets
unfolding stuck
stuck-quiets t is = grind (arith, nat_tests)

-- a run that has no reply leaves a client that has given up
pub no_reply-quiets : (old new : Talk) (plan plan' : ReaderParts) (fault : AskFault) (before after : Option (List Event)) → Conversed listing_dialogue old plan new plan' (Err fault) before after → run_fault_of fault ≡ Ask Fault.NoReply → MAX_QUIETS ≤ new.quiets
no_reply-quiets old new plan plan' fault before after conversed is =
    let ends : Ends listing_dialogue (Err Fault.NoReply) conversed.to =
    subst (λ (f : AskFault). Ends listing_dialogue (Err f) conversed.to) (fault-no_reply fault is) conversed.ends in
    stuck-quiets new (ap stuck conversed.leaves ∙ ends)
