-- How a listing runs at its port, by how it ends: our own rules, over RFC 9327, section 4, commands 10 and 12.
use Rattle.std.specs.Prelude.{◌≡◌, ◌≢◌, ◌⊎◌, ℕ, Bool, true, false, IsTrue, Option, None, Some, List, [], ◌∷◌, ◌++◌, Result, Ok, Err}
use Rattle.edge_traits.specs.Told.{Rose}
use Rattle.edge_traits.specs.declared.port.Event.{Event}
use Rattle.mode6_frame.specs.declared.errors.TheConstants.{BAD_NAME}
use Rattle.mode6_frame.specs.Served.{Served}
use Rattle.mru_items.specs.declared.query.Query.{Query}
use Rattle.mrulist_coverage.specs.Coverage.{Covers}
use Rattle.mrulist_coverage.specs.Still.{IsStill}
use Rattle.mrulist_coverage.specs.Tellings.{IsTelling, IsToldFrom, Telling, nothing_known}
use Rattle.mrulist_reader.specs.declared.listing.Listing.{Listing}
use Rattle.mrulist_reader.specs.declared.listing.End.TheVariants as Ended
use Rattle.mrulist_reader.specs.Readers.{ReaderParts, listing_dialogue, listing_of, new_reader}
use Rattle.mrulist_run.specs.declared.fault.RunFault.{RunFault}
use Rattle.mrulist_run.specs.declared.fault.RunFault.TheVariants.{Ask, BadReply, NoMemory}
use Rattle.ntpq_client.specs.Answered.{AreAnswers, EachIsTold}
use Rattle.ntpq_client.specs.declared.fault.AskFault.{AskFault}
use Rattle.ntpq_client.specs.declared.fault.AskFault.TheVariants.{Port, Closed, Refused}
use Rattle.ntpq_client.specs.declared.fault.AskFault.TheVariants as Fault
use Rattle.ntpq_client.specs.Dialogues.{Asking, Goes, ready}
use Rattle.ntpq_client.specs.Ends.{Ends, Misses}
use Rattle.ntpq_client.specs.Talks.{Talk, new_talk, stuck}

-- where a listing stands, by what its run answers: it came to this listing; or a whole answer was none that was asked for,
-- after this many; or it was refused, or its client has given up or posted all that it may, or the port failed or is closed
abbrev pub RunEnds : Result Listing RunFault → Asking ReaderParts → Type 0
RunEnds (Ok listing) a =
    (stuck a.talk ≡ None) × (a.waits ≡ false) × (a.plan.end ≡ Some (Ended.Listed listing.now))
    × (listing ≡ listing_of a.plan listing.now)
RunEnds (Err (BadReply place)) a =
    (stuck a.talk ≡ None) × (a.waits ≡ false) × (a.plan.end ≡ Some Ended.BadReply) × (place ≡ a.plan.whole)
RunEnds (Err (Ask (Refused code))) a =
    (stuck a.talk ≡ None) × (a.waits ≡ false) × (a.plan.end ≡ Some (Ended.Refused code))
RunEnds (Err (Ask fault)) a = Ends listing_dialogue (Err fault) a
RunEnds (Err NoMemory) a = Unit {0}

-- all that a run did at its port reached its client; only without memory it may miss the last datagram
abbrev pub RunMisses : Result Listing RunFault → Option (List Event) → Option (List Event) → Type 0
RunMisses (Ok listing) reached after = after ≡ reached
RunMisses (Err (BadReply place)) reached after = after ≡ reached
RunMisses (Err (Ask fault)) reached after = Misses {A = Unit {0}} (Err fault) reached after
RunMisses (Err NoMemory) reached after = Misses {A = Unit {0}} (Err Fault.NoMemory) reached after

-- what a listing that is over came to, unless memory was wanting
abbrev pub CameTo : ReaderParts → Result Listing RunFault → Type 0
CameTo r (Ok listing) = (r.end ≡ Some (Ended.Listed listing.now)) × (listing ≡ listing_of r listing.now)
CameTo r (Err (BadReply place)) = (r.end ≡ Some Ended.BadReply) × (place ≡ r.whole)
CameTo r (Err (Ask (Refused code))) = r.end ≡ Some (Ended.Refused code)
CameTo r (Err (Ask fault)) = ⊥
CameTo r (Err NoMemory) = Unit {0}

-- why a listing did not complete whose client has no whole answer
abbrev pub run_fault_of : AskFault → RunFault
run_fault_of Fault.NoMemory = NoMemory
run_fault_of fault = Ask fault

-- what a run answers where all that its server told is told from one history of its client list: a listing covers the list as
-- it stood at the place of the last datagram that was taken, and no answer is a bad reply, nor a refusal since nothing stands
abbrev pub IsCovering : Query → Telling → List (Option ℕ) → Result Listing RunFault → Type 0
IsCovering query t places (Ok listing) =
    (before : List (Option ℕ)) × (place : ℕ) × (places ≡ before ++ Some place ∷ [])
    × Covers t places query.filter place listing.rows listing.now
IsCovering query t places (Err (BadReply place)) = ⊥
IsCovering query t places (Err (Ask (Refused code))) = code ≢ BAD_NAME
IsCovering query t places (Err fault) = Unit {0}

-- a run came to a listing, unless memory was wanting, or the port failed or is closed
abbrev pub IsComplete : Result Listing RunFault → Type 0
IsComplete (Ok listing) = Unit {0}
IsComplete (Err NoMemory) = Unit {0}
IsComplete (Err (Ask Fault.NoMemory)) = Unit {0}
IsComplete (Err (Ask Port)) = Unit {0}
IsComplete (Err (Ask Closed)) = Unit {0}
IsComplete (Err (Ask fault)) = ⊥
IsComplete (Err (BadReply place)) = ⊥

-- A listing ran: its requests, and what came, led to where it stands when it ends; what it was told are answers that were
-- served; and whatever history of the client list its server's answers are told from, a listing that completed covers
-- it; and it completed where all stood still and nothing was lost.
pub record Run (query : Query) (old new : Talk) (result : Result Listing RunFault) (before after : Option (List Event)) : Type 0 where
  pub to : Asking ReaderParts
  pub reached : Option (List Event)
  pub goes : Goes listing_dialogue (ready old (new_reader query)) to before reached
  pub misses : RunMisses result reached after
  pub ends : RunEnds result to
  pub told : (answers : ℕ → List Served) → AreAnswers old.server answers goes.events → EachIsTold listing_dialogue answers (ready old (new_reader query)) goes.events
  pub covers : (t : Telling) (places : List (Option ℕ)) → IsTelling t → IsToldFrom t old.server nothing_known goes.events places → IsCovering query t places result
  pub completes : old ≡ new_talk old.server → (t : Telling) (places : List (Option ℕ)) → IsTelling t → IsToldFrom t old.server nothing_known goes.events places → IsStill t old.server query.filter goes.events places → IsComplete result
  pub leaves : new ≡ to.talk

-- what stands behind an ending at the port: faults that rose, or its end
pub record Caused {A : Type 0} (result : Result A RunFault) (faults faults' : ℕ) (is_closed : Bool) : Type 0 where
  pub failed : result ≡ Err (Ask Port) → Rose 1 faults faults'
  pub closed : result ≡ Err (Ask Closed) → IsTrue is_closed
