-- How the calls of a pilot add up, and what one call is.
use Rattle.std.proofs.Common.{◌≡◌, ◌⊎◌, ◌∙◌, ◌≤◌, ◌+◌, ℕ, Bool, true, false, if◌then◌else◌, Option, None, Some, List, [], ◌∷◌, ◌++◌, length, refl, sym, ap, subst, inl, inr, append_assoc, append-nil, length-append, arith}
use Rattle.std.proofs.lemmas.List.{map-append}
use Rattle.std.specs.Option.{option_or}
use mathlib.Core.List.{IsPrefix}
use Rattle.server_core.specs.Books.{MayWant}
use Rattle.server_core.specs.Histories.{state_after_all}
use Rattle.server_core.specs.States.{ServerState, refusal_after, refusal_of, stop_in, stop_of}
use Rattle.server_core.specs.declared.op.Op.{Op}
use Rattle.server_core.specs.declared.op.Op.TheVariants.{Publish, Arrive, Look, Read, Sweep, Stop as Stops}
use Rattle.server_core.specs.declared.op.Stop.{Stop}
use Rattle.server_core.specs.declared.op.Why.TheVariants.{ClockEnd as AtClockEnd, Entries, PortFault, Publications}
use Rattle.server_core.specs.declared.step.Reply.{Reply}
use Rattle.server_core.specs.declared.step.StepFault.{StepFault}
use Rattle.server_core.specs.declared.step.StepFault.TheVariants.{Ended, Full, ClockEnd, NoMemory}
use Rattle.shared_book.specs.Entries.{IsEntered, IsEntry, IsUnentered, View}
use Rattle.shared_book.specs.Stops.{EndsBy, IsEnded, IsStopped}
use Rattle.pilot.specs.Calls.{AllCaused, AllStand, Called, Cause, Climb, Entry, HasReason, IsCaused, IsPilots, IsStopAt, MeetsLimit, places_of, stop_entries}

-- a front of a front
pub IsPrefix-then : (xs ys zs : List Op) → IsPrefix xs ys → IsPrefix ys zs → IsPrefix xs zs
IsPrefix-then xs ys zs (more, is) (rest, whole) =
    (more ++ rest, sym (append_assoc xs more rest) ∙ ap (λ (front : List Op). front ++ rest) is ∙ whole)

-- a front is no longer
pub IsPrefix-length : (xs ys : List Op) → IsPrefix xs ys → length xs ≤ length ys
IsPrefix-length xs ys (more, is) = omega (arith, length-append xs more, ap length is)

-- what stands after one operation, where it stands without it
or-longer : (first before after : Option Stop) (stop : Stop) → (before ≡ Some stop → after ≡ Some stop) → option_or first before ≡ Some stop → option_or first after ≡ Some stop
or-longer None before after stop longer is = longer is
or-longer (Some other) before after stop longer is = is

stop_in-append : (xs ys : List Op) (stop : Stop) → stop_in xs ≡ Some stop → stop_in (xs ++ ys) ≡ Some stop
stop_in-append [] ys stop is = absurd (cc is)
stop_in-append (op ∷ xs) ys stop is =
    or-longer (stop_of op) (stop_in xs) (stop_in (xs ++ ys)) stop (stop_in-append xs ys stop) is

-- a stop that stands goes on to stand
pub stop_in-longer : (front whole : List Op) (stop : Stop) → IsPrefix front whole → stop_in front ≡ Some stop → stop_in whole ≡ Some stop
stop_in-longer front whole stop (more, is) stood =
    subst (λ (ops : List Op). stop_in ops ≡ Some stop) is (stop_in-append front more stop stood)

-- an entry stands in each longer history
pub IsEntry-longer : (opening : ServerState) (front whole : List Op) (place : ℕ) (op : Op) (reply : Reply) → IsPrefix front whole → IsEntry opening front place op reply → IsEntry opening whole place op reply
IsEntry-longer opening front whole place op reply (more, is) e = record {
  before = e.before;
  after = e.after ++ more;
  whole = sym is ∙ ap (λ (ops : List Op). ops ++ more) e.whole ∙ append_assoc e.before (op ∷ e.after) more;
  placed = e.placed;
  unrefused = e.unrefused;
  answered = e.answered;
}

pub AllStand-longer : (opening : ServerState) (front whole : List Op) (entries : List Entry) → IsPrefix front whole → AllStand opening front entries → AllStand opening whole entries
AllStand-longer opening front whole [] longer stand = tt
AllStand-longer opening front whole (entry ∷ entries) longer (here, later) = (
  record { pilots = here.pilots; reply = here.reply; is_entry = IsEntry-longer opening front whole entry.place entry.op here.reply longer here.is_entry },
  AllStand-longer opening front whole entries longer later,
)

AllStand-append : (opening : ServerState) (history : List Op) (xs ys : List Entry) → AllStand opening history xs → AllStand opening history ys → AllStand opening history (xs ++ ys)
AllStand-append opening history [] ys first second = second
AllStand-append opening history (x ∷ xs) ys (here, later) second = (here, AllStand-append opening history xs ys later second)

-- a reason holds of each longer history
HasReason-longer : (opening : ServerState) (who : ℕ) (front whole : List Op) (asked : Option Op) (made : Option ℕ) (stop : Stop) → IsPrefix front whole → HasReason opening who front asked made stop → HasReason opening who whole asked made stop
HasReason-longer opening who front whole None None stop longer reason = tt
HasReason-longer opening who front whole (Some op) None stop longer reason = tt
HasReason-longer opening who front whole None (Some place) stop longer reason = reason
HasReason-longer opening who front whole (Some op) (Some place) stop longer reason = record {
  seen = reason.seen;
  front = IsPrefix-then reason.seen front whole reason.front longer;
  earlier = reason.earlier;
  fault = reason.fault;
  refused = reason.refused;
  named = reason.named;
}

pub AllCaused-longer : (opening : ServerState) (who : ℕ) (front whole : List Op) (causes : List Cause) → IsPrefix front whole → AllCaused opening who front causes → AllCaused opening who whole causes
AllCaused-longer opening who front whole [] longer caused = tt
AllCaused-longer opening who front whole (cause ∷ causes) longer (here, later) = (
  record {
    stands = stop_in-longer front whole cause.stop longer here.stands;
    reason = HasReason-longer opening who front whole cause.asked cause.made cause.stop longer here.reason;
  },
  AllCaused-longer opening who front whole causes longer later,
)

AllCaused-append : (opening : ServerState) (who : ℕ) (history : List Op) (xs ys : List Cause) → AllCaused opening who history xs → AllCaused opening who history ys → AllCaused opening who history (xs ++ ys)
AllCaused-append opening who history [] ys first second = second
AllCaused-append opening who history (x ∷ xs) ys (here, later) second = (here, AllCaused-append opening who history xs ys later second)

-- places that climb from a number climb from a lesser one
Climb-from : (low least most : ℕ) (places : List ℕ) → low ≤ least → Climb least places most → Climb low places most
Climb-from low least most [] lower climb = omega arith
Climb-from low least most (place ∷ places) lower (here, later) = (omega arith, later)

pub Climb-append : (least between most : ℕ) (xs ys : List ℕ) → Climb least xs between → Climb between ys most → Climb least (xs ++ ys) most
Climb-append least between most [] ys first second = Climb-from least between most ys first second
Climb-append least between most (x ∷ xs) ys (here, later) second = (here, Climb-append (x + 1) between most xs ys later second)

-- calls and then calls
pub Called-then : (opening : ServerState) (who : ℕ) (es fs : List Entry) (cs ds : List Cause) (x y z : View) → Called opening who es cs x y → Called opening who fs ds y z → Called opening who (es ++ fs) (cs ++ ds) x z
Called-then opening who es fs cs ds x y z first second = record {
  longer = IsPrefix-then x.front y.front z.front first.longer second.longer;
  own = second.own ∙ ap (λ (own : List ℕ). own ++ places_of fs) first.own ∙ append_assoc x.own (places_of es) (places_of fs)
      ∙ ap (λ (own : List ℕ). x.own ++ own) (sym (map-append (λ (entry : Entry). entry.place) es fs));
  climb = subst (λ (places : List ℕ). Climb (length x.front) places (length z.front)) (sym (map-append (λ (entry : Entry). entry.place) es fs))
      (Climb-append (length x.front) (length y.front) (length z.front) (places_of es) (places_of fs) first.climb second.climb);
  stand = AllStand-append opening z.front es fs (AllStand-longer opening y.front z.front es second.longer first.stand) second.stand;
  caused = AllCaused-append opening who z.front cs ds (AllCaused-longer opening who y.front z.front cs second.longer first.caused) second.caused;
}

-- no calls
pub Called-none : (opening : ServerState) (who : ℕ) (x : View) → Called opening who [] [] x x
Called-none opening who x = record {
  longer = ([], append-nil x.front);
  own = sym (append-nil x.own);
  climb = omega arith;
  stand = tt;
  caused = tt;
}

-- a call that was entered
pub Called-entered : (opening : ServerState) (who place : ℕ) (op : Op) (reply : Reply) (x y : View) → IsPilots op → IsEntered opening x op place reply y → Called opening who (record { place = place; op = op } ∷ []) [] x y
Called-entered opening who place op reply x y pilots entered = record {
  longer = entered.longer;
  own = entered.counted;
  climb = (entered.later, omega (arith, entered.last));
  stand = (record { pilots = pilots; reply = reply; is_entry = entered.entry }, tt);
  caused = tt;
}

-- a call that was refused
Called-refused : (opening : ServerState) (who : ℕ) (op : Op) (fault : StepFault) (x y : View) → IsUnentered opening x op fault y → Called opening who [] [] x y
Called-refused opening who op fault x y refused = record {
  longer = refused.longer;
  own = refused.own_kept ∙ sym (append-nil x.own);
  climb = IsPrefix-length x.front y.front refused.longer;
  stand = tt;
  caused = tt;
}

-- with the cause of a stop
Called-caused : (opening : ServerState) (who : ℕ) (entries : List Entry) (cause : Cause) (x y : View) → IsCaused opening who y.front cause → Called opening who entries [] x y → Called opening who entries (cause ∷ []) x y
Called-caused opening who entries cause x y is called = record {
  longer = called.longer;
  own = called.own;
  climb = called.climb;
  stand = called.stand;
  caused = (is, tt);
}

-- a refusal that is not for want of memory is the definition's
refused_by : (refusal : Option StepFault) (fault : StepFault) (want : Type 0) → (fault ≡ NoMemory → ⊥) → (refusal ≡ Some fault) ⊎ ((fault ≡ NoMemory) × want) → refusal ≡ Some fault
refused_by refusal fault want other (inl is) = is
refused_by refusal fault want other (inr (none, wanted)) = absurd (other none)

-- another's stop needs no reason
unreasoned : (opening : ServerState) (who : ℕ) (history : List Op) (asked : Option Op) (stop : Stop) → HasReason opening who history asked None stop
unreasoned opening who history None stop = tt
unreasoned opening who history (Some op) stop = tt

-- a stop that was asked for stands at its place, or another's does
stopped-either : (opening : ServerState) (who : ℕ) (asked : Option Op) (wanted stood : Stop) (x y : View) → ((place : ℕ) → length x.front ≤ place → HasReason opening who y.front asked (Some place) wanted) → IsStopped opening x wanted stood y → stop_in y.front ≡ Some stood → (made : Option ℕ) × Called opening who (stop_entries made stood) (record { asked = asked; made = made; stop = stood } ∷ []) x y
stopped-either opening who asked wanted stood x y reason (inl (place, entered, same)) stands =
    let called = Called-entered opening who place (Stops wanted) _ x y tt entered in
    let caused : IsCaused opening who y.front (record { asked = asked; made = Some place; stop = wanted }) = record {
      stands = subst (λ (stop : Stop). stop_in y.front ≡ Some stop) same stands;
      reason = reason place entered.later;
    } in (
      Some place,
      subst (λ (stop : Stop). Called opening who (stop_entries (Some place) stop) (record { asked = asked; made = Some place; stop = stop } ∷ []) x y) (sym same)
          (Called-caused opening who _ _ x y caused called),
    )
stopped-either opening who asked wanted stood x y reason (inr refused) stands = (
  None,
  Called-caused opening who [] (record { asked = asked; made = None; stop = stood }) x y
      (record { stands = stands; reason = unreasoned opening who y.front asked stood })
      (Called-refused opening who (Stops wanted) (Ended stood) x y refused),
)

-- after a fault of the port
pub stopped-for_fault : (opening : ServerState) (who : ℕ) (wanted stood : Stop) (x y : View) → wanted ≡ record { who = who; why = PortFault } → IsStopped opening x wanted stood y → stop_in y.front ≡ Some stood → (made : Option ℕ) × Called opening who (stop_entries made stood) (record { asked = None; made = made; stop = stood } ∷ []) x y
stopped-for_fault opening who wanted stood x y named stopped stands =
    stopped-either opening who None wanted stood x y (λ place later. named) stopped stands

-- what was seen before a stop goes on to be seen
stopped-longer : (opening : ServerState) (wanted stood : Stop) (x y : View) → IsStopped opening x wanted stood y → IsPrefix x.front y.front
stopped-longer opening wanted stood x y (inl (place, entered, same)) = entered.longer
stopped-longer opening wanted stood x y (inr refused) = refused.longer

-- an operation was refused at a limit, and then its caller asked for a stop
at_limit : (opening : ServerState) (who : ℕ) (op : Op) (fault : StepFault) (wanted stood : Stop) (x y z : View) → (fault ≡ NoMemory → ⊥) → IsStopAt who fault wanted → IsUnentered opening x op fault y → IsStopped opening y wanted stood z → stop_in z.front ≡ Some stood → (made : Option ℕ) × Called opening who (stop_entries made stood) (record { asked = Some op; made = made; stop = stood } ∷ []) x z
at_limit opening who op fault wanted stood x y z other named refused stopped stands =
    let meets = λ (place : ℕ) (later : length y.front ≤ place). let m : MeetsLimit opening who z.front op place wanted = record {
      seen = y.front;
      front = stopped-longer opening wanted stood y z stopped;
      earlier = later;
      fault = fault;
      refused = refused_by _ fault _ other refused.why;
      named = named;
    } in m in
    let ended = stopped-either opening who (Some op) wanted stood y z meets stopped stands in
    (ended.0, Called-then opening who [] _ [] _ x y z (Called-refused opening who op fault x y refused) ended.1)

ended_by : (opening : ServerState) (who : ℕ) (op : Op) (fault : StepFault) (stood : Stop) (x y z : View) → IsUnentered opening x op fault y → EndsBy opening who fault y stood z → stop_in z.front ≡ Some stood → (made : Option ℕ) × Called opening who (stop_entries made stood) (record { asked = Some op; made = made; stop = stood } ∷ []) x z
ended_by opening who op (Ended other) stood x y z refused (same, kept) stands = (
  None,
  Called-caused opening who [] (record { asked = Some op; made = None; stop = stood }) x z (record { stands = stands; reason = tt })
      (subst (λ (seat : View). Called opening who [] [] x seat) (sym kept) (Called-refused opening who op (Ended other) x y refused)),
)
ended_by opening who op (Full why) stood x y z refused stopped stands =
    at_limit opening who op (Full why) (record { who = who; why = why }) stood x y z (λ none. cc none) refl refused stopped stands
ended_by opening who op ClockEnd stood x y z refused stopped stands =
    at_limit opening who op ClockEnd (record { who = who; why = AtClockEnd }) stood x y z (λ none. cc none) refl refused stopped stands
ended_by opening who op NoMemory stood x y z refused none stands = absurd none

-- after an operation was refused, and not for want of memory
pub call-ended : (opening : ServerState) (who : ℕ) (op : Op) (stood : Stop) (x y : View) → IsEnded opening who x op stood y → stop_in y.front ≡ Some stood → (made : Option ℕ) × Called opening who (stop_entries made stood) (record { asked = Some op; made = made; stop = stood } ∷ []) x y
call-ended opening who op stood x y is stands = ended_by opening who op is.fault stood x is.between y is.refused is.ended stands

-- no limit is want of memory
no_limit : (a b c : Bool) → (if a then Some (Full Entries) else (if b then Some (Full Publications) else (if c then Some ClockEnd else None))) ≡ Some NoMemory → ⊥
no_limit true b c is = cc is
no_limit false true c is = cc is
no_limit false false true is = cc is
no_limit false false false is = cc is

no_refusal : (stood : Option Stop) (journal : List Op) (stamp : ℕ) (op : Op) → refusal_after stood journal stamp op ≡ Some NoMemory → ⊥
no_refusal (Some stop) journal stamp op is = cc is
no_refusal None journal stamp op is = no_limit _ _ _ is

-- an operation of a pilot wants no memory
no_want : (s : ServerState) (op : Op) → IsPilots op → MayWant s op → ⊥
no_want s (Publish boxed) pilots want = want
no_want s (Sweep moment) pilots want = want
no_want s (Stops stop) pilots want = want
no_want s (Arrive ask moment) pilots want = pilots
no_want s (Look asked context) pilots want = pilots
no_want s (Read ask moment) pilots want = pilots

wants_none : (opening : ServerState) (history : List Op) (op : Op) → IsPilots op → (refusal_of history (state_after_all opening history).stamp op ≡ Some NoMemory) ⊎ ((NoMemory ≡ NoMemory) × MayWant (state_after_all opening history) op) → ⊥
wants_none opening history op pilots (inl is) = no_refusal (stop_in history) history (state_after_all opening history).stamp op is
wants_none opening history op pilots (inr (same, want)) = no_want (state_after_all opening history) op pilots want

pub call-wants_none : (opening : ServerState) (op : Op) (x y : View) → IsPilots op → IsUnentered opening x op NoMemory y → ⊥
call-wants_none opening op x y pilots refused = wants_none opening y.front op pilots refused.why
