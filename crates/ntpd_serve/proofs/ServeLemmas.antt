-- What a run of `serve` says, of a session or of why there is none.
use Rattle.std.proofs.Common.{◌≡◌, ◌≢◌, ◌⊎◌, ◌≤◌, ◌<◌, ℕ, Option, None, Some, Result, Ok, Err, List, length, inl, inr, refl, ap, subst, ◌∙◌, arith}
use Rattle.conf_file.specs.ConfTexts.{IsConfText, IsRefusedText as IsRefusedConf}
use Rattle.conf_file.specs.declared.conf.Conf.{Conf}
use Rattle.edge_traits.specs.declared.status.Status.{Status}
use Rattle.mac_keys.specs.KeyTexts.{IsRefusedText as AreRefusedKeys}
use Rattle.server_core.specs.declared.op.Stop.{Stop}
use Rattle.server_core.specs.declared.op.Why.{Why}
use Rattle.server_core.specs.declared.op.Why.TheVariants.{PortFault, Entries, Publications, Acts, ClockEnd}
use Rattle.responders.specs.Outcomes.{outcome_of}
use Rattle.responders.specs.declared.session.Outcome.{Outcome}
use Rattle.responders.specs.declared.session.Outcome.TheVariants.{AllClosed, Stopped, NoMemory as Unbegun}
use Rattle.setup.specs.Causes.{IsCause, IsOutside, IsRefusedAs}
use Rattle.setup.specs.Files.{Files}
use Rattle.setup.specs.declared.files.SetupFault.{SetupFault}
use Rattle.setup.specs.declared.files.SetupFault.TheVariants as setup
use Rattle.setup.specs.declared.files.TheConstants.{MAX_FILE}
use Rattle.ntpd_serve.specs.Ending.{Prints, Reports, failure_status}
use Rattle.ntpd_serve.specs.Serves.{HasRefusedFile, IsDueRefusal, failure_of_setup}
use Rattle.ntpd_serve.specs.Sessions.{failure_by, outcome_status, status_by}
use Rattle.ntpd_serve.specs.declared.ending.Ending.TheVariants.{Failed}
use Rattle.ntpd_serve.specs.declared.ending.Failure.{Failure}
use Rattle.ntpd_serve.specs.declared.ending.Failure.TheVariants.{Conf as InConf, Keys as InKeys, TooLong}

-- a file is refused where the status says so
file_of-cause : {S : Type 0} (source_faults : S → ℕ) (files : Files) (name : List ℕ) (faults faults' : ℕ) (fault : SetupFault S) (status : ℕ) → IsCause source_faults files name faults faults' fault → (status ≡ failure_status (failure_of_setup fault)) ⊎ (8 ≤ status) → status ≡ 2 → HasRefusedFile files name
file_of-cause source_faults files name faults faults' (setup.Conf line word) status cause stands two = inl (line, word, inl cause)
file_of-cause source_faults files name faults faults' (setup.Keys line word) status cause stands two = inl (line, word, inr cause)
file_of-cause source_faults files name faults faults' setup.TooLong status cause stands two = inr cause
file_of-cause source_faults files name faults faults' setup.Host status cause (inl is) two = absurd (omega arith)
file_of-cause source_faults files name faults faults' setup.Host status cause (inr is) two = absurd (omega arith)
file_of-cause source_faults files name faults faults' (setup.Source source) status cause (inl is) two = absurd (omega arith)
file_of-cause source_faults files name faults faults' (setup.Source source) status cause (inr is) two = absurd (omega arith)
file_of-cause source_faults files name faults faults' setup.NoMemory status cause (inl is) two = absurd (omega arith)
file_of-cause source_faults files name faults faults' setup.NoMemory status cause (inr is) two = absurd (omega arith)

pub HasRefusedFile-cause : {S : Type 0} (source_faults : S → ℕ) (files : Files) (name : List ℕ) (faults faults' : ℕ) (fault : SetupFault S) (why : Failure) (status : ℕ) → IsCause source_faults files name faults faults' fault → why ≡ failure_of_setup fault → (status ≡ failure_status why) ⊎ (8 ≤ status) → status ≡ 2 → HasRefusedFile files name
HasRefusedFile-cause source_faults files name faults faults' fault why status cause is stands two =
    file_of-cause source_faults files name faults faults' fault status cause (subst (λ (failure : Failure). (status ≡ failure_status failure) ⊎ (8 ≤ status)) is stands) two

-- each refusal of a file that is due is that of what was made, but for the outside and memory
pub record RefusesDue {T S : Type 0} (files : Files) (name : List ℕ) (made : Result T (SetupFault S)) : Type 0 where
  pub conf_refused : (octets : List ℕ) (line word : ℕ) → files name ≡ Some octets → length octets ≤ MAX_FILE → IsRefusedConf octets line word → IsRefusedAs (setup.Conf line word) made
  pub conf_too_long : (octets : List ℕ) → files name ≡ Some octets → MAX_FILE < length octets → IsRefusedAs setup.TooLong made
  pub keys_refused : (text octets : List ℕ) (conf : Conf) (key_name : List ℕ) (line word : ℕ) → files name ≡ Some text → length text ≤ MAX_FILE → IsConfText text conf → conf.keys ≡ Some key_name → files key_name ≡ Some octets → length octets ≤ MAX_FILE
      → AreRefusedKeys octets line word → IsRefusedAs (setup.Keys line word) made
  pub keys_too_long : (text octets : List ℕ) (conf : Conf) (key_name : List ℕ) → files name ≡ Some text → length text ≤ MAX_FILE → IsConfText text conf → conf.keys ≡ Some key_name → files key_name ≡ Some octets → MAX_FILE < length octets → IsRefusedAs setup.TooLong made

due_as : {T S : Type 0} (files : Files) (name : List ℕ) (made : Result T (SetupFault S)) (why : Failure) → RefusesDue files name made → IsDueRefusal files name why → (due : SetupFault S) × IsRefusedAs due made × (failure_of_setup due ≡ why)
due_as files name made (InConf line word) refuses (octets, is, short, refused) =
    (setup.Conf line word, refuses.conf_refused octets line word is short refused, refl)
due_as files name made (InKeys line word) refuses (text, octets, conf, key_name, is, short, means, names, is_key, key_short, refused) =
    (setup.Keys line word, refuses.keys_refused text octets conf key_name line word is short means names is_key key_short refused, refl)
due_as files name made TooLong refuses (inl (octets, is, long)) = (setup.TooLong, refuses.conf_too_long octets is long, refl)
due_as files name made TooLong refuses (inr (text, octets, conf, key_name, is, short, means, names, is_key, long)) =
    (setup.TooLong, refuses.keys_too_long text octets conf key_name is short means names is_key long, refl)
due_as files name made _ refuses due = absurd due

-- so none is due where a session was made
none_due : {T S : Type 0} (files : Files) (name : List ℕ) (made : Result T (SetupFault S)) (session : T) (why : Failure) → RefusesDue files name made → made ≡ Ok session → ¬ IsDueRefusal files name why
none_due files name made session why refuses is due =
    let refused = due_as files name made why refuses due in
    subst (λ result. IsRefusedAs refused.0 result) is refused.1

pub Reports-none_due : {T S : Type 0} (files : Files) (name : List ℕ) (made : Result T (SetupFault S)) (session : T) (why : Failure) (status : Status) (old new : Option (List ℕ)) → RefusesDue files name made → made ≡ Ok session → IsDueRefusal files name why → Reports (Failed why) status old new ⊎ ((status.0 ≡ 3) ⊎ (8 ≤ status.0))
Reports-none_due files name made session why status old new refuses is due = absurd (none_due files name made session why refuses is due)

-- and one that is due is what is reported, unless the outside failed or memory was wanting
reported : {S : Type 0} (why : Failure) (due fault : SetupFault S) (status : Status) (old new : Option (List ℕ)) → (fault ≡ due) ⊎ IsOutside fault → failure_of_setup due ≡ why → Reports (Failed (failure_of_setup fault)) status old new → (status.0 ≡ failure_status (failure_of_setup fault)) ⊎ (8 ≤ status.0)
    → Reports (Failed why) status old new ⊎ ((status.0 ≡ 3) ⊎ (8 ≤ status.0))
reported why due fault status old new (inl same) is reports stands =
    inl (subst (λ (failure : Failure). Reports (Failed failure) status old new) (ap failure_of_setup same ∙ is) reports)
reported why due fault status old new (inr outside) is reports (inr stands) = inr (inr stands)
reported why due setup.Host status old new (inr outside) is reports (inl stands) = inr (inl stands)
reported why due (setup.Source source) status old new (inr outside) is reports (inl stands) = inr (inl stands)
reported why due setup.NoMemory status old new (inr outside) is reports (inl stands) = inr (inr (omega (arith, stands)))
reported why due _ status old new (inr outside) is reports (inl stands) = absurd outside

pub Reports-due : {T S : Type 0} (files : Files) (name : List ℕ) (made : Result T (SetupFault S)) (fault : SetupFault S) (failure why : Failure) (status : Status) (old new : Option (List ℕ)) → RefusesDue files name made → made ≡ Err fault → failure ≡ failure_of_setup fault → Reports (Failed failure) status old new
    → (status.0 ≡ failure_status failure) ⊎ (8 ≤ status.0) → IsDueRefusal files name why → Reports (Failed why) status old new ⊎ ((status.0 ≡ 3) ⊎ (8 ≤ status.0))
Reports-due files name made fault failure why status old new refuses is says reports stands due =
    let refused = due_as files name made why refuses due in
    reported why refused.0 fault status old new
    (subst (λ result. IsRefusedAs refused.0 result) is refused.1)
    refused.2
    (subst (λ (told : Failure). Reports (Failed told) status old new) says reports)
    (subst (λ (told : Failure). (status.0 ≡ failure_status told) ⊎ (8 ≤ status.0)) says stands)

-- the status of what is printed is the one that is due, or a fault of the sink or want of memory
pub status-Prints : (text : List ℕ) (due : ℕ) (status : Status) (old new : Option (List ℕ)) → Prints text due status old new → (status.0 ≡ due) ⊎ (8 ≤ status.0)
status-Prints text due status old new (inl (is, whole)) = inl is
status-Prints text due status old new (inr (inl eight, front)) = inr (omega (arith, eight))
status-Prints text due status old new (inr (inr nine, front)) = inr (omega (arith, nine))

-- the statuses after a stop
status_of_why : (why : Why) (status : ℕ) → status ≡ status_by (failure_by why) → (status ≡ 0) ⊎ (((status ≡ 4) × (why ≡ PortFault)) ⊎ ((status ≡ 5) × (why ≡ ClockEnd)))
status_of_why PortFault status is = inr (inl (is, refl))
status_of_why Entries status is = inl is
status_of_why Publications status is = inl is
status_of_why Acts status is = inl is
status_of_why ClockEnd status is = inr (inr (is, refl))

-- the stop of an outcome is the one that stands
stop_of_outcome : (found : Option Stop) (stop : Stop) → Stopped stop ≡ outcome_of found → found ≡ Some stop
stop_of_outcome None stop is = absurd (cc is)
stop_of_outcome (Some one) stop is =
    let same : one ≡ stop = cc is in
    ap Some same

-- a session was stopped for this reason, by the stop that stands
abbrev pub IsStoppedBy : Why → Option Stop → Type 0
IsStoppedBy why found = (stop : Stop) × (found ≡ Some stop) × (stop.why ≡ why)

-- what a status says of a session: it ended well, or it was stopped for this reason, or the sink failed or memory was wanting
abbrev pub SaysOfSession : ℕ → Option Stop → Type 0
SaysOfSession status found =
    (status ≡ 0)
    ⊎ (((status ≡ 4) × IsStoppedBy PortFault found) ⊎ (((status ≡ 5) × IsStoppedBy ClockEnd found) ⊎ (8 ≤ status)))

says-stopped : (stop : Stop) (found : Option Stop) (status : ℕ) → found ≡ Some stop → (status ≡ 0) ⊎ (((status ≡ 4) × (stop.why ≡ PortFault)) ⊎ ((status ≡ 5) × (stop.why ≡ ClockEnd))) → SaysOfSession status found
says-stopped stop found status stands (inl well) = inl well
says-stopped stop found status stands (inr (inl (four, why))) = inr (inl (four, (stop, stands, why)))
says-stopped stop found status stands (inr (inr (five, why))) = inr (inr (inl (five, (stop, stands, why))))

pub SaysOfSession-outcome : (outcome : Outcome) (found : Option Stop) (status : ℕ) → (outcome ≢ Unbegun → outcome ≡ outcome_of found) → (status ≡ outcome_status outcome) ⊎ (8 ≤ status) → SaysOfSession status found
SaysOfSession-outcome outcome found status outcome_is (inr is) = inr (inr (inr is))
SaysOfSession-outcome AllClosed found status outcome_is (inl is) = inl is
SaysOfSession-outcome Unbegun found status outcome_is (inl is) = inr (inr (inr (omega (arith, is))))
SaysOfSession-outcome (Stopped stop) found status outcome_is (inl is) =
    let begun : Stopped stop ≢ Unbegun = λ same. absurd (cc same) in
    says-stopped stop found status (stop_of_outcome found stop (outcome_is begun)) (status_of_why stop.why status is)

-- the reason of a stop by the status
pub port_failed-says : (status : ℕ) (found : Option Stop) → SaysOfSession status found → status ≡ 4 → IsStoppedBy PortFault found
port_failed-says status found (inl is) four = absurd (omega arith)
port_failed-says status found (inr (inl (is, stopped))) four = stopped
port_failed-says status found (inr (inr (inl (is, stopped)))) four = absurd (omega arith)
port_failed-says status found (inr (inr (inr is))) four = absurd (omega arith)

pub clock_ended-says : (status : ℕ) (found : Option Stop) → SaysOfSession status found → status ≡ 5 → IsStoppedBy ClockEnd found
clock_ended-says status found (inl is) five = absurd (omega arith)
clock_ended-says status found (inr (inl (is, stopped))) five = absurd (omega arith)
clock_ended-says status found (inr (inr (inl (is, stopped)))) five = stopped
clock_ended-says status found (inr (inr (inr is))) five = absurd (omega arith)

pub status-says : (status : ℕ) (found : Option Stop) → SaysOfSession status found → (status ≡ 0) ⊎ ((status ≡ 4) ⊎ ((status ≡ 5) ⊎ (8 ≤ status)))
status-says status found (inl is) = inl is
status-says status found (inr (inl (is, stopped))) = inr (inl is)
status-says status found (inr (inr (inl (is, stopped)))) = inr (inr (inl is))
status-says status found (inr (inr (inr is))) = inr (inr (inr is))

-- and so of what is printed of it
pub SaysOfSession-Prints : (outcome : Outcome) (found : Option Stop) (text : List ℕ) (status : Status) (old new : Option (List ℕ)) → (outcome ≢ Unbegun → outcome ≡ outcome_of found) → Prints text (outcome_status outcome) status old new → SaysOfSession status.0 found
SaysOfSession-Prints outcome found text status old new outcome_is printed =
    SaysOfSession-outcome outcome found status.0 outcome_is (status-Prints text (outcome_status outcome) status old new printed)
