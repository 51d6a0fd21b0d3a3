-- What is printed of a rehearsal: our own rule.
use Rattle.std.specs.Prelude.{◌≡◌, ◌⊎◌, ℕ, Option, Result, Ok, Err, List, [], ◌∷◌, ◌++◌, codes, decimal, length}
use Rattle.edge_traits.specs.Told.{gained, GainedFront}
use Rattle.edge_traits.specs.declared.status.Status.{Status}
use Rattle.drawn_session.specs.declared.counts.Counts.{Counts}
use Rattle.mrulist_reader.specs.declared.listing.Listing.{Listing}
use Rattle.mrulist_run.specs.Statuses.{run_status}
use Rattle.mrulist_run.specs.declared.fault.RunFault.{RunFault}
use Rattle.rehearsal.specs.declared.rehearsing.Rehearsed.{Rehearsed}

-- the line of the number
unfoldable pub first_line : ℕ → List ℕ
first_line number = codes "rehearsal " ++ decimal number ++ 10 ∷ []

-- the line of a session: requests that got the time, control requests, datagrams that were not heard, and rows of the
-- client list
unfoldable pub threads_line : ℕ → ℕ → ℕ → ℕ → List ℕ
threads_line times controls silent clients =
    codes "threads times " ++ decimal times ++ codes " variables " ++ decimal controls
    ++ codes " silent " ++ decimal silent ++ codes " clients " ++ decimal clients ++ 10 ∷ []

-- the line of a session in which so much was done
abbrev pub counts_line : Counts → List ℕ
counts_line counts = threads_line counts.times counts.controls counts.silent counts.clients

-- the line of a listing that completed: requests that were given, pages that were taken, refusals, and rows
unfoldable pub listing_line : ℕ → ℕ → ℕ → ℕ → List ℕ
listing_line given pages refused rows =
    codes "link requests " ++ decimal given ++ codes " pages " ++ decimal pages
    ++ codes " refused " ++ decimal refused ++ codes " rows " ++ decimal rows ++ 10 ∷ []

-- the line of a listing that ended by a fault for which a query tool gives this exit status
unfoldable pub fault_line : ℕ → List ℕ
fault_line status = codes "link ended " ++ decimal status ++ 10 ∷ []

-- the line of a listing for which so many requests were given
abbrev pub link_line : ℕ → Result Listing RunFault → List ℕ
link_line given (Ok listing) = listing_line given listing.pages listing.refused (length listing.rows)
link_line given (Err fault) = fault_line (run_status fault)

-- what is printed of a rehearsal of this number
abbrev pub rehearsal_lines : ℕ → Rehearsed → List ℕ
rehearsal_lines number r = first_line number ++ counts_line r.session.counts ++ link_line r.link.given r.link.result

-- the sink has the whole text, and the status is 0; or the sink's fault is the status, and the sink has a front of the text
abbrev pub Prints : List ℕ → Status → Option (List ℕ) → Option (List ℕ) → Type 0
Prints text status old new =
    ((status.0 ≡ 0) × (new ≡ gained old text))
    ⊎ (((status.0 ≡ 8) ⊎ (status.0 ≡ 9)) × GainedFront old new text)
