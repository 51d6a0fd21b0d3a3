-- A session that ended: its workers, its counts and its outcome.
use Rattle.std.proofs.Common.{◌≡◌, ◌≢◌, ◌⊎◌, inl, inr, ℕ, suc, ◌+◌, Bool, Some, List, [], ◌∷◌, ◌++◌, length, slice_get, refl, sym, ap, ◌∙◌, arith}
use Rattle.std.specs.List.{count_by}
use Rattle.std.proofs.lemmas.List.{append-nil}
use Rattle.edge_traits.specs.declared.memory_clock.MemoryClock.{MemoryClock}
use Rattle.responders.specs.Parts.{Part}
use Rattle.responders.specs.Sessions.{AreTheirs}
use Rattle.responders.specs.declared.session.Outcome.{Outcome}
use Rattle.responders.specs.declared.session.Outcome.TheVariants.{AllClosed, Stopped, NoMemory}
use Rattle.responders.specs.declared.session.Session.{Session}
use Rattle.server_core.specs.declared.op.Stop.{Stop}
use Rattle.shared_book.specs.Entries.{View}
use Rattle.worker.specs.Doings.{Doing, doing_of}
use Rattle.worker.specs.Workers.{WorkerView}
use Rattle.worker.specs.declared.act.Act.{Act}
use Rattle.drawn_session.specs.Counts.{acts_of, counts_of, gives_time, is_control, is_silent}
use Rattle.drawn_session.specs.Ports.{PortParts, address_of, faults_of, is_closed_of, most_of, quiets_of, trace_of}
use Rattle.drawn_session.specs.Sessions.{IsFirst, clock_told}
use Rattle.responders.specs.Outcomes.{IsSessionOf}
use Rattle.drawn_session.specs.declared.counts.Counts.{Counts}
use Rattle.drawn_session.proofs.DrawingLemmas.{count_by-append}

-- an outcome of a session that began
pub ran-by : (outcome : Outcome) → (outcome ≡ AllClosed) ⊎ ((stop : Stop) × (outcome ≡ Stopped stop)) → outcome ≢ NoMemory
ran-by outcome (inl closed) none = cc
ran-by outcome (inr (stop, stopped)) none = cc

-- as many workers are left as there were
pub theirs-length : {P C : Type 0} (doing : WorkerView P C → View → Doing) (olds : List (WorkerView P C)) (parts : List Part) (news : List (WorkerView P C)) → AreTheirs doing olds parts news → length news ≡ length olds
theirs-length doing [] [] [] theirs = refl
theirs-length doing [] [] (new ∷ news) theirs = elim theirs [ ]
theirs-length doing [] (part ∷ parts) news theirs = elim theirs [ ]
theirs-length doing (old ∷ olds) [] news theirs = elim theirs [ ]
theirs-length doing (old ∷ olds) (part ∷ parts) [] theirs = elim theirs [ ]
theirs-length doing (old ∷ olds) (part ∷ parts) (new ∷ news) (one, others) = ap (λ n. suc n) (theirs-length doing olds parts news others)

-- a list of two, by its elements
pub two-of : {X : Type 0} (xs : List X) (first second : X) → length xs ≡ 2 → slice_get xs 0 ≡ Some first → slice_get xs 1 ≡ Some second → xs ≡ first ∷ second ∷ []
two-of [] first second two at_first at_second = absurd (omega (arith, two))
two-of (x ∷ []) first second two at_first at_second = absurd (omega (arith, two))
two-of (x ∷ y ∷ []) first second two at_first at_second = cc
two-of (x ∷ y ∷ z ∷ xs) first second two at_first at_second = absurd (omega (arith, two))

-- what is counted in two lists, one after the other
pub count-two : {X : Type 0} (test : X → Bool) (xs ys : List X) → count_by test xs + count_by test ys ≡ count_by test (xs ++ (ys ++ []))
count-two test xs ys = sym (ap (λ more. count_by test (xs ++ more)) (append-nil ys) ∙ count_by-append test xs ys)

-- the counts of a session of two workers
pub counted-two : (session : Session PortParts MemoryClock) (first second : WorkerView PortParts MemoryClock) (counts : Counts) → session.workers ≡ first ∷ second ∷ []
    → counts.times ≡ count_by (λ (a : Act). gives_time a.kind) first.acts + count_by (λ (a : Act). gives_time a.kind) second.acts
    → counts.controls ≡ count_by (λ (a : Act). is_control a.kind) first.acts + count_by (λ (a : Act). is_control a.kind) second.acts
    → counts.silent ≡ count_by (λ (a : Act). is_silent a.kind) first.acts + count_by (λ (a : Act). is_silent a.kind) second.acts
    → counts.clients ≡ length session.book.state.rows → counts ≡ counts_of session
counted-two session first second counts are times controls silent clients = λ i. record {
  times = (times ∙ in_all (λ a. gives_time a.kind)) i;
  controls = (controls ∙ in_all (λ a. is_control a.kind)) i;
  silent = (silent ∙ in_all (λ a. is_silent a.kind)) i;
  clients = clients i;
} where
  in_all : (test : Act → Bool) → count_by test first.acts + count_by test second.acts ≡ count_by test (acts_of session.workers)
  in_all test = count-two test first.acts second.acts ∙ ap (λ (workers : List (WorkerView PortParts MemoryClock)). count_by test (acts_of workers)) (sym are)

pub added-two : (a b : ℕ) → 0 + a + b ≡ a + b
added-two a b = omega arith

-- a session that was served and began with two workers has two
pub two-left : (number : ℕ) (first last : Session PortParts MemoryClock) (outcome : Outcome) → outcome ≢ NoMemory → IsFirst number first
    → IsSessionOf trace_of faults_of quiets_of address_of most_of is_closed_of clock_told first outcome last → length last.workers ≡ 2
two-left number first last outcome ran begins of =
    let served = of.served ran in
    theirs-length (doing_of trace_of faults_of quiets_of address_of most_of clock_told) first.workers served.parts last.workers served.theirs ∙ ap (λ (workers : List (WorkerView PortParts MemoryClock)). length workers) begins.workers.are

-- the same, where the beginning is not named
pub two-left-of : (number : ℕ) (last : Session PortParts MemoryClock) (outcome : Outcome) → outcome ≢ NoMemory
    → (first : Session PortParts MemoryClock) × IsFirst number first × IsSessionOf trace_of faults_of quiets_of address_of most_of is_closed_of clock_told first outcome last
    → length last.workers ≡ 2
two-left-of number last outcome ran (first, begins, of) = two-left number first last outcome ran begins of
