-- The jobs of a session: what is made of them by index, and their seats.
use Rattle.std.proofs.Common.{◌≡◌, ◌∙◌, ◌+◌, ◌-◌, ◌*◌, ◌/◌, ◌^◌, ◌<◌, ◌≤◌, ℕ, suc, List, [], ◌∷◌, ◌++◌, length, sym, ap, subst, arith, append-nil, append_assoc}
use Rattle.std.specs.Prelude.{slice_index_or, take, drop}
use Rattle.std.proofs.lemmas.List.{take-append-le, take_all}
use Rattle.std.proofs.lemmas.Nat.{pow_pos}
use Rattle.std.proofs.lemmas.Grind.{pow_more}
use Rattle.turnstile.specs.Histories.{shares_of}
use Rattle.shared_book.specs.Entries.{View}
use Rattle.worker.specs.Workers.{WorkerView}
use Rattle.responders.specs.Workers.{reopened}
use Rattle.responders.specs.Jobs.{AreSeated, EachBecame, IsSplitOf, seats_of}
use Rattle.responders.specs.declared.jobs.Job.{Job}

-- what became of each place became of each
pub EachBecame-each : {A : Type 0} (became : A → A → Type 0) (olds news : List A) → length news ≡ length olds
    → ((i : ℕ) (d : A) → i < length olds → became (slice_index_or olds i d) (slice_index_or news i d)) → EachBecame became olds news
EachBecame-each became [] [] same each = tt
EachBecame-each became [] (new ∷ news) same each = absurd (omega (arith, same))
EachBecame-each became (old ∷ olds) [] same each = absurd (omega (arith, same))
EachBecame-each became (old ∷ olds) (new ∷ news) same each =
    (each 0 old (omega arith), EachBecame-each became olds news (omega (arith, same)) (λ i d below. each (suc i) d (omega (arith, below))))

-- what was written over a list by index is the list
written : {A : Type 0} (news olds : List A) (count : ℕ) → length news ≡ count → take count (news ++ drop (length news) olds) ≡ news
written news olds count same = take-append-le count news (drop (length news) olds) (omega (arith, same)) ∙ take_all count news (omega (arith, same))

-- what became of each place of a slice became of each
pub EachBecame-written : {A : Type 0} (became : A → A → Type 0) (olds slice news : List A) (count : ℕ) → slice ≡ olds → length news ≡ length slice → length slice ≡ count
    → ((i : ℕ) (d : A) → i < length slice → became (slice_index_or slice i d) (slice_index_or news i d))
    → EachBecame became olds (take count (news ++ drop (length news) olds))
EachBecame-written became olds slice news count same kept long each =
    subst (EachBecame became olds) (sym (written news olds count (kept ∙ long)))
    (subst (λ (xs : List _). EachBecame became xs news) same (EachBecame-each became slice news kept each))

-- half of a share is enough for one worker fewer, and a share that is enough for a worker can be halved
twice : (count : ℕ) → 2 ^ (suc count + 1) ≡ 2 ^ (count + 1) * 2
twice count = let next : suc count + 1 ≡ (count + 1) + 1 = omega arith in ap (λ (n : ℕ). 2 ^ n) next ∙ pow_more 2 (count + 1)

pub half_enough : (count share : ℕ) → 2 ^ (suc count + 1) ≤ share → 2 ^ (count + 1) ≤ share - share / 2
half_enough count share enough = omega (arith, enough, twice count)

pub can_halve : (count share : ℕ) → 2 ^ (suc count + 1) ≤ share → 2 ≤ share
can_halve count share enough = let some = pow_pos (count + 1) in omega (arith, enough, twice count, some)

-- the first seat keeps all but of its share
pub still_first : (first old new : View) → old ≡ record first { share = old.share } → new ≡ record old { share = old.share - old.share / 2 } → new ≡ record first { share = new.share }
still_first first old new was is =
    is ∙ ap (λ (seat : View). record seat { share = old.share - old.share / 2 }) was
    ∙ ap (λ (share : ℕ). record first { share = share }) (sym (ap (λ (seat : View). seat.share) is))

-- where none is left, all are seated
pub AreSeated-all : {P C : Type 0} (first : View) (left all workers : List (WorkerView P C)) (jobs : List (Job P C)) → left ≡ [] → all ≡ workers
    → ((more : List (Job P C)) → AreSeated first left more → AreSeated first all (jobs ++ more)) → AreSeated first workers jobs
AreSeated-all first left all workers jobs none whole seated =
    subst (λ (ws : List _). AreSeated first ws jobs) whole
    (subst (AreSeated first all) (append-nil jobs) (seated [] (subst (λ (ws : List _). AreSeated first ws []) (sym none) tt)))

-- one job more at its seat
pub AreSeated-push : {P C : Type 0} (first : View) (worker : WorkerView P C) (left workers all : List (WorkerView P C)) (jobs pushed : List (Job P C)) (job : Job P C)
    → left ≡ worker ∷ workers → pushed ≡ jobs ++ job ∷ [] → job.worker ≡ reopened worker → IsSplitOf first job.seat
    → ((more : List (Job P C)) → AreSeated first left more → AreSeated first all (jobs ++ more))
    → (more : List (Job P C)) → AreSeated first workers more → AreSeated first all (pushed ++ more)
AreSeated-push first worker left workers all jobs pushed job next longer is split seated more later =
    let longer_with : pushed ++ more ≡ jobs ++ (job ∷ more) = ap (λ (js : List _). js ++ more) longer ∙ append_assoc jobs (job ∷ []) more in
    subst (AreSeated first all) (sym longer_with)
    (seated (job ∷ more) (subst (λ (ws : List _). AreSeated first ws (job ∷ more)) (sym next) (is, split, later)))

-- a seat that was split off the first
pub IsSplitOf-given : (first old seat : View) (share : ℕ) → old ≡ record first { share = old.share } → seat ≡ record old { share = share; own = [] } → IsSplitOf first seat
IsSplitOf-given first old seat share was given = record {
  door_is = ap (λ (s : View). s.door) given ∙ ap (λ (s : View). s.door) was;
  opening_is = ap (λ (s : View). s.opening) given ∙ ap (λ (s : View). s.opening) was;
  front_is = ap (λ (s : View). s.front) given ∙ ap (λ (s : View). s.front) was;
  uncalled = ap (λ (s : View). s.own) given;
}

pub shares-push : {P C : Type 0} (jobs : List (Job P C)) (job : Job P C) → shares_of (seats_of (jobs ++ job ∷ [])) ≡ shares_of (seats_of jobs) + job.seat.share
shares-push [] job = omega arith
shares-push (other ∷ jobs) job = omega (arith, shares-push jobs job)

-- what became of two became of their equals
pub changed_at : {A : Type 0} (became : A → A → Type 0) (old new x y : A) → x ≡ old → y ≡ new → became x y → became old new
changed_at {A} became old new x y olds news is = subst (became old) news (subst (λ (z : A). became z y) olds is)
