-- Workers that are made one after another.
use Rattle.std.proofs.Common.{◌≡◌, ◌+◌, ℕ, suc, List, [], ◌∷◌, ◌++◌, length, take, Option, None, Some, refl, sym, ap, subst, ◌∙◌, append_assoc, length-append, arith}
use Rattle.std.specs.List.{AllByRecursion, slice_get}
use Rattle.std.proofs.lemmas.List.{take_more}
use Rattle.std.proofs.lemmas.Option.{get_or_from_slice_get, slice_get_within}
use Rattle.edge_traits.specs.Told.{gained}
use Rattle.edge_traits.specs.declared.port.Event.{Event}
use Rattle.net_addr.specs.declared.addr.Addr.{Addr}
use Rattle.responders.specs.Workers.{AreNumbered}
use Rattle.worker.specs.Workers.{WorkerView}
use Rattle.setup.specs.Setups.{AreNewWorkers, IsNewWorker}

-- the first elements up to this one
pub take-next : {X : Type 0} (xs : List X) (n : ℕ) (x : X) → slice_get xs n ≡ Some x → take (n + 1) xs ≡ take n xs ++ x ∷ []
take-next {X = X} xs n x found =
    take_more xs n x (slice_get_within xs n x found) ∙ ap (λ (y : X). take n xs ++ y ∷ []) (get_or_from_slice_get xs n x x found)

pub length-next : {X : Type 0} (xs xs' : List X) (x : X) (n : ℕ) → xs' ≡ xs ++ x ∷ [] → length xs ≡ n → length xs' ≡ n + 1
length-next xs xs' x n made long = ap length made ∙ length-append xs (x ∷ []) ∙ ap (λ (k : ℕ). k + 1) long

-- what was gained one after the other
pub gained-more : {X : Type 0} (told : Option (List X)) (xs ys : List X) → gained (gained told xs) ys ≡ gained told (xs ++ ys)
gained-more None xs ys = refl
gained-more (Some told) xs ys = ap Some (append_assoc told xs ys)

-- what was gained up to this one
pub gained-next : {X : Type 0} (told before now : Option (List X)) (xs : List X) (n : ℕ) (x : X) → slice_get xs n ≡ Some x → before ≡ gained told (take n xs) → now ≡ gained before (x ∷ [])
    → now ≡ gained told (take (n + 1) xs)
gained-next {X = X} told before now xs n x found so_far more =
    more ∙ ap (λ (t : Option (List X)). gained t (x ∷ [])) so_far ∙ gained-more told (take n xs) (x ∷ []) ∙ ap (gained told) (sym (take-next xs n x found))

-- one more worker has the next number
AreNumbered-more : {P C : Type 0} (first : ℕ) (workers : List (WorkerView P C)) (worker : WorkerView P C) → AreNumbered first workers → worker.who ≡ first + length workers
    → AreNumbered first (workers ++ worker ∷ [])
AreNumbered-more first [] worker are is = (omega (arith, is), tt)
AreNumbered-more first (other ∷ workers) worker (here, are) is = (here, AreNumbered-more (first + 1) workers worker are (omega (arith, is)))

pub AreNumbered-next : {P C : Type 0} (workers workers' : List (WorkerView P C)) (worker : WorkerView P C) (n : ℕ) → workers' ≡ workers ++ worker ∷ [] → length workers ≡ n → worker.who ≡ n
    → AreNumbered 0 workers → AreNumbered 0 workers'
AreNumbered-next workers workers' worker n made long is are =
    subst (AreNumbered 0) (sym made) (AreNumbered-more 0 workers worker are (omega (arith, long, is)))

AllByRecursion-more : {X : Type 0} (P : X → Type 0) (xs : List X) (x : X) → AllByRecursion P xs → P x → AllByRecursion P (xs ++ x ∷ [])
AllByRecursion-more P [] x all is = (is, tt)
AllByRecursion-more P (other ∷ xs) x (here, all) is = (here, AllByRecursion-more P xs x all is)

pub AllByRecursion-next : {X : Type 0} (P : X → Type 0) (xs xs' : List X) (x : X) → xs' ≡ xs ++ x ∷ [] → AllByRecursion P xs → P x → AllByRecursion P xs'
AllByRecursion-next P xs xs' x made all is = subst (AllByRecursion P) (sym made) (AllByRecursion-more P xs x all is)

module _ {P C : Type 0} (trace : P → Option (List Event)) (faults quiets : P → ℕ) (address : P → Addr) (readings : C → Option (List ℕ)) where
  -- one more new worker, at the next address
  AreNewWorkers-more : (ats : List Addr) (workers : List (WorkerView P C)) (at : Addr) (worker : WorkerView P C) → AreNewWorkers trace faults quiets address readings ats workers
      → IsNewWorker trace faults quiets address readings at worker → AreNewWorkers trace faults quiets address readings (ats ++ at ∷ []) (workers ++ worker ∷ [])
  AreNewWorkers-more [] [] at worker are is = (is, tt)
  AreNewWorkers-more [] (first ∷ workers) at worker none is = elim none [ ]
  AreNewWorkers-more (first ∷ ats) [] at worker none is = elim none [ ]
  AreNewWorkers-more (first ∷ ats) (other ∷ workers) at worker (here, are) is = (here, AreNewWorkers-more ats workers at worker are is)

  pub AreNewWorkers-next : (listen : List Addr) (n : ℕ) (workers workers' : List (WorkerView P C)) (at : Addr) (worker : WorkerView P C) → slice_get listen n ≡ Some at
      → workers' ≡ workers ++ worker ∷ [] → AreNewWorkers trace faults quiets address readings (take n listen) workers → IsNewWorker trace faults quiets address readings at worker
      → AreNewWorkers trace faults quiets address readings (take (n + 1) listen) workers'
  AreNewWorkers-next listen n workers workers' at worker found made are is =
      let more = AreNewWorkers-more (take n listen) workers at worker are is in
      let here = subst (λ (ats : List Addr). AreNewWorkers trace faults quiets address readings ats (workers ++ worker ∷ [])) (sym (take-next listen n at found)) more in
      subst (AreNewWorkers trace faults quiets address readings (take (n + 1) listen)) (sym made) here

  -- there is a worker for each address
  pub AreNewWorkers-length : (ats : List Addr) (workers : List (WorkerView P C)) → AreNewWorkers trace faults quiets address readings ats workers → length workers ≡ length ats
  AreNewWorkers-length [] [] are = refl
  AreNewWorkers-length [] (first ∷ workers) none = elim none [ ]
  AreNewWorkers-length (first ∷ ats) [] none = elim none [ ]
  AreNewWorkers-length (first ∷ ats) (other ∷ workers) (here, are) = ap suc (AreNewWorkers-length ats workers are)
