-- The workers of a session before it begins, and after it.
use Rattle.std.proofs.Common.{◌≡◌, ℕ, List, [], ◌∷◌, ◌++◌, ap, ◌∙◌}
use Rattle.edge_traits.specs.declared.memory_clock.MemoryClock.{MemoryClock}
use Rattle.worker.specs.Workers.{WorkerView}
use Rattle.drawn_session.specs.Ports.{PortParts}
use Rattle.drawn_session.specs.Sessions.{AreNewWorkers, IsNewWorker}

-- two new workers, put one after the other, are those of a session
pub two-workers : (number : ℕ) (first second : WorkerView PortParts MemoryClock) (none one two all : List (WorkerView PortParts MemoryClock))
    → IsNewWorker number 0 first → IsNewWorker number 1 second → none ≡ [] → one ≡ none ++ first ∷ [] → two ≡ one ++ second ∷ [] → all ≡ two → AreNewWorkers number all
two-workers number first second none one two all first_new second_new none_is one_is two_is all_is = record {
  first = first;
  second = second;
  are = all_is ∙ two_is ∙ ap (λ (them : List (WorkerView PortParts MemoryClock)). them ++ second ∷ []) (one_is ∙ ap (λ (them : List (WorkerView PortParts MemoryClock)). them ++ first ∷ []) none_is);
  first_new = first_new;
  second_new = second_new;
}
