-- What happened at a worker's port in its part of a session.
use Rattle.std.proofs.Common.{◌≡◌, ℕ, zero, suc, Option, Some, List, [], ◌∷◌, ◌++◌, sym, ap, ◌∙◌}
use Rattle.std.specs.Prelude.{slice_get}
use Rattle.std.specs.List.{AllByRecursion}
use Rattle.std.proofs.lemmas.List.{append_cancel_left}
use Rattle.std.proofs.lemmas.Option.{same_Some}
use Rattle.edge_traits.specs.declared.port.Event.{Event}
use Rattle.edge_traits.specs.Told.{gained}
use Rattle.responders.specs.Parts.{IsPart, Part}
use Rattle.server_core.specs.declared.op.Op.{Op}
use Rattle.server_core.specs.States.{ServerState}
use Rattle.shared_book.specs.declared.common.Common.{Common}
use Rattle.wire.specs.Sessions.{HappenedAt}

-- what was gained is what is told beyond what was told before
gained-is : (old new : Option (List Event)) (before events more : List Event) → old ≡ Some before → new ≡ Some (before ++ events) → new ≡ gained old more → more ≡ events
gained-is old new before events more was now gains =
    let same : Some (before ++ more) ≡ Some (before ++ events) = ap (λ (told : Option (List Event)). gained told more) (sym was) ∙ sym gains ∙ now in
    append_cancel_left before more events (same_Some (before ++ more) (before ++ events) same)

-- where a worker's port tells what happened at it, that happened in its part
pub told-happened : (common : Common) (opening : ServerState) (history : List Op) (number : ℕ) (parts : List Part) (worked : AllByRecursion (IsPart common opening history) parts) (part : Part) (before events : List Event)
    → slice_get parts number ≡ Some part → part.before.trace ≡ Some before → part.after.trace ≡ Some (before ++ events) → HappenedAt common opening history number parts worked part events
told-happened common opening history number [] worked part before events there was now = absurd (cc there)
told-happened common opening history zero (first ∷ parts) worked part before events there was now =
    let same : first ≡ part = same_Some first part there in (
      sym same,
      gained-is first.before.trace first.after.trace before events worked.0.did.events
          (ap (λ (p : Part). p.before.trace) same ∙ was) (ap (λ (p : Part). p.after.trace) same ∙ now) worked.0.did.trace_is,
    )
told-happened common opening history (suc number) (first ∷ parts) worked part before events there was now =
    told-happened common opening history number parts worked.1 part before events there was now
