-- How services of a datagram add up.
use Rattle.std.proofs.Common.{◌≡◌, ◌≢◌, ◌⊎◌, ℕ, ◌+◌, ◌<◌, ◌≤◌, zero, suc, Option, Some, None, Result, Ok, Err, OnErr, List, [], ◌++◌, length, append_assoc, inl, inr, refl, sym, ap, subst, ◌∙◌, arith}
use Rattle.std.proofs.lemmas.List.{append-nil}
use Rattle.sys_vars.specs.declared.context.Context.{Context}
use Rattle.server_core.specs.declared.class.Class.{Class}
use Rattle.server_core.specs.declared.class.Class.TheVariants.{Silent as SilentClass, Time as TimeClass, Look as LookClass, Read as ReadClass}
use Rattle.server_core.specs.declared.class.Unheard.TheVariants.{BadNonce}
use Rattle.server_core.specs.declared.op.Op.{Op}
use Rattle.server_core.specs.declared.step.Reply.{Reply}
use Rattle.server_core.specs.declared.step.StepFault.{StepFault}
use Rattle.server_core.specs.declared.step.StepFault.TheVariants.{NoMemory}
use Rattle.server_core.specs.declared.response.Response.{Response}
use Rattle.server_core.specs.Books.{BookParts}
use Rattle.server_core.specs.Class.{IsClass}
use Rattle.server_core.specs.Histories.{AreSteps}
use Rattle.server_core.specs.Responses.{IsAccepted, IsResponse, IsUnmet, IsUntaken, book_after, op_of}
use Rattle.planned_link.specs.declared.queued.Queued.{Queued}
use Rattle.planned_link.specs.Services.{AreServices, DeliveryParts, IsBrought, IsService, Refuses, answers_of}

-- one service more

pub AreServices-more : (n : ℕ) (d : DeliveryParts) (book : BookParts) (answers : List Queued) (between : BookParts) (more : List Queued) (last : BookParts)
    → AreServices n d book answers between → IsService d between more last → AreServices (suc n) d book (answers ++ more) last
AreServices-more zero d book answers between more last (none, same) service =
    (last, more, [], subst (λ (b : BookParts). IsService d b more last) same service, (refl, refl), ap (λ (a : List Queued). a ++ more) none ∙ sym (append-nil more))
AreServices-more (suc n) d book answers between more last (next, first, others, one, rest, joined) service =
    (next, first, others ++ more, one, AreServices-more n d next others between more last rest service, ap (λ (a : List Queued). a ++ more) joined ∙ append_assoc first others more)

-- an operation that was not taken, and not for want of memory, is refused
Refuses-IsUntaken : (book : BookParts) (op : Option Op) (fault : StepFault) → fault ≢ NoMemory → IsUntaken book op fault → Refuses book op
Refuses-IsUntaken book None fault other none = absurd none
Refuses-IsUntaken book (Some op) fault other (inl refused) = (fault, refused)
Refuses-IsUntaken book (Some op) fault other (inr wanting) = absurd (other wanting.0)

-- a datagram that has no response, and not for want of memory, is refused
pub Refuses-IsUnmet : (book : BookParts) (context : Context) (class : Class) (fault : StepFault) → fault ≢ NoMemory → IsUnmet book context class fault → Refuses book (op_of context class)
Refuses-IsUnmet book context (SilentClass BadNonce) fault other unmet = absurd (other unmet)
Refuses-IsUnmet book context (SilentClass _) fault other unmet = absurd unmet
Refuses-IsUnmet book context (TimeClass ask) fault other unmet = Refuses-IsUntaken book (op_of context (TimeClass ask)) fault other unmet
Refuses-IsUnmet book context (LookClass asked) fault other unmet = Refuses-IsUntaken book (op_of context (LookClass asked)) fault other unmet
Refuses-IsUnmet book context (ReadClass ask) fault other unmet = Refuses-IsUntaken book (op_of context (ReadClass ask)) fault other unmet

-- a datagram that has a response is served
pub IsService-response : (d : DeliveryParts) (book next : BookParts) (response : Response)
    → IsResponse book.state d.keys d.context d.from d.octets response
    → ((class : Class) → IsClass d.octets d.from d.keys d.context class → next ≡ book_after book (op_of d.context class))
    → ((class : Class) → IsClass d.octets d.from d.keys d.context class → IsAccepted book (op_of d.context class))
    → IsService d book (answers_of d (length book.journal) response) next
IsService-response d book next response (class, is, same) after accepted = inl (record {
  class = class;
  is_class = is;
  accepted = accepted class is;
  goes_on = after class is;
  response_is = ap (answers_of d (length book.journal)) same;
})

-- a datagram that is refused is served
pub IsService-refused : (d : DeliveryParts) (book next : BookParts) (fault : StepFault) → fault ≢ NoMemory → next ≡ book
    → ((class : Class) → IsClass d.octets d.from d.keys d.context class → IsUnmet book d.context class fault)
    → IsService d book [] next
IsService-refused d book next fault other kept untaken = inr (record {
  refuses = λ class is. Refuses-IsUnmet book d.context class fault other (untaken class is);
  stays = kept;
  nothing = refl;
})

-- one more than these services
pub AreServices-next : (n : ℕ) (d : DeliveryParts) (book : BookParts) (answers after : List Queued) (between last : BookParts)
    → AreServices n d book answers between → (more : List Queued) × IsService d between more last × (after ≡ answers ++ more) → AreServices (n + 1) d book after last
AreServices-next n d book answers after between last services (more, service, joined) =
    let one_more : suc n ≡ n + 1 = omega arith in
    subst (λ (k : ℕ). AreServices k d book after last) one_more
    (subst (λ (a : List Queued). AreServices (suc n) d book a last) (sym joined) (AreServices-more n d book answers between more last services service))

-- where memory was wanting the datagram was served fewer times, or the last answer was not made
pub AreServices-brought : (n times : ℕ) (d : DeliveryParts) (book : BookParts) (answers : List Queued) (between last : BookParts)
    → n < times → AreServices n d book answers between → (last ≡ between) ⊎ ((more : List Queued) × IsService d between more last)
    → (k : ℕ) × (k ≤ times) × (all : List Queued) × AreServices k d book all last
AreServices-brought n times d book answers between last below services (inl kept) =
    (n, omega (arith, below), answers, subst (λ (b : BookParts). AreServices n d book answers b) (sym kept) services)
AreServices-brought n times d book answers between last below services (inr (more, service)) =
    (n + 1, omega (arith, below), answers ++ more, AreServices-next n d book answers (answers ++ more) between last services (more, service, refl))

-- where memory was wanting after the operations
pub IsBrought-times : (ops : List Op) (replies : List (Result Reply StepFault)) (times : ℕ) (d : DeliveryParts) (book between last : BookParts)
    → AreSteps book ops replies between → (k : ℕ) × (k ≤ times) × (answers : List Queued) × AreServices k d between answers last → IsBrought ops times d book last
IsBrought-times ops replies times d book between last steps (k, within, answers, services) =
    inr (k, within, answers, record { replies = replies; between = between; steps = steps; services = services })

-- what holds at all events holds where a call fails
pub OnErr-any : {A B P : Type 0} (result : Result A B) → P → OnErr result P
OnErr-any (Ok x) holds = tt
OnErr-any (Err fault) holds = holds
