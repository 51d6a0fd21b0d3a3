-- How a datagram that a server takes becomes an act.
use Rattle.std.proofs.Common.{◌≡◌, ℕ, ◌+◌, false, Some, None, List, [], ◌∷◌, ◌++◌, length, inl, inr, refl, sym, ap, subst, ◌∙◌, arith, length-append}
use Rattle.net_addr.specs.declared.addr.Addr.{Addr}
use Rattle.sys_vars.specs.declared.context.Context.{Context}
use Rattle.server_core.specs.declared.class.Class.{Class}
use Rattle.server_core.specs.declared.class.Class.TheVariants.{Silent as SilentClass, Time as TimeClass, Look as LookClass, Read as ReadClass}
use Rattle.server_core.specs.declared.class.Unheard.{Unheard}
use Rattle.server_core.specs.declared.op.Op.{Op}
use Rattle.server_core.specs.declared.op.Op.TheVariants.{Arrive, Look, Read}
use Rattle.server_core.specs.declared.request.Request.{Request}
use Rattle.server_core.specs.declared.step.Reply.{Reply}
use Rattle.server_core.specs.Books.{BookParts, IsShort, IsTellableReply}
use Rattle.server_core.specs.Class.{IsClass}
use Rattle.server_core.specs.Histories.{IsLegalAt, state_after_all}
use Rattle.server_core.specs.Responses.{grams_of, op_of, response_to}
use Rattle.server_core.specs.States.{ServerState, refusal_of, reply_to, state_after, stop_in}
use Rattle.shared_book.specs.declared.common.Common.{Common}
use Rattle.shared_book.specs.Contexts.{context_at}
use Rattle.shared_book.specs.Entries.{IsEntered, View}
use Rattle.worker.specs.declared.act.Act.{Act}
use Rattle.worker.specs.declared.act.ActKind.{ActKind}
use Rattle.worker.specs.declared.act.ActKind.TheVariants.{Silent}
use Rattle.worker.specs.declared.carry.Carry.{Carry}
use Rattle.worker.specs.Acts.{IsAct, kind_by, place_in}
use Rattle.worker.specs.Serving.{Becomes}
use Rattle.shared_book.proofs.EntryLemmas.{prefix_length}
use Rattle.worker.proofs.AddingLemmas.{Climbs-lower}
use Rattle.worker.proofs.ServingLemmas.{Becomes-answered}
use Rattle.drawn_link.specs.declared.serving.Service.{Service}
use Rattle.drawn_link.specs.Services.{AreServices, IsAsking, IsService, IsServedOnce, Runs}
use Rattle.drawn_link.proofs.GoingLemmas.{Runs-one, Runs-same, Runs-then, front-Runs, legal-arrive, legal-read, reached-Runs}

-- what a datagram asks for and is not refused is legal
legal-asked : (context : Context) (class : Class) (book : BookParts) (op : Op) → op_of context class ≡ Some op → refusal_of book.journal book.state.stamp op ≡ None → IsLegalAt book.state op
legal-asked context (SilentClass why) book op same is = absurd (cc same)
legal-asked context (TimeClass ask) book op same is =
    let op_is : Arrive ask context.moment ≡ op = cc same in
    subst (IsLegalAt book.state) op_is
    (legal-arrive (stop_in book.journal) book.journal book.state.stamp ask context.moment (subst (λ (it : Op). refusal_of book.journal book.state.stamp it ≡ None) (sym op_is) is))
legal-asked context (LookClass asked) book op same is =
    let op_is : Look asked context ≡ op = cc same in
    subst (IsLegalAt book.state) op_is tt
legal-asked context (ReadClass ask) book op same is =
    let op_is : Read ask context.moment ≡ op = cc same in
    subst (IsLegalAt book.state) op_is
    (legal-read (stop_in book.journal) book.journal book.state.stamp ask context.moment (subst (λ (it : Op). refusal_of book.journal book.state.stamp it ≡ None) (sym op_is) is))

-- the server goes on by what a datagram asks for
pub Runs-asked : (common : Common) (from : Addr) (octets : List ℕ) (context : Context) (op : Op) (request : Request) (old new : BookParts)
    → IsAsking common from octets context op request → refusal_of old.journal old.state.stamp op ≡ None → new.state ≡ state_after old.state op → new.journal ≡ old.journal ++ op ∷ [] → Runs old new
Runs-asked common from octets context op request old new asked is state_is journal_is =
    Runs-one old new op (legal-asked context asked.class old op asked.is_op is) state_is journal_is

-- a seat that has seen these operations, of which these places are its own
seat_at : ServerState → List Op → List ℕ → View
seat_at opening front own = record {
  door = record {
    words = 0;
    slots = 0;
    views_name = 0;
    atom = 0;
    block = 0;
    offset = 0;
    slot_names = [];
  };
  share = 0;
  opening = Some opening;
  front = front;
  own = own;
}

-- the operation was entered
entered : (opening : ServerState) (old new : BookParts) (op : Op) (place : ℕ) (reply : Reply) → old.state ≡ state_after_all opening old.journal
    → refusal_of old.journal old.state.stamp op ≡ None → reply ≡ reply_to old.state op → new.journal ≡ old.journal ++ op ∷ [] → IsShort reply → IsTellableReply reply → place ≡ length old.journal
    → IsEntered opening (seat_at opening old.journal []) op place reply (seat_at opening new.journal (place ∷ []))
unfolding seat_at
entered opening old new op place reply reached is answered journal_is short tellable placed = record {
  entry = record {
    before = old.journal;
    after = [];
    whole = journal_is;
    placed = sym placed;
    unrefused = subst (λ (s : ServerState). refusal_of old.journal s.stamp op ≡ None) reached is;
    answered = answered ∙ ap (λ (s : ServerState). reply_to s op) reached;
  };
  longer = (op ∷ [], sym journal_is);
  later = omega (arith, placed);
  last = ap length journal_is ∙ length-append old.journal (op ∷ []) ∙ ap (λ (n : ℕ). n + 1) (sym placed);
  counted = refl;
  short = short;
  tellable = tellable;
}

-- a datagram that was entered is served
pub IsService-entered : (common : Common) (from : Addr) (octets : List ℕ) (moment : ℕ) (context : Context) (op : Op) (request : Request) (old new : BookParts) (place : ℕ) (reply : Reply) (kind : ActKind) (count : ℕ) (grams : List (List ℕ))
    → context ≡ context_at common moment → IsAsking common from octets context op request
    → refusal_of old.journal old.state.stamp op ≡ None → reply ≡ reply_to old.state op → new.state ≡ state_after old.state op → new.journal ≡ old.journal ++ op ∷ [] → IsShort reply → IsTellableReply reply
    → place ≡ length old.journal → kind ≡ kind_by place moment reply → grams ≡ grams_of common.keys context context.moment (response_to request reply) → count ≡ length grams
    → IsService common from octets old (record {
      act = record {
        from = from;
        moment = moment;
        kind = kind;
        given = count;
        failed = false;
      };
      grams = grams;
    }) new
unfolding seat_at
IsService-entered common from octets moment context op request old new place reply kind count grams here asked is answered state_is journal_is short tellable placed kind_is grams_are counted = record {
  runs = Runs-asked common from octets context op request old new asked is state_is journal_is;
  becomes = λ opening reached. (let became = becomes opening reached in (subst (λ (answer : List (List ℕ)). IsAct common opening new.journal act octets answer) (sym answer_is) became.is_act, became.places));
  from_is = refl;
  whole = counted;
} where
  act : Act
  act = record {
    from = from;
    moment = moment;
    kind = kind;
    given = count;
    failed = false;
  }

  held : Carry
  held = record { from = from; bytes = octets }

  at : moment ≡ context.moment
  at = sym (ap (λ (c : Context). c.moment) here)

  answer_is : grams ≡ grams_of common.keys context moment (response_to request reply)
  answer_is = grams_are ∙ ap (λ (xmt : ℕ). grams_of common.keys context xmt (response_to request reply)) (sym at)

  becomes : (opening : ServerState) → old.state ≡ state_after_all opening old.journal
      → Becomes common opening held act (grams_of common.keys context moment (response_to request reply)) (context.moment ∷ moment ∷ []) (seat_at opening old.journal []) (seat_at opening new.journal (place ∷ []))
  becomes opening reached = Becomes-answered common opening held act context asked.class op request place reply moment (seat_at opening old.journal []) (seat_at opening new.journal (place ∷ []))
      (here ∙ ap (context_at common) at) at asked.is_class asked.is_op (entered opening old new op place reply reached is answered journal_is short tellable placed) asked.responds refl
      (inl (kind_is, counted ∙ ap length answer_is))

-- a datagram that is not heard is served
pub IsService-unheard : (common : Common) (from : Addr) (octets : List ℕ) (moment : ℕ) (context : Context) (class : Class) (why : Unheard) (book : BookParts) (service : Service)
    → context ≡ context_at common moment → IsClass octets from common.keys context class → class ≡ SilentClass why
    → service.act ≡ record {
      from = from;
      moment = moment;
      kind = Silent why;
      given = 0;
      failed = false;
    } → service.grams ≡ [] → IsService common from octets book service book
IsService-unheard common from octets moment context class why book service here is same act_is grams_are =
    let it : Service = record {
      act = record {
        from = from;
        moment = moment;
        kind = Silent why;
        given = 0;
        failed = false;
      };
      grams = [];
    } in
    let service_is : service ≡ it = λ i. record { act = act_is i; grams = grams_are i } in
    subst (λ (one : Service). IsService common from octets book one book) (sym service_is)
    (record {
      runs = Runs-same book book refl;
      becomes = λ opening reached. ((subst (λ (c : Context). IsClass octets from common.keys c (SilentClass why)) here (subst (IsClass octets from common.keys context) same is), refl, refl, refl), omega arith);
      from_is = refl;
      whole = refl;
    })

-- services, and then one more
pub AreServices-one : (common : Common) (from : Addr) (octets : List ℕ) (old : BookParts) (services : List Service) (mid new : BookParts) (service : Service)
    → AreServices common from octets old services mid → IsService common from octets mid service new → AreServices common from octets old (services ++ service ∷ []) new
AreServices-one common from octets old [] mid new service runs one = (
  new,
  record {
    runs = Runs-then old mid new runs one.runs;
    becomes = λ opening reached. (let it = one.becomes opening (reached-Runs opening old mid runs reached) in (
      it.0,
      Climbs-lower (length old.journal) (length mid.journal) (length new.journal) (place_in service.act.kind) (prefix_length old.journal mid.journal (front-Runs old mid runs)) it.1,
    ));
    from_is = one.from_is;
    whole = one.whole;
  },
  Runs-same new new refl,
)
AreServices-one common from octets old (first ∷ services) mid new service (next, is, rest) one =
    (next, is, AreServices-one common from octets next services mid new service rest one)

-- services lead on
pub Runs-AreServices : (common : Common) (from : Addr) (octets : List ℕ) (old : BookParts) (services : List Service) (new : BookParts) → AreServices common from octets old services new → Runs old new
Runs-AreServices common from octets old [] new runs = runs
Runs-AreServices common from octets old (service ∷ services) new (next, is, rest) = Runs-then old next new is.runs (Runs-AreServices common from octets next services new rest)

-- services, and then one time more
pub AreServices-more : (common : Common) (from : Addr) (octets : List ℕ) (old : BookParts) (services more : List Service) (mid new : BookParts)
    → AreServices common from octets old services mid → IsServedOnce common from octets mid services more new → AreServices common from octets old more new
AreServices-more common from octets old services more mid new are (inl (same, none)) =
    subst (λ (these : List Service). AreServices common from octets old these new) (sym none)
    (subst (AreServices common from octets old services) (sym same) are)
AreServices-more common from octets old services more mid new are (inr (service, is, joined)) =
    subst (λ (these : List Service). AreServices common from octets old these new) (sym joined) (AreServices-one common from octets old services mid new service are is)
