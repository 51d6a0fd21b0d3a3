use Rattle.std.proofs.Common.{◌≡◌, [], ◌∷◌, List, ℕ, inl, refl, sym, subst, take}
use Rattle.mac_keys.specs.declared.keys.Key.{Key}
use Rattle.net_addr.specs.declared.addr.Addr.{Addr}
use Rattle.sys_vars.specs.declared.context.Context.{Context}
use Rattle.server_core.specs.States.{ServerState}
use Rattle.server_core.specs.declared.response.Response.{Response}
use Rattle.server_core.specs.Class.{IsClass}
use Rattle.server_core.specs.declared.class.Class.{Class}
use Rattle.server_core.specs.declared.class.Class.TheVariants.{Silent}
use Rattle.server_core.specs.declared.class.Unheard.{Unheard}
use Rattle.server_core.specs.Responses.{IsResponse, grams_of}
use Rattle.giving.specs.Gives.{sent_events}
use Rattle.giving.proofs.GiveLemmas.{gained-nothing}
use Rattle.shared_book.specs.Contexts.{context_at}
use Rattle.shared_book.specs.declared.common.Common.{Common}
use Rattle.ntpd_serve.proofs.OnceLemmas.{Follows-given, Grows-Grows, IsAnswer-response, grams-some}
use Rattle.ntpd_serve.proofs.once.serve_datagram.Goals as goal

-- the response to the octets that were lent is that to the datagram
response_to_datagram : (s : ServerState) (common : Common) (came : ℕ) (context : Context) (from : Addr) (lent octets : List ℕ) (response : Response) → context ≡ context_at common came → lent ≡ octets → IsResponse s common.keys context from lent response → IsResponse s common.keys (context_at common came) from octets response
response_to_datagram s common came context from lent octets response here same is =
    subst (λ (o : List ℕ). IsResponse s common.keys (context_at common came) from o response) same
    (subst (λ (k : Context). IsResponse s common.keys k from lent response) here is)

-- nor is its class another
same_class : (common : Common) (came : ℕ) (context : Context) (from : Addr) (lent octets : List ℕ) (class : Class) → context ≡ context_at common came → lent ≡ octets → IsClass octets from common.keys (context_at common came) class → IsClass lent from common.keys context class
same_class common came context from lent octets class here same is =
    subst (λ (o : List ℕ). IsClass o from common.keys context class) (sym same)
    (subst (λ (k : Context). IsClass octets from common.keys k class) (sym here) is)

-- one that is heard at no moment is not heard in this context
unheard_in : (keys : List Key) (context : Context) (from : Addr) (lent octets : List ℕ) (why : Unheard) → lent ≡ octets → ((moment : Context) → IsClass octets from keys moment (Silent why)) → IsClass lent from keys context (Silent why)
unheard_in keys context from lent octets why same is = subst (λ (o : List ℕ). IsClass o from keys context (Silent why)) (sym same) (is context)

pub returns-in-Err-clause-follows : goal.returns-in-Err-clause-follows
returns-in-Err-clause-follows g c =
    ([], c.now-came.result ∷ [], inl refl, gained-nothing _, c.now-came.ensures, λ why is. c.in-Err.ensures.kept)

pub returns-clause-follows : goal.returns-clause-follows
returns-clause-follows g c =
    let common = c.args.common.now in
    let s = c.args.book.now.state in
    let from = c.args.from.now in
    let came = c.now-came.result in
    let sent = c.now-sent.result in
    let context = c.context_at-context.result in
    let response = c.in-Ok.response in
    let here = c.context_at-context.ensures in
    let same = c.as_slice.ensures.same in
    let given = c.give_response-given.ensures in
    let grams = grams_of common.keys context sent response in
    let is = response_to_datagram s common came context from _ c.args.datagram.now response here same c.in-Ok.ensures.response in
    let some = grams-some common.keys context sent response c.in-Ok.ensures.givable (c.in-None.ensures.heard refl) in
    let answer = IsAnswer-response common s from c.args.datagram.now came sent context response here is some in (
      sent_events from (take c.give_response-given.result.count grams),
      came ∷ sent ∷ [],
      Follows-given common s from c.args.datagram.now (came ∷ sent ∷ []) grams c.give_response-given.result.count c.give_response-given.result.end c.ending_of.result answer given.whole given.cut c.ending_of.ensures.whole c.ending_of.ensures.failed c.ending_of.ensures.no_memory,
      given.given,
      Grows-Grows _ _ _ _ _ c.now-came.ensures c.now-sent.ensures,
      λ why unheard. c.respond.ensures.silent why (same_class common came _ from _ _ (Silent why) here same unheard),
    )

pub returns-clause-silent : goal.returns-clause-silent
returns-clause-silent g c = λ why is.
    c.respond.ensures.silent why (unheard_in c.args.common.now.keys c.context_at-context.result c.args.from.now _ _ why c.as_slice.ensures.same is)

pub returns-in-Some-clause-silent : goal.returns-in-Some-clause-silent
returns-in-Some-clause-silent g c = λ why is.
    c.respond.ensures.silent why (unheard_in c.args.common.now.keys c.context_at-context.result c.args.from.now _ _ why c.as_slice.ensures.same is)
