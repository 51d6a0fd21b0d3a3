-- How the gives of datagrams add up at a port.
use Rattle.std.proofs.Common.{◌≡◌, ℕ, ◌+◌, ◌<◌, ◌≤◌, length, Option, Some, None, List, [], ◌∷◌, ◌++◌, zero, suc, refl, sym, ap, subst, ◌∙◌, arith}
use Rattle.std.specs.Prelude.{slice_index_or, take}
use Rattle.std.specs.List.{AllByRecursion}
use Rattle.std.proofs.lemmas.List.{append-nil, map-append, take_more, take_all}
use Rattle.net_addr.specs.declared.addr.Addr.{Addr}
use Rattle.edge_traits.specs.Told.{gained}
use Rattle.edge_traits.proofs.ToldLemmas.{gained-gained}
use Rattle.edge_traits.specs.declared.port.Event.{Event}
use Rattle.edge_traits.specs.declared.port.Event.TheVariants.{Sent}
use Rattle.mode6_frame.specs.declared.message.Head.{Head}
use Rattle.mru_read.specs.Pages.{items_of_page}
use Rattle.sys_vars.proofs.CutLemmas.{datagrams-some}
use Rattle.sys_vars.specs.Contexts.{nonce_for}
use Rattle.sys_vars.specs.declared.context.Context.{Context}
use Rattle.server_core.specs.ReadReplies.{head_of_page, read_grams}
use Rattle.server_core.specs.declared.read_reply.ReadReply.{ReadReply}
use Rattle.server_core.specs.declared.read_reply.ReadReply.TheVariants.{Ignored, Prohibited, Refused, Page}
use Rattle.giving.specs.Gives.{sent_events}

-- nothing gained
pub gained-nothing : (told : Option (List Event)) → told ≡ gained told []
gained-nothing None = refl
gained-nothing (Some told) = sym (ap Some (append-nil told))

-- one datagram more was given
pub gained-sent : (old between new : Option (List Event)) (to : Addr) (grams : List (List ℕ)) (place : ℕ) (gram : List ℕ) → place < length grams → gram ≡ slice_index_or grams place gram
    → between ≡ gained old (sent_events to (take place grams)) → new ≡ gained between (Sent to gram ∷ []) → new ≡ gained old (sent_events to (take (place + 1) grams))
gained-sent old between new to grams place gram within is before then =
    then ∙ ap (λ (told : Option (List Event)). gained told (Sent to gram ∷ [])) before
    ∙ gained-gained old (sent_events to (take place grams)) (Sent to gram ∷ [])
    ∙ ap (gained old) (ap (λ (last : List ℕ). sent_events to (take place grams) ++ Sent to last ∷ []) is
    ∙ sym (map-append (λ (sent : List ℕ). Sent to sent) (take place grams) (slice_index_or grams place gram ∷ []))
    ∙ sym (ap (sent_events to) (take_more grams place gram within)))

-- datagrams of so many octets at most have as many as a longer give may have
pub each-fits : (few most : ℕ) (grams : List (List ℕ)) → few ≤ most → AllByRecursion (λ gram. length gram ≤ few) grams → AllByRecursion (λ gram. length gram ≤ most) grams
each-fits few most [] more are = tt
each-fits few most (gram ∷ grams) more are = (omega (arith, are.0, more), each-fits few most grams more are.1)

-- what holds of each holds of the one at a place
pub one-fits : (most : ℕ) (grams : List (List ℕ)) (place : ℕ) (gram : List ℕ) → AllByRecursion (λ gram. length gram ≤ most) grams → place < length grams → gram ≡ slice_index_or grams place gram → length gram ≤ most
one-fits most [] place gram are within is = absurd (omega (arith, within))
one-fits most (first ∷ grams) zero gram are within is = subst (λ (octets : List ℕ). length octets ≤ most) (sym is) are.0
one-fits most (first ∷ grams) (suc place) gram are within is = one-fits most grams place gram are.1 (omega (arith, within)) is

-- no datagram yet
pub gained-none_sent : (told : Option (List Event)) (to : Addr) (grams : List (List ℕ)) → told ≡ gained told (sent_events to (take 0 grams))
gained-none_sent told to grams = gained-nothing told

-- all of them
pub sent-all : (told old : Option (List Event)) (to : Addr) (grams : List (List ℕ)) (end : ℕ) → length grams ≤ end → told ≡ gained old (sent_events to (take end grams)) → told ≡ gained old (sent_events to grams)
sent-all told old to grams end whole is = is ∙ ap (λ (all : List (List ℕ)). gained old (sent_events to all)) (take_all end grams whole)

-- a read that is not ignored has a datagram
pub read-some : (reply : ReadReply) (from : Addr) (head : Head) (context : Context) → ¬ (reply ≡ Ignored) → 0 < length (read_grams reply from head context)
read-some Ignored from head context heard = absurd (heard refl)
read-some Prohibited from head context heard = omega arith
read-some Refused from head context heard = omega arith
read-some (Page status page) from head context heard =
    omega (arith, datagrams-some (head_of_page head status) page.now (items_of_page page (nonce_for context from.ip) context.origin.0))
