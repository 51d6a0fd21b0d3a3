-- The answer to a datagram and the peers after it, by what its sender's association says to it.
use Rattle.std.proofs.Common.{◌≡◌, ◌<◌, ◌+◌, ℕ, Bool, true, false, cond, List, Option, None, Some, Result, Err, IfSome, get_or, length, slice_get, slice_set, refl, sym, ap, subst, ◌∙◌}
use Rattle.std.proofs.lemmas.List.{set-get_or}
use Rattle.std.proofs.lemmas.Option.{get_or_from_slice_get}
use Rattle.fixed_time.specs.declared.time.Ntp64.{Ntp64}
use Rattle.net_addr.specs.declared.addr.Addr.{Addr}
use Rattle.ntp_packet.specs.declared.packet.Header.{Header}
use Rattle.ntp_trailer.specs.declared.packet.JudgedPacket.{JudgedPacket}
use Rattle.associations.proofs.JudgingLemmas.{first_fault_early}
use Rattle.associations.proofs.TakingLemmas.{lent_at}
use Rattle.associations.specs.Accepting.{judged, verdict_of}
use Rattle.associations.specs.Judging.{early_fault_of, ends_waiting, is_bogus, is_duplicate}
use Rattle.associations.specs.Replies.{reading_fault_of}
use Rattle.associations.specs.Taking.{after_from, answer_by, answer_from, answer_to, peers_after, place_for}
use Rattle.associations.specs.declared.association.Association.{Association}
use Rattle.associations.specs.declared.judging.ReplyFault.{ReplyFault}
use Rattle.associations.specs.declared.judging.ReplyFault.TheVariants.{Malformed, Duplicate, Bogus}
use Rattle.associations.specs.declared.peers.TakenReply.{TakenReply}

-- the association that is lent from a place stands there
pub lent_there : (items peers : List Association) (place : ℕ) (x : Association) → items ≡ peers → place < length items → x ≡ get_or items place x → slice_get peers place ≡ Some x
lent_there items peers place x same within lent = ap (λ xs. slice_get xs place) (sym same) ∙ lent_at items place x within lent

-- an early fault leaves the request waiting, and is not for want of a reply
early_is : (duplicate bogus : Bool) (fault : ReplyFault) (P : ReplyFault → Type 0) → P Duplicate → P Bogus
    → cond duplicate (Some Duplicate) (cond bogus (Some Bogus) None) ≡ Some fault → P fault
early_is true bogus fault P one other is = subst (λ (o : Option ReplyFault). IfSome o P) is one
early_is false true fault P one other is = subst (λ (o : Option ReplyFault). IfSome o P) is other
early_is false false fault P one other is = cc

pub early_not_malformed : (server : Association) (header : Header) (fault : ReplyFault) → early_fault_of server header ≡ Some fault → ¬ (fault ≡ Malformed)
early_not_malformed server header fault is = early_is (is_duplicate server header) (is_bogus server header) fault (λ f. ¬ (f ≡ Malformed)) (λ same. cc) (λ same. cc) is

reading_waits : (server : Association) (reading : Option JudgedPacket) (fault : ReplyFault) → reading_fault_of server reading ≡ Some fault → ends_waiting fault ≡ false
reading_waits server None fault is = subst (λ (o : Option ReplyFault). IfSome o (λ f. ends_waiting f ≡ false)) is refl
reading_waits server (Some reply) fault is = early_is (is_duplicate server reply.header) (is_bogus server reply.header) fault (λ f. ends_waiting f ≡ false) refl refl is

refused_from : (peer : ℕ) (server : Association) (reading : Option JudgedPacket) (fault : ReplyFault) (time : Ntp64) (moment : ℕ) → reading_fault_of server reading ≡ Some fault
    → answer_from peer (Some server) reading time moment ≡ Err fault
refused_from peer server None fault time moment is = cc
refused_from peer server (Some reply) fault time moment is = rw (first_fault_early server reply fault is) refl

-- what is refused before its MAC is looked at is answered by that fault
pub refused_answer : (peers : List Association) (from : Addr) (server : Association) (place : ℕ) (reading : Option JudgedPacket) (fault : ReplyFault) (time : Ntp64) (moment : ℕ)
    → place ≡ place_for peers from → slice_get peers place ≡ Some server → reading_fault_of server reading ≡ Some fault
    → Err fault ≡ answer_to peers from reading time moment
refused_answer peers from server place reading fault time moment at there is =
    sym (refused_from (place_for peers from + 1) server reading fault time moment is)
    ∙ ap (λ (o : Option Association). answer_from (place_for peers from + 1) o reading time moment) (sym there ∙ ap (slice_get peers) at)

-- the server of a place, put there once more, changes nothing
same_peers : (peers : List Association) (place : ℕ) (server : Association) → slice_get peers place ≡ Some server → peers ≡ slice_set peers place server
same_peers peers place server there =
    sym (set-get_or peers place server) ∙ ap (λ (p : Association). slice_set peers place p) (get_or_from_slice_get peers place server server there)

unchanged_from : (peers : List Association) (place : ℕ) (server : Association) (reading : Option JudgedPacket) (fault : ReplyFault) (time : Ntp64) (moment : ℕ)
    → slice_get peers place ≡ Some server → reading_fault_of server reading ≡ Some fault → peers ≡ after_from peers place (Some server) reading time moment
unchanged_from peers place server None fault time moment there is = refl
unchanged_from peers place server (Some reply) fault time moment there is =
    let waits : ends_waiting fault ≡ false = reading_waits server (Some reply) fault is in
    let stays : judged server reply time moment ≡ server = rw (first_fault_early server reply fault is, waits) refl in
    same_peers peers place server there ∙ ap (slice_set peers place) (sym stays)

-- and changes nothing
pub refused_after : (peers : List Association) (from : Addr) (server : Association) (place : ℕ) (reading : Option JudgedPacket) (fault : ReplyFault) (time : Ntp64) (moment : ℕ)
    → place ≡ place_for peers from → slice_get peers place ≡ Some server → reading_fault_of server reading ≡ Some fault
    → peers ≡ peers_after peers from reading time moment
refused_after peers from server place reading fault time moment at there is =
    unchanged_from peers place server reading fault time moment there is
    ∙ ap (λ (o : Option Association). after_from peers place o reading time moment) (sym there)
    ∙ ap (λ k. after_from peers k (slice_get peers k) reading time moment) at

-- what is judged at the sender's place is the answer
pub judged_answer : (peers : List Association) (from : Addr) (server : Association) (place : ℕ) (reply : JudgedPacket) (reading : Option JudgedPacket) (result : Result TakenReply ReplyFault)
    (time : Ntp64) (moment : ℕ) → place ≡ place_for peers from → slice_get peers place ≡ Some server → Some reply ≡ reading
    → IfSome (slice_get peers place) (λ p. result ≡ answer_by (place + 1) (verdict_of p reply time moment)) → result ≡ answer_to peers from reading time moment
judged_answer peers from server place reply reading result time moment at there read is =
    let answered : result ≡ answer_by (place + 1) (verdict_of server reply time moment) =
    subst (λ (o : Option Association). IfSome o (λ p. result ≡ answer_by (place + 1) (verdict_of p reply time moment))) there is in
    answered
    ∙ ap (λ (o : Option Association). answer_from (place + 1) o (Some reply) time moment) (sym there)
    ∙ ap (λ (r : Option JudgedPacket). answer_from (place + 1) (slice_get peers place) r time moment) read
    ∙ ap (λ k. answer_from (k + 1) (slice_get peers k) reading time moment) at

-- and what it leaves there
pub judged_after : (peers : List Association) (from : Addr) (server : Association) (place : ℕ) (reply : JudgedPacket) (reading : Option JudgedPacket) (after : List Association)
    (time : Ntp64) (moment : ℕ) → place ≡ place_for peers from → slice_get peers place ≡ Some server → Some reply ≡ reading
    → IfSome (slice_get peers place) (λ p. after ≡ slice_set peers place (judged p reply time moment)) → after ≡ peers_after peers from reading time moment
judged_after peers from server place reply reading after time moment at there read is =
    let changed : after ≡ slice_set peers place (judged server reply time moment) =
    subst (λ (o : Option Association). IfSome o (λ p. after ≡ slice_set peers place (judged p reply time moment))) there is in
    changed
    ∙ ap (λ (o : Option Association). after_from peers place o (Some reply) time moment) (sym there)
    ∙ ap (λ (r : Option JudgedPacket). after_from peers place (slice_get peers place) r time moment) read
    ∙ ap (λ k. after_from peers k (slice_get peers k) reading time moment) at
