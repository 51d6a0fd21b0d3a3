-- What a server tells of its client list: over a history that it can have, and by each datagram of an answer to a listing.
use Rattle.std.proofs.Common.{◌≡◌, ℕ, List, ◌∷◌, ◌++◌, length, Contains, ap, subst, sym, ◌∙◌, arith}
use Rattle.std.specs.List.{AllByRecursion}
use Rattle.edge_traits.specs.declared.salt.Salt.{Salt}
use Rattle.fixed_time.specs.declared.time.Ntp64.{Ntp64}
use Rattle.list_telling.specs.Histories.{IsServersHistory, IsTakenIn, IsTold, read_moment, telling_of}
use Rattle.list_telling.specs.Requests.{IsListRequest, place_of}
use Rattle.list_telling.proofs.AnswerLemmas.{look-told, nonce-digits, read-told}
use Rattle.list_telling.proofs.PlaceLemmas.{move-place, op-place, state-place}
use Rattle.list_telling.proofs.RowLemmas.{states-tellable}
use Rattle.mac_keys.specs.declared.keys.Key.{Key}
use Rattle.mrulist_coverage.specs.Tellings.{IsTelling}
use Rattle.mode6_frame.proofs.FrameLemmas.{frame_at-frame, frame_fault_of-frame, from_no_fault}
use Rattle.mode6_frame.specs.Frames.{FrameParts}
use Rattle.mode6_frame.specs.Places.{frame_at}
use Rattle.mru_items.specs.Queries.{IsReadOf}
use Rattle.mru_read.specs.Histories.{Listing}
use Rattle.mru_read.specs.Pages.{IsTellableRow}
use Rattle.net_addr.specs.declared.addr.Addr.{Addr}
use Rattle.net_addr.specs.declared.addr.Ip.{Ip}
use Rattle.server_core.proofs.MoveLemmas.{IsListHistory-legal, list_at-state}
use Rattle.server_core.specs.declared.class.Class.{Class}
use Rattle.server_core.specs.declared.class.Class.TheVariants.{Silent, Time, Look, Read}
use Rattle.server_core.specs.declared.op.Op.{Op}
use Rattle.server_core.specs.declared.op.Op.TheVariants.{Read as ReadOp}
use Rattle.server_core.specs.Histories.{state_after_all}
use Rattle.server_core.specs.Moves.{listing_of}
use Rattle.server_core.specs.Responses.{grams_of, response_of}
use Rattle.server_core.specs.States.{ServerState}
use Rattle.sys_vars.specs.Contexts.{nonce_for}
use Rattle.sys_vars.specs.Status.{system_status_of}
use Rattle.sys_vars.specs.declared.context.Context.{Context}

-- it tells a list history whose clients can be told
pub server-tells : (salt : Salt) (client : Ip) (opening : ServerState) (ops : List Op) → IsServersHistory opening ops → IsTelling (telling_of salt client opening ops)
server-tells salt client opening ops is = record {
  is_history = IsListHistory-legal opening ops is.list is.stamp is.legal is.moments;
  origin = is.origin;
  nonces = λ place. nonce-digits salt client _;
  rows = λ place.
      subst (λ (list : Listing). AllByRecursion IsTellableRow list.rows) (sym (list_at-state opening ops place))
      (states-tellable opening ops place (record { rows = is.rows; flags = is.flags }) is.tellable).rows;
}

-- each datagram of an answer to a request of a listing is told
pub answer-told : (opening : ServerState) (keys : List Key) (context : Context) (from : Addr) (octets : List ℕ) (class : Class) (before : List Op) (op : Op) (after : List Op) (sent : ℕ) (gram : List ℕ)
    → IsServersHistory opening (before ++ op ∷ after) → IsTakenIn opening keys context from octets class before after op
    → Contains (grams_of keys context sent (response_of (state_after_all opening before) context class)) gram
    → IsTold (telling_of context.salt from.ip opening (before ++ op ∷ after)) octets gram (place_of (length before) (response_of (state_after_all opening before) context class))
answer-told opening keys context from octets (Silent why) before op after sent gram history taken among = absurd (cc taken.is_op)
answer-told opening keys context from octets (Time ask) before op after sent gram history taken among =
    let (f, whole) = taken.control in
    let (room, version, mode, most) = from_no_fault octets (frame_fault_of-frame octets f whole.frame) in
    absurd (omega (arith, mode, taken.is_class.client))
answer-told opening keys context from octets (Look asked) before op after sent gram history taken among =
    let (f, whole, looks) = taken.is_class in
    let at = frame_at-frame octets f whole.frame in
    let asks : IsListRequest f context.origin.0 =
    subst (λ (x : FrameParts). IsListRequest x context.origin.0) at (subst (λ (origin : Ntp64). IsListRequest (frame_at octets) origin.0) (sym taken.origin) taken.request) in
    look-told (telling_of context.salt from.ip opening (before ++ op ∷ after)) octets gram f (state_after_all opening before) keys from context asked sent (length before) at whole.frame.fits asks looks among
answer-told opening keys context from octets (Read ask) before op after sent gram history taken among =
    let (f, whole, reads) = taken.is_class in
    let at = frame_at-frame octets f whole.frame in
    let same : ReadOp ask context.moment ≡ op = cc taken.is_op in
    subst (λ (it : Op). IsServersHistory opening (before ++ it ∷ after)
    → IsTold (telling_of context.salt from.ip opening (before ++ it ∷ after)) octets gram (place_of (length before) (response_of (state_after_all opening before) context (Read ask)))) same
    (λ history.
    let its = ReadOp ask context.moment in
    let ops = before ++ its ∷ after in
    read-told (telling_of context.salt from.ip opening ops) octets gram f (length before) (state_after_all opening before) context ask
    (record {
      telling = server-tells context.salt from.ip opening ops history;
      opcode = reads.are.reads;
      items = reads.items;
      text = reads.are.text;
      asks = subst (λ (origin : Ntp64). IsReadOf reads.items origin.0 ask.request) taken.origin reads.request_is;
      list = list_at-state opening ops (length before) ∙ ap listing_of (state-place opening before after its);
      origin = sym (ap (λ (origin : Ntp64). origin.0) taken.origin);
      nonce = λ i. nonce_for (record { origin = sym taken.origin i; moment = read_moment (op-place before after its i); salt = context.salt }) (sym reads.from_is i).ip;
      status = ap (λ (s : ServerState). system_status_of s.published.system) (state-place opening before after its);
      stands = move-place opening before after its;
    })
    (record { at = at; fits = whole.frame.fits; repeats = reads.head_is }) keys sent among) history
