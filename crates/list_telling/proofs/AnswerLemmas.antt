-- The answers to the requests of a listing: to one for a nonce, and to one for a page.
use Rattle.std.proofs.Common.{◌≡◌, ◌⊎◌, ℕ, ◌||◌, Bool, true, false, cond, Option, Some, None, List, slice_get, refl, sym, ap, subst, ◌∙◌, inl, inr, arith}
use Rattle.std.specs.List.{Contains}
use Rattle.access_rules.specs.Flags.{has_flag}
use Rattle.access_rules.specs.Rules.{flags_of}
use Rattle.access_rules.specs.declared.flags.TheConstants.{IGNORE, NOMRULIST, NOQUERY}
use Rattle.edge_traits.specs.declared.salt.Salt.{Salt}
use Rattle.list_telling.proofs.GramLemmas.{IsAsked, among-none, nonce-told, page-told, prohibited-told, refused-told, status-fits}
use Rattle.list_telling.specs.Histories.{IsTold}
use Rattle.list_telling.specs.Requests.{IsListRequest, place_of}
use Rattle.mac_keys.specs.declared.keys.Key.{Key}
use Rattle.mode6_frame.proofs.ReadingLemmas.{items_read_complete}
use Rattle.mode6_frame.specs.Frames.{FitsFrame, FrameParts}
use Rattle.mode6_frame.specs.Items.{IsItemText}
use Rattle.mode6_frame.specs.Places.{frame_at}
use Rattle.mode6_frame.specs.Refusals.{refused_nowhere}
use Rattle.mode6_frame.specs.declared.items.Item.{Item}
use Rattle.mode6_frame.specs.declared.operations.TheConstants.{OP_READ_MRU, OP_READ_NONCE}
use Rattle.mode6_nonce.proofs.DigitLemmas.{digits-nonce, length-nonce}
use Rattle.mode6_nonce.specs.Nonces.{nonce_of}
use Rattle.mru_items.specs.Queries.{IsReadOf}
use Rattle.mru_read.specs.Histories.{Listing, Read as Reading, list_at, page_at}
use Rattle.mru_read.specs.Pages.{page_of}
use Rattle.mru_read.specs.declared.pages.Page.{Page as PageOfList}
use Rattle.mrulist_coverage.specs.Tellings.{IsNonce, IsReadAt, IsTelling, Telling}
use Rattle.net_addr.specs.declared.addr.Addr.{Addr}
use Rattle.net_addr.specs.declared.addr.Ip.{Ip}
use Rattle.server_core.specs.Control.{IsAskedOf, IsHeadOf, IsWhat}
use Rattle.server_core.specs.Moves.{listing_of, read_move}
use Rattle.server_core.specs.ReadReplies.{page_reply, read_reply}
use Rattle.server_core.specs.Reads.{HasBadValues}
use Rattle.server_core.specs.Responses.{grams_of, response_on, response_with}
use Rattle.server_core.specs.States.{ServerState}
use Rattle.server_core.specs.Verdicts.{drawn}
use Rattle.server_core.specs.declared.class.ReadAsk.{ReadAsk}
use Rattle.server_core.specs.declared.read_reply.ReadReply.{ReadReply}
use Rattle.server_core.specs.declared.read_reply.ReadReply.TheVariants.{Ignored, Prohibited}
use Rattle.sys_vars.specs.Answers.{answer_of, grams_for, is_refused}
use Rattle.sys_vars.specs.Contexts.{nonce_for, time_of}
use Rattle.sys_vars.specs.Status.{system_status_of}
use Rattle.sys_vars.specs.declared.answer.Answer.TheVariants.{Ignored as Unanswered, Given}
use Rattle.sys_vars.specs.declared.asked.Asked.{Asked}
use Rattle.sys_vars.specs.declared.asked.What.{What}
use Rattle.sys_vars.specs.declared.asked.What.TheVariants.{Status, Vars, Nonce, Bad}
use Rattle.sys_vars.specs.declared.context.Context.{Context}

-- a nonce is 24 digits
pub nonce-digits : (salt : Salt) (ip : Ip) (time : ℕ) → IsNonce (nonce_of salt ip time)
nonce-digits salt ip time = record { length_is = length-nonce salt ip time; digits = digits-nonce salt ip time }

-- what a request of a listing asks for that is no read is a nonce
what-nonce : (f : FrameParts) (origin : ℕ) (what : What) → IsListRequest f origin → IsWhat f what → (f.opcode ≡ OP_READ_NONCE) × (what ≡ Nonce)
what-nonce f origin Status (inl nonce) is = absurd (omega (arith, nonce, is))
what-nonce f origin Status (inr reads) is = absurd (omega (arith, reads.opcode, is))
what-nonce f origin (Vars numbers) (inl nonce) is = absurd (omega (arith, nonce, is.0))
what-nonce f origin (Vars numbers) (inr reads) is = absurd (omega (arith, reads.opcode, is.0))
what-nonce f origin Nonce asks is = (is, refl)
what-nonce f origin (Bad code) (inl nonce) (inl (inl variables, refused, is)) = absurd (omega (arith, nonce, variables))
what-nonce f origin (Bad code) (inl nonce) (inl (inr list, refused, is)) = absurd (omega (arith, nonce, list))
what-nonce f origin (Bad code) (inl nonce) (inr (unserved, is)) = absurd (unserved.nonce nonce)
what-nonce f origin (Bad code) (inr reads) (inl (has, (place, refused), is)) = absurd (refused_nowhere IsItemText f.body reads.items place reads.text refused)
what-nonce f origin (Bad code) (inr reads) (inr (unserved, is)) = absurd (unserved.list reads.opcode)

-- a text has one list of items
one-items : (text : List ℕ) (items others : List Item) → IsItemText text items → IsItemText text others → items ≡ others
one-items text items others is are =
    let same : Some items ≡ Some others = sym (items_read_complete text items is) ∙ items_read_complete text others are in
    cc same

-- no request of a listing has bad values
values-good : (f : FrameParts) (from : Addr) (context : Context) (asked : Asked) → IsListRequest f context.origin.0 → HasBadValues f from context asked → ⊥
values-good f from context asked (inl nonce) bad = omega (arith, nonce, bad.are.reads)
values-good f from context asked (inr reads) bad =
    bad.none reads.read (subst (λ (items : List Item). IsReadOf items context.origin.0 reads.read) (one-items f.body reads.items bad.items reads.text bad.are.text) reads.asks)

-- so what is looked up for a listing is a nonce
record IsNonceAsk (f : FrameParts) (asked : Asked) : Type 0 where
  opcode : f.opcode ≡ OP_READ_NONCE
  repeats : IsHeadOf f asked.head
  what : asked.what ≡ Nonce

nonce-asked : (f : FrameParts) (from : Addr) (context : Context) (asked : Asked) → IsListRequest f context.origin.0 → IsAskedOf f from asked ⊎ HasBadValues f from context asked → IsNonceAsk f asked
nonce-asked f from context asked asks (inl is) =
    let nonce = what-nonce f context.origin.0 asked.what asks is.what_is in
    record { opcode = nonce.0; repeats = is.head_is; what = nonce.1 }
nonce-asked f from context asked asks (inr bad) = absurd (values-good f from context asked asks bad)

-- the answer to it is told
pub look-told : (t : Telling) (request gram : List ℕ) (f : FrameParts) (s : ServerState) (keys : List Key) (from : Addr) (context : Context) (asked : Asked) (sent number : ℕ)
    → frame_at request ≡ f → FitsFrame f → IsListRequest f context.origin.0 → IsAskedOf f from asked ⊎ HasBadValues f from context asked
    → Contains (grams_of keys context sent (response_with (answer_of s.published asked context))) gram
    → IsTold t request gram (place_of number (response_with (answer_of s.published asked context)))
look-told t request gram f s keys from context asked sent number at fits asks looks among = by (is_refused s.published asked) among
  where
    nonce : IsNonceAsk f asked
    nonce = nonce-asked f from context asked asks looks

    grams : List (List ℕ)
    grams = grams_for s.published asked.head context asked.from asked.what

    by : (refuses : Bool) → Contains (grams_of keys context sent (response_with (cond refuses Unanswered (Given s.published.epoch grams)))) gram
        → IsTold t request gram (place_of number (response_with (cond refuses Unanswered (Given s.published.epoch grams))))
    by true none = absurd (among-none gram none)
    by false some =
        nonce-told t request gram f s.published asked.head (nonce_for context asked.from.ip) (record { at = at; fits = fits; repeats = nonce.repeats }) nonce.opcode
        (nonce-digits context.salt asked.from.ip (time_of context))
        (subst (λ (what : What). Contains (grams_for s.published asked.head context asked.from what) gram) nonce.what some)

-- a read stands at a place of what is told, where a server in this state answers it
pub record IsReadTaken (t : Telling) (f : FrameParts) (place : ℕ) (s : ServerState) (context : Context) (ask : ReadAsk) : Type 0 where
  pub telling : IsTelling t
  pub opcode : f.opcode ≡ OP_READ_MRU
  pub items : List Item
  pub text : IsItemText f.body items
  pub asks : IsReadOf items t.origin ask.request
  pub list : list_at t.history place ≡ listing_of s
  pub origin : t.origin ≡ context.origin.0
  pub nonce : t.nonce place ≡ nonce_for context ask.from.ip
  pub status : t.status place ≡ system_status_of s.published.system
  pub stands : slice_get t.history.moves place ≡ Some (read_move (read_reply s.published s.rows s.stamp ask context.moment) ask.request context.moment)

module _ (t : Telling) (request gram : List ℕ) (f : FrameParts) (place : ℕ) (s : ServerState) (context : Context) (ask : ReadAsk) (is : IsReadTaken t f place s context ask) (asked : IsAsked request f ask.head) where
  is_at : slice_get t.history.moves place ≡ Some (Reading ask.request context.moment) → IsReadAt t place f ask.request context.moment
  is_at stands = record { items = is.items; text = is.text; asks = is.asks; stands = stands }

  -- the answer to a read by its page is told
  page-by : (keys : List Key) (sent : ℕ) (page : Option PageOfList) → page_at (list_at t.history place) ask.request context.moment ≡ page
      → slice_get t.history.moves place ≡ Some (read_move (page_reply (system_status_of s.published.system) page) ask.request context.moment)
      → Contains (grams_of keys context sent (response_on ask.from ask.head (page_reply (system_status_of s.published.system) page))) gram
      → IsTold t request gram (place_of place (response_on ask.from ask.head (page_reply (system_status_of s.published.system) page)))
  page-by keys sent None none stands among = refused-told t request gram f ask.head place ask.request context.moment asked is.opcode (is_at stands) none among
  page-by keys sent (Some page) some stands among =
      page-told t request gram f ask.head place is.items ask.request context.moment page asked is.opcode (is_at stands)
      (record { telling = is.telling; asks = is.asks; stands = stands; is_page = some }) (rw is.status (status-fits s.published.system))
      (rw (is.nonce, is.origin, is.status) among)

  -- the answer to a read is told
  pub read-told : (keys : List Key) (sent : ℕ) → Contains (grams_of keys context sent (response_on ask.from ask.head (read_reply s.published s.rows s.stamp ask context.moment))) gram
      → IsTold t request gram (place_of place (response_on ask.from ask.head (read_reply s.published s.rows s.stamp ask context.moment)))
  read-told keys sent among = by (has_flag flags IGNORE || has_flag flags NOQUERY) (has_flag flags NOMRULIST) is.stands among
    where
      flags : ℕ
      flags = flags_of s.published.rules ask.from.ip

      page : Option PageOfList
      page = page_of s.rows ask.request (drawn s.stamp context.moment)

      reply : Bool → Bool → ReadReply
      reply ignores prohibits = cond ignores Ignored (cond prohibits Prohibited (page_reply (system_status_of s.published.system) page))

      by : (ignores prohibits : Bool) → slice_get t.history.moves place ≡ Some (read_move (reply ignores prohibits) ask.request context.moment)
          → Contains (grams_of keys context sent (response_on ask.from ask.head (reply ignores prohibits))) gram
          → IsTold t request gram (place_of place (response_on ask.from ask.head (reply ignores prohibits)))
      by true prohibits stands none = absurd (among-none gram none)
      by false true stands among = prohibited-told t request gram f ask.head asked is.opcode among
      by false false stands among = page-by keys sent page (ap (λ (list : Listing). page_at list ask.request context.moment) is.list) stands among
