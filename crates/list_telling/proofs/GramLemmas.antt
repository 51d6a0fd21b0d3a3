-- The datagrams of an answer are read back, and tell what the answer is.
use Rattle.std.proofs.Common.{◌≡◌, ℕ, zero, suc, ◌+◌, ◌^◌, ◌<◌, ◌≤◌, Option, Some, None, List, [], ◌∷◌, length, map, refl, sym, ap, subst, ◌∙◌, inl, inr, arith}
use Rattle.std.specs.List.{AllByRecursion, Contains}
use Rattle.std.proofs.lemmas.Bool.{cond-true, le-leb}
use Rattle.std.proofs.lemmas.List.{append-nil}
use Rattle.std.proofs.lemmas.List.Sums.{sum_by-cons}
use Rattle.list_telling.specs.Histories.{IsTold}
use Rattle.mode6_frame.proofs.CutLemmas.{parts-lie, parts-short}
use Rattle.mode6_frame.proofs.FrameLemmas.{frame_at-padded}
use Rattle.mode6_frame.specs.Cuts.{LieFrom, Part, octets_in, part_frame, parts_cut, whole_part}
use Rattle.mode6_frame.specs.Frames.{FitsFrame, FrameParts, error_parts, spelled_frame}
use Rattle.mode6_frame.specs.ItemTexts.{plain_text}
use Rattle.mode6_frame.specs.Places.{frame_at}
use Rattle.mode6_frame.specs.declared.errors.TheConstants.{BAD_NAME, PROHIBITED}
use Rattle.mode6_frame.specs.declared.items.Item.{Item}
use Rattle.mode6_frame.specs.declared.message.Head.{Head}
use Rattle.mode6_frame.specs.declared.message.TheConstants.{MAX_BODY}
use Rattle.mode6_frame.specs.declared.operations.TheConstants.{OP_READ_MRU, OP_READ_NONCE}
use Rattle.mru_items.specs.declared.query.ReadRequest.{ReadRequest}
use Rattle.mru_read.specs.Histories.{list_at, page_at}
use Rattle.mru_read.specs.Pages.{grams_of_page, items_of_page}
use Rattle.mru_read.specs.declared.pages.Page.{Page}
use Rattle.mrulist_coverage.proofs.LowerFacts.{lower-laws}
use Rattle.mrulist_coverage.proofs.NonceLemmas.{nonce-short}
use Rattle.mrulist_coverage.proofs.PageLemmas.{IsPageOf, page-IsServed}
use Rattle.mrulist_coverage.specs.Tellings.{Answers, IsNonce, IsOfPage, IsReadAt, Telling}
use Rattle.server_core.specs.Control.{IsHeadOf}
use Rattle.server_core.specs.ReadReplies.{head_of_page}
use Rattle.sys_vars.specs.Answers.{error_octets, head_about, nonce_grams, nonce_item}
use Rattle.sys_vars.specs.Status.{system_status_of}
use Rattle.sys_vars.specs.declared.published.Record.{Record}
use Rattle.sys_vars.specs.declared.subject.Subject.TheVariants.{System}
use Rattle.sys_vars.specs.declared.system.System.{System as SystemValues}

-- the one that is among one
pub among-one : {X : Type 0} (x y : X) → Contains (x ∷ []) y → y ≡ x
among-one x y (zero, within, there) = sym there
among-one x y (suc k, within, there) = absurd (omega arith)

-- none is among none
pub among-none : {X : Type 0} (y : X) → Contains [] y → ⊥
among-none y (k, within, there) = absurd (omega arith)

-- what is among the values of a function is one
among-map : {X Y : Type 0} (f : X → Y) (xs : List X) (y : Y) → Contains (map f xs) y → (x : X) × Contains xs x × (y ≡ f x)
among-map f [] y (k, within, there) = absurd (omega arith)
among-map f (x ∷ xs) y (zero, within, there) = (x, (zero, omega arith, refl), sym there)
among-map f (x ∷ xs) y (suc k, within, there) =
    let (found, (place, below, at), is) = among-map f xs y (k, omega arith, there) in
    (found, (suc place, omega arith, at), is)

-- what is so of each is so of one among them
each-among : {X : Type 0} (P : X → Type 0) (xs : List X) (x : X) → AllByRecursion P xs → Contains xs x → P x
each-among P [] x each (k, within, there) = absurd (omega arith)
each-among P (first ∷ xs) x each (zero, within, there) = subst P there each.0
each-among P (first ∷ xs) x each (suc k, within, there) = each-among P xs x each.1 (k, omega arith, there)

-- parts that lie end to end begin within their octets
lies-within : (place : ℕ) (parts : List Part) → LieFrom place parts → (part : Part) → Contains parts part → part.offset ≤ place + octets_in parts
lies-within place [] none part among = absurd none
lies-within place (first ∷ []) lies part among =
    let same = ap (λ (p : Part). p.offset) (among-one first part among) in
    omega (arith, same, lies.0)
lies-within place (first ∷ next ∷ parts) (at, more, rest) part (zero, within, there) =
    let same = ap (λ (p : Part). p.offset) there in
    omega (arith, same, at)
lies-within place (first ∷ next ∷ parts) (at, more, rest) part (suc k, within, there) =
    let later = lies-within (place + length first.body) (next ∷ parts) rest part (k, omega arith, there) in
    omega (arith, later, sum_by-cons (λ (p : Part). length p.body) first (next ∷ parts))

-- what spells a control message is read back
spelled-back : (f : FrameParts) → FitsFrame f → frame_at (spelled_frame f) ≡ f
spelled-back f fits = ap frame_at (sym (append-nil (spelled_frame f))) ∙ frame_at-padded f [] fits

-- the status word of a system has 16 bits
pub status-fits : (system : SystemValues) → system_status_of system < 2 ^ 16
status-fits system = omega (arith, system.leap_in, system.source_in, system.events_in, system.code_in)

-- a request is a control message, whose answers repeat a head
pub record IsAsked (request : List ℕ) (f : FrameParts) (head : Head) : Type 0 where
  pub at : frame_at request ≡ f
  pub fits : FitsFrame f
  pub repeats : IsHeadOf f head

-- a datagram that spells an answer is told
told-by : (t : Telling) (request gram : List ℕ) (f g : FrameParts) (place : Option ℕ) → frame_at request ≡ f → FitsFrame g → gram ≡ spelled_frame g → g.sequence ≡ f.sequence
    → ((floor : ℕ) → ((number : ℕ) → place ≡ Some number → floor ≤ number) → Answers t f floor place g) → IsTold t request gram place
told-by t request gram f g place at fits is same answers =
    let back : frame_at gram ≡ g = ap frame_at is ∙ spelled-back g fits in
    record {
      sequence = ap (λ (x : FrameParts). x.sequence) back ∙ same ∙ sym (ap (λ (x : FrameParts). x.sequence) at);
      answers = λ floor below.
          subst (λ (x : FrameParts). Answers t x floor place (frame_at gram)) (sym at)
          (subst (λ (x : FrameParts). Answers t f floor place x) (sym back) (answers floor below));
    }

-- an error response has numbers of their widths
error-fits : (f : FrameParts) (head : Head) (code : ℕ) → FitsFrame f → IsHeadOf f head → code < 2 ^ 8 → FitsFrame (error_parts head code)
error-fits f head code fits is small = record {
  leap = omega arith;
  version = omega (arith, head.version_in);
  opcode = omega (arith, head.opcode_in);
  sequence = omega (arith, is.sequence, fits.sequence);
  status = omega (arith, small);
  assoc = omega (arith, is.assoc, fits.assoc);
  offset = omega arith;
  body = omega arith;
}

-- a part of an answer has
part-fits : (f : FrameParts) (head : Head) (part : Part) → FitsFrame f → head.sequence ≡ f.sequence → head.status < 2 ^ 16 → head.assoc < 2 ^ 16 → part.offset < 2 ^ 16 → length part.body ≤ MAX_BODY
    → FitsFrame (part_frame head part)
part-fits f head part fits sequence status assoc offset short = record {
  leap = omega arith;
  version = omega (arith, head.version_in);
  opcode = omega (arith, head.opcode_in);
  sequence = omega (arith, sequence, fits.sequence);
  status = status;
  assoc = assoc;
  offset = offset;
  body = short;
}

-- a prohibited read is told
pub prohibited-told : (t : Telling) (request gram : List ℕ) (f : FrameParts) (head : Head) → IsAsked request f head → f.opcode ≡ OP_READ_MRU → Contains (error_octets head PROHIBITED ∷ []) gram → IsTold t request gram None
prohibited-told t request gram f head is reads among =
    told-by t request gram f (error_parts head PROHIBITED) None is.at (error-fits f head PROHIBITED is.fits is.repeats (omega arith))
    (among-one (error_octets head PROHIBITED) gram among) is.repeats.sequence
    (λ floor below. inr (reads, (refl, refl)))

-- a read that is refused is told
pub refused-told : (t : Telling) (request gram : List ℕ) (f : FrameParts) (head : Head) (place : ℕ) (read : ReadRequest) (moment : ℕ) → IsAsked request f head → f.opcode ≡ OP_READ_MRU
    → IsReadAt t place f read moment → page_at (list_at t.history place) read moment ≡ None → Contains (error_octets head BAD_NAME ∷ []) gram → IsTold t request gram (Some place)
refused-told t request gram f head place read moment is reads is_at none among =
    let g = error_parts head BAD_NAME in
    told-by t request gram f g (Some place) is.at (error-fits f head BAD_NAME is.fits is.repeats (omega arith))
    (among-one (error_octets head BAD_NAME) gram among) is.repeats.sequence
    (λ floor below.
    (reads, below place refl, record { read = read; moment = moment; is_at = is_at; of_page = subst (λ (page : Option Page). IsOfPage t place page g) (sym none) (refl, refl) }))

-- a text that fits is one part
one-part : (tag : ℕ) (items : List Item) → length (plain_text items) ≤ MAX_BODY → parts_cut tag items ≡ whole_part (plain_text items) ∷ []
unfolding parts_cut
one-part tag items fits = cond-true _ _ _ (le-leb _ _ fits)

-- a nonce is told
pub nonce-told : (t : Telling) (request gram : List ℕ) (f : FrameParts) (rec : Record) (head : Head) (nonce : List ℕ) → IsAsked request f head → f.opcode ≡ OP_READ_NONCE → IsNonce nonce
    → Contains (nonce_grams rec head nonce) gram → IsTold t request gram None
nonce-told t request gram f rec head nonce is asks is_nonce among =
    let items = nonce_item nonce ∷ [] in
    let short = nonce-short nonce is_nonce in
    let (part, among_parts, spelled) = among-map (λ part. spelled_frame (part_frame (head_about rec System head) part)) (parts_cut rec.epoch items) gram among in
    let whole : part ≡ whole_part (plain_text items) = among-one (whole_part (plain_text items)) part (subst (λ (parts : List Part). Contains parts part) (one-part rec.epoch items short) among_parts) in
    let g = part_frame (head_about rec System head) (whole_part (plain_text items)) in
    told-by t request gram f g None is.at
    (part-fits f (head_about rec System head) (whole_part (plain_text items)) is.fits is.repeats.sequence (status-fits rec.system) (omega (arith, is.repeats.assoc, is.fits.assoc)) (omega arith) short)
    (spelled ∙ ap (λ (p : Part). spelled_frame (part_frame (head_about rec System head) p)) whole) is.repeats.sequence
    (λ floor below. inl (asks, (system_status_of rec.system, nonce, is_nonce, (refl, refl, record { offset = refl; more = refl; body = refl }))))

-- a datagram of a page is told
pub page-told : (t : Telling) (request gram : List ℕ) (f : FrameParts) (head : Head) (place : ℕ) (items : List Item) (read : ReadRequest) (moment : ℕ) (page : Page) → IsAsked request f head → f.opcode ≡ OP_READ_MRU
    → IsReadAt t place f read moment → IsPageOf t place items read moment page → t.status place < 2 ^ 16
    → Contains (grams_of_page page (t.nonce place) t.origin (head_of_page head (t.status place))) gram → IsTold t request gram (Some place)
page-told t request gram f head place items read moment page is reads is_at of_read status among =
    let its = items_of_page page (t.nonce place) t.origin in
    let about = head_of_page head (t.status place) in
    let (time, written, cuttable) = page-IsServed lower-laws t place items read moment page of_read in
    let (part, among_parts, spelled) = among-map (λ part. spelled_frame (part_frame about part)) (parts_cut page.now its) gram among in
    let offset = lies-within 0 (parts_cut page.now its) (parts-lie page.now its) part among_parts in
    let short = each-among (λ (p : Part). length p.body ≤ MAX_BODY) (parts_cut page.now its) part (parts-short page.now its cuttable.short) among_parts in
    let g = part_frame about part in
    told-by t request gram f g (Some place) is.at
    (part-fits f about part is.fits is.repeats.sequence status (omega arith) (omega (arith, offset, cuttable.placed)) short) spelled is.repeats.sequence
    (λ floor below. (
      reads,
      below place refl,
      record {
        read = read;
        moment = moment;
        is_at = is_at;
        of_page = subst (λ (p : Option Page). IsOfPage t place p g) (sym of_read.is_page) (refl, refl, (part, among_parts, record { offset = refl; more = refl; body = refl }));
      },
    ))
