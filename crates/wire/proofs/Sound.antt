-- Whatever a listing takes, its next read is one that a server reads.
use Rattle.std.proofs.Common.{◌≡◌, ℕ, ◌-◌, cond, Option, Some, None, List, [], ◌∷◌, length, map, refl}
use Rattle.std.proofs.lemmas.Bool.{cond_both}
use Rattle.std.specs.List.{list_any}
use Rattle.mru_items.specs.declared.answer.PageAnswer.{PageAnswer}
use Rattle.mru_items.specs.declared.pair.Pair.{Pair}
use Rattle.mru_items.specs.Answers.{answer_told, nonce_told}
use Rattle.mru_items.specs.Queries.{ArePairs, IsPair, IsQuery}
use Rattle.mrulist_coverage.proofs.FrontLemmas.{AllByRecursion-take}
use Rattle.mrulist_reader.specs.Readers.{ReaderParts, after_answer, after_nonce, after_page, after_refusal, after_text, backed_off, cut_behind, ended_badly, is_asked, is_turned_down, listing_dialogue, named_by, one_more, pair_of, same_pair, up_to_last}
use Rattle.mrulist_reader.specs.declared.listing.End.TheVariants.{Refused}
use Rattle.ntpq_client.specs.declared.news.News.{News}
use Rattle.ntpq_client.specs.declared.news.News.TheVariants.{Nothing, Answered, Denied, Quiet}
use Rattle.ntpq_client.specs.Dialogues.{told}
use Rattle.recency.proofs.ListLemmas.{AllByRecursion-append}
use Rattle.wire.proofs.Widths.{IsBare, IsReadPage, bare-told, read-told}

-- a nonce, if there is one, stands in a request without quotes
abbrev pub IsBareIfAny : Option (List ℕ) → Type 0
IsBareIfAny None = Unit {0}
IsBareIfAny (Some nonce) = IsBare nonce

-- a listing asks for a page that may be asked for, its nonce stands without quotes, and its trail has addresses and times
pub record IsSound (r : ReaderParts) : Type 0 where
  pub query : IsQuery r.query
  pub nonce : IsBareIfAny r.nonce
  pub trail : ArePairs r.trail

up_to-pairs : (pair : Pair) (pairs : List Pair) → ArePairs pairs → ArePairs (up_to_last pair pairs)
up_to-pairs pair [] all = tt
up_to-pairs pair (one ∷ pairs) all =
    cond_both (list_any (same_pair pair) pairs) (one ∷ up_to_last pair pairs) (cond (same_pair pair one) (one ∷ []) []) ArePairs
    (λ _. (all.0, up_to-pairs pair pairs all.1))
    (λ _. cond_both (same_pair pair one) (one ∷ []) [] ArePairs (λ _. (all.0, tt)) (λ _. tt))

cut-pairs : (older : Option Pair) (trail : List Pair) → ArePairs trail → ArePairs (cut_behind older trail)
cut-pairs None trail all = tt
cut-pairs (Some pair) trail all = up_to-pairs pair trail all

ended-sound : (r : ReaderParts) → IsSound r → IsSound (ended_badly r)
ended-sound r sound = record { query = sound.query; nonce = sound.nonce; trail = sound.trail }

nonce-sound : (nonce : Option (List ℕ)) (r : ReaderParts) → ((one : List ℕ) → nonce ≡ Some one → IsBare one) → IsSound r → IsSound (after_nonce nonce r)
nonce-sound None r told sound = ended-sound r sound
nonce-sound (Some nonce) r told sound = record { query = sound.query; nonce = told nonce refl; trail = sound.trail }

page-sound : (page : PageAnswer) (r : ReaderParts) → IsReadPage page → IsSound r → IsSound (after_page page r)
page-sound page r read sound = record {
  query = sound.query;
  nonce = read.nonce;
  trail = AllByRecursion-append IsPair (cut_behind page.older r.trail) (map pair_of page.rows) (cut-pairs page.older r.trail sound.trail) read.pairs;
}

answer-sound : (answer : Option PageAnswer) (r : ReaderParts) → ((page : PageAnswer) → answer ≡ Some page → IsReadPage page) → IsSound r → IsSound (after_answer answer r)
answer-sound None r told sound = ended-sound r sound
answer-sound (Some page) r told sound =
    cond_both (is_asked (named_by r) page) (after_page page r) (ended_badly r) IsSound
    (λ _. page-sound page r (told page refl) sound) (λ _. ended-sound r sound)

text-sound : (nonce : Option (List ℕ)) (text : List ℕ) (r : ReaderParts) → IsSound r → IsSound (after_text nonce text r)
text-sound None text r sound = nonce-sound (nonce_told text) r (bare-told text) sound
text-sound (Some nonce) text r sound = answer-sound (answer_told text) r (read-told text) sound

refusal-sound : (code : ℕ) (r : ReaderParts) → IsSound r → IsSound (after_refusal code r)
refusal-sound code r sound =
    cond_both (is_turned_down r code) (record r { trail = backed_off r; refused = one_more r.refused }) (record r { end = Some (Refused code) }) IsSound
    (λ _. record {
      query = sound.query;
      nonce = sound.nonce;
      trail = AllByRecursion-take IsPair (length r.trail - length (named_by r)) r.trail sound.trail;
    })
    (λ _. record { query = sound.query; nonce = sound.nonce; trail = sound.trail })

-- whatever news it hears, it stays so
pub told-sound : (news : News) (r : ReaderParts) → IsSound r → IsSound (told listing_dialogue news r)
told-sound Nothing r sound = sound
told-sound (Answered status text) r sound = text-sound r.nonce text r sound
told-sound (Denied code) r sound = refusal-sound code r sound
told-sound Quiet r sound = record { query = sound.query; nonce = tt; trail = sound.trail }
