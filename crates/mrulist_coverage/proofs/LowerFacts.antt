-- What the law takes of lower crates: what is written is read back, and a read names four pairs at least.
use Rattle.std.specs.Prelude.{◌≡◌, ℕ, ◌^◌, ◌<◌, ◌≤◌, min, Some, List, length, Contains}
use Rattle.std.specs.List.{AllByRecursion}
use Rattle.hex.specs.Hex.{lower_digits}
use Rattle.mode6_frame.specs.declared.items.Item.{Item}
use Rattle.mode6_frame.specs.Items.{IsItemText}
use Rattle.mode6_frame.specs.ItemTexts.{IsWritable}
use Rattle.mru_items.specs.declared.answer.PageAnswer.{PageAnswer}
use Rattle.mru_items.specs.declared.pair.Pair.{Pair}
use Rattle.mru_items.specs.declared.pair.TheConstants.{MAX_PAIRS}
use Rattle.mru_items.specs.declared.query.Query.{Query}
use Rattle.mru_items.specs.declared.query.ReadRequest.{ReadRequest}
use Rattle.mru_items.specs.Answers.{IsAnswer, answer_in, answer_items}
use Rattle.mru_items.specs.Queries.{ArePairs, ArePairsTold, IsQuery, IsReadOf, named_of, read_of, request_text}
use Rattle.mru_items.proofs.AnswerLaws as Answers
use Rattle.mru_items.proofs.RequestLaws as Requests
use Rattle.mru_items.proofs.RoomLemmas.{four-named}
use Rattle.mrulist_coverage.specs.Tellings.{IsNonce}
use Rattle.net_addr.specs.Addresses.{IsAddr}

-- answers and requests are read back
pub record LowerLaws : Type 0 where
  pub answer_written : (a : PageAnswer) → IsAnswer a → length a.rows < 2 ^ 64 → AllByRecursion (λ digit. Contains lower_digits digit) a.nonce → AllByRecursion IsWritable (answer_items a)
  pub answer_read : (a : PageAnswer) → IsAnswer a → length a.rows < 2 ^ 64 → AllByRecursion (λ digit. Contains lower_digits digit) a.nonce → answer_in (answer_items a) ≡ Some a
  pub request_read : (nonce : List ℕ) (query : Query) (stamps pairs : List Pair) (origin : ℕ) (items : List Item) (read : ReadRequest)
      → IsNonce nonce → IsQuery query → origin < 2 ^ 64 → AllByRecursion (λ pair. IsAddr pair.addr) pairs → ArePairsTold origin stamps pairs → length pairs ≤ MAX_PAIRS
      → IsItemText (request_text nonce (read_of query pairs)) items → IsReadOf items origin read
      → (read.filter ≡ query.filter) × ArePairsTold origin read.pairs pairs

-- so they are
pub lower-laws : LowerLaws
lower-laws = record {
  answer_written = Answers.answer_written;
  answer_read = Answers.answer_read;
  request_read = λ nonce query stamps pairs origin items read is. Requests.request_read nonce query stamps pairs origin items read is.length_is is.digits;
}

-- a read names four of the pairs that it may name, or all
pub record NamesFour : Type 0 where
  pub four_named : (query : Query) (pairs : List Pair) → IsQuery query → ArePairs pairs → min 4 (length pairs) ≤ length (named_of query pairs)

-- so it does
pub names-four : NamesFour
names-four = record { four_named = four-named }
