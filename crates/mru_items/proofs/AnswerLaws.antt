-- The items of an answer: each is read back from its text and fits into a datagram, and together they tell the answer.
use Rattle.std.proofs.Common.{◌≡◌, ◌<◌, ◌^◌, Some, length}
use Rattle.std.specs.Prelude.{Contains}
use Rattle.std.specs.List.{AllByRecursion}
use Rattle.hex.specs.Hex.{lower_digits}
use Rattle.mode6_frame.specs.Cuts.{AreShort}
use Rattle.mode6_frame.specs.ItemTexts.{IsWritable}
use Rattle.mru_items.specs.declared.answer.PageAnswer.{PageAnswer}
use Rattle.mru_items.specs.Answers.{IsAnswer, answer_in, answer_items}
use Rattle.mru_items.proofs.BackLemmas.{answer-back}
use Rattle.mru_items.proofs.GoodLemmas.{good-answer, good-short, good-writable}

-- each item is read back from its text
pub answer_written : (a : PageAnswer) → IsAnswer a → length a.rows < 2 ^ 64 → AllByRecursion (λ digit. Contains lower_digits digit) a.nonce
    → AllByRecursion IsWritable (answer_items a)
answer_written a is few digits = good-writable (answer_items a) (good-answer a is few digits)

-- each fits into a datagram
pub answer_short : (a : PageAnswer) → IsAnswer a → length a.rows < 2 ^ 64 → AllByRecursion (λ digit. Contains lower_digits digit) a.nonce
    → AreShort (answer_items a)
answer_short a is few digits = good-short (answer_items a) (good-answer a is few digits)

-- and they tell the answer
pub answer_read : (a : PageAnswer) → IsAnswer a → length a.rows < 2 ^ 64 → AllByRecursion (λ digit. Contains lower_digits digit) a.nonce
    → answer_in (answer_items a) ≡ Some a
answer_read a is few digits = answer-back a is few
