use Rattle.std.proofs.Common.{◌≡◌, ◌<◌, sym, ◌∙◌, arith}
use Rattle.std.proofs.lemmas.Bool.Decides.{nat_tests}
use Rattle.text_words.proofs.WordLemmas.{next_word, no_word}
use Rattle.text_words.proofs.words.Words.next.Goals as goal

pub returns-then-is_empty-clause-ended : goal.returns-then-is_empty-clause-ended
returns-then-is_empty-clause-ended c =
    let none : c.word_len.result ≡ 0 = grind (arith, nat_tests) in
    sym c.self.view_is ∙ (no_word _ _ c.split_at-2.result.1.now _ _ c.past_blanks.ensures.blanks c.split_at.ensures.back c.word_len.ensures.octets c.split_at-2.ensures.back none).0

pub returns-then-is_empty-clause-stays : goal.returns-then-is_empty-clause-stays
returns-then-is_empty-clause-stays c =
    let none : c.word_len.result ≡ 0 = grind (arith, nat_tests) in
    (no_word _ _ c.split_at-2.result.1.now _ _ c.past_blanks.ensures.blanks c.split_at.ensures.back c.word_len.ensures.octets c.split_at-2.ensures.back none).1

pub returns-clause-word : goal.returns-clause-word
returns-clause-word c =
    let some : 0 < c.word_len.result = grind (arith, nat_tests) in
    sym c.self.view_is ∙ next_word _ _ _ _ _ _ c.past_blanks.ensures.blanks c.split_at.ensures.back c.word_len.ensures.octets c.split_at-2.ensures.front c.split_at-2.ensures.back some c.word_len.ensures.within
