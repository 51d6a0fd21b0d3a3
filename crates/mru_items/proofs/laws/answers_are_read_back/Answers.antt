use Rattle.mru_items.proofs.AnswerLaws.{answer_read, answer_short, answer_written}
use Rattle.mru_items.proofs.laws.answers_are_read_back.Goals as goal

pub returns : goal.returns
returns c =
    let answer = c.args.answer.now in
    record {
      told = answer_read answer c.requires.answer c.requires.rows c.requires.digits;
      writable = answer_written answer c.requires.answer c.requires.rows c.requires.digits;
      short = answer_short answer c.requires.answer c.requires.rows c.requires.digits;
    }
