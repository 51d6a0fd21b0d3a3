use Rattle.mru_items.proofs.answer_writing.put_older.Goals as goal

pub returns-in-Some : goal.returns-in-Some
returns-in-Some c = rw c.in-Some.is c.put_pair.ensures
