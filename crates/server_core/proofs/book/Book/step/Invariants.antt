use Rattle.server_core.proofs.book.Book.step.Given as goal

-- it counts nothing
abbrev pub ghosts-act : goal.ghosts-act
ghosts-act a = record { name = a.blank.name; parts = a.blank.parts }
