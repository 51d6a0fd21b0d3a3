use Rattle.acceptance_lists.proofs.tests.drawn_operations_have_the_answers_of_a_plain_list.Given as goal

abbrev pub ghosts-alike : goal.ghosts-alike
ghosts-alike g a = record { name = a.blank.name; parts = a.blank.parts }
