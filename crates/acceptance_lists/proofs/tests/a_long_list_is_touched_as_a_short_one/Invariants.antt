use Rattle.acceptance_lists.proofs.tests.a_long_list_is_touched_as_a_short_one.Given as goal

abbrev pub ghosts-long : goal.ghosts-long
ghosts-long g a = record { name = a.blank.name; parts = a.blank.parts }
