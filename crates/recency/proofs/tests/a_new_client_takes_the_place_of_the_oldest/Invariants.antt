use Rattle.recency.proofs.tests.a_new_client_takes_the_place_of_the_oldest.Given as goal

abbrev pub ghosts-replaces : goal.ghosts-replaces
ghosts-replaces g a = record { name = a.blank.name; parts = a.blank.parts }
