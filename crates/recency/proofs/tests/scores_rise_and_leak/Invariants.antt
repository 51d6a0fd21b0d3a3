use Rattle.recency.proofs.tests.scores_rise_and_leak.Given as goal

abbrev pub ghosts-scores : goal.ghosts-scores
ghosts-scores g a = record { name = a.blank.name; parts = a.blank.parts }
