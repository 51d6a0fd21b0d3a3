use Rattle.recency.proofs.tests.a_sweep_drops_aged_rows_down_to_mindepth.Given as goal

abbrev pub ghosts-sweeps : goal.ghosts-sweeps
ghosts-sweeps g a = record { name = a.blank.name; parts = a.blank.parts }
