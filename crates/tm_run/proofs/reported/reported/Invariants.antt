use Rattle.tm_run.proofs.reported.reported.Given as goal

abbrev pub ghosts-reported_by : goal.ghosts-reported_by
ghosts-reported_by a = record { name = a.blank.name; parts = a.blank.parts }
