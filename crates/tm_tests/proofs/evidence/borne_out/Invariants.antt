use Rattle.tm_tests.proofs.evidence.borne_out.Given as goal

abbrev pub ghosts-borne_out_in : goal.ghosts-borne_out_in
ghosts-borne_out_in a = record { name = a.blank.name; parts = a.blank.parts }
