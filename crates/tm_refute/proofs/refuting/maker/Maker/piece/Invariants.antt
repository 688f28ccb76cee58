use Rattle.tm_refute.proofs.refuting.maker.Maker.piece.Given as goal

-- the ledger of the one counter
abbrev pub ghosts-refused : goal.ghosts-refused
ghosts-refused a = record { name = a.blank.name; parts = a.blank.parts }
