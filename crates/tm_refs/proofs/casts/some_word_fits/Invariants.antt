use Rattle.tm_refs.proofs.casts.some_word_fits.Given as goal

-- the ledger of the one counter
abbrev pub ghosts-find : goal.ghosts-find
ghosts-find g a = record { name = a.blank.name; parts = a.blank.parts }
