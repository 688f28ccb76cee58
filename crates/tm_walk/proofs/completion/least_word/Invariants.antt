use Rattle.std.proofs.Common.{◌≡◌, ◌-◌, take, length}
use Rattle.tm_walk.proofs.CompletionLemmas.{IsBegun}
use Rattle.tm_walk.proofs.completion.least_word.Given as goal

abbrev pub invariant-given : goal.invariant-given
invariant-given l = record {
  src : l.reading.src.now ≡ l.src;
  word : l.reading.word ≡ take l.cell-index l.cell-items;
}

abbrev pub invariant-rest : goal.invariant-rest
invariant-rest l = record {
  src : l.reading.src.now ≡ l.src;
  begun : IsBegun l.src l.cells l.reading.word;
}

abbrev pub decreases-rest : goal.decreases-rest
decreases-rest l = l.size - length l.reading.word
