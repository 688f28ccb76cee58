use Rattle.tm_layout.proofs.filling.row_of_def.Goals as goal

pub returns : goal.returns
returns c = λ id variants for facts. record {
  facts = c.defined-facts.ensures id variants for facts;
  places = λ none. c.in_ok-places.ensures id variants for facts none;
}
