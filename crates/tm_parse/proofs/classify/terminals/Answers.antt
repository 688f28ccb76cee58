use Rattle.tm_parse.proofs.bounds.Spans.{token_spans}
use Rattle.tm_parse.proofs.classify.terminals.Goals as goal

pub terminal-requires-clause-before : goal.terminal-requires-clause-before
terminal-requires-clause-before c =
    (token_spans c.args.text.now c.args.tokens.now c.utf8.text c.requires c.loop-place.place _ c.loop-place-test.true).counts

pub terminal-requires-clause-ordered : goal.terminal-requires-clause-ordered
terminal-requires-clause-ordered c =
    (token_spans c.args.text.now c.args.tokens.now c.utf8.text c.requires c.loop-place.place _ c.loop-place-test.true).ordered

pub terminal-requires-clause-within : goal.terminal-requires-clause-within
terminal-requires-clause-within c =
    (token_spans c.args.text.now c.args.tokens.now c.utf8.text c.requires c.loop-place.place _ c.loop-place-test.true).within
