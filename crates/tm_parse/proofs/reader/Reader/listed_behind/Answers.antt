use Rattle.std.proofs.Common.{rules, ap, ◌∙◌}
use Rattle.tm_parse.proofs.reading.SoFar.{listed_same, listed_stops}
use Rattle.tm_parse.proofs.reader.Reader.listed_behind.Goals as goal
use Rattle.tm_parse.specs.Combinators.{mapped}

pub returns-in_err-found : goal.returns-in_err-found
returns-in_err-found g c =
    let stops = listed_stops (g.R.Rule.rule c.args.rule.now) c.args.found c.args.self.now.counts c.args.self.now.rest.now c.so_far_behind.new.self _ c.in_err-found.ensures in
    search (rules, stops)

pub returns : goal.returns
returns g c =
    listed_same (g.R.Rule.rule c.args.rule.now) c.args.found c.args.self.now.counts c.args.self.now.rest.now ∙ ap (mapped (λ v. v.0)) c.in_ok-found.ensures
