use Rattle.std.proofs.Common.{◌≡◌, drop, map}
use Rattle.tm_parse.specs.Spelling.{class_in}
use Rattle.tm_parse.specs.declared.class.Class.TheVariants.{Name}
use Rattle.tm_parse.proofs.classify.class_in.Given as goal

-- what stands behind the words so far decides
abbrev pub invariant-loop-known : goal.invariant-loop-known
invariant-loop-known l =
    class_in (map (λ x. (x.0.now, x.1)) (drop l.known-index l.fn.table)) Name l.fn.word
    ≡ class_in (map (λ x. (x.0.now, x.1)) l.fn.table) Name l.fn.word
