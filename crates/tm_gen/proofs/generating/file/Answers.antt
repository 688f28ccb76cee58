use Rattle.std.proofs.Common.{rules}
use Rattle.tm_gen.specs.Generated.{generated_file}
use Rattle.tm_gen.proofs.generating.file.Goals as goal

pub returns : goal.returns
unfolding generated_file
returns c = search rules
