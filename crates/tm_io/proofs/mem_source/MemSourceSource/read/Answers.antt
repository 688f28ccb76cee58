use Rattle.std.proofs.Common.{◌+◌, ◌∙◌, sym, arith, length-append, length-take, length-drop, ℕ}
use Rattle.std.proofs.lemmas.List.{drop_all}
use Rattle.std.proofs.lemmas.Grind.{common_steps}
use Rattle.tm_io.proofs.ToldLemmas.{gives_front}
use Rattle.tm_io.proofs.mem_source.MemSourceSource.read.Goals as goal

pub returns-clause-bytes : goal.returns-clause-bytes
returns-clause-bytes c =
    let bytes = c.self.inside.bytes.items in
    let start = c.self.inside.start in
    let count = c.min-count.result in (
      sym c.self.view_is ∙ gives_front bytes c.args.buf.now c.copy_from_slice.new.self start count
          (grind (arith, common_steps)) (omega (arith, length-take {A = ℕ})),
      λ none some. drop_all (start + count) bytes (omega (arith, length-append {A = ℕ}, length-take {A = ℕ}, length-drop {A = ℕ})),
    )
