use Rattle.std.proofs.Common.{append_assoc, Some, [], ◌∷◌, ◌∙◌, sym}
use Rattle.std.specs.List.{enumerate_from, flat_map}
use Rattle.tm_names.proofs.holding_laws.HeldLemmas.{held_in_array, held_in_named, held_in_tuple, held_in_wrap}
use Rattle.tm_names.specs.Held.{argument_held}
use Rattle.tm_names.specs.Source.{names_in}
use Rattle.tm_names.proofs.faults.holding.Holding.+holding.Goals as goal

pub add_held-returns-in-Tuple : goal.add_held-returns-in-Tuple
add_held-returns-in-Tuple t c = rw (c.in-Tuple.is, held_in_tuple, ← c.as_slice.ensures) c.add_parts.ensures

pub add_held-returns-in-Array : goal.add_held-returns-in-Array
add_held-returns-in-Array t c = rw (c.in-Array.is, held_in_array, ← c.get.ensures) c.add_held.ensures

pub add_held-returns-else-not-is_holder : goal.add_held-returns-else-not-is_holder
add_held-returns-else-not-is_holder t c =
    rw (c.in-Wrap.is, held_in_wrap, ← c.if-not-is_holder.ensures, ← c.get-in-Wrap.ensures) c.add_held-in-Wrap.ensures

pub add_held-returns-in_ok-add-in-Named : goal.add_held-returns-in_ok-add-in-Named
add_held-returns-in_ok-add-in-Named t c =
    let meant = sym c.meaning.ensures.meant ∙ c.in-Some.is in
    let others = flat_map (argument_held (names_in c.args.self.now.file.source) c.args.self.now.file.definitions.now.decls.now c.args.self.now.own.now c.args.self.now.types.now (Some c.in-Some.meaning))
    (enumerate_from 0 c.in-Named.arguments) in
    let joined = append_assoc c.args.found.now (c.in-Some.meaning ∷ []) others in
    rw (c.in-Named.is, held_in_named, meant, ← joined, ← c.in_ok-add-in-Named.ensures, ← c.as_slice-in-Named.ensures) c.add_arguments.ensures
