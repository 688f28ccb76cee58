use Rattle.std.proofs.Common.{append_assoc, [], ◌∷◌, ◌++◌, map}
use Rattle.std.specs.List.{flat_map}
use Rattle.tm_names.specs.declared.faults.mentions.Mention.TheVariants.{Name, Life}
use Rattle.tm_names.specs.Mentions.{mentions_of}
use Rattle.tm_names.proofs.MentionLemmas.{mentions_in_array, mentions_in_named, mentions_in_ref, mentions_in_tuple, mentions_in_wrap}
use Rattle.tm_names.proofs.faults.mentioning.+mentioning.Goals as goal

pub add_mentions-returns-in-Tuple : goal.add_mentions-returns-in-Tuple
add_mentions-returns-in-Tuple t c = rw (c.in-Tuple.is, mentions_in_tuple, ← c.as_slice.ensures) c.add_all.ensures

pub add_mentions-returns-in-Array : goal.add_mentions-returns-in-Array
add_mentions-returns-in-Array t c = rw (c.in-Array.is, mentions_in_array, ← c.get.ensures) c.add_mentions.ensures

pub add_mentions-returns-in-Wrap : goal.add_mentions-returns-in-Wrap
add_mentions-returns-in-Wrap t c =
    rw (c.in-Wrap.is, mentions_in_wrap, ← c.get-in-Wrap.ensures) c.add_mentions-in-Wrap.ensures

pub add_mentions-returns-in_ok-add_lives-in-Named : goal.add_mentions-returns-in_ok-add_lives-in-Named
add_mentions-returns-in_ok-add_lives-in-Named t c =
    let mention = Name (record { place = c.in-Named.place; lifetimes = c.len.result; types = c.len-in-Named.result }) in
    let lives = map Life c.in-Named.lifetimes in
    let others = flat_map mentions_of c.in-Named.arguments in
    let joined = append_assoc c.args.found.now (mention ∷ []) (lives ++ others) in
    let lives_joined = append_assoc (c.args.found.now ++ (mention ∷ [])) lives others in
    rw (
      c.in-Named.is,
      mentions_in_named,
      ← c.len.ensures,
      ← c.len-in-Named.ensures,
      ← joined,
      ← lives_joined,
      ← c.in_ok-add-in-Named.ensures,
      ← c.as_slice-in-Named.ensures,
      ← c.in_ok-add_lives-in-Named.ensures,
      ← c.as_slice-in-Named-2.ensures,
    ) c.add_all-in-Named.ensures

pub add_mentions-returns-in_ok-add-in-Ref : goal.add_mentions-returns-in_ok-add-in-Ref
add_mentions-returns-in_ok-add-in-Ref t c =
    let joined = append_assoc c.args.found.now (Life c.in-Ref.life ∷ []) (mentions_of c.in-Ref.pointee) in
    rw (c.in-Ref.is, mentions_in_ref, ← joined, ← c.in_ok-add-in-Ref.ensures, ← c.get-in-Ref.ensures) c.add_mentions-in-Ref.ensures
