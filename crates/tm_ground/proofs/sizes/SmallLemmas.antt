-- Where no type that occurs has too many nodes, each has few, and its parts occur.
use Rattle.std.proofs.Common.{◌≡◌, ◌≤◌, Bool, true, false, refl, Contains, arith}
use Rattle.std.proofs.lemmas.Bool.{leb-true}
use Rattle.tm_names.specs.declared.resolved.Resolved.{Resolved}
use Rattle.tm_ground.specs.Closed.{Closed, prim, never, tuple, array, nonzero, wrap, named, ref, nodes}
use Rattle.tm_ground.specs.Limits.{PassesNodes}
use Rattle.tm_ground.specs.Occurs.{Occurs, is_part, is_small, node_limit, parts_of}

-- a type is a node itself
pub some-node : (c : Closed) → 1 ≤ nodes c
unfolding nodes
some-node (prim p) = omega arith
some-node never = omega arith
some-node (tuple cs) = omega arith
some-node (array c n) = omega arith
some-node (nonzero p) = omega arith
some-node (wrap w c) = omega arith
some-node (named def regions args) = omega arith
some-node (ref region mutable c) = omega arith

module _ (resolved : Resolved) (small : ¬ PassesNodes resolved) where
  occurring-small : (c : Closed) → Occurs resolved c → is_small c ≡ true
  occurring-small c o = by (is_small c) refl
    where
      by : (b : Bool) → is_small c ≡ b → b ≡ true
      by true e = refl
      by false e = absurd (small (record { greatest = c; occurs = o; passes = e }))

  pub occurring-short : (c : Closed) → Occurs resolved c → nodes c ≤ node_limit
  occurring-short c o = leb-true (nodes c) node_limit (occurring-small c o)

  pub occurring-part : (whole c : Closed) → Occurs resolved whole → Contains (parts_of resolved whole) c → Occurs resolved c
  occurring-part whole c o h = is_part whole c o (occurring-small whole o) h
