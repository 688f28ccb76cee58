-- The text of a type by its numbers is that of the closed type, whatever the numbers are.
use Rattle.std.proofs.Common.{◌≡◌, ℕ, zero, suc, ◌≤◌, refl, ap, ◌∙◌, if◌then◌else◌, List, [], ◌∷◌, ◌++◌, map, slice_get, arith}
use Rattle.std.specs.Prelude.{codes, decimal}
use Rattle.tm_base.specs.declared.definition.Bound.{Bound}
use Rattle.tm_base.specs.declared.definition.NamedRow.{NamedRow}
use Rattle.tm_base.specs.declared.definition.RefRow.{RefRow}
use Rattle.tm_base.specs.declared.ground.Ground.{Ground}
use Rattle.tm_base.specs.declared.world.World.{World}
use Rattle.tm_base.specs.Spelled.{Spelled, spell, spelled_all, spelled_within, follow_name, follow_row, following_limit}
use Rattle.tm_base.specs.Tables.{Tables}
use Rattle.tm_base.specs.Texts.{spelled_text, element_texts, text_of, tuple_text, applied, def_text, wrapper_text, region_text}
use Rattle.tm_base.specs.Worlds.{tables_of}
use Rattle.tm_base.proofs.GroundLemmas.{spell-Tuple, spell-Array, spell-Wrap}
use Rattle.tm_names.specs.declared.resolved.Resolved.{Resolved}
use Rattle.tm_ground.specs.Belongs.{StandsFor, EachStandsFor}
use Rattle.tm_ground.specs.Closed.{Closed, Elements, prim, never, tuple, array, nonzero, wrap, named, ref, no_elements, element, nodes, nodes_in}
use Rattle.tm_ground.specs.ClosedTexts.{closed_text, closed_texts}
use Rattle.tm_ground.specs.Numbered.{IsNumbered}
use Rattle.tm_ground.specs.Occurs.{node_limit}
use Rattle.tm_ground.specs.Rows.{IsWorldOf}
use Rattle.tm_ground.proofs.sizes.EndsLemmas.{followed, followed_name}
use Rattle.tm_ground.proofs.sizes.SmallLemmas.{some-node}
use Rattle.tm_ground.proofs.numbers.StandsLemmas.{stands}

module _ (resolved : Resolved) (bounds : List Bound) (rows : List NamedRow) (ref_rows : List RefRow) where
  abbrev tables : Tables
  tables = record { profile = resolved.profile; defs = resolved.defs; regions = resolved.regions; bounds = bounds; named = rows; refs = ref_rows }

  abbrev spelt : ℕ → Ground → Spelled
  spelt m = spell (followed_name rows ref_rows m) (followed rows ref_rows m)

  abbrev TextWithin : ℕ → Type 0
  TextWithin m = (c : Closed) (g : Ground) → StandsFor rows ref_rows c g → nodes c ≤ m → spelled_text tables (spelled_within m rows ref_rows g) ≡ closed_text resolved c

  -- the arguments of a named type, each of which has fewer nodes than it
  text-args : (m : ℕ) → TextWithin m → (cs : Elements) (gs : List Ground) → EachStandsFor rows ref_rows cs gs → nodes_in cs ≤ m → element_texts tables (spelled_all (spelled_within m rows ref_rows) gs) ≡ closed_texts resolved cs
  unfolding StandsFor nodes spelled_text closed_text
  text-args m below no_elements gs h l = rw h refl
  text-args m below (element c cs) [] h l = absurd h
  text-args m below (element c cs) (g ∷ gs) (a, b) l = rw (below c g a (omega (arith, l)), text-args m below cs gs b (omega (arith, l))) refl

  mutual
    unfolding StandsFor nodes spell spelled_within spelled_text closed_text

    text-one : (m : ℕ) → TextWithin m → (c : Closed) (g : Ground) → StandsFor rows ref_rows c g → nodes c ≤ suc m → spelled_text tables (spelt m g) ≡ closed_text resolved c
    text-one m below (prim p) g h l = rw h refl
    text-one m below never g h l = rw h refl
    text-one m below (tuple no_elements) g h l = rw h refl
    text-one m below (tuple (element c cs)) g (k, ks, e, a, b) l =
        rw e (ap (spelled_text tables) (spell-Tuple (followed_name rows ref_rows m) (followed rows ref_rows m) (k ∷ ks)) ∙ ap tuple_text (text-each m below (element c cs) (k ∷ ks) (a, b) (omega (arith, l))))
    text-one m below (array c n) g (k, e, a) l =
        rw e (ap (spelled_text tables) (spell-Array (followed_name rows ref_rows m) (followed rows ref_rows m) k n) ∙ ap (λ t. codes "[" ++ t ++ codes "; " ++ decimal n ++ codes "]") (text-one m below c k a (omega (arith, l))))
    text-one m below (nonzero p) g h l = rw h refl
    text-one m below (wrap w c) g (k, e, a) l =
        rw e (ap (spelled_text tables) (spell-Wrap (followed_name rows ref_rows m) (followed rows ref_rows m) w k) ∙ ap (applied (wrapper_text w)) (text-one m below c k a (omega (arith, l))))
    text-one m below (named def rs args) g (id, e, row, found, a, b, given) l =
        let followed = ap (λ o. spelled_text tables (follow_name (spelled_within m rows ref_rows) o)) found in
        let texts = ap (λ ts. def_text (slice_get resolved.defs row.def.0) (map (region_text tables) row.regions ++ ts)) (text-args m below args row.args given (omega (arith, l))) in
        rw e (followed ∙ texts ∙ ap (λ d. closed_text resolved (named d row.regions args)) a ∙ ap (λ x. closed_text resolved (named def x args)) b)
    text-one m below (ref region mutable c) g (r, e, row, found, a, b, d) l =
        let inner = below c row.pointee d (omega (arith, l)) in
        let followed = ap (λ o. spelled_text tables (follow_row (spelled_within m rows ref_rows) o)) found in
        let pointee = ap (λ t. codes "&" ++ region_text tables row.region ++ (if row.mutable then codes " mut " else codes " ") ++ t) inner in
        rw e (followed ∙ pointee ∙ ap (λ x. closed_text resolved (ref x row.mutable c)) a ∙ ap (λ x. closed_text resolved (ref region x c)) b)

    text-each : (m : ℕ) → TextWithin m → (cs : Elements) (gs : List Ground) → EachStandsFor rows ref_rows cs gs → nodes_in cs ≤ m → element_texts tables (spelled_all (spelt m) gs) ≡ closed_texts resolved cs
    text-each m below no_elements gs h l = rw h refl
    text-each m below (element c cs) [] h l = absurd h
    text-each m below (element c cs) (g ∷ gs) (a, b) l = rw (text-one m below c g a (omega (arith, l)), text-each m below cs gs b (omega (arith, l))) refl

  pub text-within : (m : ℕ) → TextWithin m
  unfolding spelled_within
  text-within zero c g h l = absurd (omega (arith, l, some-node c))
  text-within (suc m) c g h l = text-one m (text-within m) c g h l

-- so is the text of a type of a world of the file
pub number-text : (resolved : Resolved) (types refs : List Closed) (world : World) → IsWorldOf resolved types refs world
    → (c : Closed) (g : Ground) → IsNumbered types refs c g → nodes c ≤ node_limit → text_of (tables_of world) g ≡ closed_text resolved c
number-text resolved types refs world w c g h l =
    rw (w.profile, w.defs, w.regions) (text-within resolved world.bounds world.named world.refs following_limit c g
    (stands resolved types refs world.named world.refs w.named w.ref_rows c g h) (omega (arith, l)))
