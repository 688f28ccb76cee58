-- Rows of trees that are put together one field, or one variant, after another.
use Rattle.std.proofs.Common.{◌≡◌, ℕ, zero, suc, ◌+◌, ◌-◌, ◌<◌, ◌≤◌, sym, ◌∙◌, ap, subst, List, [], ◌∷◌, ◌++◌, length, get_or, drop, Option, None, Some, slice_get, unwrap_or, arith, append-nil, zero-add}
use Rattle.std.specs.List.{AllByRecursion}
use Rattle.std.specs.Option.{option_and_then}
use Rattle.std.proofs.lemmas.List.{append_assoc, drop_all}
use Rattle.std.proofs.lemmas.Option.{slice_get-get_or, get_or_from_slice_get, slice_get_within}
use Rattle.tm_base.specs.declared.definition.Repr.{Repr}
use Rattle.tm_base.specs.declared.definition.Variant.{Variant}
use Rattle.tm_base.specs.declared.ground.Ground.{Ground}
use Rattle.tm_base.specs.declared.profile.Profile.{Profile}
use Rattle.tm_base.specs.declared.tree.Tree.{Tree}
use Rattle.tm_base.specs.Expanded.{Expanded, elements, fields_of, variants_of}
use Rattle.tm_base.specs.Laws.{Apart}
use Rattle.tm_base.specs.Layout.{field_layouts, layout_of, size_of, tag_layout}
use Rattle.tm_base.specs.Places.{variant_places}
use Rattle.tm_layout.proofs.ReckonLemmas.{from_place}
use Rattle.tm_niche.specs.Forms.{joined, tag_form}
use Rattle.tm_tree.specs.declared.rows.Row.{Row}
use Rattle.tm_tree.specs.Parts.{bare_parts, field_parts, pads, parts_of, union_ways, variant_ways}
use Rattle.tm_tree.proofs.BehindLemmas.{apart-first, apart-within}

-- what is left of a list at a place begins with the item there
left_at : {X : Type 0} (xs : List X) (i : ℕ) (x : X) → i < length xs → x ≡ get_or xs i x → drop i xs ≡ x ∷ drop (i + 1) xs
left_at xs i x below is = from_place xs i x below ∙ ap (λ y. y ∷ drop (i + 1) xs) (sym is)

-- a part more, of what is said by the first parts and what is left
more : (parts here rest all : List Tree) → parts ++ (here ++ rest) ≡ all → (parts ++ here) ++ rest ≡ all
more parts here rest all h = append_assoc parts here rest ∙ h

-- what is there isn't past the end
pub none-inside : {X : Type 0} (xs : List X) (i : ℕ) → i < length xs → slice_get xs i ≡ None → ⊥
none-inside [] i below none = absurd (omega arith)
none-inside (x ∷ xs) zero below none = cc
none-inside (x ∷ xs) (suc i) below none = none-inside xs i (omega arith) none

-- a field that stands somewhere has that place
pub placed-in : (o : Option (List ℕ)) (i p : ℕ) → slice_get (unwrap_or o []) i ≡ Some p → option_and_then (λ fields. slice_get fields i) o ≡ Some p
placed-in None i p at = cc
placed-in (Some ps) i p at = at

-- a field of a union with the padding behind it
pub union-way : (size : ℕ) (here : List Tree) (n : ℕ) (way : Tree) (none first whole : Row) → none ≡ record { parts = []; end = 0 } → first ≡ record { parts = none.parts ++ here; end = none.end + n }
    → whole ≡ record { parts = first.parts ++ pads (size - first.end); end = size } → way ≡ joined whole.parts → way ≡ joined (here ++ pads (size - n))
union-way size here n way none first whole e f w j =
    let alone : first ≡ record { parts = here; end = 0 + n } = f ∙ ap (λ (r : Row). record { parts = r.parts ++ here; end = r.end + n }) e in
    j ∙ ap (λ (r : Row). joined r.parts) w ∙ ap (λ (r : Row). joined (r.parts ++ pads (size - r.end))) alone ∙ ap (λ (k : ℕ). joined (here ++ pads (size - k))) (zero-add n)

module _ (part : Ground → Expanded) where
  -- ---- fields that nothing stands between

  pub bare-next : (types : List Ground) (i : ℕ) (g : Ground) (parts here all : List Tree) → i < length types → g ≡ get_or types i g → here ≡ parts_of (part g)
      → parts ++ bare_parts (elements part (drop i types)) ≡ all → (parts ++ here) ++ bare_parts (elements part (drop (i + 1) types)) ≡ all
  unfolding parts_of
  bare-next types i g parts here all below is made h =
      more parts here (bare_parts (elements part (drop (i + 1) types))) all
      (ap (λ ts. parts ++ (ts ++ bare_parts (elements part (drop (i + 1) types)))) made ∙ ap (λ gs. parts ++ bare_parts (elements part gs)) (sym (left_at types i g below is)) ∙ h)

  pub bare-end : (types : List Ground) (i : ℕ) (parts all : List Tree) → length types ≤ i → parts ++ bare_parts (elements part (drop i types)) ≡ all → parts ≡ all
  unfolding parts_of
  bare-end types i parts all past h = sym (append-nil parts) ∙ ap (λ gs. parts ++ bare_parts (elements part gs)) (sym (drop_all i types past)) ∙ h

  -- ---- the ways of a union

  pub ways-next : (size : ℕ) (types : List Ground) (i : ℕ) (g : Ground) (ways all : List Tree) (way : Tree) (here : List Tree) (n : ℕ) → i < length types → g ≡ get_or types i g
      → here ≡ parts_of (part g) → n ≡ size_of (part g) → way ≡ joined (here ++ pads (size - n))
      → ways ++ union_ways size (elements part (drop i types)) ≡ all → (ways ++ way ∷ []) ++ union_ways size (elements part (drop (i + 1) types)) ≡ all
  unfolding parts_of
  ways-next size types i g ways all way here n below is made own e h =
      more ways (way ∷ []) (union_ways size (elements part (drop (i + 1) types))) all
      (ap (λ t. ways ++ (t ∷ union_ways size (elements part (drop (i + 1) types)))) (e ∙ ap (λ ts. joined (ts ++ pads (size - n))) made ∙ ap (λ (k : ℕ). joined (parts_of (part g) ++ pads (size - k))) own)
      ∙ ap (λ gs. ways ++ union_ways size (elements part gs)) (sym (left_at types i g below is)) ∙ h)

  pub ways-end : (size : ℕ) (types : List Ground) (i : ℕ) (ways all : List Tree) → length types ≤ i → ways ++ union_ways size (elements part (drop i types)) ≡ all → ways ≡ all
  unfolding parts_of
  ways-end size types i ways all past h = sym (append-nil ways) ∙ ap (λ gs. ways ++ union_ways size (elements part gs)) (sym (drop_all i types past)) ∙ h

  -- each field of a union is inside it
  pub inside-at : (size : ℕ) (types : List Ground) (i : ℕ) (g : Ground) → i < length types → g ≡ get_or types i g → AllByRecursion (λ l. l.size ≤ size) (field_layouts (elements part types)) → size_of (part g) ≤ size
  unfolding layout_of
  inside-at size [] i g below is all = absurd (omega arith)
  inside-at size (h ∷ types) zero g below is (here, others) = subst (λ x. size_of (part x) ≤ size) (sym is) here
  inside-at size (h ∷ types) (suc i) g below is (here, others) = inside-at size types i g (omega arith) is others

  -- ---- fields in their places

  -- the row of the first fields, of all that a row says in the end, and the fields that are left
  pub record IsRowSoFar (size : ℕ) (ps : List ℕ) (types : List Ground) (all : List Tree) (i : ℕ) (row : Row) : Type 0 where
    pub whole : row.parts ++ field_parts size row.end (drop i ps) (elements part (drop i types)) ≡ all
    pub apart : Apart row.end (drop i ps) (field_layouts (elements part (drop i types))) size

  module _ (size : ℕ) (ps : List ℕ) (types : List Ground) (all : List Tree) (i : ℕ) (row : Row) (g : Ground) (count : length ps ≡ length types) (below : i < length types) (is : g ≡ get_or types i g)
      (so_far : IsRowSoFar size ps types all i row) where
    abbrev place : ℕ
    place = get_or ps i 0

    -- where the next field stands
    pub place-there : slice_get ps i ≡ Some place
    place-there = slice_get-get_or ps i 0 (omega arith)

    left_places : drop i ps ≡ place ∷ drop (i + 1) ps
    left_places = from_place ps i 0 (omega arith)

    left_types : drop i types ≡ g ∷ drop (i + 1) types
    left_types = left_at types i g below is

    apart-here : Apart row.end (place ∷ drop (i + 1) ps) (field_layouts (elements part (g ∷ drop (i + 1) types))) size
    apart-here =
        subst (λ gs. Apart row.end (place ∷ drop (i + 1) ps) (field_layouts (elements part gs)) size) left_types
        (subst (λ qs. Apart row.end qs (field_layouts (elements part (drop i types))) size) left_places so_far.apart)

    next-apart : (row.end ≤ place) × Apart (place + size_of (part g)) (drop (i + 1) ps) (field_layouts (elements part (drop (i + 1) types))) size
    unfolding layout_of
    next-apart = apart-first row.end place (layout_of (part g)) (drop (i + 1) ps) (field_layouts (elements part (drop (i + 1) types))) size apart-here

    pub place-past : row.end ≤ place
    place-past = next-apart.0

    pub place-inside : place + size_of (part g) ≤ size
    place-inside = apart-within (place + size_of (part g)) (drop (i + 1) ps) (field_layouts (elements part (drop (i + 1) types))) size next-apart.1

    pub row-next : (at n : ℕ) (here : List Tree) (next : Row) → at ≡ place → here ≡ parts_of (part g) → n ≡ size_of (part g)
        → next ≡ record { parts = (row.parts ++ pads (at - row.end)) ++ here; end = at + n } → IsRowSoFar size ps types all (i + 1) next
    unfolding parts_of
    row-next at n here next e made own is_next =
        let rest = λ (k : ℕ). field_parts size k (drop (i + 1) ps) (elements part (drop (i + 1) types)) in
        let end : next.end ≡ place + size_of (part g) = ap (λ (r : Row). r.end) is_next ∙ ap (λ (k : ℕ). k + n) e ∙ ap (λ (k : ℕ). place + k) own in
        let parts : next.parts ≡ (row.parts ++ pads (place - row.end)) ++ parts_of (part g) =
        ap (λ (r : Row). r.parts) is_next ∙ ap (λ (k : ℕ). (row.parts ++ pads (k - row.end)) ++ here) e ∙ ap (λ ts. (row.parts ++ pads (place - row.end)) ++ ts) made in
        let all_left : row.parts ++ (pads (place - row.end) ++ (parts_of (part g) ++ rest (place + size_of (part g)))) ≡ all =
        ap (λ gs. row.parts ++ field_parts size row.end (place ∷ drop (i + 1) ps) (elements part gs)) (sym left_types)
        ∙ ap (λ qs. row.parts ++ field_parts size row.end qs (elements part (drop i types))) (sym left_places) ∙ so_far.whole in
        record {
          whole = ap (λ ts. ts ++ rest next.end) parts ∙ ap (λ (k : ℕ). ((row.parts ++ pads (place - row.end)) ++ parts_of (part g)) ++ rest k) end
              ∙ more (row.parts ++ pads (place - row.end)) (parts_of (part g)) (rest (place + size_of (part g))) all
              (more row.parts (pads (place - row.end)) (parts_of (part g) ++ rest (place + size_of (part g))) all all_left);
          apart = subst (λ (k : ℕ). Apart k (drop (i + 1) ps) (field_layouts (elements part (drop (i + 1) types))) size) (sym end) next-apart.1;
        }

  pub row-within : (size : ℕ) (ps : List ℕ) (types : List Ground) (all : List Tree) (i : ℕ) (row : Row) → IsRowSoFar size ps types all i row → row.end ≤ size
  row-within size ps types all i row so_far = apart-within row.end (drop i ps) (field_layouts (elements part (drop i types))) size so_far.apart

  pub row-end : (size : ℕ) (ps : List ℕ) (types : List Ground) (all : List Tree) (i : ℕ) (row : Row) → length types ≤ i → IsRowSoFar size ps types all i row → row.parts ++ pads (size - row.end) ≡ all
  unfolding parts_of
  row-end size ps types all i row past so_far = ap (λ gs. row.parts ++ field_parts size row.end (drop i ps) (elements part gs)) (sym (drop_all i types past)) ∙ so_far.whole

  -- ---- the ways of an enum

  pub variants-next : (profile : Profile) (repr : Repr) (begin size : ℕ) (vs : List Variant) (types : List (List Ground)) (i : ℕ) (v : Variant) (gs : List Ground) (ways all : List Tree) (way : Tree)
      → i < length vs → v ≡ get_or vs i v → slice_get types i ≡ Some gs
      → way ≡ joined (tag_form profile (tag_layout profile repr.tag).size v.value ∷ field_parts size (tag_layout profile repr.tag).size (variant_places profile repr begin (field_layouts (fields_of part v.fields gs))) (fields_of part v.fields gs))
      → ways ++ variant_ways profile repr begin size (variants_of part (drop i vs) (drop i types)) ≡ all
      → (ways ++ way ∷ []) ++ variant_ways profile repr begin size (variants_of part (drop (i + 1) vs) (drop (i + 1) types)) ≡ all
  unfolding parts_of
  variants-next profile repr begin size vs types i v gs ways all way below is at e h =
      let rest = variant_ways profile repr begin size (variants_of part (drop (i + 1) vs) (drop (i + 1) types)) in
      more ways (way ∷ []) rest all
      (ap (λ t. ways ++ (t ∷ rest)) e
      ∙ ap (λ hs. ways ++ variant_ways profile repr begin size (variants_of part (v ∷ drop (i + 1) vs) hs)) (sym (left_at types i gs (slice_get_within types i gs at) (sym (get_or_from_slice_get types i gs gs at))))
      ∙ ap (λ us. ways ++ variant_ways profile repr begin size (variants_of part us (drop i types))) (sym (left_at vs i v below is)) ∙ h)

  pub variants-end : (profile : Profile) (repr : Repr) (begin size : ℕ) (vs : List Variant) (types : List (List Ground)) (i : ℕ) (ways all : List Tree) → length vs ≤ i
      → ways ++ variant_ways profile repr begin size (variants_of part (drop i vs) (drop i types)) ≡ all → ways ≡ all
  unfolding parts_of
  variants-end profile repr begin size vs types i ways all past h =
      sym (append-nil ways) ∙ ap (λ us. ways ++ variant_ways profile repr begin size (variants_of part us (drop i types))) (sym (drop_all i vs past)) ∙ h
