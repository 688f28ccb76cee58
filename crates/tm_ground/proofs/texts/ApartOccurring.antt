-- In a file in form whose names are apart, no two types that occur have one text. So types in the order of
-- their texts have an order of their own.
use Rattle.std.proofs.Common.{◌≡◌, ◌<◌, ◌^◌, true, sym, ◌∙◌, List, [], ◌∷◌, map, length, get_or, Contains, nat_lt, arith}
use Rattle.std.specs.List.{list_all}
use Rattle.std.proofs.lemmas.Bool.{ltb-true}
use Rattle.std.proofs.lemmas.List.{get_or-map, get_or_default, length-map}
use Rattle.tm_base.specs.declared.definition.RegionId.{RegionId}
use Rattle.tm_base.specs.Whole.{AreDistinct}
use Rattle.tm_names.specs.declared.resolved.Resolved.{Resolved}
use Rattle.tm_names.specs.InForm.{IsInForm}
use Rattle.tm_names.specs.ApartNames.{HasApartNames}
use Rattle.tm_ground.specs.Closed.{Closed, Elements, prim, never, tuple, array, nonzero, wrap, named, ref, no_elements, element}
use Rattle.tm_ground.specs.ClosedTexts.{closed_text}
use Rattle.tm_ground.specs.Occurs.{Occurs}
use Rattle.tm_ground.proofs.texts.ApartTexts.{AreKnown, IsTold, AreTold, one-text}
use Rattle.tm_ground.proofs.forms.FormLemmas.{first, second, is_region_known, is_known, are_known}
use Rattle.tm_ground.proofs.forms.OccurringForm.{named-formed, occurring-formed}

module _ (resolved : Resolved) where
  regions-known : (gs : List RegionId) → list_all (is_region_known (length resolved.regions)) gs ≡ true → AreKnown resolved gs
  regions-known [] h = tt
  regions-known (g ∷ gs) h = (ltb-true g.0 _ (first _ _ h), regions-known gs (second (is_region_known (length resolved.regions) g) _ h))

  mutual
    unfolding is_known IsTold

    told : (c : Closed) → is_known (length resolved.defs) (length resolved.regions) c ≡ true → IsTold resolved c
    told (prim p) h = tt
    told never h = tt
    told (tuple cs) h = all-told cs h
    told (array c n) h = (let short = ltb-true n (2 ^ 32) (first _ _ h) in omega (arith, short), told c (second (nat_lt n (2 ^ 32)) _ h))
    told (nonzero p) h = tt
    told (wrap w c) h = told c h
    told (named def gs cs) h =
        let formed = named-formed resolved def gs cs h in
        (ltb-true def.0 _ formed.def_known, regions-known gs formed.regions_known, all-told cs formed.args_known)
    told (ref g mutable c) h = (ltb-true g.0 _ (first _ _ h), told c (second (is_region_known (length resolved.regions) g) _ h))

    all-told : (cs : Elements) → are_known (length resolved.defs) (length resolved.regions) cs ≡ true → AreTold resolved cs
    all-told no_elements h = tt
    all-told (element c cs) h = (told c (first _ _ h), all-told cs (second (is_known (length resolved.defs) (length resolved.regions) c) _ h))

  module _ (form : IsInForm resolved) (names : HasApartNames resolved) where
    pub occurring-apart : (c d : Closed) → Occurs resolved c → Occurs resolved d → closed_text resolved c ≡ closed_text resolved d → c ≡ d
    occurring-apart c d o p e =
        one-text resolved names c d (told c (occurring-formed resolved form c o)) (told d (occurring-formed resolved form d p)) e

    pub texts-apart : (cs : List Closed) → AreDistinct cs → ((c : Closed) → Contains cs c → Occurs resolved c) → AreDistinct (map (closed_text resolved) cs)
    texts-apart cs distinct occur = record {
      apart = λ i j d k l e.
          let m : j < length cs = omega (arith, l, length-map cs (closed_text resolved)) in
          let n : i < length cs = omega (arith, k, m) in
          let texts = sym (get_or-map (closed_text resolved) cs i never d n) ∙ e ∙ get_or-map (closed_text resolved) cs j never d m in
          distinct.apart i j never k m (occurring-apart (get_or cs i never) (get_or cs j never) (occur _ (i, n, get_or_default cs i _ never n)) (occur _ (j, m, get_or_default cs j _ never m)) texts);
    }
