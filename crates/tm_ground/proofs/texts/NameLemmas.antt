-- Where names are apart, a definition and a region are found by their names.
use Rattle.std.proofs.Common.{◌≡◌, ℕ, zero, suc, ◌<◌, ◌≤◌, Bool, true, false, not, ◌&&◌, refl, sym, ap, ◌∙◌, ⊎_elim, List, [], ◌∷◌, map, length, get_or, Option, Some, None, slice_get, unwrap_or, arith}
use Rattle.std.specs.List.{list_all}
use Rattle.std.proofs.lemmas.Bool.{cases_lt}
use Rattle.std.proofs.lemmas.List.{length-map}
use Rattle.std.proofs.lemmas.Option.{unwrap_or-slice_get}
use Rattle.tm_base.specs.declared.definition.Def.{Def}
use Rattle.tm_base.specs.declared.definition.DefId.{DefId}
use Rattle.tm_base.specs.declared.definition.RegionId.{RegionId}
use Rattle.tm_base.specs.Texts.{region_text}
use Rattle.tm_base.specs.Whole.{AreDistinct}
use Rattle.tm_names.specs.declared.resolved.Resolved.{Resolved}
use Rattle.tm_names.specs.ApartNames.{is_word, is_quoted, is_own_name, is_region_name, HasApartNames}
use Rattle.tm_ground.specs.ClosedTexts.{tables_of_file}
use Rattle.tm_ground.proofs.forms.FormLemmas.{first, second}

-- items of a list without repetition stand at one place each
one-place : {X : Type 0} (xs : List X) (i j : ℕ) (d : X) → AreDistinct xs → i < length xs → j < length xs → get_or xs i d ≡ get_or xs j d → i ≡ j
one-place xs i j d distinct l m e =
    ⊎_elim
    (λ (below : i < j). absurd (distinct.apart i j d below m e))
    (λ (above : j ≤ i). ⊎_elim
    (λ (over : j < i). absurd (distinct.apart j i d over l (sym e)))
    (λ (under : i ≤ j). omega arith)
    (cases_lt j i))
    (cases_lt i j)

not-false : (b : Bool) → not b ≡ true → b ≡ false
not-false true h = cc
not-false false h = refl

-- a definition's name
abbrev pub name_in : Option Def → List ℕ
name_in None = []
name_in (Some def) = def.name

pub def-there : (defs : List Def) (i : ℕ) → i < length defs → (def : Def) × (slice_get defs i ≡ Some def)
def-there [] i l = absurd (omega (arith, l))
def-there (d ∷ defs) zero l = (d, refl)
def-there (d ∷ defs) (suc i) l = def-there defs i (omega (arith, l))

name-at : (defs : List Def) (i : ℕ) → name_in (slice_get defs i) ≡ get_or (map (λ def. def.name) defs) i []
name-at [] i = refl
name-at (d ∷ defs) zero = refl
name-at (d ∷ defs) (suc i) = name-at defs i

own-at : (defs : List Def) (i : ℕ) → list_all (λ def. is_own_name def.name) defs ≡ true → i < length defs → is_own_name (name_in (slice_get defs i)) ≡ true
own-at [] i h l = absurd (omega (arith, l))
own-at (d ∷ defs) zero h l = first _ _ h
own-at (d ∷ defs) (suc i) h l = own-at defs i (second (is_own_name d.name) _ h) (omega (arith, l))

text-passes : (p : List ℕ → Bool) (texts : List (List ℕ)) (i : ℕ) → list_all p texts ≡ true → i < length texts → p (unwrap_or (slice_get texts i) []) ≡ true
text-passes p [] i h l = absurd (omega (arith, l))
text-passes p (t ∷ texts) zero h l = first _ _ h
text-passes p (t ∷ texts) (suc i) h l = text-passes p texts i (second (p t) _ h) (omega (arith, l))

module _ (resolved : Resolved) where
  abbrev pub region : RegionId → List ℕ
  region = region_text (tables_of_file resolved)

  abbrev pub name_of : DefId → List ℕ
  name_of def = name_in (slice_get resolved.defs def.0)

  module _ (names : HasApartNames resolved) where
    region-named : (g : RegionId) → g.0 < length resolved.regions → is_region_name (region g) ≡ true
    region-named g l = text-passes is_region_name resolved.regions g.0 names.region_names l

    pub region-word : (g : RegionId) → g.0 < length resolved.regions → is_word (region g) ≡ true
    region-word g l = first _ _ (region-named g l)

    -- a quote stands before a region's name
    pub region-quoted : (g : RegionId) → g.0 < length resolved.regions → is_quoted (region g) ≡ true
    region-quoted g l = second (is_word (region g)) _ (region-named g l)

    pub same-region : (g h : RegionId) → g.0 < length resolved.regions → h.0 < length resolved.regions → region g ≡ region h → g ≡ h
    same-region g h l m e =
        let at : get_or resolved.regions g.0 [] ≡ get_or resolved.regions h.0 [] = sym (unwrap_or-slice_get resolved.regions g.0 []) ∙ e ∙ unwrap_or-slice_get resolved.regions h.0 [] in
        let number : g.0 ≡ h.0 = one-place resolved.regions g.0 h.0 [] names.regions_distinct l m at in
        ap (λ (n : ℕ). (let r : RegionId = record { 0 = n } in r)) number

    pub same-def : (d e : DefId) → d.0 < length resolved.defs → e.0 < length resolved.defs → name_of d ≡ name_of e → d ≡ e
    same-def d e l m s =
        let all = map (λ (def : Def). def.name) resolved.defs in
        let count : length all ≡ length resolved.defs = length-map resolved.defs (λ (def : Def). def.name) in
        let at : get_or all d.0 [] ≡ get_or all e.0 [] = sym (name-at resolved.defs d.0) ∙ s ∙ name-at resolved.defs e.0 in
        let number : d.0 ≡ e.0 = one-place all d.0 e.0 [] names.names_distinct (omega (arith, l, count)) (omega (arith, m, count)) at in
        ap (λ (n : ℕ). (let r : DefId = record { 0 = n } in r)) number

    pub own : (def : DefId) → def.0 < length resolved.defs → is_own_name (name_of def) ≡ true
    own def l = own-at resolved.defs def.0 names.own_names l

    own-front : (def : DefId) → def.0 < length resolved.defs → (is_word (name_of def) && not (is_quoted (name_of def))) ≡ true
    unfolding is_own_name
    own-front def l = first _ _ (own def l)

    pub own-word : (def : DefId) → def.0 < length resolved.defs → is_word (name_of def) ≡ true
    own-word def l = first _ _ (own-front def l)

    -- and none before a definition's
    pub own-bare : (def : DefId) → def.0 < length resolved.defs → is_quoted (name_of def) ≡ false
    own-bare def l = not-false (is_quoted (name_of def)) (second (is_word (name_of def)) _ (own-front def l))
