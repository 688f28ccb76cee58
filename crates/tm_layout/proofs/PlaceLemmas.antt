-- Places of fields as they are reckoned, and that they are exact in a type that has a layout.
use Rattle.std.proofs.Common.{◌≡◌, ℕ, ◌+◌, ◌^◌, ◌≤◌, ◌<◌, refl, sym, ap, ◌∙◌, subst, Bool, true, false, if◌then◌else◌, Option, None, List, [], ◌∷◌, ◌++◌, map, drop, length, get_or, append_assoc, arith}
use Rattle.std.specs.List.{AllByRecursion}
use Rattle.tm_base.specs.declared.definition.Kind.{Kind}
use Rattle.tm_base.specs.declared.definition.Kind.TheVariants.{Struct, Union, Enum}
use Rattle.tm_base.specs.declared.definition.Repr.{Repr}
use Rattle.tm_base.specs.declared.profile.Profile.{Profile}
use Rattle.tm_base.specs.Laws.{Apart}
use Rattle.tm_base.specs.Layout.{Layout, round_up, lowered, place_at, places, end_of, greatest_align, greatest_size, struct_layout, union_layout, structs, tag_layout, named_layout, transparent_layout}
use Rattle.tm_base.specs.Places.{at_front, first_place}
use Rattle.tm_base.proofs.LayoutLemmas.{struct_places-apart, tagged_variants-apart, union_variants-apart}
use Rattle.tm_layout.specs.declared.facts.Facts.{Facts}
use Rattle.tm_layout.specs.Capped.{capped}
use Rattle.tm_layout.specs.Placed.{begin_in, variant_places_in}
use Rattle.tm_layout.specs.Reckoned.{layout_in, layouts_in}
use Rattle.tm_layout.proofs.EnumLemmas.{front-end}
use Rattle.tm_layout.proofs.FactLemmas.{whole_facts}
use Rattle.tm_layout.proofs.KnownLemmas.{AreVariantsAligned}
use Rattle.tm_layout.proofs.LightLemmas.{greatest-small, structs-aligned, tag_size-small}
use Rattle.tm_layout.proofs.ReckonLemmas.{greatest_align-some, from_place, round_up-capped}

-- ---- as they are reckoned

pub map-same : {X Y : Type 0} (f g : X → Y) (xs : List X) → AllByRecursion (λ x. f x ≡ g x) xs → map f xs ≡ map g xs
map-same f g [] h = refl
map-same f g (x ∷ xs) (e, others) = let rest = map-same f g xs others in cc

rounded-same : (a x y : ℕ) → capped x ≡ capped y → capped (round_up x a) ≡ capped (round_up y a)
rounded-same a x y e = sym (round_up-capped a x) ∙ ap (λ (n : ℕ). capped (round_up n a)) e ∙ round_up-capped a y

place_at-same : (packed : Option ℕ) (l : Layout) (x y : ℕ) → capped x ≡ capped y → capped (place_at packed x l) ≡ capped (place_at packed y l)
place_at-same packed l = rounded-same (lowered packed l.align)

added-same : (x y n : ℕ) → capped x ≡ capped y → capped (x + n) ≡ capped (y + n)
added-same x y n e = omega arith

behind-same : (x y n : ℕ) → capped x ≡ capped y → capped (n + x) ≡ capped (n + y)
behind-same x y n e = omega arith

abbrev shifted : ℕ → List ℕ → List ℕ
shifted begin ps = map (λ place. capped (begin + place)) ps

places-same : (packed : Option ℕ) (begin : ℕ) (ls : List Layout) (x y : ℕ) → capped x ≡ capped y → shifted begin (places packed x ls) ≡ shifted begin (places packed y ls)
places-same packed begin [] x y e = refl
places-same packed begin (l ∷ ls) x y e =
    let here = place_at-same packed l x y e in
    let first : capped (begin + place_at packed x l) ≡ capped (begin + place_at packed y l) = behind-same (place_at packed x l) (place_at packed y l) begin here in
    let rest = places-same packed begin ls (place_at packed x l + l.size) (place_at packed y l + l.size) (added-same (place_at packed x l) (place_at packed y l) l.size here) in
    cc

in_order-step : (packed : Option ℕ) (begin at place next value : ℕ) (found all : List ℕ) (l : Layout) (ls : List Layout) → place ≡ capped (place_at packed at l) → value ≡ capped (begin + place)
    → next ≡ capped (place + l.size) → found ++ shifted begin (places packed at (l ∷ ls)) ≡ all → (found ++ value ∷ []) ++ shifted begin (places packed next ls) ≡ all
in_order-step packed begin at place next value found all l ls p v n h =
    let here : value ≡ capped (begin + place_at packed at l) = v ∙ value-of place (place_at packed at l) begin p in
    let rest : shifted begin (places packed next ls) ≡ shifted begin (places packed (place_at packed at l + l.size) ls) =
    places-same packed begin ls next (place_at packed at l + l.size) (next-of place (place_at packed at l) l.size next p n) in
    append_assoc found (value ∷ []) (shifted begin (places packed next ls))
    ∙ ap (λ (k : ℕ). found ++ (k ∷ shifted begin (places packed next ls))) here
    ∙ ap (λ ks. found ++ (capped (begin + place_at packed at l) ∷ ks)) rest ∙ h where
      value-of : (place exact begin : ℕ) → place ≡ capped exact → capped (begin + place) ≡ capped (begin + exact)
      value-of place exact begin e = omega arith

      next-of : (place exact size next : ℕ) → place ≡ capped exact → next ≡ capped (place + size) → capped next ≡ capped (exact + size)
      next-of place exact size next p n = omega arith

pub in_order-next : (packed : Option ℕ) (begin : ℕ) (fs : List Facts) (i at place next value : ℕ) (found all : List ℕ) (l : Layout) (d : Facts) → i < length fs → l ≡ layout_in (get_or fs i d)
    → place ≡ capped (place_at packed at l) → value ≡ capped (begin + place) → next ≡ capped (place + l.size) → found ++ shifted begin (places packed at (layouts_in (drop i fs))) ≡ all
    → (found ++ value ∷ []) ++ shifted begin (places packed next (layouts_in (drop (i + 1) fs))) ≡ all
in_order-next packed begin fs i at place next value found all l d below e p v n h =
    in_order-step packed begin at place next value found all l (layouts_in (drop (i + 1) fs)) p v n
    (subst (λ k. found ++ shifted begin (places packed at (k ∷ layouts_in (drop (i + 1) fs))) ≡ all) (sym e)
    (subst (λ gs. found ++ shifted begin (places packed at (layouts_in gs)) ≡ all) (from_place fs i d below) h))

pub at_front-next : (fs : List Facts) (i : ℕ) (found all : List ℕ) → i < length fs → found ++ at_front (layouts_in (drop i fs)) ≡ all → (found ++ 0 ∷ []) ++ at_front (layouts_in (drop (i + 1) fs)) ≡ all
at_front-next fs i found all below h =
    append_assoc found (0 ∷ []) (at_front (layouts_in (drop (i + 1) fs)))
    ∙ subst (λ gs. found ++ at_front (layouts_in gs) ≡ all) (from_place fs i (whole_facts false 0 0 0) below) h

-- ---- as they are in a variant

each-exact : {X : Type 0} (f g : X → ℕ) → ((x : X) → f x ≡ g x) → (xs : List X) → map f xs ≡ map g xs
each-exact f g same [] = refl
each-exact f g same (x ∷ xs) = let e = same x in let rest = each-exact f g same xs in cc

map-map : (f g : ℕ → ℕ) (xs : List ℕ) → map (λ x. f (g x)) xs ≡ map f (map g xs)
map-map f g [] = refl
map-map f g (x ∷ xs) = ap (λ ys. f (g x) ∷ ys) (map-map f g xs)

pub unshifted : (ps : List ℕ) → shifted 0 ps ≡ map capped ps
unshifted ps = each-exact (λ p. capped (0 + p)) capped (λ p. nothing p) ps where
  nothing : (p : ℕ) → capped (0 + p) ≡ capped p
  nothing p = omega arith

pub shifted-behind : (begin : ℕ) (ps : List ℕ) → shifted begin ps ≡ map capped (map (λ place. begin + place) ps)
shifted-behind begin ps = map-map capped (λ place. begin + place) ps

pub front-exact : (ls : List Layout) → map capped (at_front ls) ≡ at_front ls
front-exact [] = refl
front-exact (l ∷ ls) = ap (λ ps. 0 ∷ ps) (front-exact ls)

-- ---- exact, where they are inside a type that isn't too large

apart-below : (at : ℕ) (ps : List ℕ) (ls : List Layout) (end : ℕ) → Apart at ps ls end → at ≤ end
unfolding Apart
apart-below at [] ls end h = h
apart-below at (p ∷ ps) [] end h = absurd h
apart-below at (p ∷ ps) (l ∷ ls) end (below, others) = omega (arith, apart-below (p + l.size) ps ls end others)

apart-exact : (at : ℕ) (ps : List ℕ) (ls : List Layout) (end : ℕ) → end < 2 ^ 32 → Apart at ps ls end → map capped ps ≡ ps
unfolding Apart
apart-exact at [] ls end small h = refl
apart-exact at (p ∷ ps) [] end small h = absurd h
apart-exact at (p ∷ ps) (l ∷ ls) end small (below, others) =
    let inside = apart-below (p + l.size) ps ls end others in
    let first : capped p ≡ p = omega arith in
    let rest = apart-exact (p + l.size) ps ls end small others in
    cc

all-exact : {X : Type 0} (P Q : X → Type 0) (xs : List X) → ((x : X) → P x → Q x) → AllByRecursion P xs → AllByRecursion Q xs
all-exact P Q [] f h = tt
all-exact P Q (x ∷ xs) f (first, others) = (f x first, all-exact P Q xs f others)

fronts-exact : (vs : List (List Layout)) → AllByRecursion (λ ls. map capped (at_front ls) ≡ at_front ls) vs
fronts-exact [] = tt
fronts-exact (ls ∷ vs) = (front-exact ls, fronts-exact vs)

-- a transparent struct
pub front-struct : (profile : Profile) (kind : Kind) (repr : Repr) (begin : ℕ) (ls : List Layout) → kind ≡ Struct → repr.transparent ≡ true → at_front ls ≡ map capped (variant_places_in profile kind repr begin ls)
front-struct profile kind repr begin ls e t =
    subst (λ k. at_front ls ≡ map capped (variant_places_in profile k repr begin ls)) (sym e)
    (subst (λ b. at_front ls ≡ map capped ((if b then at_front else places repr.packed 0) ls)) (sym t) (sym (front-exact ls)))

pub front-union : (profile : Profile) (kind : Kind) (repr : Repr) (begin : ℕ) (ls : List Layout) → kind ≡ Union → at_front ls ≡ map capped (variant_places_in profile kind repr begin ls)
front-union profile kind repr begin ls e = subst (λ k. at_front ls ≡ map capped (variant_places_in profile k repr begin ls)) (sym e) (sym (front-exact ls))

-- an enum with `C`
pub shifted-enum : (profile : Profile) (kind : Kind) (repr : Repr) (begin : ℕ) (ls : List Layout) → kind ≡ Enum → repr.c ≡ true → shifted begin (places None 0 ls) ≡ map capped (variant_places_in profile kind repr begin ls)
shifted-enum profile kind repr begin ls e c =
    subst (λ k. shifted begin (places None 0 ls) ≡ map capped (variant_places_in profile k repr begin ls)) (sym e)
    (subst (λ b. shifted begin (places None 0 ls) ≡ map capped (if b then map (λ place. begin + place) (places None 0 ls) else places None (first_place profile repr) ls)) (sym c)
    (shifted-behind begin (places None 0 ls)))

struct-exact : (b : Bool) (packed align : Option ℕ) (ls : List Layout) → (if b then transparent_layout ls else struct_layout packed align ls).size < 2 ^ 32
    → map capped ((if b then at_front else places packed 0) ls) ≡ (if b then at_front else places packed 0) ls
struct-exact true packed align ls small = front-exact ls
struct-exact false packed align ls small = apart-exact 0 (places packed 0 ls) ls (struct_layout packed align ls).size small (struct_places-apart packed align ls)

-- where the fields of a variant of an enum stand, with or without `C`
abbrev enum_places : Bool → Layout → List (List Layout) → List Layout → List ℕ
enum_places c tag vs ls =
    if c then map (λ place. (if c then round_up tag.size (greatest_align None (structs [] vs)) else tag.size) + place) (places None 0 ls) else places None (if c then 0 else tag.size) ls

enum-exact : (c : Bool) (tag : Layout) (vs : List (List Layout))
    → (if c then struct_layout None None (tag ∷ union_layout None None (structs [] vs) ∷ []) else union_layout None None (structs (tag ∷ []) vs)).size < 2 ^ 32
    → AllByRecursion (λ ls. map capped (enum_places c tag vs ls) ≡ enum_places c tag vs ls) vs
enum-exact true tag vs small =
    let u = union_layout None None (structs [] vs) in
    let begin = round_up tag.size u.align in
    let size = (struct_layout None None (tag ∷ u ∷ [])).size in
    let end : begin + u.size ≡ end_of None 0 (tag ∷ u ∷ []) = front-end tag (u ∷ []) in
    let inside : begin + greatest_size (structs [] vs) ≤ size = omega arith in
    all-exact (λ ls. Apart begin (map (λ place. begin + place) (places None 0 ls)) ls size) (λ ls. map capped (enum_places true tag vs ls) ≡ enum_places true tag vs ls) vs
    (λ ls h. apart-exact begin (map (λ place. begin + place) (places None 0 ls)) ls size small h) (union_variants-apart begin vs size inside)
enum-exact false tag vs small =
    let size = (union_layout None None (structs (tag ∷ []) vs)).size in
    all-exact (λ ls. Apart tag.size (places None tag.size ls) ls size) (λ ls. map capped (enum_places false tag vs ls) ≡ enum_places false tag vs ls) vs
    (λ ls h. apart-exact tag.size (places None tag.size ls) ls size small h) (tagged_variants-apart tag vs size (omega arith))

pub variants-exact : (profile : Profile) (kind : Kind) (repr : Repr) (vs : List (List Layout)) → (kind ≡ Struct → length vs ≡ 1) → (named_layout profile kind repr vs).size < 2 ^ 32
    → AllByRecursion (λ ls. map capped (variant_places_in profile kind repr (begin_in profile kind repr vs) ls) ≡ variant_places_in profile kind repr (begin_in profile kind repr vs) ls) vs
variants-exact profile Struct repr [] one small = tt
variants-exact profile Struct repr (ls ∷ []) one small = (struct-exact repr.transparent repr.packed repr.align ls small, tt)
variants-exact profile Struct repr (ls ∷ ks ∷ vs) one small = let e = one refl in absurd (omega arith)
variants-exact profile Union repr vs one small = fronts-exact vs
variants-exact profile Enum repr vs one small = enum-exact repr.c (tag_layout profile repr.tag) vs small

-- where an enum's fields begin is no more than an `u32` holds
begin-bounded : (c : Bool) (n a : ℕ) → n ≤ 2 ^ 29 → a ≤ 2 ^ 29 → 1 ≤ a → capped (if c then round_up n a else n) ≡ (if c then round_up n a else n)
begin-bounded true n a h k some = omega arith
begin-bounded false n a h k some = omega arith

pub begin-exact : (profile : Profile) (kind : Kind) (repr : Repr) (vs : List (List Layout)) → AreVariantsAligned vs → capped (begin_in profile kind repr vs) ≡ begin_in profile kind repr vs
begin-exact profile Struct repr vs h = refl
begin-exact profile Union repr vs h = refl
begin-exact profile Enum repr vs h =
    begin-bounded repr.c (tag_layout profile repr.tag).size (greatest_align None (structs [] vs)) (tag_size-small profile repr.tag) (greatest-small None (structs [] vs) (structs-aligned [] vs tt h)) (greatest_align-some None (structs [] vs))
