-- The fields of a type stand apart, behind its tag and inside it.
use Rattle.std.proofs.Common.{◌≡◌, ℕ, zero, suc, ◌+◌, ◌-◌, ◌<◌, ◌≤◌, ◌⊎◌, inl, inr, refl, ◌∙◌, ap, subst, Bool, true, false, ◌&&◌, if◌then◌else◌, nat_le, Option, Some, None, List, [], ◌∷◌, map, slice_get, arith}
use Rattle.std.specs.List.{AllByRecursion}
use Rattle.std.specs.Option.{option_map}
use Rattle.std.proofs.Math.Nat.{mod_self, zero-mod}
use Rattle.std.proofs.lemmas.Bool.Decides.{nat_tests}
use Rattle.std.proofs.lemmas.Option.{slice_get-map}
use Rattle.tm_base.specs.Faults.{sized_count}
use Rattle.tm_base.specs.Laws.{Apart}
use Rattle.tm_base.specs.Layout.{Layout, round_up, place_at, places, end_of, greatest_align, greatest_size, struct_layout, union_layout, transparent_layout, structs, is_trivial}
use Rattle.tm_base.specs.Places.{at_front}
use Rattle.tm_base.proofs.LayoutLemmas.{struct_places-apart, union_fields-inside, transparent_fields-inside, tagged_variants-apart, union_variants-apart}
use Rattle.tm_laws.specs.PlacesApart.{AreStructOrdered}

-- what holds of each list holds of one of them
AllByRecursion-at : {X : Type 0} (P : X → Type 0) (xs : List X) (k : ℕ) (x : X) → AllByRecursion P xs → slice_get xs k ≡ Some x → P x
AllByRecursion-at P [] k x h e = absurd cc
AllByRecursion-at P (y ∷ ys) zero x h e = let same : y ≡ x = cc in subst P same h.0
AllByRecursion-at P (y ∷ ys) (suc k) x h e = AllByRecursion-at P ys k x h.1 e

-- ---- fields that stand apart

Apart-bound : (at : ℕ) (ps : List ℕ) (ls : List Layout) (end : ℕ) → Apart at ps ls end → at ≤ end
unfolding Apart
Apart-bound at [] ls end h = h
Apart-bound at (p ∷ ps) [] end h = elim h [ ]
Apart-bound at (p ∷ ps) (l ∷ ls) end (below, rest) = let further = Apart-bound (p + l.size) ps ls end rest in omega arith

-- a field stands behind the first place and ends at the last or before
Apart-at : (at : ℕ) (ps : List ℕ) (ls : List Layout) (end f p : ℕ) (l : Layout) → Apart at ps ls end → slice_get ps f ≡ Some p → slice_get ls f ≡ Some l → (at ≤ p) × (p + l.size ≤ end)
unfolding Apart
Apart-at at [] ls end f p l h e i = absurd cc
Apart-at at (q ∷ ps) [] end f p l h e i = elim h [ ]
Apart-at at (q ∷ ps) (m ∷ ls) end zero p l (below, rest) e i =
    let place : q ≡ p = cc in
    let same : m ≡ l = cc in
    let size : m.size ≡ l.size = ap (λ (k : Layout). k.size) same in
    let further = Apart-bound (q + m.size) ps ls end rest in
    (omega arith, omega arith)
Apart-at at (q ∷ ps) (m ∷ ls) end (suc f) p l (below, rest) e i =
    let found = Apart-at (q + m.size) ps ls end f p l rest e i in
    (omega (arith, found.0), found.1)

-- of two fields the later begins behind the earlier
Apart-ordered : (at : ℕ) (ps : List ℕ) (ls : List Layout) (end f g p q : ℕ) (l m : Layout) → Apart at ps ls end → f < g
    → slice_get ps f ≡ Some p → slice_get ls f ≡ Some l → slice_get ps g ≡ Some q → slice_get ls g ≡ Some m → p + l.size ≤ q
unfolding Apart
Apart-ordered at [] ls end f g p q l m h less e i j k = absurd cc
Apart-ordered at (a ∷ ps) [] end f g p q l m h less e i j k = elim h [ ]
Apart-ordered at (a ∷ ps) (b ∷ ls) end f zero p q l m h less e i j k = absurd (omega arith)
Apart-ordered at (a ∷ ps) (b ∷ ls) end zero (suc g) p q l m (below, rest) less e i j k =
    let place : a ≡ p = cc in
    let same : b ≡ l = cc in
    let size : b.size ≡ l.size = ap (λ (n : Layout). n.size) same in
    let found = Apart-at (a + b.size) ps ls end g q m rest j k in
    omega (arith, found.0)
Apart-ordered at (a ∷ ps) (b ∷ ls) end (suc f) (suc g) p q l m (below, rest) less e i j k =
    Apart-ordered (a + b.size) ps ls end f g p q l m rest (omega arith) e i j k

-- each field has a place
places-get : (packed : Option ℕ) (at : ℕ) (ls : List Layout) (f : ℕ) (l : Layout) → slice_get ls f ≡ Some l → (p : ℕ) × (slice_get (places packed at ls) f ≡ Some p)
places-get packed at [] f l e = absurd cc
places-get packed at (m ∷ ls) zero l e = (place_at packed at m, refl)
places-get packed at (m ∷ ls) (suc f) l e = places-get packed (place_at packed at m + m.size) ls f l e

-- ---- the fields of one variant

-- They have places behind the front and inside the end, and two of them are in an order.
pub record AreGood (front end : ℕ) (Order : ℕ → ℕ → ℕ → ℕ → Type 0) (ps : List ℕ) (ls : List Layout) : Type 0 where
  pub inside : (f : ℕ) (l : Layout) → slice_get ls f ≡ Some l → (p : ℕ) × (slice_get ps f ≡ Some p) × (front ≤ p) × (p + l.size ≤ end)
  pub ordered : (f g : ℕ) (l m : Layout) (p q : ℕ) → f < g → slice_get ls f ≡ Some l → slice_get ls g ≡ Some m → slice_get ps f ≡ Some p → slice_get ps g ≡ Some q → Order p l.size q m.size

abbrev InOrder : ℕ → ℕ → ℕ → ℕ → Type 0
InOrder p m q n = p + m ≤ q

good-apart : (front at end : ℕ) (ps : List ℕ) (ls : List Layout) → front ≤ at → ((f : ℕ) (l : Layout) → slice_get ls f ≡ Some l → (p : ℕ) × (slice_get ps f ≡ Some p)) → Apart at ps ls end → AreGood front end InOrder ps ls
good-apart front at end ps ls behind has apart = record {
  inside = λ f l e.
      let place = has f l e in
      let found = Apart-at at ps ls end f place.0 l apart place.1 e in
      (place.0, place.1, omega (arith, found.0), found.1);
  ordered = λ f g l m p q less e i j k. Apart-ordered at ps ls end f g p q l m apart less j e k i;
}

front-get : (ls : List Layout) (f : ℕ) (l : Layout) → slice_get ls f ≡ Some l → slice_get (at_front ls) f ≡ Some 0
front-get ls f l e = slice_get-map (λ (k : Layout). 0) ls f ∙ ap (option_map (λ (k : Layout). 0)) e

-- fields that all stand at the front
good-front : (end : ℕ) (Order : ℕ → ℕ → ℕ → ℕ → Type 0) (ls : List Layout) → AllByRecursion (λ l. l.size ≤ end) ls
    → ((f g : ℕ) (l m : Layout) (p q : ℕ) → f < g → slice_get ls f ≡ Some l → slice_get ls g ≡ Some m → Order p l.size q m.size) → AreGood 0 end Order (at_front ls) ls
good-front end Order ls small order = record {
  inside = λ f l e.
      let fits : l.size ≤ end = AllByRecursion-at (λ k. k.size ≤ end) ls f l small e in
      (0, front-get ls f l e, omega arith, omega arith);
  ordered = λ f g l m p q less e i j k. order f g l m p q less e i;
}

-- ---- the one variant of a struct or a union

none-step : (k : Layout) (ls : List Layout) (b : Bool) → is_trivial k ≡ b → ((g : ℕ) (m : Layout) → sized_count ls ≡ 0 → slice_get ls g ≡ Some m → m.size ≡ 0)
    → (if b then 0 else 1) + sized_count ls ≡ 0 → (g : ℕ) (m : Layout) → slice_get (k ∷ ls) g ≡ Some m → m.size ≡ 0
none-step k ls true t others n zero m e =
    let same : k ≡ m = cc in
    let size : k.size ≡ m.size = ap (λ (x : Layout). x.size) same in
    let empty : k.size ≡ 0 = grind (arith, nat_tests) in
    omega arith
none-step k ls true t others n (suc g) m e = others g m (omega arith) e
none-step k ls false t others n g m e = absurd (omega arith)

none_sized : (ls : List Layout) (g : ℕ) (m : Layout) → sized_count ls ≡ 0 → slice_get ls g ≡ Some m → m.size ≡ 0
none_sized [] g m h e = absurd cc
none_sized (k ∷ ls) g m h e = none-step k ls (is_trivial k) refl (λ i n. none_sized ls i n) h g m e

one_sized : (ls : List Layout) (f g : ℕ) (l m : Layout) → sized_count ls ≤ 1 → f < g → slice_get ls f ≡ Some l → slice_get ls g ≡ Some m → (l.size ≡ 0) ⊎ (m.size ≡ 0)
one_sized [] f g l m h less e i = absurd cc
one_sized (k ∷ ls) f zero l m h less e i = absurd (omega arith)
one_sized (k ∷ ls) (suc f) (suc g) l m h less e i = one_sized ls f g l m (omega arith) (omega arith) e i
one_sized (k ∷ ls) zero (suc g) l m h less e i = by (is_trivial k) refl h
  where
    same : k ≡ l
    same = cc

    by : (b : Bool) → is_trivial k ≡ b → (if b then 0 else 1) + sized_count ls ≤ 1 → (l.size ≡ 0) ⊎ (m.size ≡ 0)
    by true t n =
        let size : k.size ≡ l.size = ap (λ (x : Layout). x.size) same in
        let empty : k.size ≡ 0 = grind (arith, nat_tests) in
        inl (omega arith)
    by false t n = inr (none_sized ls g m (omega arith) i)

pub good-struct : (transparent : Bool) (packed align : Option ℕ) (ls : List Layout) → (transparent && nat_le 2 (sized_count ls)) ≡ false
    → AreGood 0 (if transparent then transparent_layout ls else struct_layout packed align ls).size (AreStructOrdered transparent) ((if transparent then at_front else places packed 0) ls) ls
good-struct false packed align ls h =
    good-apart 0 0 (struct_layout packed align ls).size (places packed 0 ls) ls (omega arith) (λ f l e. places-get packed 0 ls f l e) (struct_places-apart packed align ls)
good-struct true packed align ls h =
    let few : sized_count ls ≤ 1 = grind (arith, nat_tests) in
    good-front (transparent_layout ls).size (AreStructOrdered true) ls (transparent_fields-inside ls few) (λ f g l m p q less e i. one_sized ls f g l m few less e i)

pub good-union : (packed align : Option ℕ) (ls : List Layout) → AreGood 0 (union_layout packed align ls).size (λ p m q n. Unit {0}) (at_front ls) ls
good-union packed align ls = good-front (union_layout packed align ls).size (λ p m q n. Unit {0}) ls (union_fields-inside packed align ls) (λ f g l m p q less e i. tt)

-- ---- the variants of an enum

tag-front : (tag : Layout) → place_at None 0 tag ≡ 0
tag-front tag =
    let whole : tag.align - 0 ≡ tag.align = omega arith in
    rw (zero-mod tag.align, whole, mod_self tag.align) refl

-- where the union of the variants begins, which is behind the tag
abbrev pub union_place : Layout → List (List Layout) → ℕ
union_place tag variants = round_up tag.size (greatest_align None (structs [] variants))

pub union-inside : (tag : Layout) (variants : List (List Layout)) → union_place tag variants + greatest_size (structs [] variants) ≤ (struct_layout None None (tag ∷ union_layout None None (structs [] variants) ∷ [])).size
union-inside tag variants =
    let front : place_at None 0 tag + tag.size ≡ tag.size = rw (tag-front tag) (omega arith) in
    let end : end_of None 0 (tag ∷ union_layout None None (structs [] variants) ∷ []) ≡ union_place tag variants + (union_layout None None (structs [] variants)).size =
    ap (λ (n : ℕ). end_of None n (union_layout None None (structs [] variants) ∷ [])) front in
    omega arith

shifted-get : (packed : Option ℕ) (past : ℕ) (ls : List Layout) (f : ℕ) (l : Layout) → slice_get ls f ≡ Some l → (p : ℕ) × (slice_get (map (λ place. past + place) (places packed 0 ls)) f ≡ Some p)
shifted-get packed past ls f l e =
    let place = places-get packed 0 ls f l e in
    (past + place.0, slice_get-map (λ place. past + place) (places packed 0 ls) f ∙ ap (option_map (λ (p : ℕ). past + p)) place.1)

pub good-enum : (c : Bool) (tag : Layout) (variants : List (List Layout)) (v : ℕ) (ls : List Layout) → slice_get variants v ≡ Some ls
    → AreGood tag.size
    (if c then struct_layout None None (tag ∷ union_layout None None (structs [] variants) ∷ []) else union_layout None None (structs (tag ∷ []) variants)).size
    InOrder
    (if c then map (λ place. (if c then union_place tag variants else tag.size) + place) (places None 0 ls) else places None (if c then 0 else tag.size) ls) ls
good-enum true tag variants v ls e =
    let begin = union_place tag variants in
    let size = (struct_layout None None (tag ∷ union_layout None None (structs [] variants) ∷ [])).size in
    let behind : tag.size ≤ begin = omega arith in
    good-apart tag.size begin size (map (λ place. begin + place) (places None 0 ls)) ls behind (λ f l i. shifted-get None begin ls f l i)
    (AllByRecursion-at (λ ks. Apart begin (map (λ place. begin + place) (places None 0 ks)) ks size) variants v ls (union_variants-apart begin variants size (union-inside tag variants)) e)
good-enum false tag variants v ls e =
    let size = (union_layout None None (structs (tag ∷ []) variants)).size in
    let fits : greatest_size (structs (tag ∷ []) variants) ≤ size = omega arith in
    good-apart tag.size tag.size size (places None tag.size ls) ls (omega arith) (λ f l i. places-get None tag.size ls f l i)
    (AllByRecursion-at (λ ks. Apart tag.size (places None tag.size ks) ks size) variants v ls (tagged_variants-apart tag variants size fits) e)
