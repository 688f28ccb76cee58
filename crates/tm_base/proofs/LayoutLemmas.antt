-- Rounding up, and where fields stand: behind one another, apart, and inside their type.
use Rattle.std.proofs.Common.{◌≡◌, ℕ, zero, suc, ◌+◌, ◌-◌, ◌*◌, ◌/◌, ◌%◌, ◌<◌, ◌≤◌, refl, sym, ◌∙◌, ap, subst, true, false, Bool, ◌⊎◌, inl, inr, ⊎_elim, List, [], ◌∷◌, Option, None, map, arith, if◌then◌else◌}
use Rattle.std.proofs.lemmas.Bool.Decides.{nat_tests}
use Rattle.std.specs.List.{AllByRecursion}
use Rattle.std.proofs.Math.Nat.{mul-le-mul_right, mod_self, zero-mod, mod-eq_of_lt, add-mul}
use Rattle.std.proofs.lemmas.Nat.{div-add-mod'}
use Rattle.tm_base.specs.Layout.{Layout, round_up, place_at, places, end_of, greatest_size, struct_layout, union_layout, is_trivial, transparent_layout, structs}
use Rattle.tm_base.specs.Faults.{sized_count}
use Rattle.tm_base.specs.Laws.{IsRoundedUp, Apart}

pub round_up-exact : (n a : ℕ) → n % a ≡ 0 → round_up n a ≡ n
round_up-exact n a e =
    let whole : a - 0 ≡ a = omega arith in
    rw (e, whole, mod_self a) (omega arith)

round_up-past : (n a : ℕ) → 0 < n % a → n % a < a → round_up n a ≡ (n / a + 1) * a
round_up-past n a some below =
    let left : (a - n % a) % a ≡ a - n % a = mod-eq_of_lt (omega arith) in
    let parts : n / a * a + n % a ≡ n = div-add-mod' n a in
    let more : (n / a + 1) * a ≡ n / a * a + 1 * a = add-mul (n / a) 1 a in
    rw left (omega arith)

-- a multiple that isn't below n has at least as many turns as n has, and one more where n is no multiple
turns : (n a k : ℕ) → 0 < n % a → n ≤ k * a → (n / a + 1) * a ≤ k * a
turns n a k some above =
    let parts : n / a * a + n % a ≡ n = div-add-mod' n a in
    mul-le-mul_right a (below_or_not (n / a) k (λ (h : k ≤ n / a). omega (arith, mul-le-mul_right a h))) where
      below_or_not : (q k : ℕ) → (k ≤ q → ⊥) → q + 1 ≤ k
      below_or_not q k h = omega arith

-- `round_up n a` is the least multiple of a that isn't below n
pub round_up-least : (n a : ℕ) → 0 < a → IsRoundedUp n a (round_up n a)
round_up-least n a some =
    let below : n % a < a = omega arith in
    let parts : n / a * a + n % a ≡ n = div-add-mod' n a in
    ⊎_elim
    (λ (e : n % a ≡ 0). record {
      multiple = (n / a, round_up-exact n a e ∙ omega arith);
      above = omega arith;
      least = λ k h. rw (round_up-exact n a e) h;
    })
    (λ (past : 0 < n % a). record {
      multiple = (n / a + 1, round_up-past n a past below);
      above = omega arith;
      least = λ k h. rw (round_up-past n a past below) (turns n a k past h);
    })
    (zero_or_more (n % a)) where
      zero_or_more : (r : ℕ) → (r ≡ 0) ⊎ (0 < r)
      zero_or_more zero = inl refl
      zero_or_more (suc r) = inr (omega arith)

-- fields that are placed one after another stand apart
pub places-apart : (packed : Option ℕ) (at : ℕ) (ls : List Layout) → Apart at (places packed at ls) ls (end_of packed at ls)
unfolding Apart
places-apart packed at [] = omega arith
places-apart packed at (l ∷ ls) = (omega arith, places-apart packed (place_at packed at l + l.size) ls)

pub Apart-widens : (at : ℕ) (ps : List ℕ) (ls : List Layout) (end further : ℕ) → end ≤ further → Apart at ps ls end → Apart at ps ls further
unfolding Apart
Apart-widens at [] ls end further h apart = omega arith
Apart-widens at (place ∷ ps) [] end further h apart = apart
Apart-widens at (place ∷ ps) (l ∷ ls) end further h (below, apart) = (below, Apart-widens (place + l.size) ps ls end further h apart)

-- the fields of a `repr(C)` struct stand apart and inside it
pub struct_places-apart : (packed align : Option ℕ) (ls : List Layout) → Apart 0 (places packed 0 ls) ls (struct_layout packed align ls).size
struct_places-apart packed align ls =
    Apart-widens 0 (places packed 0 ls) ls (end_of packed 0 ls) (struct_layout packed align ls).size (omega arith) (places-apart packed 0 ls)

-- a part that isn't larger than the greatest is inside what holds that
sizes-inside : (size : ℕ) (ls : List Layout) → greatest_size ls ≤ size → AllByRecursion (λ l. l.size ≤ size) ls
sizes-inside size [] h = tt
sizes-inside size (l ∷ ls) h = (omega arith, sizes-inside size ls (omega arith))

-- each field of a union is inside it
pub union_fields-inside : (packed align : Option ℕ) (ls : List Layout) → AllByRecursion (λ l. l.size ≤ (union_layout packed align ls).size) ls
union_fields-inside packed align ls = sizes-inside (union_layout packed align ls).size ls (omega arith)

pub round_up-zero : (a : ℕ) → round_up 0 a ≡ 0
round_up-zero a = round_up-exact 0 a (zero-mod a)

-- a field that stands first is at 0
pub first-front : (l : Layout) → place_at None 0 l ≡ 0
first-front l = round_up-zero l.align

-- where a struct that a tag begins ends
pub tagged-end : (tag : Layout) (ls : List Layout) → end_of None 0 (tag ∷ ls) ≡ end_of None tag.size ls
tagged-end tag ls =
    let front : place_at None 0 tag + tag.size ≡ tag.size = rw (first-front tag) (omega arith) in
    ap (λ (n : ℕ). end_of None n ls) front

tagged-apart : (tag : Layout) (ls : List Layout) (size : ℕ) → (struct_layout None None (tag ∷ ls)).size ≤ size → Apart tag.size (places None tag.size ls) ls size
tagged-apart tag ls size h =
    let end : end_of None 0 (tag ∷ ls) ≡ end_of None tag.size ls = tagged-end tag ls in
    Apart-widens tag.size (places None tag.size ls) ls (end_of None tag.size ls) size (omega arith) (places-apart None tag.size ls)

-- Behind a tag with an integer alone, the fields of each variant stand apart and inside the enum.
pub tagged_variants-apart : (tag : Layout) (variants : List (List Layout)) (size : ℕ) → greatest_size (structs (tag ∷ []) variants) ≤ size
    → AllByRecursion (λ ls. Apart tag.size (places None tag.size ls) ls size) variants
tagged_variants-apart tag [] size h = tt
tagged_variants-apart tag (ls ∷ others) size h = (tagged-apart tag ls size (omega arith), tagged_variants-apart tag others size (omega arith))

Apart-shifted : (past at : ℕ) (ps : List ℕ) (ls : List Layout) (end : ℕ) → Apart at ps ls end → Apart (past + at) (map (λ place. past + place) ps) ls (past + end)
unfolding Apart
Apart-shifted past at [] ls end h = omega arith
Apart-shifted past at (place ∷ ps) [] end h = h
Apart-shifted past at (place ∷ ps) (l ∷ ls) end (below, apart) =
    (omega arith, subst (λ (n : ℕ). Apart n (map (λ place. past + place) ps) ls (past + end)) (sym (add_assoc' past place l.size)) (Apart-shifted past (place + l.size) ps ls end apart)) where
      add_assoc' : (a b c : ℕ) → (a + b) + c ≡ a + (b + c)
      add_assoc' a b c = omega arith

-- With `C`, the fields of each variant stand apart in the union that is behind the tag, and inside it.
pub union_variants-apart : (begin : ℕ) (variants : List (List Layout)) (size : ℕ) → begin + greatest_size (structs [] variants) ≤ size
    → AllByRecursion (λ ls. Apart begin (map (λ place. begin + place) (places None 0 ls)) ls size) variants
union_variants-apart begin [] size h = tt
union_variants-apart begin (ls ∷ others) size h =
    let from_begin : begin + 0 ≡ begin = omega arith in (
      Apart-widens begin (map (λ place. begin + place) (places None 0 ls)) ls (begin + end_of None 0 ls) size (omega arith)
          (subst (λ (n : ℕ). Apart n (map (λ place. begin + place) (places None 0 ls)) ls (begin + end_of None 0 ls)) from_begin (Apart-shifted begin 0 (places None 0 ls) ls (end_of None 0 ls) (places-apart None 0 ls))),
      union_variants-apart begin others size (omega arith),
    )

trivial-size : (l : Layout) → is_trivial l ≡ true → l.size ≡ 0
trivial-size l e = grind (arith, nat_tests)

unsized-step : (n : ℕ) (l : Layout) (ls : List Layout) (b : Bool) → is_trivial l ≡ b → (sized_count ls ≡ 0 → AllByRecursion (λ l. l.size ≤ n) ls)
    → (if b then 0 else 1) + sized_count ls ≡ 0 → (l.size ≤ n) × AllByRecursion (λ l. l.size ≤ n) ls
unsized-step n l ls true e rest h =
    let empty : l.size ≡ 0 = trivial-size l e in
    (omega arith, rest (omega arith))
unsized-step n l ls false e rest h = absurd (omega arith)

unsized-inside : (n : ℕ) (ls : List Layout) → sized_count ls ≡ 0 → AllByRecursion (λ l. l.size ≤ n) ls
unsized-inside n [] h = tt
unsized-inside n (l ∷ ls) h = unsized-step n l ls (is_trivial l) refl (unsized-inside n ls) h

transparent-step : (l : Layout) (ls : List Layout) (b : Bool) → is_trivial l ≡ b → (sized_count ls ≤ 1 → AllByRecursion (λ l. l.size ≤ (transparent_layout ls).size) ls)
    → (if b then 0 else 1) + sized_count ls ≤ 1
    → (l.size ≤ (if b then transparent_layout ls else l).size) × AllByRecursion (λ k. k.size ≤ (if b then transparent_layout ls else l).size) ls
transparent-step l ls true e rest h =
    let empty : l.size ≡ 0 = trivial-size l e in
    (omega arith, rest (omega arith))
transparent-step l ls false e rest h = (omega arith, unsized-inside l.size ls (omega arith))

-- of the fields of a transparent struct the one that has a size is as large as it, and the others have none
pub transparent_fields-inside : (ls : List Layout) → sized_count ls ≤ 1 → AllByRecursion (λ l. l.size ≤ (transparent_layout ls).size) ls
transparent_fields-inside [] h = tt
transparent_fields-inside (l ∷ ls) h = transparent-step l ls (is_trivial l) refl (transparent_fields-inside ls) h
