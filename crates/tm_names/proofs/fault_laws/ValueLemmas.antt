-- Discriminants that are counted up to a greatest one are right or wrong as the whole numbers are.
use Rattle.std.proofs.Common.{◌≡◌, ℕ, zero, suc, ◌+◌, ◌<◌, ◌≤◌, refl, sym, ap, ◌∙◌, subst, arith, inl, inr, ◌⊎◌, ⊎_elim, Bool, true, false, ◌||◌, if◌then◌else◌, List, [], ◌∷◌, ◌++◌}
use Rattle.std.specs.Prelude.{ℤ, pos, negsuc, ◌+ℤ◌, Option, Some, None, not, nat_abs, nat_lt}
use Rattle.std.specs.List.{list_any}
use Rattle.std.specs.Ordering.{int_eq}
use Rattle.std.proofs.lemmas.Bool.{cases_Bool, false≢true}
use Rattle.std.proofs.lemmas.Bool.Decides.{Decides-int_eq, nat_tests}
use Rattle.tm_base.specs.declared.ground.Primitive.{Primitive}
use Rattle.tm_base.specs.declared.ground.Primitive.TheVariants.{Bool as bool', Char, U8, U16, U32, U64, U128, Usize, I8, I16, I32, I64, I128, Isize, F32, F64}
use Rattle.tm_base.specs.declared.limit.NameWhy.TheVariants.{Discriminant}
use Rattle.tm_base.specs.declared.profile.Profile.{Profile}
use Rattle.tm_base.specs.declared.profile.Profile.TheVariants.{Le64, Be64, Le32}
use Rattle.tm_base.specs.Integers.{fits_integer, is_tag_type}
use Rattle.tm_names.specs.declared.faults.least.NameFault.{NameFault}
use Rattle.tm_names.specs.declared.value.Value.{Value}
use Rattle.tm_names.specs.declared.value.Value.TheVariants.{AtLeastZero, BelowZero}
use Rattle.tm_names.specs.Discriminants.{Valued, is_in_range, signed, value_of, valued_from, written_or}
use Rattle.tm_names.specs.Found.{fault_at, is_wrong, value_faults}
use Rattle.tm_names.specs.Representations.{tag_in}
use Rattle.tm_names.specs.Values.{greatest, int_of, next_of, signed_value, value_in, written_value}
use Rattle.tm_parse.specs.declared.parsed.DeclVariant.{DeclVariant}
use Rattle.tm_parse.specs.declared.parsed.ReprItem.{ReprItem}
use Rattle.tm_parse.specs.declared.parsed.ReprItem.TheVariants as item
use Rattle.std.specs.Option.{option_or}

-- an integer representation has at most 64 bits
abbrev pub TagOk : Option Primitive → Type 0
TagOk None = Unit {0}
TagOk (Some p) = is_tag_type p ≡ true

tag_from_type : (p : Primitive) (b : Bool) → is_tag_type p ≡ b → (rest : Option Primitive) → TagOk rest → TagOk (option_or (if b then Some p else None) rest)
tag_from_type p true e rest ok = e
tag_from_type p false e rest ok = ok

pub tag_is_ok : (items : List ReprItem) → TagOk (tag_in items)
tag_is_ok [] = tt
tag_is_ok (item.C ∷ items) = tag_is_ok items
tag_is_ok (item.Transparent ∷ items) = tag_is_ok items
tag_is_ok (item.Int p ∷ items) = tag_from_type p (is_tag_type p) refl (tag_in items) (tag_is_ok items)
tag_is_ok (item.Packed n ∷ items) = tag_is_ok items
tag_is_ok (item.Align n ∷ items) = tag_is_ok items

not_below : (n bound : ℕ) → bound ≤ n → nat_lt n bound ≡ false
not_below n bound h = grind (arith, nat_tests)

below_or_not : (n bound : ℕ) → (n < bound) ⊎ (bound ≤ n)
below_or_not n bound = grind arith

apart_numbers : (k n : ℕ) → n < k → int_eq (pos k) (pos n) ≡ false
apart_numbers k n h =
    ⊎_elim (λ t. let same : k ≡ n = ap nat_abs ((Decides-int_eq (pos k) (pos n)).0 t) in absurd (omega (arith, h, same))) (λ e. e)
    (cases_Bool (int_eq (pos k) (pos n)))

-- no such type holds the greatest number, or one past it
beyond_type : (profile : Profile) (p : Primitive) → is_tag_type p ≡ true → (n : ℕ) → greatest ≤ n → fits_integer profile p (pos n) ≡ false
beyond_type profile bool' ok n h = absurd (false≢true ok)
beyond_type profile Char ok n h = absurd (false≢true ok)
beyond_type profile U8 ok n h = not_below n _ (omega (arith, h))
beyond_type profile U16 ok n h = not_below n _ (omega (arith, h))
beyond_type profile U32 ok n h = not_below n _ (omega (arith, h))
beyond_type profile U64 ok n h = not_below n _ (omega (arith, h))
beyond_type profile U128 ok n h = absurd (false≢true ok)
beyond_type Le64 Usize ok n h = not_below n _ (omega (arith, h))
beyond_type Be64 Usize ok n h = not_below n _ (omega (arith, h))
beyond_type Le32 Usize ok n h = not_below n _ (omega (arith, h))
beyond_type profile I8 ok n h = not_below n _ (omega (arith, h))
beyond_type profile I16 ok n h = not_below n _ (omega (arith, h))
beyond_type profile I32 ok n h = not_below n _ (omega (arith, h))
beyond_type profile I64 ok n h = not_below n _ (omega (arith, h))
beyond_type profile I128 ok n h = absurd (false≢true ok)
beyond_type Le64 Isize ok n h = not_below n _ (omega (arith, h))
beyond_type Be64 Isize ok n h = not_below n _ (omega (arith, h))
beyond_type Le32 Isize ok n h = not_below n _ (omega (arith, h))
beyond_type profile F32 ok n h = absurd (false≢true ok)
beyond_type profile F64 ok n h = absurd (false≢true ok)

beyond : (profile : Profile) (tag : Option Primitive) → TagOk tag → (n : ℕ) → greatest ≤ n → is_in_range profile tag (pos n) ≡ false
beyond profile None ok n h = not_below n _ (omega (arith, h))
beyond profile (Some p) ok n h = beyond_type profile p ok n h

-- the value is the number, or both are the greatest or past it
abbrev pub Agrees : Value → ℤ → Type 0
Agrees v z = (int_of v ≡ z) ⊎ ((k : ℕ) × (m : ℕ) × (v ≡ AtLeastZero k) × (z ≡ pos m) × (greatest ≤ k) × (greatest ≤ m))

agrees_signed : (negative : Bool) (n : ℕ) → int_of (signed_value negative n) ≡ signed negative n
agrees_signed false n = refl
agrees_signed true zero = refl
agrees_signed true (suc n) = refl

agrees_written : (implied : Value) (z : ℤ) → Agrees implied z → (negative : Bool) (o : Option ℕ) → Agrees (written_value implied negative o) (written_or z negative o)
agrees_written implied z h negative None = h
agrees_written implied z h negative (Some n) = inl (agrees_signed negative n)

pub agrees_value : (implied : Value) (z : ℤ) → Agrees implied z → (v : DeclVariant) → Agrees (value_in implied v) (value_of z v)
agrees_value implied z h v = agrees_written implied z h v.negative v.value

next_below : (n : ℕ) → Agrees (next_of (AtLeastZero n)) (pos n +ℤ pos 1)
next_below n = by (nat_lt n greatest) refl
  where
    by : (b : Bool) → nat_lt n greatest ≡ b → Agrees (if b then AtLeastZero (n + 1) else AtLeastZero n) (pos n +ℤ pos 1)
    by true e = inl refl
    by false e = inr (n, n + 1, refl, refl, grind (arith, nat_tests), grind (arith, nat_tests))

pub one_up : (n : ℕ) → negsuc n ≡ negsuc (suc n) +ℤ pos 1
one_up n = grind (arith, nat_tests)

next_exact : (v : Value) → Agrees (next_of v) (int_of v +ℤ pos 1)
next_exact (AtLeastZero n) = next_below n
next_exact (BelowZero zero) = inl refl
next_exact (BelowZero (suc n)) = inl (one_up n)

stuck_next : (k : ℕ) → greatest ≤ k → next_of (AtLeastZero k) ≡ AtLeastZero k
stuck_next k h = ap (λ b. if b then AtLeastZero (k + 1) else AtLeastZero k) (not_below k greatest h)

pub agrees_next : (v : Value) (z : ℤ) → Agrees v z → Agrees (next_of v) (z +ℤ pos 1)
agrees_next v z h =
    ⊎_elim (λ e. subst (λ w. Agrees (next_of v) (w +ℤ pos 1)) e (next_exact v))
    (λ (k, m, ev, ez, hk, hm). inr (k, m + 1, ap next_of ev ∙ stuck_next k hk, ap (λ w. w +ℤ pos 1) ez, hk, omega (arith, hm))) h

same_range : (profile : Profile) (tag : Option Primitive) → TagOk tag → (v : Value) (z : ℤ) → Agrees v z → is_in_range profile tag (int_of v) ≡ is_in_range profile tag z
same_range profile tag ok v z h =
    ⊎_elim (λ e. ap (is_in_range profile tag) e)
    (λ (k, m, ev, ez, hk, hm). ap (λ w. is_in_range profile tag (int_of w)) ev ∙ (beyond profile tag ok k hk ∙ sym (ap (is_in_range profile tag) ez ∙ beyond profile tag ok m hm))) h

exact_in_range : (profile : Profile) (tag : Option Primitive) → TagOk tag → (v : Value) (z : ℤ) → Agrees v z → is_in_range profile tag z ≡ true → int_of v ≡ z
exact_in_range profile tag ok v z h t =
    ⊎_elim (λ e. e) (λ (k, m, ev, ez, hk, hm). absurd (false≢true (sym (ap (is_in_range profile tag) ez ∙ beyond profile tag ok m hm) ∙ t))) h

-- a value in range is none past the greatest
apart : (profile : Profile) (tag : Option Primitive) → TagOk tag → (z : ℤ) → is_in_range profile tag z ≡ true → (k : ℕ) → greatest ≤ k → int_eq (pos k) z ≡ false
apart profile tag ok (pos n) t k h =
    ⊎_elim (λ l. apart_numbers k n (omega (arith, h, l))) (λ l. absurd (false≢true (sym (beyond profile tag ok n l) ∙ t))) (below_or_not n greatest)
apart profile tag ok (negsuc n) t k h = refl

same_equal : (profile : Profile) (tag : Option Primitive) → TagOk tag → (o : Value) (u z : ℤ) → Agrees o u → is_in_range profile tag z ≡ true → int_eq (int_of o) z ≡ int_eq u z
same_equal profile tag ok o u z h t =
    ⊎_elim (λ e. ap (λ w. int_eq w z) e)
    (λ (k, m, eo, eu, hk, hm). ap (λ w. int_eq (int_of w) z) eo ∙ (apart profile tag ok z t k hk ∙ sym (ap (λ w. int_eq w z) eu ∙ apart profile tag ok z t m hm))) h

abbrev pub AllAgree : List Value → List Valued → Type 0
AllAgree [] [] = Unit {0}
AllAgree [] (u ∷ us) = ⊥
AllAgree (v ∷ vs) [] = ⊥
AllAgree (v ∷ vs) (u ∷ us) = Agrees v u.value × AllAgree vs us

one_more : (vs : List Value) (us : List Valued) (v : Value) (u : Valued) → AllAgree vs us → Agrees v u.value → AllAgree (vs ++ (v ∷ [])) (us ++ (u ∷ []))
one_more [] [] v u h a = (a, tt)
one_more [] (y ∷ ys) v u h a = absurd h
one_more (x ∷ xs) [] v u h a = absurd h
one_more (x ∷ xs) (y ∷ ys) v u h a = (h.0, one_more xs ys v u h.1 a)

same_any : (profile : Profile) (tag : Option Primitive) → TagOk tag → (z : ℤ) → is_in_range profile tag z ≡ true → (vs : List Value) (us : List Valued) → AllAgree vs us
    → list_any (λ o. int_eq (int_of o) z) vs ≡ list_any (λ u. int_eq u.value z) us
same_any profile tag ok z t [] [] h = refl
same_any profile tag ok z t [] (y ∷ ys) h = absurd h
same_any profile tag ok z t (x ∷ xs) [] h = absurd h
same_any profile tag ok z t (x ∷ xs) (y ∷ ys) h =
    ap (λ b. b || list_any (λ o. int_eq (int_of o) z) xs) (same_equal profile tag ok x y.value z h.0 t) ∙ ap (λ b. int_eq y.value z || b) (same_any profile tag ok z t xs ys h.1)

-- a discriminant that is out of range or stands before
abbrev pub exact_wrong : Profile → Option Primitive → List Valued → ℤ → Bool
exact_wrong profile tag before z = not (is_in_range profile tag z) || list_any (λ u. int_eq u.value z) before

same_wrong : (profile : Profile) (tag : Option Primitive) → TagOk tag → (vs : List Value) (us : List Valued) → AllAgree vs us → (v : Value) (z : ℤ) → Agrees v z
    → is_wrong profile tag vs v ≡ exact_wrong profile tag us z
same_wrong profile tag ok vs us h v z a =
    ap (λ b. not b || list_any (λ o. int_eq (int_of o) (int_of v)) vs) (same_range profile tag ok v z a)
    ∙ ⊎_elim
    (λ t. ap (λ w. not (is_in_range profile tag z) || list_any (λ o. int_eq (int_of o) w) vs) (exact_in_range profile tag ok v z a t)
    ∙ ap (λ b. not (is_in_range profile tag z) || b) (same_any profile tag ok z t vs us h))
    (λ t. ap (λ b. not b || list_any (λ o. int_eq (int_of o) (int_of v)) vs) t ∙ sym (ap (λ b. not b || list_any (λ u. int_eq u.value z) us) t))
    (cases_Bool (is_in_range profile tag z))

-- the faults of an enum's discriminants as whole numbers
abbrev pub exact_faults : Profile → Option Primitive → List Valued → List Valued → List NameFault
exact_faults profile tag before [] = []
exact_faults profile tag before (v ∷ vs) = fault_at (exact_wrong profile tag before v.value) Discriminant v.variant.name ++ exact_faults profile tag (before ++ (v ∷ [])) vs

pub same_faults : (profile : Profile) (tag : Option Primitive) → TagOk tag → (before : List Value) (valued : List Valued) → AllAgree before valued
    → (implied : Value) (z : ℤ) → Agrees implied z → (vs : List DeclVariant) → value_faults profile tag before implied vs ≡ exact_faults profile tag valued (valued_from z vs)
same_faults profile tag ok before valued h implied z a [] = refl
same_faults profile tag ok before valued h implied z a (v ∷ vs) =
    let here = agrees_value implied z a v in
    let one : Valued = record { variant = v; value = value_of z v } in
    ap (λ b. fault_at b Discriminant v.name ++ value_faults profile tag (before ++ (value_in implied v ∷ [])) (next_of (value_in implied v)) vs)
    (same_wrong profile tag ok before valued h (value_in implied v) (value_of z v) here)
    ∙ ap (λ rest. fault_at (exact_wrong profile tag valued (value_of z v)) Discriminant v.name ++ rest)
    (same_faults profile tag ok (before ++ (value_in implied v ∷ [])) (valued ++ (one ∷ [])) (one_more before valued (value_in implied v) one h here)
    (next_of (value_in implied v)) (value_of z v +ℤ pos 1) (agrees_next (value_in implied v) (value_of z v) here) vs)
