-- Layouts that a field begins, and those of enums, as they are reckoned.
use Rattle.std.proofs.Common.{◌≡◌, ℕ, ◌+◌, ◌-◌, ◌≤◌, max, refl, sym, ap, ◌∙◌, subst, true, if◌then◌else◌, List, [], ◌∷◌, None, arith}
use Rattle.tm_base.specs.declared.definition.Kind.{Kind}
use Rattle.tm_base.specs.declared.definition.Kind.TheVariants.{Enum}
use Rattle.tm_base.specs.declared.definition.Repr.{Repr}
use Rattle.tm_base.specs.declared.profile.Profile.{Profile}
use Rattle.tm_base.specs.Layout.{Layout, round_up, place_at, end_of, greatest_align, filled, empty_layout, struct_layout, union_layout, tag_layout, structs, enum_layout}
use Rattle.std.proofs.Math.Nat.{mod_self, zero-mod}
use Rattle.tm_layout.specs.declared.layouts.Layout.{Layout as Known}
use Rattle.tm_layout.specs.Capped.{capped}
use Rattle.tm_layout.specs.Placed.{begin_in}
use Rattle.tm_layout.specs.Reckoned.{IsCapped, shape}
use Rattle.tm_layout.proofs.ReckonLemmas.{capped-first, round_up-capped, greatest_align-some}

pub filled-capped : (size end align : ℕ) (r : Known) → end ≡ capped size → IsCapped (filled end align) r → IsCapped (filled size align) r
filled-capped size end align r e known = record { size = known.size ∙ ap (λ (n : ℕ). capped (round_up n align)) e ∙ round_up-capped align size; align = known.align }

-- a field that stands first is at 0
first_place : (a : ℕ) → round_up 0 a ≡ 0
first_place a = let whole : a - 0 ≡ a = omega arith in rw (zero-mod a, whole, mod_self a) refl

-- where fields end that stand behind a first one
pub front-end : (front : Layout) (ls : List Layout) → end_of None front.size ls ≡ end_of None 0 (front ∷ ls)
front-end front ls =
    let zero : place_at None 0 front ≡ 0 = first_place front.align in
    let same : front.size ≡ place_at None 0 front + front.size = omega arith in
    ap (λ (n : ℕ). end_of None n ls) same

pub behind-capped : (front : Layout) (ls : List Layout) (end align : ℕ) (r : Known) → end ≡ capped (end_of None front.size ls) → align ≡ max front.align (greatest_align None ls)
    → IsCapped (filled end align) r → IsCapped (struct_layout None None (front ∷ ls)) r
behind-capped front ls end align r e a known =
    filled-capped (end_of None 0 (front ∷ ls)) end (max front.align (greatest_align None ls)) r (e ∙ ap capped (front-end front ls))
    (subst (λ (n : ℕ). IsCapped (filled end n) r) a known)

-- behind a field of size 0 and alignment 1, structs are as they are without
pub structs-empty : (vs : List (List Layout)) → structs (empty_layout ∷ []) vs ≡ structs [] vs
structs-empty [] = refl
structs-empty (ls ∷ vs) =
    let align : max 1 (greatest_align None ls) ≡ greatest_align None ls = omega (arith, greatest_align-some None ls) in
    let first : struct_layout None None (empty_layout ∷ ls) ≡ struct_layout None None ls = ap (λ (n : ℕ). filled (end_of None 0 ls) n) align in
    let rest = structs-empty vs in
    cc

-- a struct of two fields, where the second is cut off
pub pair-capped : (tag u : Layout) (k r : Known) → IsCapped u k → IsCapped (struct_layout None None (tag ∷ shape k ∷ [])) r → IsCapped (struct_layout None None (tag ∷ u ∷ [])) r
pair-capped tag u k r known pair =
    let align : max tag.align (max k.align 1) ≡ max tag.align (max u.align 1) = ap (λ (n : ℕ). max tag.align (max n 1)) known.align in record {
      size = pair.size ∙ ap (λ (n : ℕ). capped (pair_size n k.size)) known.align ∙ ap (λ (n : ℕ). capped (pair_size u.align n)) known.size ∙ capped-first (λ n. pair_size u.align n) (λ n. above u.align n) u.size;
      align = pair.align ∙ align;
    } where
      pair_size : ℕ → ℕ → ℕ
      pair_size align size = (struct_layout None None (tag ∷ record { size = size; align = align } ∷ [])).size

      above : (align size : ℕ) → size ≤ pair_size align size
      above align size = omega arith

-- an enum with `C`
pub enum-c : (profile : Profile) (repr : Repr) (vs : List (List Layout)) (tag k r : Known) → repr.c ≡ true → shape tag ≡ tag_layout profile repr.tag → IsCapped (union_layout None None (structs (empty_layout ∷ []) vs)) k
    → IsCapped (struct_layout None None (shape tag ∷ shape k ∷ [])) r → IsCapped (enum_layout profile repr vs) r
enum-c profile repr vs tag k r c t known pair =
    let u = union_layout None None (structs [] vs) in
    let exact : IsCapped u k = subst (λ ss. IsCapped (union_layout None None ss) k) (structs-empty vs) known in
    let made : IsCapped (struct_layout None None (tag_layout profile repr.tag ∷ u ∷ [])) r =
    pair-capped (tag_layout profile repr.tag) u k r exact (subst (λ l. IsCapped (struct_layout None None (l ∷ shape k ∷ [])) r) t pair) in
    subst (λ b. IsCapped (if b then struct_layout None None (tag_layout profile repr.tag ∷ u ∷ []) else union_layout None None (structs (tag_layout profile repr.tag ∷ []) vs)) r) (sym c) made

-- where the fields of an enum with `C` begin
pub begin-c : (profile : Profile) (kind : Kind) (repr : Repr) (vs : List (List Layout)) (tag k : Known) (r : ℕ) → kind ≡ Enum → repr.c ≡ true → shape tag ≡ tag_layout profile repr.tag
    → IsCapped (union_layout None None (structs (empty_layout ∷ []) vs)) k → r ≡ capped (round_up tag.size k.align) → r ≡ capped (begin_in profile kind repr vs)
begin-c profile kind repr vs tag k r e c t known h =
    let align : k.align ≡ greatest_align None (structs [] vs) = known.align ∙ ap (λ ss. greatest_align None ss) (structs-empty vs) in
    let begun : r ≡ capped (round_up (tag_layout profile repr.tag).size (greatest_align None (structs [] vs))) =
    h ∙ ap (λ (l : Layout). capped (round_up l.size k.align)) t ∙ ap (λ (n : ℕ). capped (round_up (tag_layout profile repr.tag).size n)) align in
    let chosen = subst (λ b. r ≡ capped (if b then round_up (tag_layout profile repr.tag).size (greatest_align None (structs [] vs)) else (tag_layout profile repr.tag).size)) (sym c) begun in
    subst (λ k. r ≡ capped (begin_in profile k repr vs)) (sym e) chosen
