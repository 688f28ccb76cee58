-- No definition that has a layout has more bytes than it weighs, or is aligned to more than 2^29 bytes.
use Rattle.std.proofs.Common.{◌≡◌, ℕ, ◌^◌, ◌≤◌, nat_le, ◌==◌, refl, Bool, true, false, ◌||◌, ◌&&◌, Option, Some, None, if◌then◌else◌, List, [], ◌∷◌, ◌++◌, arith}
use Rattle.std.proofs.lemmas.Bool.Decides.{nat_tests}
use Rattle.std.specs.List.{list_any, list_all, range_with_len}
use Rattle.tm_base.specs.declared.definition.Kind.{Kind}
use Rattle.tm_base.specs.declared.definition.Kind.TheVariants.{Struct, Union, Enum}
use Rattle.tm_base.specs.declared.definition.Repr.{Repr}
use Rattle.tm_base.specs.declared.ground.Primitive.{Primitive}
use Rattle.tm_base.specs.declared.profile.Profile.{Profile}
use Rattle.tm_base.specs.Layout.{Layout, lowered, raised, greatest_align, is_trivial, transparent_layout, struct_layout, union_layout, structs, tag_layout, named_layout, only}
use Rattle.tm_base.specs.Whole.{is_alignment, is_absent_or}
use Rattle.tm_layout.proofs.FactLemmas.{prim_size-small}
use Rattle.tm_layout.proofs.KnownLemmas.{AreAligned, AreVariantsAligned}

-- ---- alignments

near : (n m : ℕ) → (n == m) ≡ true → nat_le m (2 ^ 29) ≡ true → n ≤ 2 ^ 29
near n m e f = grind (arith, nat_tests)

among-step : (n m : ℕ) (b c all any : Bool) → (n == m) ≡ b → nat_le m (2 ^ 29) ≡ c → (all ≡ true → any ≡ true → n ≤ 2 ^ 29) → (c && all) ≡ true → (b || any) ≡ true → n ≤ 2 ^ 29
among-step n m b false all any e f rest h k = cc
among-step n m true true all any e f rest h k = near n m e f
among-step n m false true all any e f rest h k = rest h k

among : (n : ℕ) (ks : List ℕ) → list_all (λ k. nat_le (2 ^ k) (2 ^ 29)) ks ≡ true → list_any (λ k. n == 2 ^ k) ks ≡ true → n ≤ 2 ^ 29
among n [] all h = cc
among n (k ∷ ks) all h =
    among-step n (2 ^ k) (n == 2 ^ k) (nat_le (2 ^ k) (2 ^ 29)) (list_all (λ k. nat_le (2 ^ k) (2 ^ 29)) ks) (list_any (λ k. n == 2 ^ k) ks) refl refl (among n ks) all h

-- an alignment that is written
pub written-small : (n : ℕ) → is_alignment n ≡ true → n ≤ 2 ^ 29
written-small n h = among n (range_with_len 0 30) refl h

raised-small : (align : Option ℕ) (n : ℕ) → is_absent_or is_alignment align ≡ true → n ≤ 2 ^ 29 → raised align n ≤ 2 ^ 29
raised-small None n h small = small
raised-small (Some m) n h small = let k : m ≤ 2 ^ 29 = written-small m h in omega arith

lowered-small : (packed : Option ℕ) (n : ℕ) → n ≤ 2 ^ 29 → lowered packed n ≤ 2 ^ 29
lowered-small None n small = small
lowered-small (Some m) n small = omega arith

pub greatest-small : (packed : Option ℕ) (ls : List Layout) → AreAligned ls → greatest_align packed ls ≤ 2 ^ 29
greatest-small packed [] h = omega arith
greatest-small packed (l ∷ ls) (small, others) = omega (arith, lowered-small packed l.align small, greatest-small packed ls others)

either-small : (b : Bool) (l k : Layout) → l.align ≤ 2 ^ 29 → k.align ≤ 2 ^ 29 → (if b then l else k).align ≤ 2 ^ 29
either-small true l k h i = h
either-small false l k h i = i

transparent-small : (ls : List Layout) → AreAligned ls → (transparent_layout ls).align ≤ 2 ^ 29
transparent-small [] h = omega arith
transparent-small (l ∷ ls) (small, others) = either-small (is_trivial l) (transparent_layout ls) l (transparent-small ls others) small

pub tag-small : (profile : Profile) (tag : Option Primitive) → (tag_layout profile tag).align ≤ 2 ^ 29
tag-small profile None = omega arith
tag-small profile (Some p) = omega (arith, prim_size-small profile p)

pub tag_size-small : (profile : Profile) (tag : Option Primitive) → (tag_layout profile tag).size ≤ 2 ^ 29
tag_size-small profile None = omega arith
tag_size-small profile (Some p) = omega (arith, prim_size-small profile p)

append-aligned : (ls ks : List Layout) → AreAligned ls → AreAligned ks → AreAligned (ls ++ ks)
append-aligned [] ks a b = b
append-aligned (l ∷ ls) ks (small, others) b = (small, append-aligned ls ks others b)

pub structs-aligned : (before : List Layout) (vs : List (List Layout)) → AreAligned before → AreVariantsAligned vs → AreAligned (structs before vs)
structs-aligned before [] a h = tt
structs-aligned before (ls ∷ vs) a (small, others) = (greatest-small None (before ++ ls) (append-aligned before ls a small), structs-aligned before vs a others)

only-aligned : (vs : List (List Layout)) → AreVariantsAligned vs → AreAligned (only vs)
only-aligned [] h = tt
only-aligned (ls ∷ vs) (small, others) = small

enum-small : (profile : Profile) (repr : Repr) (vs : List (List Layout)) (c : Bool) → AreVariantsAligned vs
    → (if c then struct_layout None None (tag_layout profile repr.tag ∷ union_layout None None (structs [] vs) ∷ []) else union_layout None None (structs (tag_layout profile repr.tag ∷ []) vs)).align ≤ 2 ^ 29
enum-small profile repr vs true h =
    omega (arith, tag-small profile repr.tag, greatest-small None (structs [] vs) (structs-aligned [] vs tt h))
enum-small profile repr vs false h =
    greatest-small None (structs (tag_layout profile repr.tag ∷ []) vs) (structs-aligned (tag_layout profile repr.tag ∷ []) vs (tag-small profile repr.tag, tt) h)

struct-small : (repr : Repr) (ls : List Layout) (b : Bool) → is_absent_or is_alignment repr.align ≡ true → AreAligned ls
    → (if b then transparent_layout ls else struct_layout repr.packed repr.align ls).align ≤ 2 ^ 29
struct-small repr ls true h a = transparent-small ls a
struct-small repr ls false h a = raised-small repr.align (greatest_align repr.packed ls) h (greatest-small repr.packed ls a)

pub named-small : (profile : Profile) (kind : Kind) (repr : Repr) (vs : List (List Layout)) → is_absent_or is_alignment repr.align ≡ true → AreVariantsAligned vs → (named_layout profile kind repr vs).align ≤ 2 ^ 29
named-small profile Struct repr vs h a = struct-small repr (only vs) repr.transparent h (only-aligned vs a)
named-small profile Union repr vs h a = raised-small repr.align (greatest_align repr.packed (only vs)) h (greatest-small repr.packed (only vs) (only-aligned vs a))
named-small profile Enum repr vs h a = enum-small profile repr vs repr.c a
