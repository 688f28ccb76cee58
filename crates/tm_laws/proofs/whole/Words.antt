-- A word of a type has whole references, and each is one that some reference of the type may hold.
use Rattle.std.proofs.Common.{◌≡◌, ℕ, zero, suc, ◌+◌, ◌<◌, ◌≤◌, refl, sym, ◌∙◌, ap, subst, Bool, [], ◌∷◌, ◌++◌, map, arith, append_assoc, append-nil}
use Rattle.std.specs.List.{All, Contains, range_with_len}
use Rattle.std.proofs.lemmas.List.Elements.{All-nil, All-cons, All-head, All-tail, All-append, All-weaker, All-contains}
use Rattle.tm_base.specs.declared.cell.Cell.{Cell}
use Rattle.tm_base.specs.declared.cell.Cell.TheVariants.{Byte, Uninit, Ptr}
use Rattle.tm_base.specs.declared.profile.Profile.{Profile}
use Rattle.tm_base.specs.declared.profile.Profile.TheVariants.{Le64, Be64, Le32}
use Rattle.tm_base.specs.Cells.{Word, IsFree, pointer_of, HasWholeReferences, nothing_left, byte_first, uninit_first, reference_first}
use Rattle.tm_base.specs.Expanded.{Expanded}
use Rattle.tm_base.specs.Profiles.{pointer_size}
use Rattle.tm_base.specs.Valid.{Valid}
use Rattle.tm_laws.proofs.whole.Leaves.{Leaf, leaves, Valid-has}
use Rattle.tm_laws.proofs.whole.Types.{IsFor}

-- n bytes of the reference x, from its byte number i on
abbrev pub cells_from : ℕ → ℕ → ℕ → Word
cells_from x i n = map (λ k. Ptr (record { 0 = x }) k) (range_with_len i n)

cells_from-all : (P : Cell → Type 0) (x i n : ℕ) → ((k : ℕ) → i ≤ k → k < i + n → P (Ptr (record { 0 = x }) k)) → All P (cells_from x i n)
cells_from-all P x i zero each = All-nil P
cells_from-all P x i (suc n) each =
    All-cons P _ (cells_from x (i + 1) n) (each i (omega arith) (omega arith)) (cells_from-all P x (i + 1) n (λ k low high. each k (omega arith) (omega arith)))

-- the most bytes that a reference has under a profile
abbrev pub most_bytes : ℕ
most_bytes = 8

pub pointer_size-most : (profile : Profile) → pointer_size profile ≤ most_bytes
pointer_size-most Le64 = omega arith
pointer_size-most Be64 = omega arith
pointer_size-most Le32 = omega arith

-- A cell that a type's word may have: a byte, an uninitialised one, or one of the bytes of a reference
-- that L holds of.
abbrev pub IsCellOf : (ℕ → Type 0) → Cell → Type 0
IsCellOf L (Byte b) = b < 256
IsCellOf L Uninit = Unit {0}
IsCellOf L (Ptr r k) = L r.0 × (k < most_bytes)

free_cell : (L : ℕ → Type 0) (c : Cell) → IsFree c → IsCellOf L c
free_cell L (Byte b) h = h
free_cell L Uninit h = h
free_cell L (Ptr r k) h = elim h [ ]

pub cell-weaker : (L M : ℕ → Type 0) → ((x : ℕ) → L x → M x) → (c : Cell) → IsCellOf L c → IsCellOf M c
cell-weaker L M each (Byte b) h = h
cell-weaker L M each Uninit h = h
cell-weaker L M each (Ptr r k) (l, short) = (each r.0 l, short)

-- some reference of the type may hold x
abbrev pub IsHeldBy : (ℕ → ℕ → Type 0) → Expanded → ℕ → Type 0
IsHeldBy A t x = (leaf : Leaf) × Contains (leaves t) leaf × A x leaf.number

-- the cells of a type's words
pub pointers-related : (A : ℕ → ℕ → Type 0) (keep : Bool) (t : Expanded) (w : Word) → Valid A keep t w → All (IsCellOf (IsHeldBy A t)) w
pointers-related A keep t w h =
    let L = IsHeldBy A t in
    Valid-has A keep (All (IsCellOf L)) (λ u v. All-append (IsCellOf L) u v) (λ u. All-weaker IsFree (IsCellOf L) (free_cell L) u) t
    (λ x leaf inside a. cells_from-all (IsCellOf L) x 0 (pointer_size leaf.profile) (λ k low high. ((leaf, inside, a), omega (arith, pointer_size-most leaf.profile)))) w h

-- two words that have whole references have them together
HasWholeReferences-append : (size : ℕ) (u v : Word) → HasWholeReferences size u → HasWholeReferences size v → HasWholeReferences size (u ++ v)
HasWholeReferences-append size u v (nothing_left _ e) h = subst (λ (x : Word). HasWholeReferences size (x ++ v)) (sym e) h
HasWholeReferences-append size u v (byte_first b _ rest e others) h =
    byte_first b (u ++ v) (rest ++ v) (ap (λ (x : Word). x ++ v) e) (HasWholeReferences-append size rest v others h)
HasWholeReferences-append size u v (uninit_first _ rest e others) h =
    uninit_first (u ++ v) (rest ++ v) (ap (λ (x : Word). x ++ v) e) (HasWholeReferences-append size rest v others h)
HasWholeReferences-append size u v (reference_first x _ rest e others) h =
    reference_first x (u ++ v) (rest ++ v) (ap (λ (y : Word). y ++ v) e ∙ append_assoc (pointer_of size x) rest v) (HasWholeReferences-append size rest v others h)

-- free bytes have no references
HasWholeReferences-free : (size : ℕ) (w : Word) → All IsFree w → HasWholeReferences size w
HasWholeReferences-free size [] h = nothing_left [] refl
HasWholeReferences-free size (Byte b ∷ w) h = byte_first b (Byte b ∷ w) w refl (HasWholeReferences-free size w (All-tail IsFree (Byte b) w h))
HasWholeReferences-free size (Uninit ∷ w) h = uninit_first (Uninit ∷ w) w refl (HasWholeReferences-free size w (All-tail IsFree Uninit w h))
HasWholeReferences-free size (Ptr r k ∷ w) h = absurd (All-head IsFree (Ptr r k) w h)

-- a reference is whole
HasWholeReferences-pointer : (size x : ℕ) → HasWholeReferences size (pointer_of size x)
HasWholeReferences-pointer size x = reference_first x (pointer_of size x) [] (sym (append-nil (pointer_of size x))) (nothing_left [] refl)

-- a word of a type that is written out for a profile has whole references
pub whole-references : (profile : Profile) (A : ℕ → ℕ → Type 0) (keep : Bool) (t : Expanded) → IsFor profile t → (w : Word) → Valid A keep t w → HasWholeReferences (pointer_size profile) w
whole-references profile A keep t for_it w h = Valid-has A keep (HasWholeReferences (pointer_size profile)) (HasWholeReferences-append (pointer_size profile)) (HasWholeReferences-free (pointer_size profile)) t each w h where
  each : (x : ℕ) (leaf : Leaf) → Contains (leaves t) leaf → A x leaf.number → HasWholeReferences (pointer_size profile) (pointer_of (pointer_size leaf.profile) x)
  each x leaf inside a =
      let same : leaf.profile ≡ profile = All-contains (λ (l : Leaf). l.profile ≡ profile) (leaves t) leaf for_it inside in
      subst (λ (p : Profile). HasWholeReferences (pointer_size profile) (pointer_of (pointer_size p) x)) (sym same) (HasWholeReferences-pointer (pointer_size profile) x)
