-- Types in the order of their texts.
use Rattle.std.proofs.Common.{◌≡◌, ℕ, suc, Bool, refl, ◌+◌, ◌<◌, sym, ap, subst, ◌∙◌, List, [], ◌∷◌, ◌++◌, map, length, get_or, take, All, Contains, arith}
use Rattle.std.specs.Cmp.Lexicographic.{slice_cmp}
use Rattle.std.specs.List.{AllZip}
use Rattle.std.specs.List.Sorted.{IsPermutation, IsSorted, IsSortedByKey}
use Rattle.std.specs.declared.cmp.Ordering.{Ordering}
use Rattle.std.specs.Ordering.{nat_cmp}
use Rattle.std.proofs.lemmas.List.{get_or-map, map-append, take_more, length-map}
use Rattle.std.proofs.lemmas.List.Elements.{All-contains}
use Rattle.std.proofs.lemmas.List.Sorted.{All-permutation, Contains-permutation, IsPermutation-map, length_permutation}
use Rattle.tm_base.specs.declared.world.World.{World}
use Rattle.tm_base.specs.Whole.{AreDistinct}
use Rattle.tm_names.specs.declared.resolved.Open.{Open}
use Rattle.tm_names.specs.declared.resolved.Resolved.{Resolved}
use Rattle.tm_ground.specs.declared.ordering.Texted.{Texted}
use Rattle.tm_ground.specs.Closed.{Closed, closed}
use Rattle.tm_ground.specs.ClosedTexts.{closed_text, AreInOrder}
use Rattle.tm_ground.specs.Closing.{AreFound}
use Rattle.tm_ground.specs.Limits.{is_named, is_ref, OccursAs, type_limit, ref_limit}
use Rattle.tm_ground.specs.Occurs.{Occurs}
use Rattle.tm_ground.specs.Rows.{IsWorldOf}
use Rattle.tm_ground.specs.Sets.{closed_types}
use Rattle.tm_ground.specs.Texted.{type_of_texted, IsTextOf, HasItsText, AreInTextOrder}
use Rattle.tm_ground.proofs.finding.ContainsLemmas.{contains-behind, contains-first}
use Rattle.tm_ground.proofs.finding.PigeonLemmas.{distinct-again, whole-again}
use Rattle.tm_ground.proofs.sizes.SmallLemmas.{occurring-short}
use Rattle.tm_ground.proofs.texts.TextLemmas.{number-text}

-- the first types with their texts, and one more
pub types-more : (ts : List Open) (i : ℕ) (all new : List Texted) (t : Open) (texted : Texted) → i < length ts → t ≡ get_or ts i t → map type_of_texted all ≡ closed_types (take i ts) → type_of_texted texted ≡ closed t → new ≡ all ++ texted ∷ [] → map type_of_texted new ≡ closed_types (take (i + 1) ts)
types-more ts i all new t texted l e h same p =
    let first : take (i + 1) ts ≡ take i ts ++ t ∷ [] = take_more ts i t l ∙ ap (λ z. take i ts ++ z ∷ []) (sym e) in
    let more : closed_types (take (i + 1) ts) ≡ closed_types (take i ts) ++ closed t ∷ [] = ap closed_types first ∙ map-append closed (take i ts) (t ∷ []) in
    rw (p, more, sym h, sym same) (map-append type_of_texted all (texted ∷ []))

-- types from which the texts are taken away
types-without : (all : List Texted) → closed_types (map (λ texted. texted.ty) all) ≡ map type_of_texted all
types-without [] = refl
types-without (texted ∷ all) = ap (λ cs. type_of_texted texted ∷ cs) (types-without all)

-- the keys of a list that is sorted by them
pub sorted-keys : {X K : Type 0} (key : X → K) (cmp : K → K → Ordering) (xs : List X) → IsSortedByKey key cmp xs → IsSorted cmp (map key xs)
sorted-keys key cmp [] h = λ k d a b. absurd (omega (arith, b))
sorted-keys key cmp (x ∷ xs) h = λ k d a b.
    let l : k + 1 < length (x ∷ xs) = omega (arith, b, length-map (x ∷ xs) key) in
    rw (get_or-map key (x ∷ xs) (k + 1) x d l, get_or-map key (x ∷ xs) k x d (omega (arith, l))) (h k x a l)

-- types that are taken from texted ones, which are moved
module _ (types : List Open) (sorted : List Texted) (taken : types ≡ map (λ texted. texted.ty) sorted) where
  same-types : closed_types types ≡ map type_of_texted sorted
  same-types = ap closed_types taken ∙ types-without sorted

  pub moved-types : (cs : List Closed) (all : List Texted) → map type_of_texted all ≡ cs → IsPermutation all sorted → IsPermutation cs (closed_types types)
  moved-types cs all h p = rw (sym h, same-types) (IsPermutation-map type_of_texted all sorted p)

  -- they are in the order of their texts, where those are sorted by these
  module _ (rows refs : List Closed) (world : World) where
    each-text : (all : List Texted) → All (HasItsText rows refs world) all → AllZip (IsTextOf rows refs world) (map type_of_texted all) (map (λ texted. texted.text) all)
    each-text [] h = tt
    each-text (texted ∷ all) h = (h 0 texted (omega arith), each-text all (λ k d l. h (suc k) d (omega (arith, l))))

    pub in-text-order : (all : List Texted) → All (HasItsText rows refs world) all → IsPermutation all sorted → IsSortedByKey (λ (texted : Texted). texted.text) (slice_cmp nat_cmp) sorted
        → AreInTextOrder rows refs world (closed_types types)
    in-text-order all h p s = record {
      texts = map (λ texted. texted.text) sorted;
      each = subst (λ cs. AllZip (IsTextOf rows refs world) cs (map (λ texted. texted.text) sorted)) (sym same-types)
          (each-text sorted (All-permutation (HasItsText rows refs world) all sorted p h));
      sorted = sorted-keys (λ (texted : Texted). texted.text) (slice_cmp nat_cmp) sorted s;
    }

-- moved types are distinct where they were
pub moved-distinct : (cs ds : List Closed) → AreDistinct cs → IsPermutation cs ds → AreDistinct ds
moved-distinct cs ds distinct p =
    distinct-again cs ds distinct (record { within = λ c h. Contains-permutation cs ds c p h }) (omega (arith, length_permutation cs ds p))

module _ (resolved : Resolved) (types refs : List Closed) (whole : AreFound resolved types refs) where
  -- both kinds in another order are all that occur too
  pub moved-whole : (named_types ref_types : List Closed) → IsPermutation types named_types → IsPermutation refs ref_types → AreFound resolved named_types ref_types
  moved-whole named_types ref_types p q = record {
    rows = whole-again type_limit (OccursAs is_named resolved) types named_types p whole.rows;
    refs = whole-again ref_limit (OccursAs is_ref resolved) refs ref_types q whole.refs;
    small = whole.small;
  }

  -- texts of a world of the file are those of the closed types
  module _ (world : World) (w : IsWorldOf resolved types refs world) where
    texts-of : (cs : List Closed) (texts : List (List ℕ)) → AllZip (IsTextOf types refs world) cs texts → ((c : Closed) → Contains cs c → Occurs resolved c) → texts ≡ map (closed_text resolved) cs
    texts-of [] [] h o = refl
    texts-of [] (text ∷ texts) h o = absurd h
    texts-of (c ∷ cs) [] h o = absurd h
    texts-of (c ∷ cs) (text ∷ texts) h o =
        let first = h.0.same ∙ number-text resolved types refs world w c h.0.number h.0.numbered (occurring-short resolved whole.small c (o c (contains-first c cs))) in
        let others = texts-of cs texts h.1 (λ d i. o d (contains-behind c cs d i)) in
        ap (λ t. t ∷ texts) first ∙ ap (λ ts. closed_text resolved c ∷ ts) others

    pub in-order : (kind : Closed → Bool) (before cs : List Closed) → All (OccursAs kind resolved) before → IsPermutation before cs → AreInTextOrder types refs world cs → AreInOrder resolved cs
    in-order kind before cs each p h =
        let occur = All-permutation (OccursAs kind resolved) before cs p each in
        subst (λ texts. IsSorted (slice_cmp nat_cmp) texts) (texts-of cs h.texts h.each (λ c i. (All-contains (OccursAs kind resolved) cs c occur i).occurs)) h.sorted
