-- Each place of a file is that of a terminal.
use Rattle.std.proofs.Common.{ℕ, ◌+◌, ◌<◌, Bool, Option, Some, None, IfSome, List, [], ◌∷◌, length, map, All, ◌≤◌, arith}
use Rattle.std.proofs.lemmas.List.Elements.{All-nil, All-cons, All-append, All-head, All-tail, All-map}
use Rattle.std.specs.List.{enumerate_from}
use Rattle.tm_lex.specs.declared.token.Token.{Token}
use Rattle.tm_parse.proofs.bounds.EachType.{KeepsTypes}
use Rattle.tm_parse.proofs.bounds.FileKeeping.{KeptItem, kept_of_file}
use Rattle.tm_parse.proofs.bounds.KeptByParts.{Keeps, skipped, word_keeps, to_keeps, seq_keeps, or_keeps, mark_keeps, many_keeps, listed_keeps, listed1_keeps, optional_keeps, KeptTwo, kept-neither, lifetimes_then_keeps}
use Rattle.tm_parse.proofs.bounds.TypeKeeping.{KeepsKinds, keeps_written}
use Rattle.tm_parse.specs.Accepted.{IsFile}
use Rattle.tm_parse.specs.Definitions.{placed_at, repr_or_derive, attribute, together, field, place, variant_field, variant_place, variant_fields, variant, variant_of, both_places, parameters, single, struct_body, union_body, enum_body, headed_any, definition}
use Rattle.tm_parse.specs.Files.{question, item}
use Rattle.tm_parse.specs.Places.{own_places, PlacesOfType, PlacesOfField, PlacesOfVariant, PlacesOfDefinition, PlacesOfBound, PlacesOfQuestion, EachPlace}
use Rattle.tm_parse.specs.Shapes.{or_neither}
use Rattle.tm_parse.specs.Spelling.{terminal_of, terminals_of}
use Rattle.tm_parse.specs.Types.{places, or_none}
use Rattle.tm_parse.specs.declared.parsed.Decl.{Decl}
use Rattle.tm_parse.specs.declared.parsed.DeclField.{DeclField}
use Rattle.tm_parse.specs.declared.parsed.DeclRepr.{DeclRepr}
use Rattle.tm_parse.specs.declared.parsed.DeclVariant.{DeclVariant}
use Rattle.tm_parse.specs.declared.parsed.Parsed.{Parsed}
use Rattle.tm_parse.specs.declared.parsed.ReprItem.{ReprItem}
use Rattle.tm_parse.specs.declared.terminal.Terminal.{Terminal}

module _ (IsPlace : ℕ → Type 0) where
  abbrev At : Terminal → Type 0
  At t = IsPlace t.place

  abbrev OfRepr : DeclRepr → Type 0
  OfRepr repr = IsPlace repr.token

  all-places : (ts : List Terminal) → All At ts → All IsPlace (places ts)
  all-places ts h = All-map IsPlace (λ t. t.place) ts h

  kinds : KeepsKinds At (λ t. All IsPlace (own_places t))
  kinds = record {
    prim = λ p. All-nil IsPlace;
    never = All-nil IsPlace;
    tuple = λ ts. All-nil IsPlace;
    array = λ t n l. All-nil IsPlace;
    wrap = λ w t. All-nil IsPlace;
    ref = λ t unique inner h. All-cons IsPlace t.place [] h (All-nil IsPlace);
    nonzero = λ t h is. All-nil IsPlace;
    aliased = λ t h is. All-nil IsPlace;
    named = λ t lifetimes ts h others. All-cons IsPlace t.place (places lifetimes) h (all-places lifetimes others);
  }

  types : KeepsTypes At (PlacesOfType IsPlace)
  types = keeps_written At (λ t. All IsPlace (own_places t)) kinds

  -- attributes and parameters

  repr-places : (token : ℕ) (items : List ReprItem) → IsPlace token → All OfRepr (placed_at token items)
  repr-places token items h = All-map OfRepr (λ what. record { token = token; item = what }) items (λ k d l. h)

  of-brackets : Keeps At (All OfRepr) repr_or_derive.spells
  of-brackets = or_keeps (to_keeps (seq_keeps word_keeps skipped) (λ v k. repr-places v.0.place v.1 k.0)) (to_keeps skipped (λ v k. All-nil OfRepr))

  of-attribute : Keeps At (All OfRepr) attribute.spells
  of-attribute = to_keeps (seq_keeps skipped (to_keeps {L = All OfRepr} (seq_keeps skipped (seq_keeps of-brackets skipped)) (λ v k. k.1.0))) (λ v k. k.1)

  all-together : (reprs : List (List DeclRepr)) → All (All OfRepr) reprs → All OfRepr (together reprs)
  all-together [] h = All-nil OfRepr
  all-together (x ∷ xs) h = All-append OfRepr x (together xs) (All-head (All OfRepr) x xs h) (all-together xs (All-tail (All OfRepr) x xs h))

  of-none : {V : Type 0} (K : V → Type 0) (vs : Option (List V)) → IfSome vs (All K) → All K (or_none vs)
  of-none K None h = All-nil K
  of-none K (Some vs) h = h

  both-places : (v : List Terminal × List Terminal) → KeptTwo At At v → KeptTwo IsPlace IsPlace (both_places v)
  both-places v k = (all-places v.0 k.0, all-places v.1 k.1)

  of-parameters : Keeps At (KeptTwo IsPlace IsPlace) parameters.spells
  of-parameters = to_keeps (optional_keeps (to_keeps {L = KeptTwo At At} (seq_keeps skipped (seq_keeps (lifetimes_then_keeps (mark_keeps word_keeps) (mark_keeps word_keeps)) skipped)) (λ v k. k.1.0)))
      (λ v k. both-places (or_neither v) (kept-neither At At v k))

  -- fields and variants

  abbrev Field : DeclField → Type 0
  Field = PlacesOfField IsPlace

  abbrev Variant : DeclVariant → Type 0
  Variant = PlacesOfVariant IsPlace

  of-single : (fields : List DeclField) → All Field fields → All Variant (single fields)
  of-single fields h = All-cons Variant _ [] (record { name = tt; fields = h }) (All-nil Variant)

  of-variant : (name : Terminal) (fields : Option (List DeclField)) (d : Option (Bool × ℕ)) → At name → IfSome fields (All Field) → Variant (variant_of name fields d)
  of-variant name fields None h k = record { name = h; fields = of-none Field fields k }
  of-variant name fields (Some d) h k = record { name = h; fields = of-none Field fields k }

  module _ (levels : ℕ) where
    of-field : Keeps At Field (field levels).spells
    of-field = mark_keeps (to_keeps (seq_keeps skipped (seq_keeps word_keeps (seq_keeps skipped (types.whole levels)))) (λ v k. record { name = k.1.0; type = k.1.1.1 }))

    of-place : Keeps At Field (place levels).spells
    of-place = mark_keeps (or_keeps (to_keeps (types.whole levels) (λ v k. record { name = tt; type = k })) (to_keeps (seq_keeps skipped
        (or_keeps (to_keeps (types.plain levels) (λ v k. record { name = tt; type = k })) (to_keeps {L = Field} (seq_keeps skipped
        (or_keeps (to_keeps {L = Field} (seq_keeps skipped (seq_keeps skipped (types.whole levels))) (λ v k. record { name = tt; type = k.1.1 }))
        (to_keeps (types.behind levels) (λ v k. record { name = tt; type = k })))) (λ v k. k.1)))) (λ v k. k.1)))

    of-variant-field : Keeps At Field (variant_field levels).spells
    of-variant-field = mark_keeps (to_keeps (seq_keeps word_keeps (seq_keeps skipped (types.whole levels))) (λ v k. record { name = k.0; type = k.1.1 }))

    of-variant-place : Keeps At Field (variant_place levels).spells
    of-variant-place = mark_keeps (to_keeps (types.whole levels) (λ v k. record { name = tt; type = k }))

    of-variant-fields : Keeps At (All Field) (variant_fields levels).spells
    of-variant-fields = or_keeps (to_keeps (seq_keeps skipped (seq_keeps (listed_keeps of-variant-field) skipped)) (λ v k. k.1.0))
        (to_keeps (seq_keeps skipped (seq_keeps (listed_keeps of-variant-place) skipped)) (λ v k. k.1.0))

    of-each-variant : Keeps At Variant (variant levels).spells
    of-each-variant = mark_keeps (to_keeps (seq_keeps word_keeps (seq_keeps (optional_keeps of-variant-fields) skipped)) (λ v k. of-variant v.0 v.1.0 v.1.1 k.0 k.1.0))

    of-struct : Keeps At (All Variant) (struct_body levels).spells
    of-struct = or_keeps (to_keeps skipped (λ v k. of-single [] (All-nil Field)))
        (or_keeps (to_keeps (to_keeps {L = All Field} (seq_keeps skipped (seq_keeps (listed_keeps of-field) skipped)) (λ v k. k.1.0)) of-single)
        (to_keeps (seq_keeps (to_keeps {L = All Field} (seq_keeps skipped (seq_keeps (listed_keeps of-place) skipped)) (λ v k. k.1.0)) skipped) (λ v k. of-single v.0 k.0)))

    of-union : Keeps At (All Variant) (union_body levels).spells
    of-union = to_keeps (to_keeps {L = All Field} (seq_keeps skipped (seq_keeps (listed1_keeps of-field) skipped)) (λ v k. k.1.0)) of-single

    of-enum : Keeps At (All Variant) (enum_body levels).spells
    of-enum = to_keeps (seq_keeps skipped (seq_keeps (listed_keeps of-each-variant) skipped)) (λ v k. k.1.0)

    -- definitions and the other items

    abbrev Headed : (List DeclRepr → Decl) → Type 0
    Headed d = (reprs : List DeclRepr) → All OfRepr reprs → PlacesOfDefinition IsPlace (d reprs)

    of-headed : Keeps At Headed (headed_any levels).spells
    of-headed = or_keeps (mark_keeps (to_keeps (seq_keeps skipped (seq_keeps word_keeps (seq_keeps of-parameters of-struct))) (λ v k reprs h. record { name = k.1.0; reprs = h; parameters = k.1.1.0.0; type_parameters = k.1.1.0.1; variants = k.1.1.1 })))
        (or_keeps (mark_keeps (to_keeps (seq_keeps skipped (seq_keeps word_keeps (seq_keeps of-parameters of-union))) (λ v k reprs h. record { name = k.1.0; reprs = h; parameters = k.1.1.0.0; type_parameters = k.1.1.0.1; variants = k.1.1.1 })))
        (mark_keeps (to_keeps (seq_keeps skipped (seq_keeps word_keeps (seq_keeps of-parameters of-enum))) (λ v k reprs h. record { name = k.1.0; reprs = h; parameters = k.1.1.0.0; type_parameters = k.1.1.0.1; variants = k.1.1.1 }))))

    of-definition : Keeps At (PlacesOfDefinition IsPlace) (definition levels).spells
    of-definition = to_keeps (seq_keeps (many_keeps of-attribute) (seq_keeps skipped of-headed)) (λ v k. k.1.1 (together v.0) (all-together v.0 k.0))

    of-question : Keeps At (λ i. KeptItem IsPlace (PlacesOfBound IsPlace) (PlacesOfDefinition IsPlace) (PlacesOfQuestion IsPlace) i) (question levels).spells
    of-question = to_keeps (seq_keeps skipped (seq_keeps (types.whole levels) (seq_keeps skipped (seq_keeps (types.whole levels) skipped)))) (λ v k. record { source = k.1.0; target = k.1.1.1.0 })

    of-item : Keeps At (λ i. KeptItem IsPlace (PlacesOfBound IsPlace) (PlacesOfDefinition IsPlace) (PlacesOfQuestion IsPlace) i) (item levels).spells
    of-item = or_keeps (to_keeps (seq_keeps skipped (seq_keeps (mark_keeps word_keeps) skipped)) (λ v k. k.1.0))
        (or_keeps (to_keeps (seq_keeps skipped (seq_keeps word_keeps (seq_keeps skipped (seq_keeps word_keeps skipped)))) (λ v k. record { longer = k.1.0; shorter = k.1.1.1.0 }))
        (or_keeps of-question (to_keeps of-definition (λ v k. k))))

  pub places_kept : (v : Parsed) (ts : List Terminal) → IsFile v ts → All At ts → EachPlace IsPlace v
  places_kept v ts f h =
      let kept = kept_of_file IsPlace (PlacesOfBound IsPlace) (PlacesOfDefinition IsPlace) (PlacesOfQuestion IsPlace) At of-item v ts f h in
      record { lifetimes = kept.lifetimes; bounds = kept.bounds; definitions = kept.definitions; questions = kept.questions }

-- the terminals of a text's tokens have the tokens' places
placed : (text : List ℕ) (n last : ℕ) (tokens : List Token) → n + length tokens ≤ last → All (λ t. t.place < last) (map (terminal_of text) (enumerate_from n tokens))
placed text n last [] l = All-nil (λ t. t.place < last)
placed text n last (token ∷ tokens) l = All-cons (λ t. t.place < last) (terminal_of text (n, token)) (map (terminal_of text) (enumerate_from (n + 1) tokens)) (omega (arith, l)) (placed text (n + 1) last tokens (omega (arith, l)))

pub terminals_placed : (text : List ℕ) (tokens : List Token) → All (λ t. t.place < length tokens) (terminals_of text tokens)
terminals_placed text tokens = placed text 0 (length tokens) tokens (omega arith)
