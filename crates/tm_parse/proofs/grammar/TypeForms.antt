-- The form and the laws of one level of a type, over any part for the types in it.
use Rattle.std.proofs.Common.{◌≡◌, ℕ, zero, refl, true, List, [], ◌∷◌, ◌++◌}
use Rattle.tm_parse.proofs.grammar.Choices.{to_laws, or_laws}
use Rattle.tm_parse.proofs.grammar.Forms.{any_form, the_form, one_form, to_form, seq_form, or_form, optional_form, listed_form, lifetimes_then_form, between_form}
use Rattle.tm_parse.proofs.grammar.Lawful.{Form, Laws}
use Rattle.tm_parse.proofs.grammar.LifetimeLaws.{IsTold, lifetimes_then_laws}
use Rattle.tm_parse.proofs.grammar.Pairs.{seq_laws}
use Rattle.tm_parse.proofs.grammar.ShapeLaws.{any_laws, the_laws, optional_laws, listed_laws, between_laws}
use Rattle.tm_parse.proofs.grammar.Single.{one_laws}
use Rattle.tm_parse.specs.Classes.{apart}
use Rattle.tm_parse.specs.Events.{array_length, Event}
use Rattle.tm_parse.specs.Parts.{Reader, Part}
use Rattle.tm_parse.specs.Shapes.{any, the, lifetimes_then}
use Rattle.tm_parse.specs.Types.{integer, scalar, alias, generic, number, definition_names, behind_paren, plain_type, one_level, type_part, read_none}
use Rattle.tm_parse.specs.declared.class.Class.{Class}
use Rattle.tm_parse.specs.declared.class.Class.TheVariants as c
use Rattle.tm_parse.specs.declared.parsed.Expr.{Expr}

pub definition_name_laws : Laws (λ n. any definition_names)
definition_name_laws = any_laws c.Name (c.Align ∷ c.Alignment ∷ c.Ask ∷ c.Assume ∷ c.C ∷ c.Derive ∷ c.Declare ∷ c.Lifetimes ∷ c.Outlives ∷ c.Packed ∷ c.Repr ∷ c.Safety ∷ c.Transparent ∷ c.Union ∷ c.Validity ∷ [])

-- what stands beside a type, before it or behind it, begins none
pub record TellsTypes (first : List Class) : Type 0 where
  pub comma : apart (c.Less ∷ c.Comma ∷ []) first ≡ true
  pub unit : apart (c.CloseParen ∷ []) first ≡ true
  pub unique : apart (c.Mut ∷ []) first ≡ true
  pub closing : apart ((first ++ (c.Less ∷ c.Comma ∷ [])) ++ []) (c.CloseParen ∷ []) ≡ true
  pub lifetime : apart (c.Lifetime ∷ []) first ≡ true
  pub argument : apart (c.Comma ∷ []) (c.Lifetime ∷ first) ≡ true
  pub arguments : apart (lifetimes_then (the c.Lifetime) (type_part first (λ v e. ⊥) read_none)).bars (c.Greater ∷ []) ≡ true

module _ (first : List Class) (Spells : ℕ → Expr → List Event → Type 0) (read : Reader Expr) where
  abbrev X : ℕ → Part Expr
  X n = type_part first (Spells n) read

  module _ (x : Form X) where
    behind_form : Form (λ n. behind_paren (X n))
    behind_form = or_form (to_form _ (the_form c.CloseParen))
        (to_form _ (seq_form x (seq_form (optional_form (seq_form (the_form c.Comma) (listed_form x refl)) refl) (the_form c.CloseParen)))) refl

    plain_form : Form (λ n. plain_type (X n))
    plain_form = or_form (to_form _ (any_form (integer ∷ scalar ∷ [])))
        (or_form (to_form _ (the_form c.Bang))
        (or_form (to_form _ (seq_form (the_form c.OpenBracket) (seq_form x (seq_form (the_form c.Semicolon) (seq_form (one_form array_length (number ∷ [])) (the_form c.CloseBracket))))))
        (or_form (to_form _ (seq_form (the_form c.Ampersand) (seq_form (the_form c.Lifetime) (seq_form (optional_form (the_form c.Mut) refl) x))))
        (or_form (to_form _ (seq_form (the_form c.NonZero) (between_form c.Less (the_form integer) c.Greater)))
        (or_form (to_form _ (the_form alias))
        (or_form (to_form _ (seq_form (the_form generic) (between_form c.Less x c.Greater)))
        (to_form _ (seq_form (any_form definition_names) (optional_form (between_form c.Less (lifetimes_then_form (the_form c.Lifetime) x refl refl) c.Greater) refl)))
        refl) refl) refl) refl) refl) refl) refl

    pub level_form : Form (λ n. one_level (X n))
    level_form = or_form (to_form _ (seq_form (the_form c.OpenParen) behind_form)) plain_form refl

  module _ (told : TellsTypes first) (x : Laws X) where
    pub behind_laws : Laws (λ n. behind_paren (X n))
    behind_laws = or_laws (to_laws _ (the_laws c.CloseParen))
        (to_laws _ (seq_laws x (seq_laws (optional_laws (seq_laws (the_laws c.Comma) (listed_laws x refl refl told.comma) refl) refl) (the_laws c.CloseParen) told.closing) refl)) refl told.unit

    given : IsTold (the c.Lifetime) (X zero)
    given = record {
      lifetime = refl;
      item = refl;
      lifetime_ends = refl;
      item_ends = refl;
      next_lifetime = told.argument;
      next_item = told.comma;
      either = told.lifetime;
    }

    pub plain_laws : Laws (λ n. plain_type (X n))
    plain_laws = or_laws (to_laws _ (any_laws integer (scalar ∷ [])))
        (or_laws (to_laws _ (the_laws c.Bang))
        (or_laws (to_laws _ (seq_laws (the_laws c.OpenBracket) (seq_laws x (seq_laws (the_laws c.Semicolon) (seq_laws (one_laws array_length number []) (the_laws c.CloseBracket) refl) refl) refl) refl))
        (or_laws (to_laws _ (seq_laws (the_laws c.Ampersand) (seq_laws (the_laws c.Lifetime) (seq_laws (optional_laws (the_laws c.Mut) refl) x told.unique) refl) refl))
        (or_laws (to_laws _ (seq_laws (the_laws c.NonZero) (between_laws c.Less (the_laws integer) c.Greater refl) refl))
        (or_laws (to_laws _ (the_laws alias))
        (or_laws (to_laws _ (seq_laws (the_laws generic) (between_laws c.Less x c.Greater refl) refl))
        (to_laws _ (seq_laws definition_name_laws (optional_laws (between_laws c.Less (lifetimes_then_laws (the_laws c.Lifetime) x given) c.Greater told.arguments) refl) refl))
        refl refl) refl refl) refl refl) refl refl) refl refl) refl refl) refl refl

    pub level_laws : Laws (λ n. one_level (X n))
    level_laws = or_laws (to_laws _ (seq_laws (the_laws c.OpenParen) behind_laws refl)) plain_laws refl refl
