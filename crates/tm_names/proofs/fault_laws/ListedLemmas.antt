-- Each fault of a part of a file is listed for it.
use Rattle.std.proofs.Common.{◌≡◌, ℕ, refl, sym, ap, subst, inl, Bool, true, false, List, ◌∷◌}
use Rattle.std.specs.Prelude.{Option, Some, None, not, is_some}
use Rattle.std.proofs.lemmas.Bool.{false≢true}
use Rattle.tm_base.specs.declared.limit.NameWhy.TheVariants as why
use Rattle.tm_names.proofs.Members.{Member, into_flat_map}
use Rattle.tm_names.proofs.fault_laws.PartLemmas.{fault, into_where}
use Rattle.tm_names.specs.declared.meaning.Meaning.{Meaning}
use Rattle.tm_names.specs.declared.faults.mentions.Mention.TheVariants.{Name, Life}
use Rattle.tm_names.specs.declared.faults.mentions.NameMention.{NameMention}
use Rattle.tm_names.specs.Found.{first_repr, mention_faults, name_faults, repr_faults, reserved, scope_faults}
use Rattle.tm_names.specs.Least.{fault_where}
use Rattle.tm_names.specs.Meanings.{meaning_of, takes}
use Rattle.tm_names.specs.Representations.{is_repr_in_form}
use Rattle.tm_names.specs.Scopes.{Scope, is_in_sight}
use Rattle.tm_names.specs.Written.{is_reserved}
use Rattle.tm_parse.specs.declared.parsed.Decl.{Decl}
use Rattle.tm_parse.specs.declared.parsed.DeclRepr.{DeclRepr}

not_false : (b : Bool) → b ≡ false → not b ≡ true
not_false b e = ap not e

pub repr_listed : (d : Decl) (first : DeclRepr) (others : List DeclRepr) → d.reprs ≡ first ∷ others → is_repr_in_form d ≡ false
    → Member (fault why.BadRepr first.token) (repr_faults d)
repr_listed d first others e t =
    subst (λ reprs. Member (fault why.BadRepr first.token) (first_repr (not (is_repr_in_form d)) reprs)) (sym e)
    (into_where (not (is_repr_in_form d)) why.BadRepr first.token (not_false (is_repr_in_form d) t))

module _ (name : ℕ → List ℕ) where
  pub reserved_listed : (places : List ℕ) (place : ℕ) → Member place places → is_reserved name place ≡ true → Member (fault why.Lifetime place) (reserved name places)
  reserved_listed places place m t =
      into_flat_map (λ p. fault_where (is_reserved name p) why.Lifetime p) (fault why.Lifetime place) place places m
      (into_where (is_reserved name place) why.Lifetime place t)

  module _ (decls : List Decl) where
    unknown_in : (n : NameMention) (o : Option Meaning) → is_some o ≡ false → Member (fault why.Unknown n.place) (name_faults decls n o)
    unknown_in n None e = inl refl
    unknown_in n (Some meaning) e = absurd (false≢true (sym e))

    pub unknown_listed : (scope : Scope) (n : NameMention) → Member (Name n) scope.mentions → is_some (meaning_of name decls scope.types n.place) ≡ false
        → Member (fault why.Unknown n.place) (scope_faults name decls scope)
    unknown_listed scope n m e =
        into_flat_map (mention_faults name decls scope.sight scope.types) (fault why.Unknown n.place) (Name n) scope.mentions m
        (unknown_in n (meaning_of name decls scope.types n.place) e)

    pub arity_listed : (scope : Scope) (n : NameMention) (meaning : Meaning) → Member (Name n) scope.mentions
        → meaning_of name decls scope.types n.place ≡ Some meaning → takes decls meaning n ≡ false
        → Member (fault why.Arity n.place) (scope_faults name decls scope)
    arity_listed scope n meaning m meant t =
        into_flat_map (mention_faults name decls scope.sight scope.types) (fault why.Arity n.place) (Name n) scope.mentions m
        (subst (λ o. Member (fault why.Arity n.place) (name_faults decls n o)) (sym meant)
        (into_where (not (takes decls meaning n)) why.Arity n.place (not_false (takes decls meaning n) t)))

    pub hidden_listed : (scope : Scope) (place : ℕ) → Member (Life place) scope.mentions → is_in_sight name scope.sight place ≡ false
        → Member (fault why.Lifetime place) (scope_faults name decls scope)
    hidden_listed scope place m t =
        into_flat_map (mention_faults name decls scope.sight scope.types) (fault why.Lifetime place) (Life place) scope.mentions m
        (into_where (not (is_in_sight name scope.sight place)) why.Lifetime place (not_false (is_in_sight name scope.sight place) t))
