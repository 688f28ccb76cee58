-- Each fault that is listed for a part of a file stands in the file.
use Rattle.std.proofs.Common.{◌≡◌, ℕ, refl, sym, subst, inl, inr, Bool, true, false, List, [], ◌∷◌, ◌++◌}
use Rattle.std.specs.Prelude.{Option, Some, None, IsNone, not}
use Rattle.std.proofs.lemmas.Bool.{false≢true}
use Rattle.tm_base.specs.declared.limit.NameWhy.TheVariants as why
use Rattle.tm_base.specs.declared.profile.Profile.{Profile}
use Rattle.tm_names.proofs.Members.{Member, contained, from_flat_map}
use Rattle.tm_names.proofs.fault_laws.PartLemmas.{from_repeats, from_where}
use Rattle.tm_names.specs.declared.faults.least.NameFault.{NameFault}
use Rattle.tm_names.specs.declared.meaning.Meaning.{Meaning}
use Rattle.tm_names.specs.declared.faults.mentions.Mention.{Mention}
use Rattle.tm_names.specs.declared.faults.mentions.Mention.TheVariants.{Name, Life}
use Rattle.tm_names.specs.declared.faults.mentions.NameMention.{NameMention}
use Rattle.tm_names.specs.Faults.{IsNameFault, IsMentioned, name_lists, lifetime_lists}
use Rattle.tm_names.specs.Found.{first_repr, mention_faults, name_faults, repeats, repr_faults, reserved, scope_faults}
use Rattle.tm_names.specs.Meanings.{meaning_of, takes}
use Rattle.tm_names.specs.Least.{fault_where}
use Rattle.tm_names.specs.Representations.{is_repr_in_form}
use Rattle.tm_names.specs.Scopes.{Scope, scopes_of, is_in_sight}
use Rattle.tm_names.specs.Written.{is_reserved}
use Rattle.tm_parse.specs.declared.parsed.Decl.{Decl}
use Rattle.tm_parse.specs.declared.parsed.DeclRepr.{DeclRepr}
use Rattle.tm_parse.specs.declared.parsed.Parsed.{Parsed}

pub not_true : (b : Bool) → not b ≡ true → b ≡ false
not_true true h = absurd (false≢true h)
not_true false h = refl

module _ (profile : Profile) (name : ℕ → List ℕ) (file : Parsed) where
  abbrev pub Stands : NameFault → Type 0
  Stands f = IsNameFault profile name file f.why f.place

  pub repeats_stand : (places : List ℕ) → Member places (name_lists file) → (f : NameFault) → Member f (repeats name places) → Stands f
  repeats_stand places listed f m =
      from_repeats name Stands f places [] places refl
      (λ before after place e t. record { before = before; after = after; listed = contained (before ++ (place ∷ after)) (name_lists file) (subst (λ those. Member those (name_lists file)) (sym e) listed); again = t }) m

  pub reserved_stand : (places : List ℕ) → Member places (lifetime_lists file) → (f : NameFault) → Member f (reserved name places) → Stands f
  reserved_stand places listed f m =
      let (place, among, here) = from_flat_map (λ place. fault_where (is_reserved name place) why.Lifetime place) f places m in
      from_where Stands (is_reserved name place) why.Lifetime place f
      (λ t. inr (record { places = places; listed = contained places (lifetime_lists file) listed; among = contained place places among; reserved = t })) here

  name_stands : (scope : Scope) (n : NameMention) → IsMentioned name file scope (Name n)
      → (o : Option Meaning) → meaning_of name file.decls scope.types n.place ≡ o → (f : NameFault) → Member f (name_faults file.decls n o) → Stands f
  name_stands scope n mentioned None e f m =
      from_where Stands true why.Unknown n.place f
      (λ t. record { scope = scope; mention = n; mentioned = mentioned; here = refl; unknown = subst (λ o. IsNone o) (sym e) refl }) m
  name_stands scope n mentioned (Some meaning) e f m =
      from_where Stands (not (takes file.decls meaning n)) why.Arity n.place f
      (λ t. record { scope = scope; mention = n; mentioned = mentioned; here = refl; meaning = meaning; meant = e; differs = not_true (takes file.decls meaning n) t }) m

  mention_stands : (scope : Scope) (mention : Mention) → IsMentioned name file scope mention → (f : NameFault)
      → Member f (mention_faults name file.decls scope.sight scope.types mention) → Stands f
  mention_stands scope (Name n) mentioned f m = name_stands scope n mentioned (meaning_of name file.decls scope.types n.place) refl f m
  mention_stands scope (Life place) mentioned f m =
      from_where Stands (not (is_in_sight name scope.sight place)) why.Lifetime place f
      (λ t. inl (record { scope = scope; mentioned = mentioned; hidden = not_true (is_in_sight name scope.sight place) t })) m

  pub scope_stands : (scope : Scope) → Member scope (scopes_of file) → (f : NameFault) → Member f (scope_faults name file.decls scope) → Stands f
  scope_stands scope part f m =
      let (mention, among, here) = from_flat_map (mention_faults name file.decls scope.sight scope.types) f scope.mentions m in
      mention_stands scope mention (record { part = contained scope (scopes_of file) part; mentioned = contained mention scope.mentions among }) f here

  first_stands : (d : Decl) → Member d file.decls → (reprs : List DeclRepr) → d.reprs ≡ reprs → (f : NameFault)
      → Member f (first_repr (not (is_repr_in_form d)) reprs) → Stands f
  first_stands d declared [] e f m = absurd m
  first_stands d declared (r ∷ rs) e f m =
      from_where Stands (not (is_repr_in_form d)) why.BadRepr r.token f
      (λ t. record { decl = d; declared = contained d file.decls declared; first = r; others = rs; reprs = e; here = refl; wrong = not_true (is_repr_in_form d) t }) m

  pub repr_stands : (d : Decl) → Member d file.decls → (f : NameFault) → Member f (repr_faults d) → Stands f
  repr_stands d declared f m = first_stands d declared d.reprs refl f m
