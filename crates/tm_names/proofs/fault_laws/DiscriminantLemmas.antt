-- Where the faults of discriminants come from, and that each comes.
use Rattle.std.proofs.Common.{◌≡◌, ℕ, refl, sym, ◌∙◌, subst, inl, ⊎_elim, Bool, true, List, [], ◌∷◌, ◌++◌, append_assoc, append-nil}
use Rattle.std.specs.Prelude.{pos, Option, Some, None}
use Rattle.tm_base.specs.declared.ground.Primitive.{Primitive}
use Rattle.tm_base.specs.declared.limit.NameWhy.TheVariants.{Discriminant}
use Rattle.tm_base.specs.declared.profile.Profile.{Profile}
use Rattle.tm_names.proofs.Members.{Member, behind, contained, either, front}
use Rattle.tm_names.proofs.fault_laws.PartLemmas.{fault, from_where, into_where}
use Rattle.tm_names.proofs.fault_laws.StandingLemmas.{Stands}
use Rattle.tm_names.proofs.fault_laws.ValueLemmas.{exact_faults, exact_wrong, same_faults, tag_is_ok}
use Rattle.tm_names.specs.declared.faults.least.NameFault.{NameFault}
use Rattle.tm_names.specs.declared.value.Value.TheVariants.{AtLeastZero}
use Rattle.tm_names.specs.Discriminants.{Valued, valued}
use Rattle.tm_names.specs.Found.{fault_at, value_faults}
use Rattle.tm_names.specs.Representations.{items_of, tag_of}
use Rattle.tm_parse.specs.declared.parsed.Decl.{Decl}
use Rattle.tm_parse.specs.declared.parsed.Parsed.{Parsed}

from_at : (P : NameFault → Type 0) (wrong : Bool) (o : Option ℕ) (f : NameFault) → ((place : ℕ) → o ≡ Some place → wrong ≡ true → P (fault Discriminant place))
    → Member f (fault_at wrong Discriminant o) → P f
from_at P wrong None f h m = absurd m
from_at P wrong (Some place) f h m = from_where P wrong Discriminant place f (λ t. h place refl t) m

into_at : (wrong : Bool) (o : Option ℕ) (place : ℕ) → o ≡ Some place → wrong ≡ true → Member (fault Discriminant place) (fault_at wrong Discriminant o)
into_at wrong o place e t = subst (λ p. Member (fault Discriminant place) (fault_at wrong Discriminant p)) (sym e) (into_where wrong Discriminant place t)

module _ (profile : Profile) (tag : Option Primitive) where
  abbrev here_fault : List Valued → Valued → List NameFault
  here_fault before v = fault_at (exact_wrong profile tag before v.value) Discriminant v.variant.name

  from_exact : (P : NameFault → Type 0) (f : NameFault) (whole earlier rest : List Valued) → earlier ++ rest ≡ whole
      → ((before after : List Valued) (here : Valued) (place : ℕ) → before ++ (here ∷ after) ≡ whole → here.variant.name ≡ Some place
      → exact_wrong profile tag before here.value ≡ true → P (fault Discriminant place))
      → Member f (exact_faults profile tag earlier rest) → P f
  from_exact P f whole earlier [] e h m = absurd m
  from_exact P f whole earlier (v ∷ vs) e h m =
      ⊎_elim (λ n. from_at P (exact_wrong profile tag earlier v.value) v.variant.name f (λ place named t. h earlier vs v place e named t) n)
      (λ n. from_exact P f whole (earlier ++ (v ∷ [])) vs (append_assoc earlier (v ∷ []) vs ∙ e) h n)
      (either f (here_fault earlier v) (exact_faults profile tag (earlier ++ (v ∷ [])) vs) m)

  into_exact : (earlier before after : List Valued) (here : Valued) (place : ℕ) → here.variant.name ≡ Some place
      → exact_wrong profile tag (earlier ++ before) here.value ≡ true
      → Member (fault Discriminant place) (exact_faults profile tag earlier (before ++ (here ∷ after)))
  into_exact earlier [] after here place e t =
      front (fault Discriminant place) (here_fault earlier here) (exact_faults profile tag (earlier ++ (here ∷ [])) after)
      (into_at (exact_wrong profile tag earlier here.value) here.variant.name place e (subst (λ those. exact_wrong profile tag those here.value ≡ true) (append-nil earlier) t))
  into_exact earlier (v ∷ vs) after here place e t =
      behind (fault Discriminant place) (here_fault earlier v) (exact_faults profile tag (earlier ++ (v ∷ [])) (vs ++ (here ∷ after)))
      (into_exact (earlier ++ (v ∷ [])) vs after here place e (subst (λ those. exact_wrong profile tag those here.value ≡ true) (sym (append_assoc earlier (v ∷ []) vs)) t))

-- an enum's faults, counted and as whole numbers
counted : (profile : Profile) (d : Decl) → value_faults profile (tag_of d) [] (AtLeastZero 0) d.variants ≡ exact_faults profile (tag_of d) [] (valued d.variants)
counted profile d = same_faults profile (tag_of d) (tag_is_ok (items_of d)) [] [] tt (AtLeastZero 0) (pos 0) (inl refl) d.variants

pub values_stand : (profile : Profile) (name : ℕ → List ℕ) (file : Parsed) (d : Decl) → Member d file.decls → (f : NameFault)
    → Member f (value_faults profile (tag_of d) [] (AtLeastZero 0) d.variants) → Stands profile name file f
values_stand profile name file d declared f m =
    from_exact profile (tag_of d) (Stands profile name file) f (valued d.variants) [] (valued d.variants) refl
    (λ before after here place e named t. record {
      decl = d;
      declared = contained d file.decls declared;
      before = before;
      here = here;
      after = after;
      listed = sym e;
      named = named;
      wrong = t;
    })
    (subst (λ faults. Member f faults) (counted profile d) m)

pub value_listed : (profile : Profile) (d : Decl) (before after : List Valued) (here : Valued) (place : ℕ) → valued d.variants ≡ before ++ (here ∷ after)
    → here.variant.name ≡ Some place → exact_wrong profile (tag_of d) before here.value ≡ true
    → Member (fault Discriminant place) (value_faults profile (tag_of d) [] (AtLeastZero 0) d.variants)
value_listed profile d before after here place e named t =
    subst (λ faults. Member (fault Discriminant place) faults) (sym (counted profile d))
    (subst (λ vs. Member (fault Discriminant place) (exact_faults profile (tag_of d) [] vs)) (sym e) (into_exact profile (tag_of d) [] before after here place named t))
