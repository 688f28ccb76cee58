-- A type is judged, or it reaches a type at fault.
use Rattle.std.proofs.Common.{◌≡◌, ◌⊎◌, inl, inr, refl, Bool, true, Option, Some, None, is_some}
use Rattle.tm_base.specs.declared.answer.Why.{Why}
use Rattle.tm_base.specs.declared.ground.Ground.{Ground}
use Rattle.tm_base.specs.Faults.{fault_of}
use Rattle.tm_base.specs.Reaches.{Reaches, IsAtFault, IsJudged}
use Rattle.tm_base.specs.Tables.{Tables, expanded_in}
use Rattle.tm_laws.proofs.known.ReachedLemmas.{Reaches-known}

module _ (tables : Tables) where
  -- the type is at fault
  abbrev pub is_at_fault : Ground → Bool
  is_at_fault g = is_some (fault_of (expanded_in tables g))

  pub some_of : {X : Type 0} (o : Option X) → is_some o ≡ true → (x : X) × (o ≡ Some x)
  some_of (Some x) h = (x, refl)
  some_of None h = cc

  none_of : {X : Type 0} (o : Option X) → (is_some o ≡ true → ⊥) → o ≡ None
  none_of (Some x) h = absurd (h refl)
  none_of None h = refl

  -- a type at fault that is reached, with its cause
  abbrev pub ReachesFault : Ground → Type 0
  ReachesFault g = (h : Ground) × (why : Why) × Reaches tables g h × IsAtFault tables h why

  pub judged_or_fault : (g : Ground) → IsJudged tables g ⊎ ReachesFault g
  judged_or_fault g = go (Reaches-known tables is_at_fault g) where
    go : Dec ((h : Ground) × Reaches tables g h × (is_at_fault h ≡ true)) → IsJudged tables g ⊎ ReachesFault g
    go (yes (h, way, faulty)) =
        let (why, e) = some_of (fault_of (expanded_in tables h)) faulty in
        inr (h, why, way, e)
    go (no f) = inl (λ h way. none_of (fault_of (expanded_in tables h)) (λ faulty. f (h, way, faulty)))

  pub IsJudged-known : (g : Ground) → Dec (IsJudged tables g)
  IsJudged-known g = go (judged_or_fault g) where
    go : IsJudged tables g ⊎ ReachesFault g → Dec (IsJudged tables g)
    go (inl judged) = yes judged
    go (inr (h, why, way, e)) = no (λ judged. cc (judged h way, e))
