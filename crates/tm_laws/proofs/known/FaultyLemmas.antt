-- Of the types at fault that a type reaches, one whose text is least.
use Rattle.std.proofs.Common.{◌≡◌, ℕ, inl, inr, refl, sym, subst, Bool, true, false, ◌&&◌, not, List}
use Rattle.std.proofs.lemmas.Bool.{and_parts, and_from, not-true}
use Rattle.tm_base.specs.declared.answer.Why.{Why}
use Rattle.tm_base.specs.declared.ground.Ground.{Ground}
use Rattle.tm_base.specs.Faults.{fault_of}
use Rattle.tm_base.specs.Orders.{text_less}
use Rattle.tm_base.specs.Reaches.{Reaches, IsAtFault}
use Rattle.tm_base.specs.Tables.{Tables, expanded_in}
use Rattle.tm_base.specs.Texts.{text_of}
use Rattle.tm_base.proofs.OrderLemmas.{text_less-total}
use Rattle.tm_laws.proofs.known.JudgedLemmas.{is_at_fault, some_of, ReachesFault}
use Rattle.tm_base.proofs.OrderLemmas.{text_less-irrefl, text_less-trans}
use Rattle.tm_laws.proofs.known.ListedLemmas.{LeastFound, least_in}
use Rattle.tm_laws.proofs.known.ReachedLemmas.{reachable, Reaches-listed, Reaches-known}

-- neither text is less
abbrev text_same : List ℕ → List ℕ → Bool
text_same v w = not (text_less v w) && not (text_less w v)

text_same-refl : (w : List ℕ) → text_same w w ≡ true
text_same-refl w = rw (text_less-irrefl w) refl

text_same-true : (v w : List ℕ) → text_same v w ≡ true → v ≡ w
text_same-true v w h =
    let both = and_parts (not (text_less v w)) (not (text_less w v)) h in
    text_less-total v w (not-true (text_less v w) both.0) (not-true (text_less w v) both.1)

module _ (tables : Tables) (g : Ground) where
  -- what the least faulty type is
  abbrev pub LeastFaulty : Type 0
  LeastFaulty =
      (h : Ground) × (why : Why) × Reaches tables g h × IsAtFault tables h why
      × ((k : Ground) → (other : Why) → Reaches tables g k → IsAtFault tables k other → text_less (text_of tables k) (text_of tables h) ≡ false)

  -- a type at fault with the text of one
  abbrev is_fault_of : Ground → Ground → Bool
  is_fault_of c h = is_at_fault tables h && text_same (text_of tables h) (text_of tables c)

  abbrev HasFault : Ground → Type 0
  HasFault c = (h : Ground) × Reaches tables g h × (is_fault_of c h ≡ true)

  abbrev by_text : Ground → Ground → Bool
  by_text c d = text_less (text_of tables c) (text_of tables d)

  by_text-trans : (a b c : Ground) → by_text a b ≡ true → by_text b c ≡ true → by_text a c ≡ true
  by_text-trans a b c = text_less-trans (text_of tables a) (text_of tables b) (text_of tables c)

  by_text-irrefl : (a : Ground) → by_text a a ≡ false
  by_text-irrefl a = text_less-irrefl (text_of tables a)

  HasFault-known : (c : Ground) → Dec (HasFault c)
  HasFault-known c = Reaches-known tables (is_fault_of c) g

  at_fault-test : (k : Ground) (why : Why) → IsAtFault tables k why → is_at_fault tables k ≡ true
  at_fault-test k why e = rw e refl

  itself : (k : Ground) (why : Why) → Reaches tables g k → IsAtFault tables k why → HasFault k
  itself k why way e = (k, way, and_from (is_at_fault tables k) (text_same (text_of tables k) (text_of tables k)) (at_fault-test k why e) (text_same-refl (text_of tables k)))

  pub least_faulty : ReachesFault tables g → LeastFaulty
  least_faulty (k, why, way, e) = go (least_in HasFault HasFault-known by_text by_text-trans by_text-irrefl (reachable tables g)) where
    go : LeastFound HasFault HasFault-known by_text by_text-trans by_text-irrefl (reachable tables g) → LeastFaulty
    go (inr none) = absurd (none k (Reaches-listed tables g k way) (itself k why way e))
    go (inl (c, at, (h, way_to, is_one), least)) =
        let both = and_parts (is_at_fault tables h) (text_same (text_of tables h) (text_of tables c)) is_one in
        let (cause, is_cause) = some_of tables (fault_of (expanded_in tables h)) both.0 in
        let texts : text_of tables c ≡ text_of tables h = sym (text_same-true (text_of tables h) (text_of tables c) both.1) in (
          h,
          cause,
          way_to,
          is_cause,
          λ l other way_l is_l. subst (λ (text : List ℕ). text_less (text_of tables l) text ≡ false) texts (least l (Reaches-listed tables g l way_l) (itself l other way_l is_l)),
        )
