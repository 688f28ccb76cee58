-- Of the types that are gone through, the one at fault whose text is least.
use Rattle.std.proofs.Common.{◌≡◌, ℕ, refl, sym, ap, subst, ◌∙◌, ◌⊎◌, inl, inr, ⊎_elim, Bool, true, false, true≢false, if◌then◌else◌, List, [], ◌∷◌, ◌++◌, Option, Some, None, Contains, arith}
use Rattle.std.proofs.lemmas.Bool.{false_from_ne_true}
use Rattle.std.proofs.lemmas.List.Elements.{Contains-append_left, Contains-append_right, Contains-append_cases}
use Rattle.tm_base.specs.declared.answer.Why.{Why}
use Rattle.tm_base.specs.declared.ground.Ground.{Ground}
use Rattle.tm_base.specs.Faults.{fault_of}
use Rattle.tm_base.specs.Orders.{text_less}
use Rattle.tm_base.specs.Reaches.{IsAtFault, IsJudged}
use Rattle.tm_base.specs.Tables.{Tables, expanded_in}
use Rattle.tm_base.specs.Texts.{text_of}
use Rattle.tm_base.proofs.JudgedLemmas.{Contains-one}
use Rattle.tm_layout.specs.declared.refused.Refused.{Refused}
use Rattle.tm_layout.specs.Least.{IsRefused, IsLeast, AreSound, IsLeastAnswer}
use Rattle.tm_layout.specs.Named.{IsFirstRefused}
use Rattle.tm_layout.specs.Reached.{AreReached}
use Rattle.tm_base.proofs.OrderLemmas.{text_less-irrefl, text_less-trans}

-- an item of a list with one more behind it
last-cases : (types : List Ground) (g h : Ground) → Contains (types ++ g ∷ []) h → Contains types h ⊎ (g ≡ h)
last-cases types g h at = ⊎_elim (λ old. inl old) (λ new. inr (Contains-one g h new)) (Contains-append_cases types (g ∷ []) h at)

last-in : (types : List Ground) (g h : Ground) → h ≡ g → Contains (types ++ g ∷ []) h
last-in types g h e = Contains-append_right types (g ∷ []) h (0, omega arith, sym e)

module _ (tables : Tables) where
  abbrev text : Ground → List ℕ
  text = text_of tables

  abbrev fault : Ground → Option Why
  fault g = fault_of (expanded_in tables g)

  not_both : (g h : Ground) (why : Why) → fault g ≡ None → g ≡ h → fault h ≡ Some why → ⊥
  not_both g h why none same some = let here = ap fault same in cc

  -- one type more that isn't at fault
  pub least-sound : (types : List Ground) (g : Ground) (least : Option Refused) → fault g ≡ None → IsLeastAnswer tables types least → IsLeastAnswer tables (types ++ g ∷ []) least
  least-sound types g None e sound = λ h at. ⊎_elim (sound h) (λ (same : g ≡ h). sym (ap fault same) ∙ e) (last-cases types g h at)
  least-sound types g (Some refused) e old = record {
    is = old.is;
    listed = Contains-append_left types (g ∷ []) refused.found old.listed;
    least = λ h why at is_at. ⊎_elim (λ before. old.least h why before is_at) (λ same. absurd (not_both g h why e same is_at)) (last-cases types g h at);
  }

  own_text : (refused : Refused) (g h : Ground) → IsRefused tables refused → refused.found ≡ g → g ≡ h → text h ≡ refused.text
  own_text refused g h is found same = ap text (sym same ∙ sym found) ∙ sym is.text

  not_itself : (refused : Refused) (g h : Ground) → IsRefused tables refused → refused.found ≡ g → g ≡ h → text_less (text h) refused.text ≡ false
  not_itself refused g h is found same = ap (λ t. text_less t refused.text) (own_text refused g h is found same) ∙ text_less-irrefl refused.text

  -- the first one at fault
  pub least-first : (types : List Ground) (g : Ground) (refused : Refused) → AreSound tables types → IsRefused tables refused → refused.found ≡ g → IsLeast tables (types ++ g ∷ []) refused
  least-first types g refused sound is found = record {
    is = is;
    listed = last-in types g refused.found found;
    least = λ h why at is_at. ⊎_elim
        (λ (old : Contains types h). absurd (not_both h h why (sound h old) refl is_at))
        (λ (same : g ≡ h). not_itself refused g h is found same)
        (last-cases types g h at);
  }

  -- another one at fault
  pub least-lesser : (types : List Ground) (g : Ground) (old new : Refused) → IsLeast tables types old → IsRefused tables new → new.found ≡ g
      → IsLeast tables (types ++ g ∷ []) (if text_less new.text old.text then new else old)
  least-lesser types g old new least is found = by (text_less new.text old.text) refl where
    below : text_less new.text old.text ≡ true → (h : Ground) (why : Why) → Contains types h → IsAtFault tables h why → text_less (text h) new.text ≡ false
    below less h why at is_at =
        false_from_ne_true (text_less (text h) new.text)
        (λ (lower : text_less (text h) new.text ≡ true). true≢false (sym (text_less-trans (text h) new.text old.text lower less) ∙ least.least h why at is_at))

    by : (b : Bool) → text_less new.text old.text ≡ b → IsLeast tables (types ++ g ∷ []) (if b then new else old)
    by true less = record {
      is = is;
      listed = last-in types g new.found found;
      least = λ h why at is_at. ⊎_elim
          (λ (before : Contains types h). below less h why before is_at)
          (λ (same : g ≡ h). not_itself new g h is found same)
          (last-cases types g h at);
    }
    by false less = record {
      is = least.is;
      listed = Contains-append_left types (g ∷ []) old.found least.listed;
      least = λ h why at is_at. ⊎_elim
          (λ (before : Contains types h). least.least h why before is_at)
          (λ (same : g ≡ h). ap (λ t. text_less t old.text) (own_text new g h is found same) ∙ less)
          (last-cases types g h at);
    }

  -- of all types that are reached, the least is the one to name
  pub named-first : (g : Ground) (types : List Ground) (refused : Refused) → AreReached tables g types → IsLeast tables types refused → IsFirstRefused tables g refused.why refused.found
  named-first g types refused reached is_least = record {
    reached = reached.each refused.found is_least.listed;
    at_fault = is_least.is.at_fault;
    least = λ h why way is_at. subst (λ t. text_less (text h) t ≡ false) is_least.is.text (is_least.least h why (reached.all h way) is_at);
  }

  -- where none is at fault, the type is judged
  pub none-judged : (g : Ground) (types : List Ground) → AreReached tables g types → AreSound tables types → IsJudged tables g
  none-judged g types reached sound = λ h way. sound h (reached.all h way)

  -- a type that stands among them already
  pub least-again : (types : List Ground) (g : Ground) (least : Option Refused) → Contains types g → IsLeastAnswer tables types least → IsLeastAnswer tables (types ++ g ∷ []) least
  least-again types g least before old = by least old where
    again : (h : Ground) → Contains (types ++ g ∷ []) h → Contains types h
    again h at = ⊎_elim (λ in_it. in_it) (λ (same : g ≡ h). subst (Contains types) same before) (last-cases types g h at)

    by : (least : Option Refused) → IsLeastAnswer tables types least → IsLeastAnswer tables (types ++ g ∷ []) least
    by None sound = λ h at. sound h (again h at)
    by (Some refused) old = record {
      is = old.is;
      listed = Contains-append_left types (g ∷ []) refused.found old.listed;
      least = λ h why at. old.least h why (again h at);
    }
