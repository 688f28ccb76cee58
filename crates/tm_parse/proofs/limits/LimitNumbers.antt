-- How many things of a sort events have, with one event more, and that the record of counts has these numbers.
use Rattle.std.proofs.Common.{◌≡◌, ℕ, ◌+◌, refl, sym, ap, ◌∙◌, Bool, true, false, ◌||◌, if◌then◌else◌, List, [], ◌∷◌, ◌++◌, arith}
use Rattle.std.proofs.lemmas.List.Folds.{list_any-append}
use Rattle.std.proofs.lemmas.List.Sums.{sum_by-cons}
use Rattle.std.specs.Prelude.{count_by}
use Rattle.std.specs.List.{list_any}
use Rattle.tm_parse.specs.Events.{Mark, a_definition, a_question, a_lifetime, a_parameter, a_type_parameter, a_field, a_variant, a_type, Role, Event, terminal, mark}
use Rattle.tm_parse.specs.Counting.{none_yet}
use Rattle.tm_parse.specs.Limits.{is_of_sort, begins_anew, since, number_since}
use Rattle.tm_parse.specs.declared.counts.Counts.{Counts}
use Rattle.tm_parse.specs.declared.terminal.Terminal.{Terminal}
use Rattle.tm_parse.proofs.limits.Weights.{marked}

abbrev one : Bool → ℕ
one b = if b then 1 else 0

-- what was counted before an event
abbrev kept : Bool → ℕ → ℕ
kept anew n = if anew then 0 else n

count-one : (p : Event → Bool) (e : List Event) (x : Event) → count_by p (e ++ x ∷ []) ≡ count_by p e + one (p x)
count-one p [] x = sum_by-cons (λ y. one (p y)) x [] ∙ omega arith
count-one p (y ∷ e) x = let again = count-one p e x in let first = sum_by-cons (λ z. one (p z)) y e in sum_by-cons (λ z. one (p z)) y (e ++ x ∷ []) ∙ omega (arith, again, first)

module _ (sort : Mark) where
  abbrev anew : Event → Bool
  anew = begins_anew sort

  since-first : (x : Event) (e : List Event) → list_any anew e ≡ false → since sort (x ∷ e) ≡ x ∷ e
  unfolding since
  since-first x e h = ap (λ b. if b then since sort e else x ∷ e) h

  since-behind : (x : Event) (e : List Event) → list_any anew e ≡ true → since sort (x ∷ e) ≡ since sort e
  unfolding since
  since-behind x e h = ap (λ b. if b then since sort e else x ∷ e) h

  since-one : (x : Event) → since sort (x ∷ []) ≡ x ∷ []
  unfolding since
  since-one x = refl

  since-none : since sort [] ≡ []
  unfolding since
  since-none = refl

  abbrev number : List Event → ℕ
  number = number_since sort

  abbrev Next : Event → List Event → Type 0
  Next x e = number (e ++ x ∷ []) ≡ kept (anew x) (number e) + one (is_of_sort sort x)

  kept-none : (b : Bool) → kept b 0 ≡ 0
  kept-none true = refl
  kept-none false = refl

  -- the number goes up by one of the sort, from none where it is counted anew
  pub number-next : (e : List Event) (x : Event) → Next x e
  number-next [] x = ap (count_by (is_of_sort sort)) (since-one x) ∙ count-one (is_of_sort sort) [] x
      ∙ ap (λ n. n + one (is_of_sort sort x)) (sym (ap (kept (anew x)) (ap (count_by (is_of_sort sort)) since-none) ∙ kept-none (anew x)))
  number-next (y ∷ e) x = go (list_any anew e) (anew x) refl refl (number-next e x)
    where
      any : list_any anew (e ++ x ∷ []) ≡ (list_any anew e || (anew x || false))
      any = list_any-append anew e (x ∷ [])

      behind : list_any anew (e ++ x ∷ []) ≡ true → number (y ∷ (e ++ x ∷ [])) ≡ number (e ++ x ∷ [])
      behind h = ap (count_by (is_of_sort sort)) (since-behind y (e ++ x ∷ []) h)

      go : (b c : Bool) → list_any anew e ≡ b → anew x ≡ c → Next x e → Next x (y ∷ e)
      go true c h g next = behind (any ∙ ap (λ b. b || (anew x || false)) h) ∙ next
          ∙ ap (λ n. kept (anew x) n + one (is_of_sort sort x)) (sym (ap (count_by (is_of_sort sort)) (since-behind y e h)))
      go false true h g next = behind (any ∙ ap (λ b. b || (anew x || false)) h ∙ ap (λ b. b || false) g) ∙ next
          ∙ ap (λ b. kept b (number e) + one (is_of_sort sort x)) g ∙ sym (ap (λ b. kept b (number (y ∷ e)) + one (is_of_sort sort x)) g)
      go false false h g next = ap (count_by (is_of_sort sort)) (since-first y (e ++ x ∷ []) (any ∙ ap (λ b. b || (anew x || false)) h ∙ ap (λ b. b || false) g))
          ∙ count-one (is_of_sort sort) (y ∷ e) x
          ∙ ap (λ z. count_by (is_of_sort sort) z + one (is_of_sort sort x)) (sym (since-first y e h))
          ∙ sym (ap (λ b. kept b (number (y ∷ e)) + one (is_of_sort sort x)) g)

-- ---- the record of counts

-- its count of things of a sort
abbrev pub count_of : Mark → Counts → ℕ
count_of a_definition c = c.definitions
count_of a_question c = c.questions
count_of a_lifetime c = c.lifetimes
count_of a_parameter c = c.parameters
count_of a_type_parameter c = c.type_parameters
count_of a_field c = c.fields
count_of a_variant c = c.variants
count_of (a_type depth) c = c.nodes

-- it counts what the events have
pub record AreCounted (front : List Event) (c : Counts) : Type 0 where
  pub each : (sort : Mark) → count_of sort c ≡ number_since sort front

mark-next : (sort m : Mark) (c : Counts) → count_of sort (marked c m) ≡ kept (begins_anew sort (mark m)) (count_of sort c) + one (is_of_sort sort (mark m))
mark-next a_definition m c = grind arith
mark-next a_question m c = grind arith
mark-next a_lifetime m c = grind arith
mark-next a_parameter m c = grind arith
mark-next a_type_parameter m c = grind arith
mark-next a_field m c = grind arith
mark-next a_variant m c = grind arith
mark-next (a_type depth) m c = grind arith

pub counted-mark : (front : List Event) (c : Counts) (m : Mark) → AreCounted front c → AreCounted (front ++ mark m ∷ []) (marked c m)
counted-mark front c m h = record {
  each = λ sort. mark-next sort m c ∙ ap (λ n. kept (begins_anew sort (mark m)) n + one (is_of_sort sort (mark m))) (h.each sort) ∙ sym (number-next sort front (mark m));
}

-- a terminal changes no count
terminal-next : (sort : Mark) (role : Role) (t : Terminal) (c : Counts) → count_of sort c ≡ kept (begins_anew sort (terminal role t)) (count_of sort c) + one (is_of_sort sort (terminal role t))
terminal-next a_definition role t c = grind arith
terminal-next a_question role t c = grind arith
terminal-next a_lifetime role t c = grind arith
terminal-next a_parameter role t c = grind arith
terminal-next a_type_parameter role t c = grind arith
terminal-next a_field role t c = grind arith
terminal-next a_variant role t c = grind arith
terminal-next (a_type depth) role t c = grind arith

pub counted-terminal : (front : List Event) (c : Counts) (role : Role) (t : Terminal) → AreCounted front c → AreCounted (front ++ terminal role t ∷ []) c
counted-terminal front c role t h = record {
  each = λ sort. terminal-next sort role t c ∙ ap (λ n. kept (begins_anew sort (terminal role t)) n + one (is_of_sort sort (terminal role t))) (h.each sort)
      ∙ sym (number-next sort front (terminal role t));
}

pub none-counted : AreCounted [] none_yet
none-counted = record { each = go }
  where
    none : (sort : Mark) → number_since sort [] ≡ 0
    none sort = ap (count_by (is_of_sort sort)) (since-none sort)

    go : (sort : Mark) → count_of sort none_yet ≡ number_since sort []
    go a_definition = sym (none a_definition)
    go a_question = sym (none a_question)
    go a_lifetime = sym (none a_lifetime)
    go a_parameter = sym (none a_parameter)
    go a_type_parameter = sym (none a_type_parameter)
    go a_field = sym (none a_field)
    go a_variant = sym (none a_variant)
    go (a_type depth) = sym (none (a_type depth))
