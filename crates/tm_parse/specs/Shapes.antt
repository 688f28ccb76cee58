-- Shapes that the rules are written in: one word or sign, what may be left out, and lists with commas.
use Rattle.std.specs.Prelude.{Bool, true, false, Option, Some, None, List, [], ◌∷◌, ◌++◌, ◌⊎◌, map}
use Rattle.std.proofs.Common.{inl, inr}
use Rattle.tm_parse.specs.Combinators.{one, ◌>>◌, ◌or◌, nothing, to, repeat}
use Rattle.tm_parse.specs.Events.{plain}
use Rattle.tm_parse.specs.Parts.{Part}
use Rattle.tm_parse.specs.declared.class.Class.{Class}
use Rattle.tm_parse.specs.declared.class.Class.TheVariants as c
use Rattle.tm_parse.specs.declared.terminal.Terminal.{Terminal}

-- one terminal of any of these classes, and of this one
abbrev pub any : List Class → Part Terminal
any classes = one plain classes

abbrev pub the : Class → Part Terminal
the class = any (class ∷ [])

-- a part that may be left out
abbrev pub optional : {V : Type 0} → Part V → Part (Option V)
optional p = to Some p or nothing None

abbrev pub is_there : {V : Type 0} → Option V → Bool
is_there None = false
is_there (Some v) = true

-- none, one or several
abbrev pub many : {V : Type 0} → Part V → Part (List V)
many p = repeat (to (λ v. (v, true)) p)

-- a part, and whether a comma stands behind it
abbrev pub with_comma : {V : Type 0} → Part V → Part (V × Bool)
with_comma p = to (λ v. (v.0, is_there v.1)) (p >> optional (the c.Comma))

-- none, one or several, with commas between them, and perhaps one behind the last
abbrev pub listed : {V : Type 0} → Part V → Part (List V)
listed p = repeat (with_comma p)

-- one or several, with commas in the same way: the first, and the others where a comma comes
abbrev pub and_others : {V : Type 0} → V × Option (Terminal × List V) → List V
and_others (v, None) = v ∷ []
and_others (v, Some others) = v ∷ others.1

abbrev pub listed1 : {V : Type 0} → Part V → Part (List V)
listed1 p = to and_others (p >> optional (the c.Comma >> listed p))

-- a lifetime, behind which more follows only where a comma comes; or all the items, behind which nothing does
abbrev pub lifetime_or_items : {A V : Type 0} → Part A → Part V → Part ((A ⊎ List V) × Bool)
lifetime_or_items lifetime item = to (λ v. (inl v.0, v.1)) (with_comma lifetime) or to (λ vs. (inr vs, false)) (listed1 item)

-- the lifetimes, and the items behind them
abbrev pub in_two : {A V : Type 0} → List (A ⊎ List V) → List A × List V
in_two [] = ([], [])
in_two (inl lifetime ∷ others) = (lifetime ∷ (in_two others).0, (in_two others).1)
in_two (inr items ∷ others) = ([], items)

abbrev pub and_then_others : {A V : Type 0} → A × Option (Terminal × List (A ⊎ List V)) → List A × List V
and_then_others (lifetime, None) = (lifetime ∷ [], [])
and_then_others (lifetime, Some others) = in_two (inl lifetime ∷ others.1)

-- Lifetimes and then items, one or several in all, with commas in the same way: a lifetime, and what follows it
-- where a comma comes; or items alone. No lifetime follows an item.
abbrev pub lifetimes_then : {A V : Type 0} → Part A → Part V → Part (List A × List V)
lifetimes_then lifetime item =
    to and_then_others (lifetime >> optional (the c.Comma >> repeat (lifetime_or_items lifetime item)))
    or to (λ items. ([], items)) (listed1 item)

-- where such a list is left out it has neither
abbrev pub or_neither : {A V : Type 0} → Option (List A × List V) → List A × List V
or_neither None = ([], [])
or_neither (Some both) = both

-- a part between two signs
abbrev pub between : {V : Type 0} → Class → Part V → Class → Part V
between opening p closing = to (λ (opening, (v, closing)). v) (the opening >> p >> the closing)

-- a list with commas as far as it is read, and whether another may follow: none is read, or a comma comes last
abbrev pub is_open : {V : Type 0} → List (V × Bool) → Bool
is_open [] = true
is_open (v ∷ []) = v.1
is_open (v ∷ w ∷ vs) = is_open (w ∷ vs)

abbrev pub so_far : {V : Type 0} → Part V → Part (List V × Bool)
so_far p = to (λ vs. (map (λ v. v.0) vs, is_open vs)) (repeat (to (λ v. (v, v.1)) (with_comma p)))

-- what is read is put behind what was found before
abbrev pub behind : {V : Type 0} → List V → List V × Bool → List V × Bool
behind found v = (found ++ v.0, v.1)

abbrev pub so_far_behind : {V : Type 0} → List V → Part V → Part (List V × Bool)
so_far_behind found p = to (behind found) (so_far p)

abbrev pub listed_behind : {V : Type 0} → List V → Part V → Part (List V)
listed_behind found p = to (λ vs. found ++ vs) (listed p)
