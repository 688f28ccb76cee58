-- The laws of the shapes that rules are written in.
use Rattle.std.proofs.Common.{◌≡◌, ℕ, zero, refl, sym, subst, true, false, ◌&&◌, List, [], ◌∷◌, ◌++◌, Some, None}
use Rattle.tm_parse.proofs.grammar.Choices.{to_laws, or_laws}
use Rattle.tm_parse.proofs.grammar.Lawful.{Laws}
use Rattle.tm_parse.proofs.grammar.Pairs.{seq_laws}
use Rattle.tm_parse.proofs.grammar.Repetitions.{repeat_laws}
use Rattle.tm_parse.proofs.grammar.Single.{one_laws, nothing_laws}
use Rattle.tm_parse.specs.Classes.{apart, joined}
use Rattle.tm_parse.specs.Events.{plain}
use Rattle.tm_parse.specs.Parts.{Part}
use Rattle.tm_parse.specs.Shapes.{any, the, optional, many, with_comma, listed, listed1, between}
use Rattle.tm_parse.specs.declared.class.Class.{Class}
use Rattle.tm_parse.specs.declared.class.Class.TheVariants as c

apart-none : (xs : List Class) → apart xs [] ≡ true
apart-none [] = refl
apart-none (x ∷ xs) = apart-none xs

pub any_laws : (k : Class) (ks : List Class) → Laws (λ n. any (k ∷ ks))
any_laws k ks = one_laws plain k ks

pub the_laws : (k : Class) → Laws (λ n. the k)
the_laws k = one_laws plain k []

pub optional_laws : {V : Type 0} {P : ℕ → Part V} → Laws P → (P zero).empty ≡ false → Laws (λ n. optional (P n))
optional_laws {P = P} p s = or_laws (to_laws Some p) (nothing_laws None) s (apart-none (P zero).first)

pub many_laws : {V : Type 0} {P : ℕ → Part V} → Laws P → (P zero).empty ≡ false → apart (P zero).bars (P zero).first ≡ true → Laws (λ n. many (P n))
many_laws p s t = repeat_laws (to_laws _ p) s t

pub comma_laws : {V : Type 0} {P : ℕ → Part V} → Laws P → apart (P zero).bars (c.Comma ∷ []) ≡ true → Laws (λ n. with_comma (P n))
comma_laws p t = to_laws _ (seq_laws p (optional_laws (the_laws c.Comma) refl) t)

-- a comma goes on with no part of the list, and nothing that goes on with one begins one
pub listed_laws : {V : Type 0} {P : ℕ → Part V} → Laws P → (P zero).empty ≡ false → apart (P zero).bars (c.Comma ∷ []) ≡ true
    → apart ((P zero).bars ++ c.Comma ∷ []) (joined (P zero).empty (c.Comma ∷ []) (P zero).first) ≡ true → Laws (λ n. listed (P n))
listed_laws {P = P} p s t u = repeat_laws (comma_laws p t) (subst (λ b. (b && true) ≡ false) (sym s) refl) u

pub listed1_laws : {V : Type 0} {P : ℕ → Part V} → Laws P → (P zero).empty ≡ false → apart (P zero).bars (c.Comma ∷ []) ≡ true
    → apart ((P zero).bars ++ c.Comma ∷ []) (joined (P zero).empty (c.Comma ∷ []) (P zero).first) ≡ true → Laws (λ n. listed1 (P n))
listed1_laws {P = P} p s t u = to_laws _ (seq_laws p (optional_laws (seq_laws (the_laws c.Comma) (listed_laws p s t u) refl) refl) t)

pub between_laws : {V : Type 0} {P : ℕ → Part V} (opening : Class) → Laws P → (closing : Class) → apart (P zero).bars (closing ∷ []) ≡ true → Laws (λ n. between opening (P n) closing)
between_laws opening p closing s = to_laws _ (seq_laws (the_laws opening) (seq_laws p (the_laws closing) s) refl)
