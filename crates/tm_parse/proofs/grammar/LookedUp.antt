-- What passes for each class of a table passes for one that is looked up in it, and which classes words and
-- marks have.
use Rattle.std.proofs.Common.{◌≡◌, ℕ, refl, Bool, true, false, not, if◌then◌else◌, List, [], ◌∷◌}
use Rattle.std.proofs.lemmas.Bool.{and_parts, not-true}
use Rattle.std.specs.List.{list_all}
use Rattle.std.specs.Str.{bytes_eq}
use Rattle.tm_parse.specs.Classes.{among}
use Rattle.tm_parse.specs.Spelling.{class_in, word_class, mark_class}
use Rattle.tm_parse.specs.Types.{definition_names}
use Rattle.tm_parse.specs.Words.{Spelling, words, marks}
use Rattle.tm_parse.specs.declared.class.Class.{Class}
use Rattle.tm_parse.specs.declared.class.Class.TheVariants as c

pub looked_up : (p : Class → Bool) (xs : List Spelling) (other : Class) (bytes : List ℕ) → list_all (λ x. p x.1) xs ≡ true → p other ≡ true → p (class_in xs other bytes) ≡ true
looked_up p [] other bytes h k = k
looked_up p (x ∷ xs) other bytes h k =
    let parts = and_parts (p x.1) (list_all (λ x. p x.1) xs) h in
    go (bytes_eq x.0 bytes) parts.0 (looked_up p xs other bytes parts.1 k)
  where
    go : (b : Bool) → p x.1 ≡ true → p (class_in xs other bytes) ≡ true → p (if b then x.1 else class_in xs other bytes) ≡ true
    go true this others = this
    go false this others = others

-- a word is no lifetime, and a mark neither that nor a name
pub word_no_lifetime : (bytes : List ℕ) → among (c.Lifetime ∷ []) (word_class bytes) ≡ false
unfolding word_class
word_no_lifetime bytes = not-true _ (looked_up (λ k. not (among (c.Lifetime ∷ []) k)) words c.Name bytes refl refl)

pub mark_no_lifetime : (byte : ℕ) → among (c.Lifetime ∷ []) (mark_class byte) ≡ false
unfolding mark_class
mark_no_lifetime byte = not-true _ (looked_up (λ k. not (among (c.Lifetime ∷ []) k)) marks c.Keyword (byte ∷ []) refl refl)

pub mark_no_name : (byte : ℕ) → among definition_names (mark_class byte) ≡ false
unfolding mark_class
mark_no_name byte = not-true _ (looked_up (λ k. not (among definition_names k)) marks c.Keyword (byte ∷ []) refl refl)
