-- What a parse fails by and finds, and what is read from it, is what the words ask for.
use Rattle.std.proofs.Common.{◌≡◌, ◌∙◌, inl, inr, ℕ, Bool, cond, true, false, true≢false, Option, Some, None, is_some, option_map, option_and_then, slice_get, List, [], ◌∷◌, codes, refl, sym, ap, subst, not, ◌||◌}
use Rattle.std.specs.List.{find, list_any}
use Rattle.std.specs.Str.{bytes_eq}
use Rattle.std.proofs.lemmas.Slice.Eq.{bytes_eq-Decides}
use Rattle.clap.proofs.FaultLemmas.{leaf_fault}
use Rattle.clap.proofs.WalkLemmas.{both, find-map, find_row, first_value-rows}
use Rattle.clap.specs.Faults.{check_fault, fault_of, is_simple_and_free, level_fault}
use Rattle.clap.specs.Kinds.{HasKind, IsAmong, Kinds, check_kinds, or_else}
use Rattle.clap.specs.Matches.{first_value, found_of, matched_of}
use Rattle.clap.specs.Simple.{App, HasMatchesOf, built, is_simple, matches_of, names_of}
use Rattle.clap.specs.Takes.{is_given}
use Rattle.clap.specs.Walk.{Row, Text, finished, first_of, nothing_held, row_of, rows_after, rows_of, settled, walk}
use Rattle.clap.specs.Values.{kind_of}
use Rattle.clap.specs.declared.error.Error.{Error}
use Rattle.clap.specs.declared.error.kind.ErrorKind.TheVariants.{OutOfMemory}
use Rattle.clap.specs.declared.parser.matches.ArgMatches.{ArgMatches}
use Rattle.clap.specs.declared.parser.matches.Found.{Found}
use Rattle.tm_run.specs.Commands.{command_app, given_in, is_stray, row_of_use}
use Rattle.tm_run.specs.Uses.{Use, begins_with, first_use, given_by, is_used, option_named, options, uses_of, with_uses, written}
use Rattle.tm_run.specs.Words.{options_given, options_of}
use Rattle.tm_run.proofs.options.ClapFacts.{Meets, built-is, built_rules, built_shape, fails, no-default, no-more-rows, none-required, rows_for, simple}
use Rattle.tm_run.proofs.options.ClapWalk.{faults, found, or_else-nil, start, walk-meets}

-- ---- what a parse fails by, and finds

no-check : (rows : List Row) → check_fault built_shape rows false ≡ []
no-check rows = ap (λ wants. check_kinds false false wants) (none-required (λ a. not (is_given a.id rows)) options)

nothing-more : (walked settled defaults checks : Kinds) → defaults ≡ [] → checks ≡ [] → or_else walked (or_else [] (or_else settled (or_else defaults checks))) ≡ or_else walked settled
nothing-more walked settled defaults checks d c = rw (d, c, or_else-nil settled) refl

level-fault : (words : List Text) → level_fault built_shape [] nothing_held words false [] ≡ faults start words
level-fault words =
    let end = (walk built_rules [] nothing_held words).held in
    nothing-more _ _ _ _ (no-default (settled built_rules end).rows options) (no-check (finished built_rules end))

fault-is : (words : List Text) → fault_of command_app words ≡ faults start words
fault-is words = leaf_fault (built command_app) nothing_held words (ap (λ (a : App). a.subs) built-is) ∙ ap (λ (a : App). level_fault a.top [] nothing_held words false []) built-is ∙ level-fault words

rows-are : (words : List Text) → matches_of command_app words ≡ found start words
rows-are words =
    ap (λ (a : App). rows_after a.top.rules (names_of a) words) built-is
    ∙ no-more-rows (found start words) options

clap-meets : (words : List Text) → list_any is_stray words ≡ false
    → Meets (fault_of command_app words) (matches_of command_app words) (option_and_then (with_uses []) (uses_of None words))
clap-meets words e =
    subst (λ kinds. Meets kinds (matches_of command_app words) (option_and_then (with_uses []) (uses_of None words))) (sym (fault-is words))
    (subst (λ rows. Meets (faults start words) rows (option_and_then (with_uses []) (uses_of None words))) (sym (rows-are words)) (walk-meets words e))

-- ---- what is read

found-any : {X : Type 0} (p : X → Bool) (xs : List X) → is_some (find p xs) ≡ list_any p xs
found-any p [] = refl
found-any p (x ∷ xs) = by (p x) (found-any p xs)
  where
    by : (b : Bool) → is_some (find p xs) ≡ list_any p xs → is_some (cond b (Some x) (find p xs)) ≡ (b || list_any p xs)
    by true e = refl
    by false e = e

still-some : {X Y : Type 0} (f : X → Y) (o : Option X) → is_some (option_map f o) ≡ is_some o
still-some f None = refl
still-some f (Some x) = refl

row-of : (name : Text) (uses : List Use) → find (λ r. bytes_eq r.id name) (rows_for uses) ≡ option_map row_of_use (find (λ one. bytes_eq one.0 name) uses)
row-of name uses = sym (find-map (λ r. bytes_eq r.id name) row_of_use uses)

first-given : (o : Option Use) → option_and_then (λ r. slice_get r.values 0) (option_map row_of_use o) ≡ option_and_then (λ one. one.1) o
first-given None = refl
first-given (Some (name, None)) = refl
first-given (Some (name, Some value)) = refl

is-given : (f : Found) (uses : List Use) → rows_of f ≡ rows_for uses → (name : Text) → is_some (matched_of f name) ≡ is_used name uses
is-given f uses same name =
    still-some (λ e. e.1) (find (λ e. bytes_eq e.0.now name) f.entries.items) ∙ sym (still-some row_of _)
    ∙ ap is_some (sym (find_row f.entries.items name) ∙ ap (find (λ r. bytes_eq r.id name)) same ∙ row-of name uses)
    ∙ still-some row_of_use _ ∙ found-any (λ one. bytes_eq one.0 name) uses

value-given : (f : Found) (uses : List Use) → rows_of f ≡ rows_for uses → (name : Text) → first_value f name ≡ option_and_then (λ one. one.1) (find (λ one. bytes_eq one.0 name) uses)
value-given f uses same name =
    first_value-rows f name ∙ ap (first_of name) same ∙ ap (option_and_then (λ r. slice_get r.values 0)) (row-of name uses) ∙ first-given _

given-are : (m : ArgMatches) (uses : List Use) → rows_of (found_of m) ≡ rows_for uses → given_in m ≡ given_by uses
given-are m uses same = λ i. record { is_given = λ name. is-given (found_of m) uses same name i; value = λ name. value-given (found_of m) uses same name i }

-- ---- what the words ask for

abbrev found_uses : List Text → Option (List Use)
found_uses words = option_and_then (with_uses []) (uses_of None words)

-- what is read where clap takes the words
pub asked-found : (a : App) (words : List Text) (m : ArgMatches) → a ≡ command_app → list_any is_stray words ≡ false → (is_simple_and_free a ≡ true → fault_of a words ≡ []) → HasMatchesOf a words m
    → options_given (given_in m) ≡ options_of words
asked-found a words m is e fine matches =
    let none : fault_of command_app words ≡ [] = subst (λ b. fault_of b words ≡ []) is (fine (ap is_simple_and_free is ∙ simple)) in
    let same : rows_of (found_of m) ≡ matches_of command_app words = subst (λ b. rows_of (found_of m) ≡ matches_of b words) is (matches (ap is_simple is ∙ (both _ _ simple).0)).0 in
    by none same (found_uses words) (clap-meets words e)
  where
    by : fault_of command_app words ≡ [] → rows_of (found_of m) ≡ matches_of command_app words → (o : Option (List Use)) → Meets (fault_of command_app words) (matches_of command_app words) o
        → options_given (given_in m) ≡ option_and_then (λ uses. options_given (given_by uses)) o
    by none same None fail = absurd (true≢false (sym fail ∙ ap fails none))
    by none same (Some uses) (fine, rows) = ap options_given (given-are m uses (same ∙ rows))

-- and where it refuses them
pub nothing-asked : (a : App) (words : List Text) (error : Error) → a ≡ command_app → list_any is_stray words ≡ false → (is_simple_and_free a ≡ true → HasKind (fault_of a words) error)
    → (kind_of error ≡ OutOfMemory → ⊥) → options_of words ≡ None
nothing-asked a words error is e fault memory =
    elim (subst (λ b. HasKind (fault_of b words) error) is (fault (ap is_simple_and_free is ∙ simple))) [
      | inl out ↦ absurd (memory out)
      | inr among ↦ by among (found_uses words) (clap-meets words e)
    ]
  where
    by : IsAmong (kind_of error) (fault_of command_app words) → (o : Option (List Use)) → Meets (fault_of command_app words) (matches_of command_app words) o
        → option_and_then (λ uses. options_given (given_by uses)) o ≡ None
    by among None fail = refl
    by among (Some uses) (fine, rows) = absurd (subst (IsAmong (kind_of error)) fine among)

-- ---- a stray word is no part of an option

no-use : (o : Option (List ℕ × Bool)) (one : Use) → first_use o one None None ≡ None
no-use None one = refl
no-use (Some (known, false)) (name, None) = refl
no-use (Some (known, false)) (name, Some value) = refl
no-use (Some (known, true)) (name, None) = refl
no-use (Some (known, true)) (name, Some value) = refl

stray-use : (word : Text) (behind : Option (List Use)) (after : Text → Option (List Use)) → is_stray word ≡ true → option_and_then (λ one. first_use (option_named one.0) one behind (after one.0)) (written word) ≡ None
unfolding options
stray-use word behind after e = by (bytes_eq word (codes "--")) refl (both (begins_with (codes "-") word) _ e).1
  where
    by : (bare : Bool) → bytes_eq word (codes "--") ≡ bare → (bare || not (begins_with (codes "--") word)) ≡ true
        → option_and_then (λ one. first_use (option_named one.0) one behind (after one.0)) (written word) ≡ None
    by true is stray = rw ((bytes_eq-Decides word (codes "--")).0 is) refl
    by false is stray = rw (Rattle.clap.proofs.SimpleLemmas.is_false (begins_with (codes "--") word) stray) refl

no-uses : (words : List Text) (waiting : Option Text) → list_any is_stray words ≡ true → uses_of waiting words ≡ None
unfolding uses_of
no-uses [] waiting e = absurd (true≢false (sym e))
no-uses (word ∷ words) None e = by (is_stray word) refl e (no-uses words None) (λ name. no-uses words (Some name))
  where
    by : (b : Bool) → is_stray word ≡ b → (b || list_any is_stray words) ≡ true → (list_any is_stray words ≡ true → uses_of None words ≡ None)
        → ((name : Text) → list_any is_stray words ≡ true → uses_of (Some name) words ≡ None) → uses_of None (word ∷ words) ≡ None
    by true is e rest behind = stray-use word (uses_of None words) (λ name. uses_of (Some name) words) is
    by false is e rest behind = go (written word)
      where
        go : (o : Option Use) → option_and_then (λ one. first_use (option_named one.0) one (uses_of None words) (uses_of (Some one.0) words)) o ≡ None
        go None = refl
        go (Some one) = rw (rest e, behind one.0 e) (no-use (option_named one.0) one)
no-uses (word ∷ words) (Some name) e = by (is_stray word) refl e (no-uses words None)
  where
    by : (b : Bool) → is_stray word ≡ b → (b || list_any is_stray words) ≡ true → (list_any is_stray words ≡ true → uses_of None words ≡ None) → uses_of (Some name) (word ∷ words) ≡ None
    by true is e rest = rw (both (begins_with (codes "-") word) _ is).0 refl
    by false is e rest = rw (rest e) (go (begins_with (codes "-") word))
      where
        go : (b : Bool) → cond {A = Option (List Use)} b None None ≡ None
        go true = refl
        go false = refl

pub stray-asked : (words : List Text) → list_any is_stray words ≡ true → options_of words ≡ None
stray-asked words e = rw (no-uses words None e) refl
