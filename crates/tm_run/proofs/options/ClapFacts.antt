-- What clap's rules and rows say of the options: which rule a name has, which row a use leaves, and what a parse fails by.
use Rattle.std.proofs.Common.{◌≡◌, ◌∙◌, ℕ, Bool, cond, true, false, not, ◌&&◌, true≢false, Option, Some, None, is_some, option_map, option_and_then, option_to_list, List, [], ◌∷◌, ◌++◌, map, refl, sym, ap, subst, append-nil}
use Rattle.std.specs.List.{find, list_any, fold}
use Rattle.std.specs.Str.{bytes_eq}
use Rattle.std.proofs.Math.Bool.{or-false}
use Rattle.std.proofs.lemmas.Bool.{or_parts}
use Rattle.std.proofs.lemmas.List.{map-append}
use Rattle.std.proofs.lemmas.Slice.Eq.{bytes_eq-Decides}
use Rattle.clap.proofs.WalkLemmas.{find-map, list_any-map}
use Rattle.clap.specs.Faults.{defaults_fault, is_simple_and_free, use_fault}
use Rattle.clap.specs.Kinds.{Kinds, or_else}
use Rattle.clap.specs.Simple.{Shape, built}
use Rattle.clap.specs.Walk.{Row, Rule, Text, arg_by_id, arg_by_index, arg_by_long, at_row, has_long, has_row, more_values, used, with_default, without}
use Rattle.clap.specs.declared.builder.value_parser.ValueParser.TheVariants.{String}
use Rattle.clap.specs.declared.parser.matches.ValueSource.TheVariants.{CommandLine}
use Rattle.tm_run.specs.Commands.{command_app, row_of_use, rule_for}
use Rattle.tm_run.specs.Uses.{Use, is_used, option_named, options, with_use}

abbrev pub rows_for : List Use → List Row
rows_for = map row_of_use

abbrev pub built_rule : List ℕ × Bool → Rule
built_rule o = record (rule_for o) { parser = Some String }

abbrev pub built_rules : List Rule
built_rules = map built_rule options

abbrev pub built_shape : Shape
built_shape = record command_app.top { rules = built_rules; is_built = true; disable_help_subcommand = true }

-- the command as clap builds it
pub built-is : built command_app ≡ record { top = built_shape; subs = [] }
unfolding options
built-is = refl

pub simple : is_simple_and_free command_app ≡ true
unfolding options
simple = refl

-- ---- the rule of a name

pub by-id : (name : Text) → arg_by_id built_rules name ≡ option_map built_rule (option_named name)
by-id name = sym (find-map (λ a. bytes_eq a.id name) built_rule options)

pub by-long : (name : Text) → arg_by_long built_rules name ≡ option_map built_rule (option_named name)
by-long name =
    sym (find-map (λ a. not (is_some a.index) && has_long a name) built_rule options)
    ∙ (λ i. option_map built_rule (find (λ o. or-false (bytes_eq o.0 name) i) options))

pub by-index : (os : List (List ℕ × Bool)) (i : ℕ) → arg_by_index (map built_rule os) i ≡ None
by-index [] i = refl
by-index (o ∷ os) i = by-index os i

found-passes : {X : Type 0} (p : X → Bool) (xs : List X) (x : X) → find p xs ≡ Some x → p x ≡ true
found-passes p [] x e = cc
found-passes p (y ∷ ys) x e = by (p y) refl e (found-passes p ys x)
  where
    by : (b : Bool) → p y ≡ b → cond b (Some y) (find p ys) ≡ Some x → (find p ys ≡ Some x → p x ≡ true) → p x ≡ true
    by true h e behind = subst (λ z. p z ≡ true) (cc e) h
    by false h e behind = behind e

-- an option is found by its own name
pub named-same : (name known : Text) (valued : Bool) → option_named name ≡ Some (known, valued) → known ≡ name
named-same name known valued e = (bytes_eq-Decides known name).0 (found-passes (λ o. bytes_eq o.0 name) options (known, valued) e)

-- ---- the row of a use

absent : (id : Text) (change : Row → List Row) (missing rows : List Row) → has_row id rows ≡ false → at_row id change missing rows ≡ rows ++ missing
absent id change missing [] e = refl
absent id change missing (r ∷ rows) e =
    let (miss, others) = or_parts (bytes_eq r.id id) (has_row id rows) e in
    rw miss (ap (λ rs. r ∷ rs) (absent id change missing rows others))

row-used : (name : Text) (uses : List Use) → has_row name (rows_for uses) ≡ is_used name uses
row-used name uses = sym (list_any-map (λ r. bytes_eq r.id name) row_of_use uses)

-- clap goes on where there is something to go on with, with the rows of these uses; and fails where there is nothing
abbrev pub fails : Kinds → Bool
fails [] = false
fails (k ∷ kinds) = true

abbrev pub Meets : Kinds → List Row → Option (List Use) → Type 0
Meets kinds rows None = fails kinds ≡ true
Meets kinds rows (Some uses) = (kinds ≡ []) × (rows ≡ rows_for uses)

pub then : (kinds : Kinds) (rows : List Row) (o : Option (List Use)) (more : List Row → Kinds) (after : List Row → List Row) (next : List Use → Option (List Use))
    → Meets kinds rows o → ((uses : List Use) → Meets (more (rows_for uses)) (after (rows_for uses)) (next uses))
    → Meets (or_else kinds (more rows)) (after rows) (option_and_then next o)
then [] rows None more after next m meets = absurd (true≢false (sym m))
then (k ∷ kinds) rows None more after next m meets = refl
then kinds rows (Some uses) more after next (e, same) meets = rw (e, same) (meets uses)

-- one use more
added : (name : Text) (valued : Bool) (value : Option Text) (uses : List Use) → is_some value ≡ valued → has_row name (rows_for uses) ≡ false
    → used (built_rule (name, valued)) (option_to_list value) (rows_for uses) ≡ rows_for (uses ++ (name, value) ∷ [])
added name valued value uses e none =
    by value ∙ ap (λ rows. rows ++ row_of_use (name, value) ∷ []) none-without
    ∙ sym (map-append row_of_use uses ((name, value) ∷ []))
  where
    none-without : without name (rows_for uses) ≡ rows_for uses
    none-without = absent name (λ _. []) [] (rows_for uses) none ∙ append-nil (rows_for uses)

    still : has_row name (without name (rows_for uses)) ≡ false
    still = subst (λ rows. has_row name rows ≡ false) (sym none-without) none

    by : (value : Option Text) → used (built_rule (name, valued)) (option_to_list value) (rows_for uses) ≡ without name (rows_for uses) ++ row_of_use (name, value) ∷ []
    by None = absent name (more_values CommandLine []) (row_of_use (name, None) ∷ []) (without name (rows_for uses)) still
    by (Some v) = absent name (more_values CommandLine (v ∷ [])) (row_of_use (name, Some v) ∷ []) (without name (rows_for uses)) still

pub adds : (name : Text) (valued : Bool) (value : Option Text) (uses : List Use) → is_some value ≡ valued
    → Meets (use_fault false (built_rule (name, valued)) (option_to_list value) (rows_for uses)) (used (built_rule (name, valued)) (option_to_list value) (rows_for uses)) (with_use uses (name, value))
adds name true None uses e = absurd (true≢false (sym e))
adds name false (Some v) uses e = absurd (true≢false e)
adds name false None uses e = by (is_used name uses) refl
  where
    by : (b : Bool) → is_used name uses ≡ b
        → Meets (use_fault false (built_rule (name, false)) [] (rows_for uses)) (used (built_rule (name, false)) [] (rows_for uses)) (with_use uses (name, None))
    by true h = rw (row-used name uses, h) refl
    by false h = rw (row-used name uses, h) (refl, added name false None uses refl (row-used name uses ∙ h))
adds name true (Some v) uses e = by (is_used name uses) refl
  where
    by : (b : Bool) → is_used name uses ≡ b
        → Meets (use_fault false (built_rule (name, true)) (v ∷ []) (rows_for uses)) (used (built_rule (name, true)) (v ∷ []) (rows_for uses)) (with_use uses (name, Some v))
    by true h = rw (row-used name uses, h) refl
    by false h = rw (row-used name uses, h) (refl, added name true (Some v) uses refl (row-used name uses ∙ h))

-- ---- no defaults, and nothing that is required

pub no-default : (rows : List Row) (os : List (List ℕ × Bool)) → defaults_fault rows (map built_rule os) ≡ []
unfolding defaults_fault
no-default rows [] = refl
no-default rows (o ∷ os) = by (has_row o.0 rows) refl (no-default rows os)
  where
    by : (b : Bool) → has_row o.0 rows ≡ b → defaults_fault rows (map built_rule os) ≡ [] → defaults_fault rows (map built_rule (o ∷ os)) ≡ []
    by true h rest = rw h rest
    by false h rest = rw h rest

no-default-row : (rows : List Row) (o : List ℕ × Bool) → with_default rows (built_rule o) ≡ rows
no-default-row rows o = by (has_row o.0 rows)
  where
    by : (b : Bool) → cond b rows rows ≡ rows
    by true = refl
    by false = refl

pub no-more-rows : (rows : List Row) (os : List (List ℕ × Bool)) → fold with_default rows (map built_rule os) ≡ rows
no-more-rows rows [] = refl
no-more-rows rows (o ∷ os) = ap (λ rs. fold with_default rs (map built_rule os)) (no-default-row rows o) ∙ no-more-rows rows os

pub none-required : (p : Rule → Bool) (os : List (List ℕ × Bool)) → list_any (λ a. a.required && p a) (map built_rule os) ≡ false
none-required p [] = refl
none-required p (o ∷ os) = none-required p os
