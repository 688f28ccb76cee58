use Rattle.std.proofs.Common.{◌≡◌, ◌∙◌, Bool, true, false, Option, None, Some, refl, subst, if◌then◌else◌}
use Rattle.std.specs.Cmp.Lexicographic.{bytes_decides}
use Rattle.std.specs.HashMap.{get_by}
use Rattle.std.specs.Option.{is_some, option_or}
use Rattle.std.specs.Str.{bytes_eq}
use Rattle.std.proofs.lemmas.Map.Text.{hash_map_updates_str}
use Rattle.tm_names.proofs.definitions.note.Goals as goal

none_of : {X : Type 0} (o : Option X) → false ≡ is_some o → o ≡ None
none_of None h = refl
none_of (Some x) h = cc

-- what is found where a new name is noted
noted : {X : Type 0} (b : Bool) (o : Option X) (x : X) → (b ≡ true → o ≡ None) → (if b then Some x else o) ≡ option_or o (if b then Some x else None)
noted true o x h = rw (h refl) refl
noted false None x h = refl
noted false (Some y) x h = refl

pub returns : goal.returns
returns c = λ bytes.
    let name = c.args.name.now in
    let old = c.args.firsts.now in
    let new_name : get_by (λ key. bytes_eq name key.now) old ≡ None = none_of (get_by (λ key. bytes_eq name key.now) old) c.if-contains_key.ensures in
    hash_map_updates_str name old c.insert.new.self (Some c.args.number) c.in_ok-insert.ensures.updates bytes
    ∙ noted (bytes_eq name bytes) (get_by (λ key. bytes_eq bytes key.now) old) c.args.number
    (λ same. subst (λ l. get_by (λ key. bytes_eq l key.now) old ≡ None) ((bytes_decides name bytes).0 same) new_name)
