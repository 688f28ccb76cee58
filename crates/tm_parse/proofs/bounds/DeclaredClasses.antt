-- Definitions are named by terminals that may name one, and declared lifetimes are lifetimes.
use Rattle.std.proofs.Common.{◌≡◌, ℕ, true, List, [], ◌∷◌, All}
use Rattle.tm_parse.proofs.bounds.FileKeeping.{KeptItem, kept_of_file}
use Rattle.tm_parse.proofs.bounds.KeptByParts.{Keeps, skipped, one_keeps, to_keeps, seq_keeps, or_keeps, mark_keeps}
use Rattle.tm_parse.specs.Accepted.{IsFile}
use Rattle.tm_parse.specs.Classes.{among}
use Rattle.tm_parse.specs.Definitions.{headed_any, definition, together}
use Rattle.tm_parse.specs.Files.{item}
use Rattle.tm_parse.specs.NameClasses.{is_lifetime, may_name}
use Rattle.tm_parse.specs.Types.{definition_names}
use Rattle.tm_parse.specs.declared.class.Class.TheVariants as c
use Rattle.tm_parse.specs.declared.parsed.Decl.{Decl}
use Rattle.tm_parse.specs.declared.parsed.DeclRepr.{DeclRepr}
use Rattle.tm_parse.specs.declared.parsed.Parsed.{Parsed}
use Rattle.tm_parse.specs.declared.terminal.Terminal.{Terminal}

-- a terminal's place is so, where it is a word that may name a definition, and where it is a lifetime
pub record Suits (IsName IsLifetime : ℕ → Type 0) (t : Terminal) : Type 0 where
  pub name : may_name t ≡ true → IsName t.place
  pub lifetime : is_lifetime t ≡ true → IsLifetime t.place

-- and so are the places of definitions' names and of declared lifetimes
pub record Declares (IsName IsLifetime : ℕ → Type 0) (file : Parsed) : Type 0 where
  pub names : All (λ definition. IsName definition.name) file.decls
  pub lifetimes : All IsLifetime file.lifetimes

module _ (IsName IsLifetime : ℕ → Type 0) where
  abbrev Is : Terminal → Type 0
  Is = Suits IsName IsLifetime

  abbrev Named : Terminal → Type 0
  Named t = IsName t.place

  abbrev Headed : (List DeclRepr → Decl) → Type 0
  Headed d = (reprs : List DeclRepr) → IsName (d reprs).name

  of-name : (t : Terminal) → among definition_names t.class ≡ true → Is t → Named t
  of-name t h is = is.name h

  module _ (levels : ℕ) where
    of-headed : Keeps Is Headed (headed_any levels).spells
    of-headed = or_keeps (mark_keeps (to_keeps (seq_keeps skipped (seq_keeps (one_keeps definition_names {K = Named} of-name) skipped)) (λ v k reprs. k.1.0)))
        (or_keeps (mark_keeps (to_keeps (seq_keeps skipped (seq_keeps (one_keeps definition_names {K = Named} of-name) skipped)) (λ v k reprs. k.1.0)))
        (mark_keeps (to_keeps (seq_keeps skipped (seq_keeps (one_keeps definition_names {K = Named} of-name) skipped)) (λ v k reprs. k.1.0))))

    of-definition : Keeps Is (λ d. IsName d.name) (definition levels).spells
    of-definition = to_keeps (seq_keeps skipped (seq_keeps skipped of-headed)) (λ v k. k.1.1 (together v.0))

    of-item : Keeps Is (λ i. KeptItem IsLifetime (λ b. Unit {0}) (λ d. IsName d.name) (λ q. Unit {0}) i) (item levels).spells
    of-item = or_keeps (to_keeps (seq_keeps skipped (seq_keeps (mark_keeps (one_keeps (c.Lifetime ∷ []) {K = λ t. IsLifetime t.place} (λ t h is. is.lifetime h))) skipped)) (λ v k. k.1.0))
        (or_keeps (to_keeps skipped (λ v k. tt)) (or_keeps (to_keeps skipped (λ v k. tt)) (to_keeps of-definition (λ v k. k))))

  pub declared_kept : (v : Parsed) (ts : List Terminal) → IsFile v ts → All Is ts → Declares IsName IsLifetime v
  declared_kept v ts f h =
      let kept = kept_of_file IsLifetime (λ b. Unit {0}) (λ d. IsName d.name) (λ q. Unit {0}) Is of-item v ts f h in
      record { names = kept.definitions; lifetimes = kept.lifetimes }
