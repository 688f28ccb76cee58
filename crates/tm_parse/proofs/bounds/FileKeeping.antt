-- What is kept of each item is kept of a file's items of each sort.
use Rattle.std.proofs.Common.{ℕ, sym, subst, List, [], ◌∷◌, All}
use Rattle.std.proofs.lemmas.List.Elements.{All-nil, All-cons, All-head, All-tail}
use Rattle.tm_parse.proofs.bounds.KeptByParts.{each-terminals, IsGood, Keeps, skipped, to_keeps, or_keeps, many_keeps}
use Rattle.tm_parse.specs.Accepted.{IsFile}
use Rattle.tm_parse.proofs.limits.LimitLemmas.{is-counted}
use Rattle.tm_parse.specs.Definitions.{definition}
use Rattle.tm_parse.specs.Files.{question, item, with_item, sorted, file}
use Rattle.tm_parse.specs.Counting.{none_yet}
use Rattle.tm_parse.specs.declared.reader.items.Item.{Item}
use Rattle.tm_parse.specs.declared.reader.items.Item.TheVariants as sort
use Rattle.tm_parse.specs.declared.parsed.Decl.{Decl}
use Rattle.tm_parse.specs.declared.parsed.DeclAsk.{DeclAsk}
use Rattle.tm_parse.specs.declared.parsed.DeclBound.{DeclBound}
use Rattle.tm_parse.specs.declared.parsed.Parsed.{Parsed}
use Rattle.tm_parse.specs.declared.terminal.Terminal.{Terminal}

module _ (L : ℕ → Type 0) (B : DeclBound → Type 0) (D : Decl → Type 0) (Q : DeclAsk → Type 0) where
  -- what is kept of an item
  abbrev pub KeptItem : Item → Type 0
  KeptItem (sort.Lifetime t) = L t
  KeptItem (sort.Outlives b) = B b
  KeptItem (sort.Definition d) = D d
  KeptItem (sort.Question q) = Q q

  pub record KeptFile (v : Parsed) : Type 0 where
    pub lifetimes : All L v.lifetimes
    pub bounds : All B v.bounds
    pub definitions : All D v.decls
    pub questions : All Q v.questions

  with-item : (i : Item) (others : Parsed) → KeptItem i → KeptFile others → KeptFile (with_item i others)
  with-item (sort.Lifetime t) others k h = record { lifetimes = All-cons L t others.lifetimes k h.lifetimes; bounds = h.bounds; definitions = h.definitions; questions = h.questions }
  with-item (sort.Outlives b) others k h = record { lifetimes = h.lifetimes; bounds = All-cons B b others.bounds k h.bounds; definitions = h.definitions; questions = h.questions }
  with-item (sort.Definition d) others k h = record { lifetimes = h.lifetimes; bounds = h.bounds; definitions = All-cons D d others.decls k h.definitions; questions = h.questions }
  with-item (sort.Question q) others k h = record { lifetimes = h.lifetimes; bounds = h.bounds; definitions = h.definitions; questions = All-cons Q q others.questions k h.questions }

  all-sorted : (items : List Item) → All KeptItem items → KeptFile (sorted items)
  all-sorted [] h = record { lifetimes = All-nil L; bounds = All-nil B; definitions = All-nil D; questions = All-nil Q }
  all-sorted (i ∷ items) h = with-item i (sorted items) (All-head KeptItem i items h) (all-sorted items (All-tail KeptItem i items h))

  module _ (Is : Terminal → Type 0) (items : (levels : ℕ) → Keeps Is (λ i. KeptItem i) (item levels).spells) where
    file-keeps : (levels : ℕ) → Keeps Is KeptFile (file levels).spells
    file-keeps levels = to_keeps (many_keeps (items levels)) all-sorted

    good-file : (v : Parsed) (ts : List Terminal) (f : IsFile v ts) → All Is ts → IsGood Is f.events
    good-file v ts f h = let (after, within) = is-counted f.events f.within in record { before = none_yet; after = after; within = within; each = each-terminals Is f.events (subst (All Is) (sym f.text) h) }

    pub kept_of_file : (v : Parsed) (ts : List Terminal) → IsFile v ts → All Is ts → KeptFile v
    kept_of_file v ts f h = (file-keeps f.spelled.levels).kept v f.events f.spelled.spelled (good-file v ts f h)

-- where nothing is kept of lifetimes and bounds
pub definitions_and_questions : (D : Decl → Type 0) (Q : DeclAsk → Type 0) (Is : Terminal → Type 0) (levels : ℕ) → Keeps Is D (definition levels).spells
    → Keeps Is (λ i. KeptItem (λ t. Unit {0}) (λ b. Unit {0}) D Q i) (question levels).spells → Keeps Is (λ i. KeptItem (λ t. Unit {0}) (λ b. Unit {0}) D Q i) (item levels).spells
definitions_and_questions D Q Is levels definitions questions = or_keeps (to_keeps skipped (λ v k. tt)) (or_keeps (to_keeps skipped (λ v k. tt)) (or_keeps questions (to_keeps definitions (λ v k. k))))

-- where nothing is asked of terminals, and something kept of definitions alone
pub kept_definitions : (D : Decl → Type 0) → ((levels : ℕ) → Keeps (λ t. Unit {0}) D (definition levels).spells) → (v : Parsed) (ts : List Terminal) → IsFile v ts → All D v.decls
kept_definitions D definitions v ts f = (kept_of_file (λ t. Unit {0}) (λ b. Unit {0}) D (λ q. Unit {0}) (λ t. Unit {0})
    (λ levels. definitions_and_questions D (λ q. Unit {0}) (λ t. Unit {0}) levels (definitions levels) (to_keeps skipped (λ v k. tt))) v ts f (λ k d l. tt)).definitions
