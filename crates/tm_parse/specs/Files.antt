-- The grammar of files.
use Rattle.std.specs.Prelude.{ℕ, Bool, Option, Some, None, List, [], ◌∷◌, ◌++◌}
use Rattle.std.specs.List.{list_any}
use Rattle.tm_base.specs.declared.assume.Assume.{Assume}
use Rattle.tm_parse.specs.Classes.{alike}
use Rattle.tm_parse.specs.Combinators.{◌>>◌, ◌or◌, to, counts_as}
use Rattle.tm_parse.specs.Definitions.{definition}
use Rattle.tm_parse.specs.Events.{a_question, a_lifetime}
use Rattle.tm_parse.specs.Parts.{Part}
use Rattle.tm_parse.specs.Shapes.{any, the, optional, many, listed1}
use Rattle.tm_parse.specs.Types.{type_at}
use Rattle.tm_parse.specs.declared.class.Class.{Class}
use Rattle.tm_parse.specs.declared.class.Class.TheVariants as c
use Rattle.tm_parse.specs.declared.reader.items.Item.{Item}
use Rattle.tm_parse.specs.declared.reader.items.Item.TheVariants as sort
use Rattle.tm_parse.specs.declared.parsed.Expr.{Expr}
use Rattle.tm_parse.specs.declared.parsed.Parsed.{Parsed}
use Rattle.tm_parse.specs.declared.terminal.Terminal.{Terminal}

abbrev pub lifetime : Part Item
lifetime = to (λ (word, (name, end)). sort.Lifetime name.place) (the c.Declare >> counts_as a_lifetime (the c.Lifetime) >> the c.Semicolon)

abbrev pub outlives : Part Item
outlives = to (λ (word, (longer, (colon, (shorter, end)))). sort.Outlives (record { longer = longer.place; shorter = shorter.place }))
    (the c.Outlives >> the c.Lifetime >> the c.Colon >> the c.Lifetime >> the c.Semicolon)

-- the flags that are written, each once or several times
abbrev pub is_flagged : Class → List Terminal → Bool
is_flagged flag ts = list_any (λ t. alike flag t.class) ts

abbrev pub flags : List Terminal → Assume
flags ts = record { alignment = is_flagged c.Alignment ts; lifetimes = is_flagged c.Lifetimes ts; safety = is_flagged c.Safety ts; validity = is_flagged c.Validity ts }

abbrev pub assumed : Option (Terminal × List Terminal) → Assume
assumed None = flags []
assumed (Some v) = flags v.1

abbrev pub flag : Part Terminal
flag = any (c.Alignment ∷ c.Lifetimes ∷ c.Safety ∷ c.Validity ∷ [])

-- `assume` with its flags, which may be left out
abbrev pub assume : Part (Option (Terminal × List Terminal))
assume = optional (the c.Assume >> listed1 flag)

-- what stands behind the source of a question
abbrev pub behind_source : ℕ → Part (Expr × Assume)
behind_source levels = to (λ (arrow, (dst, (given, end))). (dst, assumed given)) (the c.Arrow >> type_at 0 levels >> assume >> the c.Semicolon)

abbrev pub question : ℕ → Part Item
question levels = to (λ (word, (src, (arrow, (dst, (given, end))))). sort.Question (record { src = src; dst = dst; assume = assumed given }))
    (counts_as a_question (the c.Ask) >> type_at 0 levels >> the c.Arrow >> type_at 0 levels >> assume >> the c.Semicolon)

abbrev pub item : ℕ → Part Item
item levels = lifetime or outlives or question levels or to sort.Definition (definition levels)

-- the items by their sorts
abbrev pub with_item : Item → Parsed → Parsed
with_item (sort.Lifetime t) file = record file { lifetimes = t ∷ file.lifetimes }
with_item (sort.Outlives b) file = record file { bounds = b ∷ file.bounds }
with_item (sort.Definition d) file = record file { decls = d ∷ file.decls }
with_item (sort.Question q) file = record file { questions = q ∷ file.questions }

abbrev pub sorted : List Item → Parsed
sorted [] = record { lifetimes = []; bounds = []; decls = []; questions = [] }
sorted (i ∷ items) = with_item i (sorted items)

-- the items of one file and then those of another
abbrev pub appended : Parsed → Parsed → Parsed
appended first second = record {
  lifetimes = first.lifetimes ++ second.lifetimes;
  bounds = first.bounds ++ second.bounds;
  decls = first.decls ++ second.decls;
  questions = first.questions ++ second.questions;
}

-- a file whose types go at most so deep
abbrev pub file : ℕ → Part Parsed
file levels = to sorted (many (item levels))
