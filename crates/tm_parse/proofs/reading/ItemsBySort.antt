-- The items of a file that were read, each behind those of its sort.
use Rattle.std.proofs.Common.{◌≡◌, ℕ, refl, sym, ap, ◌∙◌, Bool, true, List, [], ◌∷◌, ◌++◌}
use Rattle.tm_parse.proofs.reading.Loops.{Goes}
use Rattle.tm_parse.specs.Combinators.{mapped, to, read_all}
use Rattle.tm_parse.specs.Files.{appended, item, sorted, with_item}
use Rattle.tm_parse.specs.Parts.{Outcome, Done}
use Rattle.tm_parse.specs.declared.counts.Counts.{Counts}
use Rattle.tm_parse.specs.declared.reader.items.Item.{Item}
use Rattle.tm_parse.specs.declared.reader.items.Item.TheVariants as sort
use Rattle.tm_parse.specs.declared.parsed.Parsed.{Parsed}
use Rattle.tm_parse.specs.declared.terminal.Terminal.{Terminal}

-- an item before a file stays before it where others are put behind
with-item-appended : (i : Item) (first second : Parsed) → with_item i (appended first second) ≡ appended (with_item i first) second
with-item-appended (sort.Lifetime place) first second = refl
with-item-appended (sort.Outlives bound) first second = refl
with-item-appended (sort.Definition decl) first second = refl
with-item-appended (sort.Question ask) first second = refl

-- the items of a list, and one more
pub sorted_behind : (items : List Item) (i : Item) → sorted (items ++ i ∷ []) ≡ appended (sorted items) (sorted (i ∷ []))
sorted_behind [] (sort.Lifetime place) = refl
sorted_behind [] (sort.Outlives bound) = refl
sorted_behind [] (sort.Definition decl) = refl
sorted_behind [] (sort.Question ask) = refl
sorted_behind (x ∷ items) i = ap (with_item x) (sorted_behind items i) ∙ with-item-appended x (sorted items) (sorted (i ∷ []))

-- an item of a file, behind which another may come
abbrev pub part : Counts → List Terminal → Outcome (Item × Bool)
part = (to (λ v. (v, true)) (item 0)).read

abbrev pub all_items : Counts → List Terminal → Outcome (List Item)
all_items = read_all (item 0).first part

-- the file holds the items so far, and what the turns left come to goes behind them
pub record Keeps (all : Outcome (List Item)) (file : Parsed) (k : ℕ) (n : Counts) (ts : List Terminal) : Type 0 where
  pub items : List Item
  pub kept : file ≡ sorted items
  pub goes : Goes (item 0).first part all items k n ts

pub kept_done : (all : Outcome (List Item)) (items : List Item) (file : Parsed) (n : Counts) (ts : List Terminal)
    → file ≡ sorted items → all ≡ Done items n ts → mapped sorted all ≡ Done file n ts
kept_done all items file n ts h g = ap (mapped sorted) g ∙ ap (λ v. Done v n ts) (sym h)

pub kept_next : (items : List Item) (i : Item) (file more : Parsed) → file ≡ sorted items → more ≡ appended file (sorted (i ∷ [])) → more ≡ sorted (items ++ i ∷ [])
kept_next items i file more h g = g ∙ ap (λ v. appended v (sorted (i ∷ []))) h ∙ sym (sorted_behind items i)
