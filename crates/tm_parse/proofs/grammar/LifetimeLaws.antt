-- The laws of a list of lifetimes and then items.
use Rattle.std.proofs.Common.{◌≡◌, ℕ, zero, refl, ap, ◌∙◌, Bool, true, false, List, [], ◌∷◌, ◌++◌, ◌⊎◌, inl, inr}
use Rattle.tm_parse.proofs.grammar.Choices.{to_laws, or_laws}
use Rattle.tm_parse.proofs.grammar.Forms.{filled-front, and_false}
use Rattle.tm_parse.proofs.grammar.Fronts.{starts-front}
use Rattle.tm_parse.proofs.grammar.Lawful.{Clear, Laws}
use Rattle.tm_parse.proofs.grammar.Pairs.{seq_laws}
use Rattle.tm_parse.proofs.grammar.Repetitions.{repetition-laws}
use Rattle.tm_parse.proofs.grammar.ShapeLaws.{the_laws, optional_laws, comma_laws, listed1_laws}
use Rattle.tm_parse.specs.Classes.{apart, joined}
use Rattle.tm_parse.specs.Combinators.{pick, repeat, to}
use Rattle.tm_parse.specs.Events.{Event, terminals}
use Rattle.tm_parse.specs.Counting.{count}
use Rattle.tm_parse.specs.Parts.{Part, finish}
use Rattle.tm_parse.specs.Shapes.{with_comma, listed1, lifetime_or_items, lifetimes_then}
use Rattle.tm_parse.specs.declared.class.Class.TheVariants as c
use Rattle.tm_parse.specs.declared.counts.Counts.{Counts}
use Rattle.tm_parse.specs.declared.terminal.Terminal.{Terminal}

-- one terminal tells what comes next in such a list
pub record IsTold {A V : Type 0} (l : Part A) (p : Part V) : Type 0 where
  pub lifetime : l.empty ≡ false
  pub item : p.empty ≡ false
  pub lifetime_ends : apart l.bars (c.Comma ∷ []) ≡ true
  pub item_ends : apart p.bars (c.Comma ∷ []) ≡ true
  pub next_lifetime : apart (with_comma l).bars (lifetime_or_items l p).first ≡ true
  pub next_item : apart (p.bars ++ c.Comma ∷ []) (joined p.empty (c.Comma ∷ []) p.first) ≡ true
  pub either : apart (with_comma l).first (listed1 p).first ≡ true

module _ {A V : Type 0} (L : ℕ → Part A) (P : ℕ → Part V) (l : Laws L) (p : Laws P) (told : IsTold (L zero) (P zero)) where
  abbrev One : ℕ → Part ((A ⊎ List V) × Bool)
  One n = to (λ v. (inl v.0, v.1)) (with_comma (L n))

  abbrev All : ℕ → Part ((A ⊎ List V) × Bool)
  All n = to (λ vs. (inr vs, false)) (listed1 (P n))

  one-laws : Laws One
  one-laws = to_laws (λ v. (inl v.0, v.1)) (comma_laws l told.lifetime_ends)

  items-laws : Laws (λ n. listed1 (P n))
  items-laws = listed1_laws p told.item told.item_ends told.next_item

  pub each_laws : Laws (λ n. lifetime_or_items (L n) (P n))
  each_laws = or_laws one-laws (to_laws (λ vs. (inr vs, false)) items-laws) (and_false told.lifetime) told.either

  -- behind a lifetime, which may have a comma, neither another one nor an item goes on with it
  goes-on : (n : ℕ) (v : A ⊎ List V) (e : List Event) (c : Counts) (z : List Terminal) → (lifetime_or_items (L n) (P n)).spells (v, true) e → Clear (with_comma (L zero)).bars z
      → (lifetime_or_items (L zero) (P zero)).read c (terminals e ++ z) ≡ finish (v, true) z (count c e)
  goes-on n v e c z (inl h) k = ap (λ b. pick b (One zero).read (All zero).read c (terminals e ++ z)) (starts-front (One zero).first (terminals e) z (filled-front One one-laws.form (and_false told.lifetime) n (v, true) e h))
      ∙ one-laws.reads n (v, true) e c z h k
  goes-on n v e c z (inr h) k = absurd (let x : true ≡ false = ap (λ w. w.1) h.2 in cc)

  pub others-laws : Laws (λ n. repeat (lifetime_or_items (L n) (P n)))
  others-laws = repetition-laws (λ n. lifetime_or_items (L n) (P n)) each_laws (and_false told.item) (with_comma (L zero)).bars told.next_lifetime goes-on

  pub both-laws : Laws (λ n. lifetimes_then (L n) (P n))
  both-laws = or_laws (to_laws _ (seq_laws l (optional_laws (seq_laws (the_laws c.Comma) others-laws refl) refl) told.lifetime_ends)) (to_laws _ items-laws) (and_false told.lifetime) told.either

pub lifetimes_then_laws : {A V : Type 0} {L : ℕ → Part A} {P : ℕ → Part V} → Laws L → Laws P → IsTold (L zero) (P zero) → Laws (λ n. lifetimes_then (L n) (P n))
lifetimes_then_laws {L = L} {P = P} l p told = both-laws L P l p told
