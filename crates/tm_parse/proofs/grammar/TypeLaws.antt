-- The laws of types at every depth.
use Rattle.std.proofs.Common.{◌≡◌, ℕ, zero, suc, ◌+◌, ◌-◌, ◌≤◌, refl, sym, ap, ◌∙◌, subst, Bool, true, false, ◌||◌, List, [], ◌∷◌, ◌++◌, inl, inr, arith}
use Rattle.tm_parse.proofs.grammar.Widening.{widened}
use Rattle.tm_parse.proofs.grammar.Choices.{to_laws}
use Rattle.tm_parse.proofs.grammar.Forms.{mark_form}
use Rattle.tm_parse.proofs.grammar.Fronts.{starts-same, starts-front}
use Rattle.tm_parse.proofs.grammar.Lawful.{Clear, Front, Same, Form, Spelling, Begun, IsRight, Laws}
use Rattle.tm_parse.proofs.grammar.Levels.{at_limit}
use Rattle.tm_parse.proofs.grammar.Marks.{mark_laws}
use Rattle.tm_parse.proofs.grammar.ShapeLaws.{any_laws}
use Rattle.tm_parse.proofs.grammar.TypeForms.{TellsTypes, level_form, level_laws}
use Rattle.tm_parse.specs.Classes.{among, alike}
use Rattle.tm_parse.specs.Combinators.{starts, counts_as}
use Rattle.tm_parse.specs.Events.{a_type, mark, Event, terminals}
use Rattle.tm_parse.specs.Counting.{Beyond, counted, count}
use Rattle.tm_parse.specs.Parts.{Reader, Part, finish}
use Rattle.tm_parse.specs.Types.{integer, scalar, type_first, primitive_type, one_level, type_part, read_none, SpellsType, too_deep, read_type, type_at}
use Rattle.tm_parse.specs.declared.class.Class.TheVariants as c
use Rattle.tm_parse.specs.declared.counts.Counts.{Counts}
use Rattle.tm_base.specs.declared.limit.LimitKind.TheVariants as limit
use Rattle.tm_parse.specs.declared.parsed.Expr.{Expr}
use Rattle.tm_parse.specs.declared.terminal.Terminal.{Terminal}

-- the form

type-front : (n depth : ℕ) (v : Expr) (e : List Event) → SpellsType depth n v e → Front type_first false (terminals e)
unfolding SpellsType
type-front zero depth v e h = absurd h
type-front (suc n) depth v e h = (mark_form (a_type depth) (level_form type_first (λ m. SpellsType (suc depth) n) read_none
    (record { grow = λ m v e h. h; front = λ m v e h. type-front n (suc depth) v e h }))).front zero v e h

-- one relation, and then another one
abbrev in_turn : (S T : Expr → List Event → Type 0) → ℕ → Expr → List Event → Type 0
in_turn S T zero v e = S v e
in_turn S T (suc n) v e = T v e

in-turn-form : (S T : Expr → List Event → Type 0) → ((v : Expr) (e : List Event) → S v e → T v e) → ((v : Expr) (e : List Event) → T v e → Front type_first false (terminals e)) → Form (λ n. type_part type_first (in_turn S T n) read_none)
in-turn-form S T up begun = record { grow = grown; front = fronts }
  where
    grown : (n : ℕ) (v : Expr) (e : List Event) → in_turn S T n v e → in_turn S T (suc n) v e
    grown zero v e h = up v e h
    grown (suc n) v e h = h

    fronts : (n : ℕ) (v : Expr) (e : List Event) → in_turn S T n v e → Front type_first false (terminals e)
    fronts zero v e h = begun v e (up v e h)
    fronts (suc n) v e h = begun v e h

-- a level over one relation is one over a wider relation
level-up : (depth : ℕ) (S T : Expr → List Event → Type 0) → ((v : Expr) (e : List Event) → S v e → T v e) → ((v : Expr) (e : List Event) → T v e → Front type_first false (terminals e))
    → (v : Expr) (e : List Event) → (counts_as (a_type depth) (one_level (type_part type_first S read_none))).spells v e → (counts_as (a_type depth) (one_level (type_part type_first T read_none))).spells v e
level-up depth S T up begun v e h = (mark_form (a_type depth) (level_form type_first (in_turn S T) read_none (in-turn-form S T up begun))).grow zero v e h

type-grow : (n depth : ℕ) (v : Expr) (e : List Event) → SpellsType depth n v e → SpellsType depth (suc n) v e
unfolding SpellsType
type-grow zero depth v e h = absurd h
type-grow (suc n) depth v e h = level-up depth (SpellsType (suc depth) n) (SpellsType (suc depth) (suc n)) (λ v e h. type-grow n (suc depth) v e h) (λ v e h. type-front (suc n) (suc depth) v e h) v e h

-- each terminal of the list begins a type: one over primitive types alone

abbrev primitives : ℕ → Part Expr
primitives depth = counts_as (a_type depth) (primitive_type (type_part type_first (λ v e. ⊥) read_none))

abbrev primitive_part : ℕ → Part Expr
primitive_part depth = type_part (integer ∷ scalar ∷ []) (primitives depth).spells (primitives depth).read

primitive-type : (depth : ℕ) (v : Expr) (e : List Event) → (primitives depth).spells v e → SpellsType depth 1 v e
unfolding SpellsType
primitive-type depth v e h = (h.0, inr (inl h.1), h.2)

primitive-laws : (depth : ℕ) → Laws (λ n. primitive_part depth)
primitive-laws depth = widened (λ n. primitives depth) (λ n. primitive_part depth) l (record { grow = λ n v e h. h; front = λ n v e h. l.form.front n v e h })
    (λ n v e h. (n, h)) (λ n v e h. (n, h)) (λ c ts. refl) (λ t h. h) (λ z h. free z) refl
  where
    l : Laws (λ n. primitives depth)
    l = mark_laws (a_type depth) (to_laws _ (any_laws integer (scalar ∷ []))) refl

    free : (z : List Terminal) → Clear [] z
    free [] = tt
    free (t ∷ z) = refl

tells-primitives : TellsTypes (integer ∷ scalar ∷ [])
tells-primitives = record { comma = refl; unit = refl; unique = refl; closing = refl; lifetime = refl; argument = refl; arguments = refl }

primitive-level : (depth : ℕ) → Laws (λ n. counts_as (a_type depth) (one_level (primitive_part (suc depth))))
primitive-level depth = mark_laws (a_type depth) (level_laws (integer ∷ scalar ∷ []) (λ n. (primitives (suc depth)).spells) (primitives (suc depth)).read tells-primitives (primitive-laws (suc depth))) refl

-- a type as a part, with any reader
abbrev types : Reader Expr → ℕ → ℕ → Part Expr
types read depth n = type_part type_first (SpellsType depth n) read

types-form : (read : Reader Expr) (depth : ℕ) → Form (λ n. types read depth n)
types-form read depth = record { grow = λ n v e h. type-grow n depth v e h; front = λ n v e h. type-front n depth v e h }

type-begins : (read : Reader Expr) (depth : ℕ) (t : Terminal) → among type_first t.class ≡ true → Begun (λ n. types read depth n) t
unfolding SpellsType
type-begins read depth t h = let x = (primitive-level depth).begins t h in let y = x.spelling in record {
  spelling = record {
    depth = 2;
    value = y.value;
    events = y.events;
    spelled = level-up depth (primitives (suc depth)).spells (SpellsType (suc depth) 1) (primitive-type (suc depth)) (λ v e h. type-front 1 (suc depth) v e h) y.value y.events y.spelled;
  };
  others = x.others;
  next = x.next;
}

type-some : (read : Reader Expr) (depth : ℕ) → Spelling (λ n. types read depth n)
type-some read depth = (type-begins read depth (record { class = integer; place = 0; size = 1 }) refl).spelling

-- nested too deep

passed : (c : Counts) (depth : ℕ) → 32 ≤ depth → (n : ℕ) (v : Expr) (e : List Event) → SpellsType depth n v e → count c e ≡ Beyond limit.Nesting e
unfolding SpellsType
passed c depth l zero v e h = absurd h
passed c depth l (suc n) v e h = subst (λ e. count c e ≡ Beyond limit.Nesting e) (sym h.2) (ap (λ s. counted s (mark (a_type depth) ∷ h.0) (λ x. count x h.0)) (at_limit c depth l))

-- with no level left a type that begins here is too deep
module _ (depth : ℕ) (l : 32 ≤ depth) where
  abbrev Q : ℕ → Part Expr
  Q n = types (read_type depth zero) depth n

  reads-none : (n : ℕ) (v : Expr) (e : List Event) (c : Counts) (z : List Terminal) → SpellsType depth n v e → too_deep (starts type_first (terminals e ++ z)) (terminals e ++ z) ≡ finish v z (count c e)
  reads-none n v e c z h = ap (λ b. too_deep b (terminals e ++ z)) (starts-front type_first (terminals e) z (type-front n depth v e h))
      ∙ ap (finish v z) (sym (passed c depth l n v e h))

  right-none : (c : Counts) (ts : List Terminal) (b : Bool) → starts type_first ts ≡ b → IsRight Q c ts (too_deep b ts)
  unfolding read_type
  right-none c ts false h = let x = type-some (read_type depth zero) depth in (
    x.events,
    c,
    record {
      depth = x.depth;
      value = x.value;
      front = [];
      spelled = x.spelled;
      text = refl;
      within = refl;
      alone = λ o s. ap (λ b. too_deep b o) (sym (starts-same type_first ts o s) ∙ h);
    },
  )
  right-none c [] true h = absurd cc
  right-none c (t ∷ ts) true h = let x = type-begins (read_type depth zero) depth t h in let y = x.spelling in (
    y.events,
    c,
    record {
      depth = y.depth;
      value = y.value;
      front = [];
      spelled = y.spelled;
      text = refl;
      within = refl;
      alone = λ o s. ap (λ b. too_deep b o) (sym (starts-same type_first (t ∷ ts) o s) ∙ h);
    },
    record { passes = passed c depth l y.depth y.value y.events y.spelled; next = subst (Same (t ∷ ts)) (sym x.next) refl; some = λ e. e },
  )

  none-laws : Laws (λ n. types (read_type depth zero) depth n)
  unfolding read_type
  none-laws = record {
    form = types-form (read_type depth zero) depth;
    some = type-some (read_type depth zero) depth;
    none = λ h. absurd (let x : false ≡ true = h in cc);
    begins = type-begins (read_type depth zero) depth;
    reads = λ n v e c z h k. reads-none n v e c z h;
    right = λ c ts. right-none c ts (starts type_first ts) refl;
  }

clear-twice : (z : List Terminal) → Clear (c.Less ∷ []) z → Clear (c.Less ∷ c.Less ∷ []) z
clear-twice [] h = tt
clear-twice (t ∷ z) h = go (alike c.Less t.class) h
  where
    go : (b : Bool) → (b || false) ≡ false → (b || (b || false)) ≡ false
    go true h = h
    go false h = refl

pub tells_types : TellsTypes type_first
tells_types = record { comma = refl; unit = refl; unique = refl; closing = refl; lifetime = refl; argument = refl; arguments = refl }

levels-laws : (g depth : ℕ) → 32 ≤ depth + g → Laws (λ n. types (read_type depth g) depth n)
unfolding SpellsType read_type
levels-laws zero depth l = none-laws depth (omega arith)
levels-laws (suc g) depth l = widened (λ n. counts_as (a_type depth) (one_level (types (read_type (suc depth) g) (suc depth) n))) (λ n. types (read_type depth (suc g)) depth n)
    (mark_laws (a_type depth) (level_laws type_first (SpellsType (suc depth)) (read_type (suc depth) g) tells_types (levels-laws g (suc depth) (omega arith))) refl)
    (types-form (read_type depth (suc g)) depth)
    (λ n v e h. (suc n, h)) (λ n v e h. (n, type-grow n depth v e h)) (λ c ts. refl) (λ t h. h) (λ z h. clear-twice z h) refl

pub type_laws : (depth : ℕ) → Laws (λ n. type_at depth n)
type_laws depth = levels-laws (32 - depth) depth (omega arith)
