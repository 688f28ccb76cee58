-- The types of a world's questions are over the world.
use Rattle.std.proofs.Common.{◌≡◌, ◌∙◌, ℕ, zero, suc, ◌<◌, refl, sym, ap, subst, Bool, true, ◌&&◌, List, [], ◌∷◌, ◌++◌, map, length, get_or, Some, slice_get, arith}
use Rattle.std.specs.List.{All, flat_map, list_all, range_with_len}
use Rattle.std.proofs.lemmas.Bool.{and_parts}
use Rattle.std.proofs.lemmas.List.Elements.{All-cons, All-nil}
use Rattle.std.proofs.lemmas.List.Folds.{list_all-append}
use Rattle.tm_base.specs.declared.ask.Ask.{Ask}
use Rattle.tm_base.specs.declared.ground.Ground.{Ground, out-Ground, roll-Ground, roll-out-Ground, Named, Tuple, Array, Wrap}
use Rattle.tm_base.specs.declared.ground.Ground.TheOpen.{Ground-F}
use Rattle.tm_base.specs.declared.world.World.{World}
use Rattle.tm_base.specs.Expanded.{expanded}
use Rattle.tm_base.specs.Parts.{is_whole}
use Rattle.tm_base.specs.Spelled.{ends, spelled}
use Rattle.tm_base.specs.Whole.{are_types_in_form, is_head_in_form, is_type_in_form, is_type_over, written_types}
use Rattle.tm_base.specs.Worlds.{IsTypeOver, tables_of}
use Rattle.tm_base.proofs.GroundLemmas.{written_types-Tuple, written_types-Array, written_types-Wrap}
use Rattle.tm_base.proofs.WorldLemmas.{list_all-at, list_all-flat_map}
use Rattle.tm_run.specs.Marks.{types_of}

-- a type is written in itself
module _ (passes : Ground → Bool) where
  rolled-passes : (x : Ground-F Ground) → list_all passes (written_types (roll-Ground x)) ≡ true → passes (roll-Ground x) ≡ true
  unfolding roll-Ground written_types out-Ground denote.Hole.Carrier.out denote.Hole.Carrier.roll
  rolled-passes (Ground-F.Tuple gs) h = (and_parts (passes (Tuple gs)) _ (ap (list_all passes) (sym (written_types-Tuple gs)) ∙ h)).0
  rolled-passes (Ground-F.Array g n) h = (and_parts (passes (Array g n)) _ (ap (list_all passes) (sym (written_types-Array g n)) ∙ h)).0
  rolled-passes (Ground-F.Wrap w g) h = (and_parts (passes (Wrap w g)) _ (ap (list_all passes) (sym (written_types-Wrap w g)) ∙ h)).0
  rolled-passes (Ground-F.Named id) h = (and_parts _ true h).0
  rolled-passes (Ground-F.Ref r) h = (and_parts _ true h).0
  rolled-passes (Ground-F.Prim p) h = (and_parts _ true h).0
  rolled-passes Ground-F.Never h = (and_parts _ true h).0
  rolled-passes Ground-F.Unit h = (and_parts _ true h).0
  rolled-passes (Ground-F.NonZero p) h = (and_parts _ true h).0

  itself-passes : (g : Ground) → list_all passes (written_types g) ≡ true → passes g ≡ true
  itself-passes g h =
      subst (λ (k : Ground). passes k ≡ true) (roll-out-Ground g) (rolled-passes (out-Ground g) (subst (λ (k : Ground). list_all passes (written_types k) ≡ true) (sym (roll-out-Ground g)) h))

-- an item of a list at a place
at-within : {X : Type 0} (xs : List X) (k : ℕ) (x : X) → k < length xs → x ≡ get_or xs k x → slice_get xs k ≡ Some x
at-within [] k x less is = absurd (omega (arith, less))
at-within (y ∷ xs) zero x less is = ap (λ (z : _). Some z) (sym is)
at-within (y ∷ xs) (suc k) x less is = at-within xs k x (omega (arith, less)) is

list_all-weaker : {X : Type 0} (p q : X → Bool) → ((x : X) → p x ≡ true → q x ≡ true) → (xs : List X) → list_all p xs ≡ true → list_all q xs ≡ true
list_all-weaker p q each [] h = refl
list_all-weaker p q each (x ∷ xs) h =
    let both = and_parts (p x) (list_all p xs) h in
    let first = each x both.0 in
    let others = list_all-weaker p q each xs both.1 in
    cc

module _ (world : World) where
  abbrev passes : Ground → Bool
  passes = is_type_in_form world.profile world.defs world.named world.refs

  abbrev heads : Ground → Bool
  heads g = is_head_in_form (length world.named) (length world.refs) (out-Ground g)

  abbrev whole : Ground → Bool
  whole g = is_whole (expanded world.profile world.defs world.named g)

  passes-parts : (g : Ground) → passes g ≡ true → (heads g ≡ true) × (whole g ≡ true)
  passes-parts g h = and_parts (heads g) (whole g) (and_parts (heads g && whole g) (ends (spelled world.named world.refs g)) h).0

  -- what is written in it passes: so the type is over the world
  passing-over : (g : Ground) → list_all passes (written_types g) ≡ true → IsTypeOver (tables_of world) g
  unfolding is_type_over
  passing-over g h =
      let all = list_all-weaker passes heads (λ k p. (passes-parts k p).0) (written_types g) h in
      let own = (passes-parts g (itself-passes passes g h)).1 in
      cc

  abbrev sides : List Ground
  sides = flat_map (λ ask. ask.src ∷ ask.dst ∷ []) world.questions

  abbrev others : List Ground
  others = flat_map (λ row. row.args) world.named ++ flat_map (λ row. flat_map (λ types. types) row.types) world.named ++ map (λ row. row.pointee) world.refs

  abbrev names : List Ground
  names = map (λ k. Named (record { 0 = k })) (range_with_len 0 (length world.named))

  abbrev written_pass : Ground → Bool
  written_pass g = list_all passes (written_types g)

  sides-pass : list_all written_pass sides ≡ true
  unfolding are_types_in_form
  sides-pass =
      let all : list_all passes (names ++ flat_map written_types (others ++ sides)) ≡ true = world.types_in_form in
      let behind = (and_parts (list_all passes names) _ (sym (list_all-append passes names _) ∙ all)).1 in
      let each : list_all written_pass (others ++ sides) ≡ true = sym (list_all-flat_map passes written_types (others ++ sides)) ∙ behind in
      (and_parts (list_all written_pass others) (list_all written_pass sides) (sym (list_all-append written_pass others sides) ∙ each)).1

  -- both types of each question are over the world
  pub asked-over : (k : ℕ) (ask : Ask) → slice_get world.questions k ≡ Some ask → IsTypeOver (tables_of world) ask.src × IsTypeOver (tables_of world) ask.dst
  asked-over k ask at =
      let both = list_all-at (λ ask. list_all written_pass (ask.src ∷ ask.dst ∷ [])) world.questions k ask
      (sym (list_all-flat_map written_pass (λ ask. ask.src ∷ ask.dst ∷ []) world.questions) ∙ sides-pass) at in
      let (src, rest) = and_parts (written_pass ask.src) _ both in
      let (dst, none) = and_parts (written_pass ask.dst) true rest in
      (passing-over ask.src src, passing-over ask.dst dst)

  pub asked-at : (k : ℕ) (ask : Ask) → k < length world.questions → ask ≡ get_or world.questions k ask → IsTypeOver (tables_of world) ask.src × IsTypeOver (tables_of world) ask.dst
  asked-at k ask less is = asked-over k ask (at-within world.questions k ask less is)

  -- and so are the types that they go from
  sources-pass : (asks : List Ask) → list_all written_pass (flat_map (λ ask. ask.src ∷ ask.dst ∷ []) asks) ≡ true → All (IsTypeOver (tables_of world)) (types_of asks)
  sources-pass [] h = All-nil (IsTypeOver (tables_of world))
  sources-pass (ask ∷ asks) h =
      let (src, rest) = and_parts (written_pass ask.src) _ h in
      let (dst, others) = and_parts (written_pass ask.dst) _ rest in
      All-cons (IsTypeOver (tables_of world)) ask.src (types_of asks) (passing-over ask.src src) (sources-pass asks others)

  pub sources-over : All (IsTypeOver (tables_of world)) (types_of world.questions)
  sources-over = sources-pass world.questions sides-pass
