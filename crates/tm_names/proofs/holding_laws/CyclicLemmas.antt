-- The closure of the rows of flags tells which definitions hold themselves.
use Rattle.std.proofs.Common.{◌≡◌, ℕ, zero, suc, ◌<◌, refl, sym, ap, ◌∙◌, subst, arith, Bool, true, List, length, map}
use Rattle.std.specs.Prelude.{slice_get, Some}
use Rattle.std.specs.List.{filter_map}
use Rattle.std.proofs.lemmas.Option.{none-some, same_Some}
use Rattle.tm_base.specs.Reaches.{ChainIn}
use Rattle.tm_names.proofs.holding_laws.HoldingLemmas.{Edge, decl_stands, held_within, kept, way_holds}
use Rattle.tm_names.proofs.Members.{Member, from_filter_map, into_filter_map}
use Rattle.tm_names.proofs.holding_laws.OwnLemmas.{flags_length, flags_within, from_flags, into_flags}
use Rattle.tm_names.proofs.holding_laws.RowLemmas.{Admits, closure_admits, length_map, row_of_map, row_within, some_at}
use Rattle.tm_names.proofs.holding_laws.ThroughLemmas.{Way, through_is_way, way_is_through}
use Rattle.tm_names.specs.declared.meaning.Meaning.{Meaning}
use Rattle.tm_names.specs.declared.meaning.Meaning.TheVariants.{Definition, Parameter}
use Rattle.tm_names.specs.Closures.{TellsInfinite, TellsOwn, closure, through}
use Rattle.tm_names.specs.Held.{bit_at, decl_held, definition_flags, definition_number, row_at}
use Rattle.tm_parse.specs.declared.parsed.Decl.{Decl}

definition_is : (x : Meaning) (k : ℕ) → definition_number x ≡ Some k → x ≡ Definition k
definition_is (Definition n) k e = ap Definition (same_Some n k e)
definition_is (Parameter n) k e = absurd (none-some k e)

lead_on : {X : Type 0} (S T : X → X → Type 0) → ((a b : X) → S a b → T a b) → (n : ℕ) (a b : X) → ChainIn S n a b → ChainIn T n a b
unfolding ChainIn
lead_on S T h zero a b e = e
lead_on S T h (suc n) a b (next, s, more) = (next, h a next s, lead_on S T h n next b more)

other_way : {X : Type 0} (S T : X → X → Type 0) → ((a b : X) → S a b → T a b) → (a b : X) → Way S a b → Way T a b
other_way S T h a b w = record { next = w.next; first = h a w.next w.first; rest = (w.rest.0, lead_on S T h w.rest.0 w.next b w.rest.1) }

module _ (name : ℕ → List ℕ) (decls : List Decl) (own : List (List Bool)) (told : TellsOwn name decls own) where
  abbrev rows : List (List Bool)
  rows = map (definition_flags name decls own) decls

  abbrev edge : ℕ → ℕ → Bool
  edge i j = bit_at (row_at rows i) j

  abbrev Flag : ℕ → ℕ → Type 0
  Flag i j = edge i j ≡ true

  abbrev Step : ℕ → ℕ → Type 0
  Step = Edge name decls own

  row_here : (i : ℕ) (d : Decl) → slice_get decls i ≡ Some d → row_at rows i ≡ definition_flags name decls own d
  row_here i d at = row_of_map (definition_flags name decls own) decls i d at

  abbrev numbers : Decl → List ℕ
  numbers d = filter_map definition_number (decl_held name decls own d)

  rows_admit : Admits (length decls) edge 0 rows
  rows_admit = record {
    high = length_map (definition_flags name decls own) decls;
    wide = λ i h. let (d, e) = some_at decls i h in ap length (row_here i d e) ∙ flags_length (numbers d) (length decls);
    bits = λ i j h g. refl;
  }

  closed_bit : (i j : ℕ) → i < length decls → j < length decls → bit_at (row_at (closure 0 (length rows) rows) i) j ≡ through edge (length decls) i j
  closed_bit i j h g =
      ap (λ n. bit_at (row_at (closure 0 n rows) i) j) (length_map (definition_flags name decls own) decls)
      ∙ (closure_admits (length decls) edge (length decls) 0 rows (omega arith) rows_admit).bits i j h g

  flag_from : (i j : ℕ) → Flag i j → i < length decls
  flag_from i j e = let h = row_within rows i j e in let l = length_map (definition_flags name decls own) decls in omega (arith, h, l)

  flag_in : (i j : ℕ) → Flag i j → (d : Decl) × (slice_get decls i ≡ Some d) × (bit_at (definition_flags name decls own d) j ≡ true)
  flag_in i j e = let (d, at) = some_at decls i (flag_from i j e) in (d, at, subst (λ row. bit_at row j ≡ true) (row_here i d at) e)

  flag_to : (i j : ℕ) → Flag i j → j < length decls
  flag_to i j e = let (d, at, t) = flag_in i j e in flags_within (numbers d) (length decls) j t

  flag_step : (i j : ℕ) → Flag i j → Step i j
  flag_step i j e =
      let (d, at, t) = flag_in i j e in
      let (x, among, number) = from_filter_map definition_number j (decl_held name decls own d) (from_flags (numbers d) (length decls) j t) in
      (d, at, subst (λ y. Member y (decl_held name decls own d)) (definition_is x j number) among)

  step_flag : (i j : ℕ) → Step i j → Flag i j
  step_flag i j (d, at, m) =
      ap (λ row. bit_at row j) (row_here i d at)
      ∙ into_flags (numbers d) (length decls) j (held_within name decls own told.sound d (Definition j) m)
      (into_filter_map definition_number j (Definition j) (decl_held name decls own d) m refl)

  -- a definition that holds itself has a way back
  pub tells_infinite : TellsInfinite name decls (λ i. bit_at (row_at (closure 0 (length rows) rows) i) i)
  tells_infinite = record {
    tells = λ i l. (
      (λ t. way_holds name decls own told.sound i i
          (other_way Flag Step flag_step i i (through_is_way edge (length decls) i i (sym (closed_bit i i l l) ∙ t)))),
      (λ h. closed_bit i i l l ∙ way_is_through edge (length decls) (λ a b e. (flag_from a b e, flag_to a b e)) i i
          (other_way Step Flag step_flag i i
          (kept name decls own (λ j k d at m. told.whole j k (decl_stands name decls own told.sound j d (Parameter k) at m)) i (Definition i) h))),
    );
  }
