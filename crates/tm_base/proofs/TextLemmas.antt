-- The texts of types, kind by kind, where at most n names and references are followed behind one another.
use Rattle.std.proofs.Common.{◌≡◌, ℕ, zero, suc, ◌+◌, ◌<◌, refl, ◌∙◌, ap, arith, List, [], ◌∷◌, ◌++◌, length, map, None, Some, slice_get, if◌then◌else◌}
use Rattle.std.specs.Prelude.{codes, decimal}
use Rattle.tm_base.specs.declared.cell.RefId.{RefId}
use Rattle.tm_base.specs.declared.definition.Def.{Def}
use Rattle.tm_base.specs.declared.definition.NamedRow.{NamedRow}
use Rattle.tm_base.specs.declared.definition.RefRow.{RefRow}
use Rattle.tm_base.specs.declared.ground.Ground.{Ground, Prim, Never, Unit, Tuple, Array, Named, NonZero, Wrap, Ref}
use Rattle.tm_base.specs.declared.ground.NamedId.{NamedId}
use Rattle.tm_base.specs.declared.ground.Primitive.{Primitive}
use Rattle.tm_base.specs.declared.ground.Wrapper.{Wrapper}
use Rattle.tm_base.specs.Spelled.{Spelled, spell, spelled_all, spelled_within, follow_name, follow_row}
use Rattle.tm_base.specs.Tables.{Tables}
use Rattle.tm_base.specs.Texts.{prim_text, wrapper_text, applied, separated, tuple_text, def_text, region_text, spelled_text, element_texts, text_within}
use Rattle.tm_base.proofs.GroundLemmas.{spell-Tuple, spell-Array, spell-Wrap}

-- a definition's name where it is given something
pub def-given : {A B : Type 0} (f : A → List ℕ) (h : B → List ℕ) (def : Def) (xs : List A) (ys : List B) → 0 < length xs + length ys
    → def_text (Some def) (map f xs ++ map h ys) ≡ applied def.name (separated (map f xs ++ map h ys))
def-given f h def [] [] some = absurd (omega (arith, some))
def-given f h def [] (y ∷ ys) some = refl
def-given f h def (x ∷ xs) ys some = refl

module _ (tables : Tables) where
  abbrev text : ℕ → Ground → List ℕ
  text = text_within tables

  pub text-Prim : (n : ℕ) (p : Primitive) → text n (Prim p) ≡ prim_text p
  unfolding spelled_within spell spelled_text
  text-Prim zero p = refl
  text-Prim (suc n) p = refl

  pub text-Never : (n : ℕ) → text n Never ≡ codes "!"
  unfolding spelled_within spell spelled_text
  text-Never zero = refl
  text-Never (suc n) = refl

  pub text-Unit : (n : ℕ) → text n Unit ≡ codes "()"
  unfolding spelled_within spell spelled_text
  text-Unit zero = refl
  text-Unit (suc n) = refl

  pub text-NonZero : (n : ℕ) (p : Primitive) → text n (NonZero p) ≡ applied (codes "NonZero") (prim_text p)
  unfolding spelled_within spell spelled_text
  text-NonZero zero p = refl
  text-NonZero (suc n) p = refl

  pub text-Array : (n : ℕ) (g : Ground) (k : ℕ) → text n (Array g k) ≡ codes "[" ++ text n g ++ codes "; " ++ decimal k ++ codes "]"
  unfolding spelled_within spelled_text
  text-Array zero g k = ap (spelled_text tables) (spell-Array _ _ g k)
  text-Array (suc n) g k = ap (spelled_text tables) (spell-Array _ _ g k)

  pub text-Wrap : (n : ℕ) (w : Wrapper) (g : Ground) → text n (Wrap w g) ≡ applied (wrapper_text w) (text n g)
  unfolding spelled_within spelled_text
  text-Wrap zero w g = ap (spelled_text tables) (spell-Wrap _ _ w g)
  text-Wrap (suc n) w g = ap (spelled_text tables) (spell-Wrap _ _ w g)

  pub all-texts : (spelling : Ground → Spelled) (gs : List Ground) → element_texts tables (spelled_all spelling gs) ≡ map (λ g. spelled_text tables (spelling g)) gs
  unfolding spelled_text
  all-texts spelling [] = refl
  all-texts spelling (g ∷ gs) = ap (λ others. spelled_text tables (spelling g) ∷ others) (all-texts spelling gs)

  pub text-Tuple : (n : ℕ) (gs : List Ground) → text n (Tuple gs) ≡ tuple_text (map (text n) gs)
  unfolding spelled_within spelled_text
  text-Tuple zero gs = ap (spelled_text tables) (spell-Tuple _ _ gs) ∙ ap tuple_text (all-texts _ gs)
  text-Tuple (suc n) gs = ap (spelled_text tables) (spell-Tuple _ _ gs) ∙ ap tuple_text (all-texts _ gs)

  text-Named-suc : (n : ℕ) (id : NamedId) (row : NamedRow) → slice_get tables.named id.0 ≡ Some row
      → text (suc n) (Named id) ≡ def_text (slice_get tables.defs row.def.0) (map (region_text tables) row.regions ++ map (text n) row.args)
  unfolding spelled_within spell spelled_text
  text-Named-suc n id row found =
      ap (λ one. spelled_text tables (follow_name (spelled_within n tables.named tables.refs) one)) found
      ∙ ap (λ texts. def_text (slice_get tables.defs row.def.0) (map (region_text tables) row.regions ++ texts)) (all-texts _ row.args)

  text-Ref-suc : (n : ℕ) (r : RefId) (row : RefRow) → slice_get tables.refs r.0 ≡ Some row
      → text (suc n) (Ref r) ≡ codes "&" ++ region_text tables row.region ++ (if row.mutable then codes " mut " else codes " ") ++ text n row.pointee
  unfolding spelled_within spell spelled_text
  text-Ref-suc n r row found = ap (λ one. spelled_text tables (follow_row (spelled_within n tables.named tables.refs) one)) found

  -- a name with its regions and arguments, where one more may be followed than behind it
  pub text-Named : (n m : ℕ) (id : NamedId) (row : NamedRow) → n ≡ suc m → slice_get tables.named id.0 ≡ Some row
      → text n (Named id) ≡ def_text (slice_get tables.defs row.def.0) (map (region_text tables) row.regions ++ map (text m) row.args)
  text-Named n m id row e found = ap (λ k. text k (Named id)) e ∙ text-Named-suc m id row found

  -- a reference and its pointee, likewise
  pub text-Ref : (n m : ℕ) (r : RefId) (row : RefRow) → n ≡ suc m → slice_get tables.refs r.0 ≡ Some row
      → text n (Ref r) ≡ codes "&" ++ region_text tables row.region ++ (if row.mutable then codes " mut " else codes " ") ++ text m row.pointee
  text-Ref n m r row e found = ap (λ k. text k (Ref r)) e ∙ text-Ref-suc m r row found

  -- nothing, where none may be followed or the number names none
  pub nowhere-Named : (id : NamedId) → text zero (Named id) ≡ []
  unfolding spelled_within spell spelled_text
  nowhere-Named id = refl

  pub nowhere-Ref : (r : RefId) → text zero (Ref r) ≡ []
  unfolding spelled_within spell spelled_text
  nowhere-Ref r = refl

  pub nothing-Named : (n : ℕ) (id : NamedId) → slice_get tables.named id.0 ≡ None → text n (Named id) ≡ []
  unfolding spelled_within spell spelled_text
  nothing-Named zero id e = refl
  nothing-Named (suc n) id e = ap (λ one. spelled_text tables (follow_name (spelled_within n tables.named tables.refs) one)) e

  pub nothing-Ref : (n : ℕ) (r : RefId) → slice_get tables.refs r.0 ≡ None → text n (Ref r) ≡ []
  unfolding spelled_within spell spelled_text
  nothing-Ref zero r e = refl
  nothing-Ref (suc n) r e = ap (λ one. spelled_text tables (follow_row (spelled_within n tables.named tables.refs) one)) e
