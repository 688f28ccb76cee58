-- Numbers that are kept in fewer bits than they are read in, as those in form all are.
use Rattle.std.specs.Prelude.{◌<◌, ◌≤◌, ◌^◌, length, nat_lt, Bool, ℤ, pos, negsuc, IsTrue, All, ⊤}
use Rattle.std.specs.List.{list_all}
use Rattle.tm_names.specs.Discriminants.{valued}
use Rattle.tm_parse.specs.declared.parsed.Decl.{Decl}
use Rattle.tm_parse.specs.declared.parsed.ReprItem.{ReprItem}
use Rattle.tm_parse.specs.declared.parsed.ReprItem.TheVariants.{Packed, Align}

-- the number of `packed` and of `align` has at most 32 bits
abbrev pub IsItemNarrow : ReprItem → Type 0
IsItemNarrow (Packed n) = n < 2 ^ 32
IsItemNarrow (Align n) = n < 2 ^ 32
IsItemNarrow item = ⊤

-- a discriminant has at most 64 bits behind its sign
abbrev pub is_value_narrow : ℤ → Bool
is_value_narrow (pos n) = nat_lt n (2 ^ 64)
is_value_narrow (negsuc n) = nat_lt n (2 ^ 64)

-- so have all numbers of a definition, and it has no more parameters than a file may have lifetimes
pub record IsNarrow (definition : Decl) : Type 0 where
  pub items : All (λ repr. IsItemNarrow repr.item) definition.reprs
  pub params : length definition.params ≤ 16
  pub types : length definition.type_params ≤ 16
  pub values : IsTrue (list_all (λ v. is_value_narrow v.value) (valued definition.variants))
