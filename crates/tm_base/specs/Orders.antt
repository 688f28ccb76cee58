-- The order of words, and of texts by their bytes: the first place where two differ decides.
use Rattle.std.specs.Prelude.{ℕ, Bool, true, false, ◌&&◌, ◌||◌, ◌==◌, not, nat_lt, List, [], ◌∷◌}
use Rattle.tm_base.specs.declared.cell.Cell.{Cell}
use Rattle.tm_base.specs.declared.cell.Cell.TheVariants.{Byte, Uninit, Ptr}
use Rattle.tm_base.specs.Cells.{Word}

-- as in a dictionary, where what ends first stands first
module _ {X : Type 0} (less : X → X → Bool) where
  unfoldable pub list_less : List X → List X → Bool
  list_less [] [] = false
  list_less [] (y ∷ ys) = true
  list_less (x ∷ xs) [] = false
  list_less (x ∷ xs) (y ∷ ys) = less x y || (not (less y x) && list_less xs ys)

-- initialised bytes by number, then the uninitialised byte, then references by number and place
abbrev pub cell_less : Cell → Cell → Bool
cell_less (Byte a) (Byte b) = nat_lt a b
cell_less (Byte a) Uninit = true
cell_less (Byte a) (Ptr r k) = true
cell_less Uninit (Byte b) = false
cell_less Uninit Uninit = false
cell_less Uninit (Ptr r k) = true
cell_less (Ptr r j) (Byte b) = false
cell_less (Ptr r j) Uninit = false
cell_less (Ptr r j) (Ptr t k) = nat_lt r.0 t.0 || ((r.0 == t.0) && nat_lt j k)

-- the order of words, cell by cell
abbrev pub word_less : Word → Word → Bool
word_less = list_less cell_less

-- the order of texts, byte by byte
abbrev pub text_less : List ℕ → List ℕ → Bool
text_less = list_less nat_lt
