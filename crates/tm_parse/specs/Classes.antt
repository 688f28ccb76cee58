-- The classes of terminals. Two are alike where the grammar doesn't tell them apart: what a class
-- carries, as an integer type or a number, isn't looked at.
use Rattle.std.specs.Prelude.{ℕ, ◌==◌, Bool, true, false, not, ◌&&◌, ◌||◌, List, [], ◌∷◌, ◌++◌}
use Rattle.tm_parse.specs.declared.class.Class.{Class}
use Rattle.tm_parse.specs.declared.class.Class.TheVariants as c

-- a number for each class, whatever the class carries
abbrev pub code : Class → ℕ
code c.OpenBrace = 0
code c.CloseBrace = 1
code c.OpenParen = 2
code c.CloseParen = 3
code c.OpenBracket = 4
code c.CloseBracket = 5
code c.Less = 6
code c.Greater = 7
code c.Comma = 8
code c.Semicolon = 9
code c.Colon = 10
code c.Equals = 11
code c.Ampersand = 12
code c.Bang = 13
code c.Hash = 14
code c.Minus = 15
code c.Arrow = 16
code (c.Number value) = 17
code c.Lifetime = 18
code (c.Integer primitive) = 19
code (c.Scalar primitive) = 20
code (c.Alias primitive) = 21
code (c.Generic wrapper) = 22
code c.NonZero = 23
code c.Foreign = 24
code c.Crate = 25
code c.Enum = 26
code c.Mut = 27
code c.Pub = 28
code c.Myself = 29
code c.Struct = 30
code c.Super = 31
code c.Keyword = 32
code c.Align = 33
code c.Alignment = 34
code c.Ask = 35
code c.Assume = 36
code c.C = 37
code c.Derive = 38
code c.Declare = 39
code c.Lifetimes = 40
code c.Outlives = 41
code c.Packed = 42
code c.Repr = 43
code c.Safety = 44
code c.Transparent = 45
code c.Union = 46
code c.Validity = 47
code c.Name = 48

abbrev pub alike : Class → Class → Bool
alike x y = code x == code y

-- a class of the list is alike
abbrev pub among : List Class → Class → Bool
among [] k = false
among (x ∷ xs) k = alike x k || among xs k

-- no class is in both lists
abbrev pub apart : List Class → List Class → Bool
apart [] ys = true
apart (x ∷ xs) ys = not (among ys x) && apart xs ys

-- with the first list only where the test holds
abbrev pub joined : Bool → List Class → List Class → List Class
joined true xs ys = xs ++ ys
joined false xs ys = ys
