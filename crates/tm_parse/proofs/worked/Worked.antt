-- Lists of terminals and what they are answered with, each rule at least once.
use Rattle.std.proofs.Common.{◌≡◌, ℕ, ◌+◌, refl, true, false, Some, None, List, [], ◌∷◌, map}
use Rattle.tm_base.specs.declared.definition.Kind.TheVariants as kind
use Rattle.tm_base.specs.declared.ground.Primitive.TheVariants as primitive
use Rattle.tm_base.specs.declared.ground.Wrapper.TheVariants as wrapper
use Rattle.tm_parse.specs.Accepted.{answer_of}
use Rattle.tm_parse.specs.Classes.{code}
use Rattle.tm_parse.specs.Combinators.{read_most}
use Rattle.tm_parse.specs.Counting.{step, none_yet}
use Rattle.tm_parse.specs.Parts.{Done, Stuck}
use Rattle.tm_parse.specs.Types.{read_type}
use Rattle.tm_parse.specs.declared.class.Class.{Class}
use Rattle.tm_parse.specs.declared.class.Class.TheVariants as c
use Rattle.tm_parse.specs.declared.parsed.Expr.TheVariants as expr
use Rattle.tm_parse.specs.declared.parsed.ReprItem.TheVariants as item
use Rattle.tm_parse.specs.declared.terminal.Terminal.{Terminal}

-- terminals of one byte each, from a place on
abbrev pub from : ℕ → List Class → List Terminal
from n [] = []
from n (k ∷ ks) = record { class = k; place = n; size = 1 } ∷ from (n + 1) ks

abbrev u8 : Class
u8 = c.Integer primitive.U8

-- one of each class: the grammar tells all of them apart
codes : map code (c.OpenBrace ∷ c.CloseBrace ∷ c.OpenParen ∷ c.CloseParen ∷ c.OpenBracket ∷ c.CloseBracket ∷ c.Less ∷ c.Greater ∷ c.Comma ∷ c.Semicolon ∷ c.Colon ∷ c.Equals ∷ c.Ampersand ∷ c.Bang ∷ c.Hash ∷ c.Minus
    ∷ c.Arrow ∷ c.Number 7 ∷ c.Lifetime ∷ c.Integer primitive.I8 ∷ c.Scalar primitive.Char ∷ c.Alias primitive.U16 ∷ c.Generic wrapper.Cell ∷ c.NonZero ∷ c.Foreign ∷ c.Crate ∷ c.Enum ∷ c.Mut ∷ c.Pub ∷ c.Myself ∷ c.Struct ∷ c.Super
    ∷ c.Keyword ∷ c.Align ∷ c.Alignment ∷ c.Ask ∷ c.Assume ∷ c.C ∷ c.Derive ∷ c.Declare ∷ c.Lifetimes ∷ c.Outlives ∷ c.Packed ∷ c.Repr ∷ c.Safety ∷ c.Transparent ∷ c.Union ∷ c.Validity ∷ c.Name ∷ [])
    ≡ 0 ∷ 1 ∷ 2 ∷ 3 ∷ 4 ∷ 5 ∷ 6 ∷ 7 ∷ 8 ∷ 9 ∷ 10 ∷ 11 ∷ 12 ∷ 13 ∷ 14 ∷ 15 ∷ 16 ∷ 17 ∷ 18 ∷ 19 ∷ 20 ∷ 21 ∷ 22 ∷ 23 ∷ 24 ∷ 25 ∷ 26 ∷ 27 ∷ 28 ∷ 29 ∷ 30 ∷ 31 ∷ 32 ∷ 33 ∷ 34 ∷ 35 ∷ 36 ∷ 37 ∷ 38 ∷ 39 ∷ 40 ∷ 41 ∷ 42 ∷ 43 ∷ 44 ∷ 45 ∷ 46 ∷ 47 ∷ 48 ∷ []
codes = refl

-- the empty file
empty_file : answer_of [] ≡ Done (record { lifetimes = []; bounds = []; decls = []; questions = [] }) none_yet []
unfolding answer_of step read_most read_type
empty_file = refl

-- lifetime 'a; outlives 'a: 'b;
regions : answer_of (from 0 (c.Declare ∷ c.Lifetime ∷ c.Semicolon ∷ c.Outlives ∷ c.Lifetime ∷ c.Colon ∷ c.Lifetime ∷ c.Semicolon ∷ []))
    ≡ Done (record { lifetimes = 1 ∷ []; bounds = record { longer = 4; shorter = 6 } ∷ []; decls = []; questions = [] }) (record none_yet { lifetimes = 1 }) []
unfolding answer_of step read_most read_type
regions = refl

-- ask u8 => (u8,) assume safety, validity,;
question : answer_of (from 0 (c.Ask ∷ u8 ∷ c.Arrow ∷ c.OpenParen ∷ u8 ∷ c.Comma ∷ c.CloseParen ∷ c.Assume ∷ c.Safety ∷ c.Comma ∷ c.Validity ∷ c.Comma ∷ c.Semicolon ∷ []))
    ≡ Done (record {
      lifetimes = [];
      bounds = [];
      decls = [];
      questions = record {
        src = expr.Prim primitive.U8;
        dst = expr.Tuple (expr.Prim primitive.U8 ∷ []);
        assume = record { alignment = false; lifetimes = false; safety = true; validity = true };
      } ∷ [];
    }) (record none_yet { questions = 1; nodes = 2 }) []
unfolding answer_of step read_most read_type
question = refl

-- #[repr(C, packed(2), packed)] #[derive(Copy)] pub struct A<'a> { pub x: &'a mut [bool; 4], pub (crate) ask: NonZero<u8> }
braces : answer_of (from 0 (c.Hash ∷ c.OpenBracket ∷ c.Repr ∷ c.OpenParen ∷ c.C ∷ c.Comma ∷ c.Packed ∷ c.OpenParen ∷ c.Number 2 ∷ c.CloseParen ∷ c.Comma ∷ c.Packed ∷ c.CloseParen ∷ c.CloseBracket
    ∷ c.Hash ∷ c.OpenBracket ∷ c.Derive ∷ c.OpenParen ∷ c.Name ∷ c.CloseParen ∷ c.CloseBracket ∷ c.Pub ∷ c.Struct ∷ c.Name ∷ c.Less ∷ c.Lifetime ∷ c.Greater ∷ c.OpenBrace
    ∷ c.Pub ∷ c.Name ∷ c.Colon ∷ c.Ampersand ∷ c.Lifetime ∷ c.Mut ∷ c.OpenBracket ∷ c.Scalar primitive.Bool ∷ c.Semicolon ∷ c.Number 4 ∷ c.CloseBracket ∷ c.Comma
    ∷ c.Pub ∷ c.OpenParen ∷ c.Crate ∷ c.CloseParen ∷ c.Ask ∷ c.Colon ∷ c.NonZero ∷ c.Less ∷ u8 ∷ c.Greater ∷ c.CloseBrace ∷ []))
    ≡ Done (record {
      lifetimes = [];
      bounds = [];
      questions = [];
      decls = record {
        kind = kind.Struct;
        name = 23;
        params = 25 ∷ [];
        type_params = [];
        reprs = record { token = 2; item = item.C } ∷ record { token = 2; item = item.Packed 2 } ∷ record { token = 2; item = item.Packed 1 } ∷ [];
        variants = record {
          name = None;
          negative = false;
          value = None;
          fields =
              record { name = Some 29; public = true; ty = expr.Ref 32 true (expr.Array (expr.Prim primitive.Bool) 4) }
              ∷ record { name = Some 44; public = false; ty = expr.NonZero primitive.U8 } ∷ [];
        } ∷ [];
      } ∷ [];
    })
    (record none_yet { definitions = 1; parameters = 1; fields = 2; nodes = 1 }) []
unfolding answer_of step read_most read_type
braces = refl

-- struct A(pub (u8), pub (super) (), Option<B<'a>>, !, pub NonZeroU8);
places : answer_of (from 0 (c.Struct ∷ c.Name ∷ c.OpenParen ∷ c.Pub ∷ c.OpenParen ∷ u8 ∷ c.CloseParen ∷ c.Comma ∷ c.Pub ∷ c.OpenParen ∷ c.Super ∷ c.CloseParen ∷ c.OpenParen ∷ c.CloseParen ∷ c.Comma
    ∷ c.Generic wrapper.Option ∷ c.Less ∷ c.Name ∷ c.Less ∷ c.Lifetime ∷ c.Greater ∷ c.Greater ∷ c.Comma ∷ c.Bang ∷ c.Comma ∷ c.Pub ∷ c.Alias primitive.U8 ∷ c.CloseParen ∷ c.Semicolon ∷ []))
    ≡ Done (record {
      lifetimes = [];
      bounds = [];
      questions = [];
      decls = record {
        kind = kind.Struct;
        name = 1;
        params = [];
        type_params = [];
        reprs = [];
        variants = record {
          name = None;
          negative = false;
          value = None;
          fields =
              record { name = None; public = true; ty = expr.Prim primitive.U8 }
              ∷ record { name = None; public = false; ty = expr.Tuple [] }
              ∷ record { name = None; public = false; ty = expr.Wrap wrapper.Option (expr.Named 17 (19 ∷ []) []) }
              ∷ record { name = None; public = false; ty = expr.Never }
              ∷ record { name = None; public = true; ty = expr.NonZero primitive.U8 } ∷ [];
        } ∷ [];
      } ∷ [];
    })
    (record none_yet { definitions = 1; fields = 5; nodes = 1 }) []
unfolding answer_of step read_most read_type
places = refl

-- #[repr(align(8))] union A { x: u8, }
union : answer_of (from 0 (c.Hash ∷ c.OpenBracket ∷ c.Repr ∷ c.OpenParen ∷ c.Align ∷ c.OpenParen ∷ c.Number 8 ∷ c.CloseParen ∷ c.CloseParen ∷ c.CloseBracket ∷ c.Union ∷ c.Name ∷ c.OpenBrace ∷ c.Name ∷ c.Colon ∷ u8 ∷ c.Comma ∷ c.CloseBrace ∷ []))
    ≡ Done (record {
      lifetimes = [];
      bounds = [];
      questions = [];
      decls = record {
        kind = kind.Union;
        name = 11;
        params = [];
        type_params = [];
        reprs = record { token = 2; item = item.Align 8 } ∷ [];
        variants = record { name = None; negative = false; value = None; fields = record { name = Some 13; public = false; ty = expr.Prim primitive.U8 } ∷ [] } ∷ [];
      } ∷ [];
    })
    (record none_yet { definitions = 1; fields = 1; nodes = 1 }) []
unfolding answer_of step read_most read_type
union = refl

-- #[repr(u8)] enum A { x, y(u8) = -3, C { z: u8 }, }
enum : answer_of (from 0 (c.Hash ∷ c.OpenBracket ∷ c.Repr ∷ c.OpenParen ∷ u8 ∷ c.CloseParen ∷ c.CloseBracket ∷ c.Enum ∷ c.Name ∷ c.OpenBrace ∷ c.Name ∷ c.Comma ∷ c.Name ∷ c.OpenParen ∷ u8 ∷ c.CloseParen ∷ c.Equals ∷ c.Minus ∷ c.Number 3 ∷ c.Comma
    ∷ c.C ∷ c.OpenBrace ∷ c.Name ∷ c.Colon ∷ u8 ∷ c.CloseBrace ∷ c.Comma ∷ c.CloseBrace ∷ []))
    ≡ Done (record {
      lifetimes = [];
      bounds = [];
      questions = [];
      decls = record {
        kind = kind.Enum;
        name = 8;
        params = [];
        type_params = [];
        reprs = record { token = 2; item = item.Int primitive.U8 } ∷ [];
        variants = record { name = Some 10; negative = false; value = None; fields = [] }
            ∷ record { name = Some 12; negative = true; value = Some 3; fields = record { name = None; public = false; ty = expr.Prim primitive.U8 } ∷ [] }
            ∷ record { name = Some 20; negative = false; value = None; fields = record { name = Some 22; public = false; ty = expr.Prim primitive.U8 } ∷ [] } ∷ [];
      } ∷ [];
    })
    (record none_yet { definitions = 1; fields = 2; variants = 3; nodes = 1 }) []
unfolding answer_of step read_most read_type
enum = refl

-- a union has a field: `union A {}` stops at `}`; `pub (u8` begins no field with a name; `ask u8` ends early
empty_union : answer_of (from 0 (c.Union ∷ c.Name ∷ c.OpenBrace ∷ c.CloseBrace ∷ [])) ≡ Stuck (from 3 (c.CloseBrace ∷ []))
unfolding answer_of step read_most read_type
empty_union = refl

narrow_field : answer_of (from 0 (c.Struct ∷ c.Name ∷ c.OpenBrace ∷ c.Pub ∷ c.OpenParen ∷ u8 ∷ [])) ≡ Stuck (from 5 (u8 ∷ []))
unfolding answer_of step read_most read_type
narrow_field = refl

ends_early : answer_of (from 0 (c.Ask ∷ u8 ∷ [])) ≡ Stuck []
unfolding answer_of step read_most read_type
ends_early = refl

-- struct A<'a, T, C,>(B<'a, (T, C)>);
parameters : answer_of (from 0 (c.Struct ∷ c.Name ∷ c.Less ∷ c.Lifetime ∷ c.Comma ∷ c.Name ∷ c.Comma ∷ c.C ∷ c.Comma ∷ c.Greater ∷ c.OpenParen
    ∷ c.Name ∷ c.Less ∷ c.Lifetime ∷ c.Comma ∷ c.OpenParen ∷ c.Name ∷ c.Comma ∷ c.C ∷ c.CloseParen ∷ c.Greater ∷ c.CloseParen ∷ c.Semicolon ∷ []))
    ≡ Done (record {
      lifetimes = [];
      bounds = [];
      questions = [];
      decls = record {
        kind = kind.Struct;
        name = 1;
        params = 3 ∷ [];
        type_params = 5 ∷ 7 ∷ [];
        reprs = [];
        variants = record {
          name = None;
          negative = false;
          value = None;
          fields = record {
            name = None;
            public = false;
            ty = expr.Named 11 (13 ∷ []) (expr.Tuple (expr.Named 16 [] [] ∷ expr.Named 18 [] [] ∷ []) ∷ []);
          } ∷ [];
        } ∷ [];
      } ∷ [];
    })
    (record none_yet { definitions = 1; parameters = 1; type_parameters = 2; fields = 1; nodes = 4 }) []
unfolding answer_of step read_most read_type
parameters = refl

-- no lifetime follows a name or a type, with a comma or without one; what stands between `<` and `>` isn't empty
lifetime_behind_name : answer_of (from 0 (c.Struct ∷ c.Name ∷ c.Less ∷ c.Name ∷ c.Comma ∷ c.Lifetime ∷ [])) ≡ Stuck (from 5 (c.Lifetime ∷ []))
unfolding answer_of step read_most read_type
lifetime_behind_name = refl

lifetime_behind_type : answer_of (from 0 (c.Ask ∷ c.Name ∷ c.Less ∷ u8 ∷ c.Comma ∷ c.Lifetime ∷ [])) ≡ Stuck (from 5 (c.Lifetime ∷ []))
unfolding answer_of step read_most read_type
lifetime_behind_type = refl

type_without_comma : answer_of (from 0 (c.Ask ∷ c.Name ∷ c.Less ∷ c.Lifetime ∷ u8 ∷ [])) ≡ Stuck (from 4 (u8 ∷ []))
unfolding answer_of step read_most read_type
type_without_comma = refl

no_argument : answer_of (from 0 (c.Ask ∷ c.Name ∷ c.Less ∷ c.Greater ∷ [])) ≡ Stuck (from 3 (c.Greater ∷ []))
unfolding answer_of step read_most read_type
no_argument = refl
