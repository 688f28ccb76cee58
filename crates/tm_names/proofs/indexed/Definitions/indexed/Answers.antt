use Rattle.std.proofs.Common.{◌≡◌, ℕ, zero, suc, ◌+◌, ◌<◌, ◌≤◌, Bool, true, false, Option, None, Some, List, [], ◌∷◌, length, drop, get_or, if◌then◌else◌, refl, sym, ap, ◌∙◌, arith}
use Rattle.std.specs.HashMap.{get_by}
use Rattle.std.specs.List.{position_from}
use Rattle.std.specs.Map.{lookup}
use Rattle.std.specs.Option.{option_or}
use Rattle.std.specs.Str.{bytes_eq}
use Rattle.tm_names.specs.Source.{names_in}
use Rattle.tm_parse.specs.declared.parsed.Decl.{Decl}
use Rattle.tm_names.proofs.indexed.Definitions.indexed.Goals as goal

one_before : {X : Type 0} (test : X → Bool) (from : ℕ) (xs : List X) (i n : ℕ) (x : X) → i < length xs → n ≡ suc i → x ≡ get_or xs i x
    → (if test x then Some from else position_from test (from + 1) (drop n xs)) ≡ position_from test from (drop i xs)
one_before test from [] i n x h e at = absurd (omega arith)
one_before test from (y ∷ ys) zero n x h e at =
    ap (λ k. if test x then Some from else position_from test (from + 1) (drop k (y ∷ ys))) e
    ∙ ap (λ z. if test z then Some from else position_from test (from + 1) ys) at
one_before test from (y ∷ ys) (suc i) n x h e at =
    ap (λ k. if test x then Some from else position_from test (from + 1) (drop k (y ∷ ys))) e
    ∙ one_before test from ys i (suc i) x (omega arith) refl at

-- what is found, or one more, or else the rest
found_or_one : {X : Type 0} (o : Option X) (b : Bool) (x : X) (rest : Option X) → option_or (option_or o (if b then Some x else None)) rest ≡ option_or o (if b then Some x else rest)
found_or_one None true x rest = refl
found_or_one None false x rest = refl
found_or_one (Some y) b x rest = refl

none_left : {X : Type 0} (test : X → Bool) (from : ℕ) (xs : List X) (n : ℕ) → length xs ≤ n → position_from test from (drop n xs) ≡ None
none_left test from [] zero h = refl
none_left test from [] (suc n) h = refl
none_left test from (x ∷ xs) zero h = absurd (omega arith)
none_left test from (x ∷ xs) (suc n) h = none_left test from xs n (omega arith)

or_none : {X : Type 0} (o : Option X) → option_or o None ≡ o
or_none None = refl
or_none (Some x) = refl

pub loop-number-init : goal.loop-number-init
loop-number-init c =
    let name = names_in c.args.source.now in
    record {
      within = omega arith;
      found = λ bytes. ap (λ es. option_or (lookup (λ key. bytes_eq bytes key.now) es) (position_from (λ d. bytes_eq (name d.name) bytes) 0 c.args.decls.now)) c.new-firsts.ensures.empty;
    }

pub loop-number-preserved : goal.loop-number-preserved
loop-number-preserved c =
    let name = names_in c.args.source.now in
    let at = c.loop-number.number in
    let decls = c.args.decls.now in
    let d = c.index-decls-number.result in
    let inside : at < length decls = c.loop-number-test.true in
    let key : c.name.result.now ≡ name d.name = c.name.ensures in
    let next : at + 1 ≡ suc at = omega arith in
    record {
      within = omega arith;
      found = λ bytes.
          let test : Decl → Bool = λ decl. bytes_eq (name decl.name) bytes in
          let o = get_by (λ k. bytes_eq bytes k.now) c.loop-number.firsts in
          let rest = position_from test (at + 1) (drop (at + 1) decls) in
          ap (λ found. option_or found rest) (c.in_ok-note.ensures bytes ∙ ap (λ k. option_or o (if bytes_eq k bytes then Some at else None)) key)
          ∙ (found_or_one o (test d) at rest
          ∙ (ap (λ left. option_or o left) (one_before test at decls at (at + 1) d inside next c.index-decls-number.is)
          ∙ c.loop-number.invariant.found bytes));
    }

pub returns-clause-indexed : goal.returns-clause-indexed
returns-clause-indexed c =
    let name = names_in c.args.source.now in
    let decls = c.args.decls.now in
    record {
      few = c.requires.few;
      found = λ bytes.
          let test : Decl → Bool = λ decl. bytes_eq (name decl.name) bytes in
          let o = get_by (λ k. bytes_eq bytes k.now) c.loop-number.firsts in
          sym (or_none o)
          ∙ (ap (λ left. option_or o left) (sym (none_left test c.loop-number.number decls c.loop-number.number c.loop-number-test.false))
          ∙ c.loop-number.invariant.found bytes);
    }
