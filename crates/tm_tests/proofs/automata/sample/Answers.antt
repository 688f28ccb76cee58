use Rattle.std.proofs.Common.{◌≡◌, ◌<◌, ◌^◌, List, [], ◌∷◌, refl, sym, subst, arith}
use Rattle.tm_base.specs.declared.tree.Tree.{Tree, Range, Ref, Seq, Alt, Repeat}
use Rattle.tm_base.specs.Shapes.{HasSize, HasNoPrivate, leaves_of}
use Rattle.tm_base.proofs.ShapeLemmas.{HasNoPrivate-Seq, HasNoPrivate-Alt, HasNoPrivate-Repeat, leaves_of-Seq, leaves_of-Alt, leaves_of-Repeat, HasSize-Range, HasSize-Ref, HasSize-Seq-none, HasSize-Seq-more, HasSize-Alt-none, HasSize-Alt-more, HasSize-Repeat}
use Rattle.tm_tests.proofs.automata.sample.Goals as goal

abbrev byte : List Tree
byte = Range 0 0 ∷ Range 2 2 ∷ []

abbrev last : List Tree
last = Ref (record { 0 = 5 }) ∷ Ref (record { 0 = 6 }) ∷ []

abbrev whole : List Tree
whole = Repeat 2 (Alt byte) ∷ Alt last ∷ []

public : HasNoPrivate (Seq whole)
unfolding HasNoPrivate
public = (HasNoPrivate-Seq whole).1 ((HasNoPrivate-Repeat 2 (Alt byte)).1 ((HasNoPrivate-Alt byte).1 (tt, (tt, tt))), ((HasNoPrivate-Alt last).1 (tt, (tt, tt)), tt))

leaves : leaves_of 4 (Seq whole) < 2 ^ 31
unfolding leaves_of
leaves =
    let a = leaves_of-Alt 4 byte in
    let b = leaves_of-Repeat 4 2 (Alt byte) in
    let d = leaves_of-Alt 4 last in
    let e = leaves_of-Seq 4 whole in
    omega arith

sized : HasSize 4 6 (Seq whole)
sized =
    let a : HasSize 4 1 (Alt byte) = HasSize-Alt-more 4 1 _ _ (HasSize-Range 4 0 0) (HasSize-Alt-more 4 1 _ _ (HasSize-Range 4 2 2) (HasSize-Alt-none 4 1)) in
    let b : HasSize 4 4 (Alt last) = HasSize-Alt-more 4 4 _ _ (HasSize-Ref 4 _) (HasSize-Alt-more 4 4 _ _ (HasSize-Ref 4 _) (HasSize-Alt-none 4 4)) in
    HasSize-Seq-more 4 2 4 _ _ (HasSize-Repeat 4 1 2 _ a) (HasSize-Seq-more 4 4 0 _ _ b (HasSize-Seq-none 4))

pub build-requires-clause-public : goal.build-requires-clause-public
build-requires-clause-public c =
    let is : c.in_ok-whole.whole ≡ whole = rw (c.in_ok-whole.ensures, c.in_ok-turn.ensures, c.in_ok-byte.ensures, c.in_ok-last.ensures) refl in
    subst (λ (ts : List Tree). HasNoPrivate (Seq ts)) (sym is) public

pub build-requires-clause-leaves : goal.build-requires-clause-leaves
build-requires-clause-leaves c =
    let is : c.in_ok-whole.whole ≡ whole = rw (c.in_ok-whole.ensures, c.in_ok-turn.ensures, c.in_ok-byte.ensures, c.in_ok-last.ensures) refl in
    subst (λ (ts : List Tree). leaves_of 4 (Seq ts) < 2 ^ 31) (sym is) leaves

pub build-requires-clause-sized : goal.build-requires-clause-sized
build-requires-clause-sized c =
    let is : c.in_ok-whole.whole ≡ whole = rw (c.in_ok-whole.ensures, c.in_ok-turn.ensures, c.in_ok-byte.ensures, c.in_ok-last.ensures) refl in
    subst (λ (ts : List Tree). HasSize 4 6 (Seq ts)) (sym is) sized
