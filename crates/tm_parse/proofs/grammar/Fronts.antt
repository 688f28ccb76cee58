-- What stands at the front of a list of terminals, and what follows it.
use Rattle.std.proofs.Common.{◌≡◌, refl, sym, ap, ◌∙◌, subst, Bool, true, false, ◌&&◌, List, [], ◌∷◌, ◌++◌, append_assoc}
use Rattle.tm_parse.proofs.grammar.ClassLists.{among-left, among-right, among-neither, among-apart}
use Rattle.tm_parse.proofs.grammar.Lawful.{Clear, Front, Same}
use Rattle.tm_parse.specs.Classes.{among, apart, joined}
use Rattle.tm_parse.specs.Combinators.{starts}
use Rattle.tm_parse.specs.Events.{Event, terminal, mark, terminals}
use Rattle.tm_parse.specs.Counting.{Step, Fine, Passes, step, Within, Beyond, counted, count}
use Rattle.tm_parse.specs.declared.class.Class.{Class}
use Rattle.tm_parse.specs.declared.counts.Counts.{Counts}
use Rattle.tm_base.specs.declared.limit.LimitKind.{LimitKind}
use Rattle.tm_parse.specs.declared.terminal.Terminal.{Terminal}

pub terminals-append : (e f : List Event) → terminals (e ++ f) ≡ terminals e ++ terminals f
terminals-append [] f = refl
terminals-append (terminal role t ∷ e) f = ap (t ∷◌) (terminals-append e f)
terminals-append (mark m ∷ e) f = terminals-append e f

pub terminals-before : (e f : List Event) (z : List Terminal) → terminals (e ++ f) ++ z ≡ terminals e ++ (terminals f ++ z)
terminals-before e f z = ap (λ x. x ++ z) (terminals-append e f) ∙ append_assoc (terminals e) (terminals f) z

-- where the first events stay within the limits, the count goes on from there
pub count-within : (c d : Counts) (e f : List Event) → count c e ≡ Within d → count c (e ++ f) ≡ count d f
count-within c d [] f h = let g : c ≡ d = cc in ap (λ x. count x f) g
count-within c d (x ∷ e) f h = go (step c x) h (λ b. count-within b d e f)
  where
    go : (s : Step) → counted s (x ∷ e) (λ y. count y e) ≡ Within d → ((b : Counts) → count b e ≡ Within d → count b (e ++ f) ≡ count d f) → counted s (x ∷ (e ++ f)) (λ y. count y (e ++ f)) ≡ count d f
    go (Fine b) h rest = rest b h
    go (Passes kind) h rest = absurd cc

-- where they pass one, it stays the one that is passed
pub count-beyond : (c : Counts) (kind : LimitKind) (e f g : List Event) → count c e ≡ Beyond kind g → count c (e ++ f) ≡ Beyond kind (g ++ f)
count-beyond c kind [] f g h = absurd cc
count-beyond c kind (x ∷ e) f g h = go (step c x) h (λ b. count-beyond b kind e f g)
  where
    go : (s : Step) → counted s (x ∷ e) (λ y. count y e) ≡ Beyond kind g → ((b : Counts) → count b e ≡ Beyond kind g → count b (e ++ f) ≡ Beyond kind (g ++ f)) → counted s (x ∷ (e ++ f)) (λ y. count y (e ++ f)) ≡ Beyond kind (g ++ f)
    go (Fine b) h rest = rest b h
    go (Passes other) h rest = let a : other ≡ kind = cc in let b : x ∷ e ≡ g = cc in subst (λ y. Beyond other (x ∷ (e ++ f)) ≡ Beyond kind (y ++ f)) b (ap (λ y. Beyond y (x ∷ (e ++ f))) a)

-- the next terminal

pub same-refl : (ts : List Terminal) → Same ts ts
same-refl [] = refl
same-refl (t ∷ ts) = refl

pub same-append : (p r o : List Terminal) → Same r o → Same (p ++ r) (p ++ o)
same-append [] r o h = h
same-append (t ∷ p) r o h = refl

pub same-longer : (r p q : List Terminal) → (Same r [] → ⊥) → Same r p → Same r (p ++ q)
same-longer [] p q some h = absurd (some refl)
same-longer (t ∷ r) [] q some h = absurd h
same-longer (t ∷ r) (u ∷ p) q some h = h

pub same-text : (ts p r o : List Terminal) → ts ≡ p ++ r → Same r o → Same ts (p ++ o)
same-text ts p r o e h = subst (λ x. Same x (p ++ o)) (sym e) (same-append p r o h)

pub starts-same : (first : List Class) (r o : List Terminal) → Same r o → starts first r ≡ starts first o
starts-same first [] o h = ap (starts first) (sym h)
starts-same first (t ∷ r) [] h = absurd h
starts-same first (t ∷ r) (u ∷ o) h = ap (λ x. among first x.class) h

pub starts-front : (first : List Class) (p z : List Terminal) → Front first false p → starts first (p ++ z) ≡ true
starts-front first [] z h = absurd h
starts-front first (t ∷ p) z h = h

-- none of the classes comes next

pub clear-both : (xs ys : List Class) (ts : List Terminal) → Clear (xs ++ ys) ts → Clear xs ts × Clear ys ts
clear-both xs ys [] h = (tt, tt)
clear-both xs ys (t ∷ ts) h = among-neither xs ys t.class h

pub front-first : (first : List Class) (empty : Bool) (t : Terminal) (p : List Terminal) → Front first empty (t ∷ p) → among first t.class ≡ true
front-first first true t p h = h
front-first first false t p h = h

-- what follows a part doesn't go on with the part before it
pub clear-before : (xs ys first : List Class) (empty : Bool) (p z : List Terminal) → apart xs first ≡ true → Front first empty p → Clear (joined empty xs ys) z → Clear xs (p ++ z)
clear-before xs ys first true [] z h f k = (clear-both xs ys z k).0
clear-before xs ys first false [] z h f k = absurd f
clear-before xs ys first empty (t ∷ p) z h f k = among-apart xs first t.class h (front-first first empty t p f)

pub clear-last : (xs ys : List Class) (empty : Bool) (z : List Terminal) → Clear (joined empty xs ys) z → Clear ys z
clear-last xs ys true z h = (clear-both xs ys z h).1
clear-last xs ys false z h = h

-- what begins parts

pub front-append : (first : List Class) (p z : List Terminal) → Front first false p → Front first true (p ++ z)
front-append first [] z h = absurd h
front-append first (t ∷ p) z h = h

-- of two parts the first begins them, and the second where the first may be empty
pub front-two : (xs ys : List Class) (a b : Bool) (p q : List Terminal) → Front xs a p → Front ys b q → Front (joined a ys xs) (a && b) (p ++ q)
front-two xs ys true b (t ∷ p) q f g = any b (among-right ys xs t.class f)
  where
    any : (b : Bool) → among (ys ++ xs) t.class ≡ true → Front (ys ++ xs) b (t ∷ (p ++ q))
    any true h = h
    any false h = h
front-two xs ys false b (t ∷ p) q f g = f
front-two xs ys true true [] [] f g = tt
front-two xs ys true false [] [] f g = absurd g
front-two xs ys true true [] (t ∷ q) f g = among-left ys xs t.class g
front-two xs ys true false [] (t ∷ q) f g = among-left ys xs t.class g
front-two xs ys false b [] q f g = absurd f

-- of two parts to choose from either begins them
pub front-left : (xs ys : List Class) (b : Bool) (p : List Terminal) → Front xs false p → Front (xs ++ ys) b p
front-left xs ys b [] h = absurd h
front-left xs ys true (t ∷ p) h = among-left xs ys t.class h
front-left xs ys false (t ∷ p) h = among-left xs ys t.class h

pub front-right : (xs ys : List Class) (b : Bool) (p : List Terminal) → Front ys b p → Front (xs ++ ys) b p
front-right xs ys true [] h = tt
front-right xs ys false [] h = absurd h
front-right xs ys true (t ∷ p) h = among-right xs ys t.class h
front-right xs ys false (t ∷ p) h = among-right xs ys t.class h
