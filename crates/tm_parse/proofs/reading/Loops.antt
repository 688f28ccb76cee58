-- Repetitions, turn by turn, against what was found before.
use Rattle.std.proofs.Common.{◌≡◌, ℕ, zero, suc, ◌+◌, ◌-◌, ◌<◌, refl, sym, ap, ◌∙◌, subst, Bool, true, false, Option, List, [], ◌∷◌, ◌++◌, Err, append_assoc, append-nil, arith}
use Rattle.tm_parse.specs.Combinators.{starts, pick, mapped, paired, followed, put_first, and_again, read_most, to}
use Rattle.tm_parse.specs.Classes.{joined}
use Rattle.tm_parse.specs.Parts.{Outcome, Done, Stuck, Passed, Reader, Part}
use Rattle.tm_parse.specs.Reads.{Comes}
use Rattle.tm_parse.specs.Shapes.{is_there, optional, the, with_comma}
use Rattle.tm_parse.specs.declared.class.Class.TheVariants as class_is
use Rattle.tm_parse.specs.declared.reader.Reader.{Reader as Place}
use Rattle.tm_parse.specs.declared.stop.Stop.{Stop}
use Rattle.tm_parse.specs.declared.stop.Stop.TheVariants as stop
use Rattle.tm_parse.specs.declared.class.Class.{Class}
use Rattle.tm_parse.specs.declared.counts.Counts.{Counts}
use Rattle.tm_parse.specs.declared.terminal.Terminal.{Terminal}

-- what is read comes behind these
abbrev pub put_before : {V : Type 0} → List V → Outcome (List V) → Outcome (List V)
put_before vs o = mapped (λ ws. vs ++ ws) o

put_before-put_first : {V : Type 0} (vs : List V) (v : V) (o : Outcome (List V)) → put_before vs (put_first v o) ≡ put_before (vs ++ v ∷ []) o
put_before-put_first vs v (Done ws after ts) = ap (λ us. Done us after ts) (sym (append_assoc vs (v ∷ []) ws))
put_before-put_first vs v (Stuck ts) = refl
put_before-put_first vs v (Passed kind ts) = refl

-- one turn
most_turn : {V : Type 0} (k : ℕ) (first : List Class) (part : Reader (V × Bool)) (n : Counts) (ts : List Terminal) → 0 < k → starts first ts ≡ true
    → read_most k first part n ts ≡ and_again (read_most (k - 1) first part) (part n ts)
unfolding read_most
most_turn zero first part n ts l h = absurd (omega arith)
most_turn (suc k) first part n ts l h =
    let less : k ≡ suc k - 1 = omega arith in
    ap (λ b. pick b (λ n ts. and_again (read_most k first part) (part n ts)) (λ n ts. Done [] n ts) n ts) h
    ∙ ap (λ j. and_again (read_most j first part) (part n ts)) less

-- what holds behind so many turns: what was found, and what the turns left come to
abbrev pub Goes : {V : Type 0} → List Class → Reader (V × Bool) → Outcome (List V) → List V → ℕ → Counts → List Terminal → Type 0
Goes first part all vs k n ts = put_before vs (read_most k first part n ts) ≡ all

-- none begins
pub turn_ends : {V : Type 0} (first : List Class) (part : Reader (V × Bool)) (all : Outcome (List V)) (vs : List V) (k : ℕ) (n : Counts) (ts : List Terminal)
    → Goes first part all vs k n ts → starts first ts ≡ false → all ≡ Done vs n ts
unfolding read_most
turn_ends first part all vs zero n ts i h = sym i ∙ ap (λ us. Done us n ts) (append-nil vs)
turn_ends first part all vs (suc k) n ts i h =
    sym i ∙ ap (λ b. put_before vs (pick b (λ n ts. and_again (read_most k first part) (part n ts)) (λ n ts. Done [] n ts) n ts)) h ∙ ap (λ us. Done us n ts) (append-nil vs)

-- no turn is left
pub turn_spent : {V : Type 0} (first : List Class) (part : Reader (V × Bool)) (all : Outcome (List V)) (vs : List V) (k : ℕ) (n : Counts) (ts : List Terminal)
    → Goes first part all vs k n ts → k ≡ 0 → all ≡ Done vs n ts
unfolding read_most
turn_spent first part all vs zero n ts i h = sym i ∙ ap (λ us. Done us n ts) (append-nil vs)
turn_spent first part all vs (suc k) n ts i h = absurd (omega arith)

-- one begins, and is read to this
turn_as : {V : Type 0} (first : List Class) (part : Reader (V × Bool)) (all : Outcome (List V)) (vs : List V) (k : ℕ) (n : Counts) (ts : List Terminal) (o : Outcome (V × Bool))
    → Goes first part all vs k n ts → 0 < k → starts first ts ≡ true → part n ts ≡ o → all ≡ put_before vs (and_again (read_most (k - 1) first part) o)
turn_as first part all vs k n ts o i l h s = sym i ∙ ap (put_before vs) (most_turn k first part n ts l h ∙ ap (and_again (read_most (k - 1) first part)) s)

-- it stopped, where the reader stands now
abbrev pub Stops : {V : Type 0} → Outcome V → Place → Stop → Type 0
Stops o after e = Comes o after (Err e)

pub turn_stops : {V : Type 0} (first : List Class) (part : Reader (V × Bool)) (all : Outcome (List V)) (vs : List V) (k : ℕ) (n : Counts) (ts : List Terminal) (after : Place) (e : Stop)
    → Goes first part all vs k n ts → 0 < k → starts first ts ≡ true → Stops (part n ts) after e → Stops all after e
turn_stops first part all vs k n ts after stop.Memory i l h s = tt
turn_stops first part all vs k n ts after stop.Stuck i l h s = turn_as first part all vs k n ts (Stuck after.rest.now) i l h s
turn_stops first part all vs k n ts after (stop.Passed kind) i l h s = turn_as first part all vs k n ts (Passed kind after.rest.now) i l h s

pub turn_last : {V : Type 0} (first : List Class) (part : Reader (V × Bool)) (all : Outcome (List V)) (vs us : List V) (v : V) (k : ℕ) (n after : Counts) (ts rest : List Terminal)
    → Goes first part all vs k n ts → 0 < k → starts first ts ≡ true → part n ts ≡ Done (v, false) after rest → us ≡ vs ++ v ∷ [] → all ≡ Done us after rest
turn_last first part all vs us v k n after ts rest i l h s x = turn_as first part all vs k n ts (Done (v, false) after rest) i l h s ∙ ap (λ ws. Done ws after rest) (sym x)

pub turn_next : {V : Type 0} (first : List Class) (part : Reader (V × Bool)) (all : Outcome (List V)) (vs us : List V) (v : V) (k j : ℕ) (n after : Counts) (ts rest : List Terminal)
    → Goes first part all vs k n ts → j + 1 ≡ k → starts first ts ≡ true → part n ts ≡ Done (v, true) after rest → us ≡ vs ++ v ∷ [] → Goes first part all us j after rest
turn_next first part all vs us v k j n after ts rest i l h s x =
    let pos : 0 < k = omega arith in let less : j ≡ k - 1 = omega arith in
    ap (λ ws. put_before ws (read_most j first part after rest)) x
    ∙ ap (λ m. put_before (vs ++ v ∷ []) (read_most m first part after rest)) less
    ∙ sym (put_before-put_first vs v (read_most (k - 1) first part after rest))
    ∙ sym (turn_as first part all vs k n ts (Done (v, true) after rest) i pos h s)

-- where what is read stands for another value, or another part follows
pub mapped_stops : {A B : Type 0} (f : A → B) (o : Outcome A) (after : Place) (e : Stop) → Stops o after e → Stops (mapped f o) after e
mapped_stops f o after stop.Memory s = tt
mapped_stops f o after stop.Stuck s = ap (mapped f) s
mapped_stops f o after (stop.Passed kind) s = ap (mapped f) s

followed_stops : {A B : Type 0} (second : Reader B) (o : Outcome A) (after : Place) (e : Stop) → Stops o after e → Stops (followed second o) after e
followed_stops second o after stop.Memory s = tt
followed_stops second o after stop.Stuck s = ap (followed second) s
followed_stops second o after (stop.Passed kind) s = ap (followed second) s

-- one of a list with commas is read, or stops, and then the comma
abbrev comma : Part (Option Terminal)
comma = optional (the class_is.Comma)

abbrev and_comma : {V : Type 0} → V × Option Terminal → V × Bool
and_comma v = (v.0, is_there v.1)

both : {V : Type 0} (v : V) (o : Outcome (Option Terminal)) → mapped and_comma (paired v o) ≡ mapped (λ b. (v, b)) (mapped is_there o)
both v (Done w after rest) = refl
both v (Stuck rest) = refl
both v (Passed kind rest) = refl

comma_next : {V : Type 0} (p : Part V) (n after : Counts) (ts rest : List Terminal) (v : V) → p.read n ts ≡ Done v after rest
    → (with_comma p).read n ts ≡ mapped (λ b. (v, b)) ((to is_there comma).read after rest)
comma_next p n after ts rest v h = ap (λ o. mapped and_comma (followed comma.read o)) h ∙ both v (comma.read after rest)

pub item_stops : {V : Type 0} (p : Part V) (n : Counts) (ts : List Terminal) (after : Place) (e : Stop) → Stops (p.read n ts) after e → Stops ((with_comma p).read n ts) after e
item_stops p n ts after e s = mapped_stops and_comma (followed comma.read (p.read n ts)) after e (followed_stops comma.read (p.read n ts) after e s)

pub comma_read : {V : Type 0} (p : Part V) (n after later : Counts) (ts rest left : List Terminal) (v : V) (b there : Bool) → p.read n ts ≡ Done v after rest
    → (to is_there comma).read after rest ≡ Done b later left → b ≡ there → (with_comma p).read n ts ≡ Done (v, there) later left
comma_read p n after later ts rest left v b there h g e = comma_next p n after ts rest v h ∙ ap (mapped (λ b. (v, b))) g ∙ ap (λ b. Done (v, b) later left) e

pub comma_stops : {V : Type 0} (p : Part V) (n m : Counts) (ts rest : List Terminal) (v : V) (after : Place) (e : Stop) → p.read n ts ≡ Done v m rest
    → Stops ((to is_there comma).read m rest) after e → Stops ((with_comma p).read n ts) after e
comma_stops p n m ts rest v after e h s = subst (λ o. Stops o after e) (sym (comma_next p n m ts rest v h)) (mapped_stops (λ b. (v, b)) ((to is_there comma).read m rest) after e s)

-- a part that isn't empty begins a list with commas as it begins itself
pub comma_first : {V : Type 0} (p : Part V) (ts : List Terminal) → p.empty ≡ false → starts (with_comma p).first ts ≡ starts p.first ts
comma_first p ts h = ap (λ e. starts (joined e (class_is.Comma ∷ []) p.first) ts) h
