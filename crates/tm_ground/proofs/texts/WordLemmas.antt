-- Where the text of a type begins, it is told by its first mark or its first word, whatever follows.
use Rattle.std.proofs.Common.{◌≡◌, ℕ, ◌<◌, ◌^◌, ◌==◌, Bool, true, false, not, ◌&&◌, ◌||◌, if◌then◌else◌, refl, sym, ap, subst, ◌∙◌, List, [], ◌∷◌, ◌++◌, map, bytes_eq, nat_le}
use Rattle.std.specs.Prelude.{codes, decimal}
use Rattle.std.specs.List.{list_all}
use Rattle.std.specs.Str.Parse.{AllDigits}
use Rattle.std.proofs.lemmas.Bool.{and_from, eq-eqb, le-leb, true≢false}
use Rattle.std.proofs.lemmas.Fmt.{decimal_is_IsNumeral}
use Rattle.std.proofs.lemmas.List.{append_cancel_left}
use Rattle.std.proofs.lemmas.Str.Parse.{tells_digits}
use Rattle.tm_base.specs.declared.ground.Primitive.{Primitive}
use Rattle.tm_base.specs.declared.ground.Primitive.TheVariants as primitive
use Rattle.tm_base.specs.declared.ground.Wrapper.{Wrapper}
use Rattle.tm_base.specs.declared.ground.Wrapper.TheVariants as wrapper
use Rattle.tm_base.specs.Texts.{prim_text, wrapper_text}
use Rattle.tm_names.specs.ApartNames.{is_word_byte, is_word, is_quoted, is_own_name}
use Rattle.tm_ground.proofs.forms.FormLemmas.{first, second}

abbrev pub all_bytes : List ℕ → Bool
all_bytes = list_all is_word_byte

-- no word goes on there
abbrev pub StopsWord : List ℕ → Type 0
StopsWord [] = Unit {0}
StopsWord (b ∷ bs) = is_word_byte b ≡ false

-- a type may end before it: no word goes on there, no `<` and no space follows
abbrev pub EndsType : List ℕ → Type 0
EndsType [] = Unit {0}
EndsType (b ∷ bs) = (is_word_byte b ≡ false) × ((b == 60) ≡ false) × ((b == 32) ≡ false)

pub ends-stops : (r : List ℕ) → EndsType r → StopsWord r
ends-stops [] h = tt
ends-stops (b ∷ bs) h = h.0

-- the word at the front of a text
abbrev pub word_in : List ℕ → List ℕ
word_in [] = []
word_in (b ∷ bs) = if is_word_byte b then b ∷ word_in bs else []

no-word : (r : List ℕ) → StopsWord r → word_in r ≡ []
no-word [] h = refl
no-word (b ∷ bs) h = ap (λ t. if t then b ∷ word_in bs else []) h

word-front : (w r : List ℕ) → all_bytes w ≡ true → StopsWord r → word_in (w ++ r) ≡ w
word-front [] r h s = no-word r s
word-front (b ∷ bs) r h s =
    ap (λ t. if t then b ∷ word_in (bs ++ r) else []) (first _ _ h) ∙ ap (λ others. b ∷ others) (word-front bs r (second (is_word_byte b) _ h) s)

-- two texts that begin with words agree in the word and in what follows
pub same-word : (w v r s : List ℕ) → all_bytes w ≡ true → all_bytes v ≡ true → StopsWord r → StopsWord s → w ++ r ≡ v ++ s → (w ≡ v) × (r ≡ s)
same-word w v r s h i p q e =
    let same : w ≡ v = sym (word-front w r h p) ∙ ap word_in e ∙ word-front v s i q in
    (same, append_cancel_left v r s (subst (λ x. x ++ r ≡ v ++ s) same e))

pub word-bytes : (w : List ℕ) → is_word w ≡ true → all_bytes w ≡ true
word-bytes [] h = refl
word-bytes (b ∷ bs) h = h

-- a digit is a byte of a word
digit-byte : (c : ℕ) → nat_le 48 c ≡ true → nat_le c 57 ≡ true → is_word_byte c ≡ true
unfolding is_word_byte
digit-byte c low high = rw (low, high) (by (c == 39) (c == 95))
  where
    by : (a b : Bool) → (a || b || true || (nat_le 65 c && nat_le c 90) || (nat_le 97 c && nat_le c 122) || nat_le 128 c) ≡ true
    by true b = refl
    by false true = refl
    by false false = refl

digits-bytes : (ds : List ℕ) → AllDigits 10 ds → all_bytes ds ≡ true
digits-bytes [] h = refl
digits-bytes (c ∷ cs) h =
    let (range, others) = tells_digits.parts c cs h in
    and_from _ _ (digit-byte c (le-leb 48 c range.0) (le-leb c 57 range.1)) (digits-bytes cs others)

pub decimal-bytes : (n : ℕ) → n < 2 ^ 64 → all_bytes (decimal n) ≡ true
decimal-bytes n h = digits-bytes (decimal n) (decimal_is_IsNumeral n h).0.1

-- what follows a word doesn't tell whether a quote stands before it
pub quoted-front : (w r : List ℕ) → is_word w ≡ true → is_quoted (w ++ r) ≡ is_quoted w
quoted-front [] r h = cc
quoted-front (b ∷ bs) r h = refl

-- what a type is told by
pub data Reading : Type 0 where
  a_mark : ℕ → Reading
  a_prim : Primitive → Reading
  a_nonzero : Reading
  a_wrapper : Wrapper → Reading
  a_name : List ℕ → Reading

abbrev pub is_alike : Reading → Reading → Bool
is_alike (a_mark m) (a_mark n) = m == n
is_alike (a_prim p) (a_prim q) = true
is_alike a_nonzero a_nonzero = true
is_alike (a_wrapper v) (a_wrapper w) = true
is_alike (a_name v) (a_name w) = true
is_alike _ _ = false

alike-itself : (x : Reading) → is_alike x x ≡ true
alike-itself (a_mark m) = eq-eqb m m refl
alike-itself (a_prim p) = refl
alike-itself a_nonzero = refl
alike-itself (a_wrapper w) = refl
alike-itself (a_name w) = refl

pub unlike : {x y : Reading} → x ≡ y → is_alike x y ≡ false → ⊥
unlike {x} {y} e f = true≢false (sym (subst (λ z. is_alike x z ≡ true) e (alike-itself x)) ∙ f)

pub record Entry : Type 0 where
  pub word : List ℕ
  pub reading : Reading

abbrev pub prim_entry : Primitive → Entry
prim_entry p = record { word = prim_text p; reading = a_prim p }

abbrev pub wrapper_entry : Wrapper → Entry
wrapper_entry w = record { word = wrapper_text w; reading = a_wrapper w }

abbrev pub entries : List Entry
entries =
    prim_entry primitive.Bool ∷ prim_entry primitive.Char ∷ prim_entry primitive.U8 ∷ prim_entry primitive.U16 ∷ prim_entry primitive.U32
    ∷ prim_entry primitive.U64 ∷ prim_entry primitive.U128 ∷ prim_entry primitive.Usize ∷ prim_entry primitive.I8 ∷ prim_entry primitive.I16
    ∷ prim_entry primitive.I32 ∷ prim_entry primitive.I64 ∷ prim_entry primitive.I128 ∷ prim_entry primitive.Isize ∷ prim_entry primitive.F32
    ∷ prim_entry primitive.F64 ∷ record { word = codes "NonZero"; reading = a_nonzero } ∷ wrapper_entry wrapper.Option
    ∷ wrapper_entry wrapper.MaybeUninit ∷ wrapper_entry wrapper.ManuallyDrop ∷ wrapper_entry wrapper.Wrapping ∷ wrapper_entry wrapper.Cell
    ∷ wrapper_entry wrapper.UnsafeCell ∷ wrapper_entry wrapper.PhantomData ∷ []

unfoldable pub look : List ℕ → List Entry → Reading
look w [] = a_name w
look w (e ∷ es) = if bytes_eq w e.word then e.reading else look w es

-- what a word says
unfoldable pub kind_of : List ℕ → Reading
kind_of w = look w entries

abbrev pub read_head : List ℕ → Reading
read_head [] = a_mark 0
read_head (b ∷ bs) = if is_word_byte b then kind_of (word_in (b ∷ bs)) else a_mark b

pub read-word : (w r : List ℕ) → is_word w ≡ true → StopsWord r → read_head (w ++ r) ≡ kind_of w
read-word [] r h s = cc
read-word (b ∷ bs) r h s =
    ap (λ t. if t then kind_of (word_in (b ∷ (bs ++ r))) else a_mark b) (first _ _ h) ∙ ap kind_of (word-front (b ∷ bs) r h s)

pub prim-kind : (p : Primitive) → kind_of (prim_text p) ≡ a_prim p
unfolding kind_of look
prim-kind primitive.Bool = refl
prim-kind _ = refl

pub prim-word : (p : Primitive) → is_word (prim_text p) ≡ true
unfolding is_word_byte
prim-word primitive.Bool = refl
prim-word _ = refl

pub wrapper-kind : (w : Wrapper) → kind_of (wrapper_text w) ≡ a_wrapper w
unfolding kind_of look
wrapper-kind wrapper.Option = refl
wrapper-kind _ = refl

pub wrapper-word : (w : Wrapper) → is_word (wrapper_text w) ≡ true
unfolding is_word_byte
wrapper-word wrapper.Option = refl
wrapper-word _ = refl

pub nonzero-kind : kind_of (codes "NonZero") ≡ a_nonzero
unfolding kind_of look
nonzero-kind = refl

pub nonzero-word : is_word (codes "NonZero") ≡ true
unfolding is_word_byte
nonzero-word = refl

-- a word that isn't taken says nothing but itself
own-look : (w : List ℕ) (es : List Entry) → list_all (λ word. not (bytes_eq w word)) (map (λ e. e.word) es) ≡ true → look w es ≡ a_name w
unfolding look
own-look w [] h = refl
own-look w (e ∷ es) h = by (bytes_eq w e.word) (first _ _ h) (own-look w es (second (not (bytes_eq w e.word)) _ h))
  where
    by : (b : Bool) → not b ≡ true → look w es ≡ a_name w → (if b then e.reading else look w es) ≡ a_name w
    by true n rest = cc
    by false n rest = rest

pub own-kind : (w : List ℕ) → is_own_name w ≡ true → kind_of w ≡ a_name w
unfolding kind_of is_own_name
own-kind w h = own-look w entries (second (is_word w && not (is_quoted w)) _ h)
