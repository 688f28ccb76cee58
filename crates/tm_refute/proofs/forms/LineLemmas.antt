-- A line is that of one number, one top or one entry: numbers end where digits do.
use Rattle.std.proofs.Common.{◌≡◌, ℕ, ◌<◌, ◌^◌, refl, sym, ◌∙◌, ap, subst, true, ◌==◌, if◌then◌else◌, List, ◌++◌, drop, slice_index_or, arith}
use Rattle.std.specs.Prelude.{codes}
use Rattle.std.specs.List.{list_all}
use Rattle.std.specs.Fmt.{decimal}
use Rattle.std.proofs.lemmas.Bool.{and_from}
use Rattle.std.proofs.lemmas.Fmt.{decimal_injective}
use Rattle.std.proofs.lemmas.List.Folds.{list_all-append}
use Rattle.tm_base.specs.declared.answer.LocalRule.{LocalRule}
use Rattle.tm_base.specs.declared.answer.LocalRule.TheVariants.{MoreUnique, TooBig, Alignment, Interior, Lifetime}
use Rattle.tm_base.specs.declared.cell.RefId.{RefId}
use Rattle.tm_base.specs.Cells.{Word}
use Rattle.tm_refute.specs.declared.refutation.Entry.{Entry}
use Rattle.tm_refute.specs.declared.refutation.Piece.{Piece}
use Rattle.tm_refute.specs.declared.refutation.Proof.{Proof}
use Rattle.tm_refute.specs.declared.refutation.Proof.TheVariants.{Local, Forward, Reverse}
use Rattle.tm_refute.specs.TextForms.{IsEntryText, IsPieceText, IsProofText, local_text}
use Rattle.tm_refute.specs.WordForms.{IsWordText}
use Rattle.tm_refute.proofs.forms.TextLemmas.{Stops, cut, decimal-digits, is_digit}
use Rattle.tm_refute.proofs.forms.WordLemmas.{read-one-way, word-whole}
use Rattle.tm_refute.proofs.forms.PartLemmas.{but, decimal-other}

-- two numbers that stand before what is no digit
pub number-apart : (n m : ℕ) (r s : List ℕ) → n < 2 ^ 32 → m < 2 ^ 32 → Stops is_digit r → Stops is_digit s → decimal n ++ r ≡ decimal m ++ s → (n ≡ m) × (r ≡ s)
number-apart n m r s small little stop_r stop_s e =
    let (front, back) = cut is_digit (decimal n) (decimal m) r s (decimal-digits n (omega arith)) (decimal-digits m (omega arith)) stop_r stop_s e in
    (decimal_injective n m (omega arith) (omega arith) front, back)

-- ---- rules

by_letter : ℕ → LocalRule
by_letter x = if x == 109 then MoreUnique else (if x == 116 then TooBig else (if x == 97 then Alignment else (if x == 105 then Interior else Lifetime)))

abbrev letter : List ℕ → ℕ
letter text = slice_index_or text 4 0

rule-letter : (rule : LocalRule) → by_letter (letter (local_text rule)) ≡ rule
unfolding by_letter
rule-letter MoreUnique = refl
rule-letter TooBig = refl
rule-letter Alignment = refl
rule-letter Interior = refl
rule-letter Lifetime = refl

rule-apart : (a b : LocalRule) → local_text a ≡ local_text b → a ≡ b
rule-apart a b e = sym (rule-letter a) ∙ ap (λ (text : List ℕ). by_letter (letter text)) e ∙ rule-letter b

pub rule-whole : (rule : LocalRule) → list_all (but 10) (local_text rule) ≡ true
rule-whole MoreUnique = refl
rule-whole TooBig = refl
rule-whole Alignment = refl
rule-whole Interior = refl
rule-whole Lifetime = refl

pub byte-at : (k : ℕ) (xs ys : List ℕ) → xs ≡ ys → slice_index_or xs k 0 ≡ slice_index_or ys k 0
byte-at k xs ys e = ap (λ (text : List ℕ). slice_index_or text k 0) e

piece-by : (p q : Piece) → p.word ≡ q.word → p.offset ≡ q.offset → p ≡ q
piece-by p q e f = ap (λ (w : Word). let r : Piece = record { word = w; offset = p.offset } in r) e ∙ ap (λ (n : ℕ). let r : Piece = record { word = q.word; offset = n } in r) f

ref-by : (a b : RefId) → a.0 ≡ b.0 → a ≡ b
ref-by a b e = ap (λ (n : ℕ). let r : RefId = record { 0 = n } in r) e

entry-by : (a b : Entry) → a.source.0 ≡ b.source.0 → a.target.0 ≡ b.target.0 → a.depth ≡ b.depth → a.proof ≡ b.proof → a ≡ b
entry-by a b s t d p =
    ap (λ (r : RefId). let e : Entry = record { source = r; target = a.target; depth = a.depth; proof = a.proof } in e) (ref-by a.source b.source s)
    ∙ ap (λ (r : RefId). let e : Entry = record { source = b.source; target = r; depth = a.depth; proof = a.proof } in e) (ref-by a.target b.target t)
    ∙ ap (λ (n : ℕ). let e : Entry = record { source = b.source; target = b.target; depth = n; proof = a.proof } in e) d
    ∙ ap (λ (q : Proof). let e : Entry = record { source = b.source; target = b.target; depth = b.depth; proof = q } in e) p

module _ (pointer : ℕ) where
  pub piece-apart : (text other : List ℕ) (p q : Piece) → text ≡ other → IsPieceText pointer text p → IsPieceText pointer other q → p ≡ q
  piece-apart text other p q e a b =
      let (offset, back) = number-apart p.offset q.offset (codes ": " ++ a.word_text) (codes ": " ++ b.word_text) a.offset b.offset refl refl (sym a.text_is ∙ e ∙ b.text_is) in
      let words : a.word_text ≡ b.word_text = ap (drop 2) back in
      piece-by p q (read-one-way pointer b.word_text p.word q.word (subst (λ (t : List ℕ). IsWordText pointer t p.word) words a.word) b.word) offset

  pub piece-whole : (text : List ℕ) (p : Piece) → IsPieceText pointer text p → list_all (but 10) text ≡ true
  piece-whole text p a =
      ap (list_all (but 10)) a.text_is ∙ list_all-append (but 10) (decimal p.offset) (codes ": " ++ a.word_text)
      ∙ (let small = a.offset in and_from _ _ (decimal-other 10 p.offset (omega arith) (omega arith)) (word-whole pointer a.word_text p.word a.word))

  -- what stands behind the depth is no digit
  pub proof-stops : (depth : ℕ) (text : List ℕ) (p : Proof) → IsProofText pointer depth text p → Stops is_digit text
  proof-stops depth text (Local rule) (e, is) = subst (Stops is_digit) (sym is) refl
  proof-stops depth text (Forward piece) (some, rest, is, a) = subst (Stops is_digit) (sym is) refl
  proof-stops depth text (Reverse piece) (some, rest, is, a) = subst (Stops is_digit) (sym is) refl

  proof-whole : (depth : ℕ) (text : List ℕ) (p : Proof) → IsProofText pointer depth text p → list_all (but 10) text ≡ true
  proof-whole depth text (Local rule) (e, is) = ap (list_all (but 10)) is ∙ rule-whole rule
  proof-whole depth text (Forward piece) (some, rest, is, a) = ap (list_all (but 10)) is ∙ piece-whole rest piece a
  proof-whole depth text (Reverse piece) (some, rest, is, a) = ap (list_all (but 10)) is ∙ piece-whole rest piece a

  pub proof-apart : (depth other : ℕ) (text line : List ℕ) (p q : Proof) → text ≡ line → IsProofText pointer depth text p → IsProofText pointer other line q → p ≡ q
  proof-apart depth other text line (Local rule) (Local first) e (_, is) (_, at) = ap Local (rule-apart rule first (ap (drop 2) (sym is ∙ e ∙ at)))
  proof-apart depth other text line (Forward p) (Forward q) e (_, rest, is, a) (_, back, at, b) = ap Forward (piece-apart rest back p q (ap (drop 13) (sym is ∙ e ∙ at)) a b)
  proof-apart depth other text line (Reverse p) (Reverse q) e (_, rest, is, a) (_, back, at, b) = ap Reverse (piece-apart rest back p q (ap (drop 13) (sym is ∙ e ∙ at)) a b)
  proof-apart depth other text line (Local rule) (Forward q) e (_, is) (_, back, at, b) = absurd (omega (arith, byte-at 0 _ _ (sym is ∙ e ∙ at)))
  proof-apart depth other text line (Local rule) (Reverse q) e (_, is) (_, back, at, b) = absurd (omega (arith, byte-at 0 _ _ (sym is ∙ e ∙ at)))
  proof-apart depth other text line (Forward p) (Local rule) e (_, rest, is, a) (_, at) = absurd (omega (arith, byte-at 0 _ _ (sym is ∙ e ∙ at)))
  proof-apart depth other text line (Reverse p) (Local rule) e (_, rest, is, a) (_, at) = absurd (omega (arith, byte-at 0 _ _ (sym is ∙ e ∙ at)))
  proof-apart depth other text line (Forward p) (Reverse q) e (_, rest, is, a) (_, back, at, b) = absurd (omega (arith, byte-at 2 _ _ (sym is ∙ e ∙ at)))
  proof-apart depth other text line (Reverse p) (Forward q) e (_, rest, is, a) (_, back, at, b) = absurd (omega (arith, byte-at 2 _ _ (sym is ∙ e ∙ at)))

  pub entry-apart : (text line : List ℕ) (x y : Entry) → text ≡ line → IsEntryText pointer text x → IsEntryText pointer line y → x ≡ y
  entry-apart text line x y e a b =
      let (source, to) =
      number-apart x.source.0 y.source.0 (codes " to &" ++ (decimal x.target.0 ++ (codes ", depth " ++ (decimal x.depth ++ a.proof_text))))
      (codes " to &" ++ (decimal y.target.0 ++ (codes ", depth " ++ (decimal y.depth ++ b.proof_text)))) a.source b.source refl refl (ap (drop 1) (sym a.text_is ∙ e ∙ b.text_is)) in
      let (target, deep) =
      number-apart x.target.0 y.target.0 (codes ", depth " ++ (decimal x.depth ++ a.proof_text)) (codes ", depth " ++ (decimal y.depth ++ b.proof_text)) a.target b.target refl refl (ap (drop 5) to) in
      let (depth, tail) =
      number-apart x.depth y.depth a.proof_text b.proof_text a.depth b.depth (proof-stops x.depth a.proof_text x.proof a.proof) (proof-stops y.depth b.proof_text y.proof b.proof) (ap (drop 8) deep) in
      entry-by x y source target depth (proof-apart x.depth y.depth a.proof_text b.proof_text x.proof y.proof tail a.proof b.proof)

  pub entry-whole : (text : List ℕ) (x : Entry) → IsEntryText pointer text x → list_all (but 10) text ≡ true
  entry-whole text x a =
      let source = a.source in
      let target = a.target in
      let depth = a.depth in
      ap (list_all (but 10)) a.text_is
      ∙ list_all-append (but 10) (decimal x.source.0) (codes " to &" ++ (decimal x.target.0 ++ (codes ", depth " ++ (decimal x.depth ++ a.proof_text))))
      ∙ and_from _ _ (decimal-other 10 x.source.0 (omega arith) (omega arith))
      (list_all-append (but 10) (decimal x.target.0) (codes ", depth " ++ (decimal x.depth ++ a.proof_text))
      ∙ and_from _ _ (decimal-other 10 x.target.0 (omega arith) (omega arith))
      (list_all-append (but 10) (decimal x.depth) a.proof_text
      ∙ and_from _ _ (decimal-other 10 x.depth (omega arith) (omega arith)) (proof-whole x.depth a.proof_text x.proof a.proof)))
