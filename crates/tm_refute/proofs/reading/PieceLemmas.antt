-- Pieces, proofs and entries are read number by number.
use Rattle.std.proofs.Common.{◌≡◌, ℕ, ◌<◌, ◌^◌, refl, sym, ◌∙◌, ap, subst, List, ◌++◌, Err, arith}
use Rattle.std.specs.Prelude.{codes}
use Rattle.std.specs.Fmt.{decimal}
use Rattle.tm_base.specs.Cells.{Word}
use Rattle.tm_refute.specs.Runs.{Reads}
use Rattle.tm_refute.specs.Taken.{IsNumber, IsNumbered, Stops, is_digit}
use Rattle.tm_refute.specs.TextForms.{IsEntryText, IsPieceText, IsProofText}
use Rattle.tm_refute.specs.WordForms.{IsWordText}
use Rattle.tm_refute.specs.declared.refutation.Entry.{Entry}
use Rattle.tm_refute.specs.declared.refutation.Piece.{Piece}
use Rattle.tm_refute.specs.declared.refutation.Proof.{Proof}
use Rattle.tm_refute.specs.declared.refutation.Proof.TheVariants.{Local, Forward, Reverse}
use Rattle.tm_refute.specs.declared.stop.Stop.{Stop}
use Rattle.tm_refute.specs.declared.stop.Stop.TheVariants.{Form, Memory}
use Rattle.tm_refute.proofs.forms.LineLemmas.{byte-at, number-apart, proof-stops}
use Rattle.tm_refute.proofs.forms.NumberLemmas.{behind-is}

-- a number that was taken is the one that stands there
pub same-number : (before : List ℕ) (n m : ℕ) (after rest : List ℕ) → IsNumber before n after → m < 2 ^ 32 → Stops is_digit rest → before ≡ decimal m ++ rest → (n ≡ m) × (after ≡ rest)
same-number before n m after rest is small stop e = number-apart n m after rest is.small small is.stops stop (sym is.text_is ∙ e)

pub same-numbered : (text before : List ℕ) (n m : ℕ) (after rest : List ℕ) → IsNumbered text before n after → m < 2 ^ 32 → Stops is_digit rest → before ≡ text ++ (decimal m ++ rest) → (n ≡ m) × (after ≡ rest)
same-numbered text before n m after rest is small stop e =
    same-number is.behind n m after rest is.number small stop (behind-is text before is.behind (decimal m ++ rest) is.text_is e)

pub numbered : (text before : List ℕ) (m : ℕ) (rest : List ℕ) → m < 2 ^ 32 → Stops is_digit rest → before ≡ text ++ (decimal m ++ rest) → IsNumbered text before m rest
numbered text before m rest small stop e = record { behind = decimal m ++ rest; text_is = e; number = record { small = small; text_is = refl; stops = stop } }

module _ (pointer : ℕ) where
  module _ (text : List ℕ) (n : ℕ) (after : List ℕ) (is : IsNumber text n after) where
    pub behind-offset : (p : Piece) → (a : IsPieceText pointer text p) → (n ≡ p.offset) × (after ≡ codes ": " ++ a.word_text)
    behind-offset p a = same-number text n p.offset after (codes ": " ++ a.word_text) is a.offset refl a.text_is

    pub no-colon : ((rest : List ℕ) → after ≡ codes ": " ++ rest → ⊥) → (p : Piece) → IsPieceText pointer text p → ⊥
    no-colon none p a = none a.word_text (behind-offset p a).1

    pub no-word : (rest : List ℕ) → after ≡ codes ": " ++ rest → (stop : Stop) → Reads {V = Word} (IsWordText pointer rest) (Err stop) → Reads {V = Piece} (IsPieceText pointer text) (Err stop)
    no-word rest e Form none = λ (p : Piece) (a : IsPieceText pointer text p).
        (let same : a.word_text ≡ rest = behind-is (codes ": ") after a.word_text rest (behind-offset p a).1 e in none p.word (subst (λ (t : List ℕ). IsWordText pointer t p.word) same a.word))
    no-word rest e Memory none = tt

  -- what stands behind a depth that isn't 0
  module _ (depth : ℕ) (text : List ℕ) (deep : depth ≡ 0 → ⊥) where
    pub no-forward : (rest : List ℕ) → text ≡ codes ", forward at " ++ rest → (stop : Stop) → Reads {V = Piece} (IsPieceText pointer rest) (Err stop) → Reads {V = Proof} (IsProofText pointer depth text) (Err stop)
    no-forward rest e Memory none = tt
    no-forward rest e Form none = go where
      go : (p : Proof) → IsProofText pointer depth text p → ⊥
      go (Local rule) (is, f) = deep is
      go (Forward piece) (some, back, f, a) = none piece (subst (λ (t : List ℕ). IsPieceText pointer t piece) (behind-is (codes ", forward at ") text back rest f e) a)
      go (Reverse piece) (some, back, f, a) = absurd (omega (arith, byte-at 2 _ _ (sym e ∙ f)))

    pub no-reverse : (rest : List ℕ) → text ≡ codes ", reverse at " ++ rest → (stop : Stop) → Reads {V = Piece} (IsPieceText pointer rest) (Err stop) → Reads {V = Proof} (IsProofText pointer depth text) (Err stop)
    no-reverse rest e Memory none = tt
    no-reverse rest e Form none = go where
      go : (p : Proof) → IsProofText pointer depth text p → ⊥
      go (Local rule) (is, f) = deep is
      go (Forward piece) (some, back, f, a) = absurd (omega (arith, byte-at 2 _ _ (sym e ∙ f)))
      go (Reverse piece) (some, back, f, a) = none piece (subst (λ (t : List ℕ). IsPieceText pointer t piece) (behind-is (codes ", reverse at ") text back rest f e) a)

    pub no-proof : ((rest : List ℕ) → text ≡ codes ", forward at " ++ rest → ⊥) → ((rest : List ℕ) → text ≡ codes ", reverse at " ++ rest → ⊥) → (p : Proof) → IsProofText pointer depth text p → ⊥
    no-proof forward reverse (Local rule) (is, f) = deep is
    no-proof forward reverse (Forward piece) (some, back, f, a) = forward back f
    no-proof forward reverse (Reverse piece) (some, back, f, a) = reverse back f

  -- ---- entries

  module _ (text : List ℕ) where
    pub no-source : ((n : ℕ) (rest : List ℕ) → IsNumbered (codes "&") text n rest → ⊥) → (x : Entry) → IsEntryText pointer text x → ⊥
    no-source none x a = none x.source.0 _ (numbered (codes "&") text x.source.0 _ a.source refl a.text_is)

    module _ (source : ℕ) (after : List ℕ) (is : IsNumbered (codes "&") text source after) where
      to-target : (x : Entry) → (a : IsEntryText pointer text x) → (source ≡ x.source.0) × (after ≡ codes " to &" ++ (decimal x.target.0 ++ (codes ", depth " ++ (decimal x.depth ++ a.proof_text))))
      to-target x a = same-numbered (codes "&") text source x.source.0 after _ is a.source refl a.text_is

      pub no-target : ((n : ℕ) (rest : List ℕ) → IsNumbered (codes " to &") after n rest → ⊥) → (x : Entry) → IsEntryText pointer text x → ⊥
      no-target none x a = none x.target.0 _ (numbered (codes " to &") after x.target.0 _ a.target refl (to-target x a).1)

      module _ (target : ℕ) (behind : List ℕ) (to : IsNumbered (codes " to &") after target behind) where
        to-depth : (x : Entry) → (a : IsEntryText pointer text x) → (target ≡ x.target.0) × (behind ≡ codes ", depth " ++ (decimal x.depth ++ a.proof_text))
        to-depth x a = same-numbered (codes " to &") after target x.target.0 behind _ to a.target refl (to-target x a).1

        pub no-depth : ((n : ℕ) (rest : List ℕ) → IsNumbered (codes ", depth ") behind n rest → ⊥) → (x : Entry) → IsEntryText pointer text x → ⊥
        no-depth none x a = none x.depth a.proof_text (numbered (codes ", depth ") behind x.depth a.proof_text a.depth (proof-stops pointer x.depth a.proof_text x.proof a.proof) (to-depth x a).1)

        module _ (depth : ℕ) (rest : List ℕ) (deep : IsNumbered (codes ", depth ") behind depth rest) where
          to-proof : (x : Entry) → (a : IsEntryText pointer text x) → (depth ≡ x.depth) × (rest ≡ a.proof_text)
          to-proof x a = same-numbered (codes ", depth ") behind depth x.depth rest a.proof_text deep a.depth (proof-stops pointer x.depth a.proof_text x.proof a.proof) (to-depth x a).1

          pub no-entry : (stop : Stop) → Reads {V = Proof} (IsProofText pointer depth rest) (Err stop) → Reads {V = Entry} (IsEntryText pointer text) (Err stop)
          no-entry Memory none = tt
          no-entry Form none = λ (x : Entry) (a : IsEntryText pointer text x).
              none x.proof (subst (λ (n : ℕ). IsProofText pointer n rest x.proof) (sym (to-proof x a).0) (subst (λ (t : List ℕ). IsProofText pointer x.depth t x.proof) (sym (to-proof x a).1) a.proof))

          pub is-entry : (p : Proof) → IsProofText pointer depth rest p → IsEntryText pointer text (record { source = record { 0 = source }; target = record { 0 = target }; depth = depth; proof = p })
          is-entry p is_proof = record {
            proof_text = rest;
            source = is.number.small;
            target = to.number.small;
            depth = deep.number.small;
            text_is = is.text_is ∙ ap (λ (xs : List ℕ). codes "&" ++ xs) (is.number.text_is
                ∙ ap (λ (xs : List ℕ). decimal source ++ xs) (to.text_is ∙ ap (λ (xs : List ℕ). codes " to &" ++ xs) (to.number.text_is
                ∙ ap (λ (xs : List ℕ). decimal target ++ xs) (deep.text_is ∙ ap (λ (xs : List ℕ). codes ", depth " ++ xs) deep.number.text_is))));
            proof = is_proof;
          }
