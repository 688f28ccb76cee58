-- Lines go on in one way: so a text is that of one refutation, or has one bad line.
use Rattle.std.proofs.Common.{◌≡◌, ℕ, zero, suc, ◌+◌, ◌-◌, ◌<◌, ◌≤◌, ◌⊎◌, inl, inr, refl, sym, ◌∙◌, ap, subst, true, List, [], ◌∷◌, drop, arith}
use Rattle.std.specs.Prelude.{codes}
use Rattle.std.specs.List.{list_all}
use Rattle.std.specs.Fmt.{decimal}
use Rattle.std.proofs.lemmas.Bool.{cases_lt}
use Rattle.std.proofs.lemmas.Fmt.{decimal_injective}
use Rattle.tm_refute.specs.declared.refutation.Entry.{Entry}
use Rattle.tm_refute.specs.declared.refutation.Piece.{Piece}
use Rattle.tm_refute.specs.declared.refutation.Refutation.{Refutation}
use Rattle.tm_refute.specs.TextForms.{AreSame, Follows, IsBadLine, IsEntryText, IsRefutationText, Leads, Read, TextsAreReadOneWay, begun, nothing, question, whole, with_entry}
use Rattle.tm_refute.proofs.forms.TextLemmas.{cut}
use Rattle.tm_refute.proofs.forms.PartLemmas.{but, decimal-other}
use Rattle.tm_refute.proofs.forms.LineLemmas.{byte-at, piece-apart, piece-whole, entry-apart, entry-whole}

module _ (pointer : ℕ) where
  -- a line of an entry isn't the line `end`
  entry-ends : (line other : List ℕ) (x : Entry) → line ≡ other → line ≡ codes "end" → IsEntryText pointer other x → ⊥
  entry-ends line other x same e a = absurd (omega (arith, byte-at 0 _ _ (sym e ∙ same ∙ a.text_is)))

  -- what goes on ends with its line
  pub follows-whole : (read : Read) (line : List ℕ) (next : Read) → Follows pointer read line next → list_all (but 10) line ≡ true
  follows-whole nothing line next (number, small, e, is) = ap (list_all (but 10)) e ∙ decimal-other 10 number (omega arith) (omega arith)
  follows-whole (question number) line next (text, top, e, a, is) = ap (list_all (but 10)) e ∙ piece-whole pointer text top a
  follows-whole (begun number x) line next (inl (e, is)) = ap (list_all (but 10)) e
  follows-whole (begun number x) line next (inr (entry, a, within, is)) = entry-whole pointer line entry a
  follows-whole (whole number x) line next h = absurd h

  -- a line goes on in one way
  follows-once : (read : Read) (line other : List ℕ) (next after : Read) → line ≡ other → Follows pointer read line next → Follows pointer read other after → next ≡ after
  follows-once nothing line other next after same (n, small, e, is) (m, little, f, at) =
      let digits : decimal n ≡ decimal m = ap (drop 23) (sym e ∙ same ∙ f) in
      is ∙ ap question (decimal_injective n m (omega arith) (omega arith) digits) ∙ sym at
  follows-once (question number) line other next after same (text, p, e, a, is) (back, q, f, b, at) =
      is ∙ ap (λ (top : Piece). begun number (record { top = top; entries = [] })) (piece-apart pointer text back p q (ap (drop 8) (sym e ∙ same ∙ f)) a b) ∙ sym at
  follows-once (begun number x) line other next after same (inl (e, is)) (inl (f, at)) = is ∙ sym at
  follows-once (begun number x) line other next after same (inl (e, is)) (inr (entry, b, within, at)) = absurd (entry-ends line other entry same e b)
  follows-once (begun number x) line other next after same (inr (entry, a, within, is)) (inl (f, at)) = absurd (entry-ends other line entry (sym same) f a)
  follows-once (begun number x) line other next after same (inr (entry, a, within, is)) (inr (another, b, inside, at)) =
      is ∙ ap (λ (e : Entry). begun number (with_entry x e)) (entry-apart pointer line other entry another same a b) ∙ sym at
  follows-once (whole number x) line other next after same h k = absurd h

  -- of two ways on, the longer goes on from the shorter
  leads-on : (n more : ℕ) (from : Read) (bytes other : List ℕ) (a b : Read) (r s : List ℕ) → bytes ≡ other → Leads pointer n from bytes a r → Leads pointer (n + more) from other b s → Leads pointer more a r b s
  unfolding Leads
  leads-on zero more from bytes other a b r s same (at, is) long =
      let k : zero + more ≡ more = omega arith in
      let here = subst (λ (n : ℕ). Leads pointer n from other b s) k long in
      subst (λ (read : Read). Leads pointer more read r b s) at (subst (λ (text : List ℕ). Leads pointer more from text b s) (sym same ∙ is) here)
  leads-on (suc n) more from bytes other a b r s same (line, others, next, e, follows, short) long =
      let k : suc n + more ≡ suc (n + more) = omega arith in
      let (front, back, after, f, goes, further) = subst (λ (m : ℕ). Leads pointer m from other b s) k long in
      let (lines, tails) = cut (but 10) line front (10 ∷ others) (10 ∷ back) (follows-whole from line next follows) (follows-whole from front after goes) refl refl (sym e ∙ same ∙ f) in
      let once = follows-once from line front next after lines follows goes in
      leads-on n more next others back a b r s (ap (drop 1) tails) short (subst (λ (read : Read). Leads pointer (n + more) read back b s) (sym once) further)

  -- nothing goes on from the end
  ended : (more number : ℕ) (x : Refutation) (bytes : List ℕ) (to : Read) (rest : List ℕ) → Leads pointer more (whole number x) bytes to rest → (more ≡ 0) × (whole number x ≡ to) × (bytes ≡ rest)
  unfolding Leads
  ended zero number x bytes to rest (at, is) = (refl, at, is)
  ended (suc more) number x bytes to rest (line, others, next, e, follows, further) = absurd follows

  both-ended : (number other : ℕ) (x y : Refutation) (r s : List ℕ) → whole number x ≡ whole other y → r ≡ s → AreSame number other x y r s
  both-ended number other x y r s e is = record {
    number_same = ap number_of e;
    refutation_same = ap (refutation_of x) e;
    rest_same = is;
  } where
    number_of : Read → ℕ
    number_of nothing = 0
    number_of (question n) = n
    number_of (begun n z) = n
    number_of (whole n z) = n

    refutation_of : Refutation → Read → Refutation
    refutation_of d nothing = d
    refutation_of d (question n) = d
    refutation_of d (begun n z) = z
    refutation_of d (whole n z) = z

  same-text : (bytes : List ℕ) (number other : ℕ) (x y : Refutation) (rest behind : List ℕ) → IsRefutationText pointer bytes number x rest → IsRefutationText pointer bytes other y behind → AreSame number other x y rest behind
  same-text bytes number other x y rest behind (n, a) (m, b) = go (cases_lt m n) where
    go : (m < n) ⊎ (n ≤ m) → AreSame number other x y rest behind
    go (inr short) =
        let k : m ≡ n + (m - n) = omega arith in
        let (none, e, is) = ended (m - n) number x rest (whole other y) behind (leads-on n (m - n) nothing bytes bytes (whole number x) (whole other y) rest behind refl a (subst (λ (j : ℕ). Leads pointer j nothing bytes (whole other y) behind) k b)) in
        both-ended number other x y rest behind e is
    go (inl long) =
        let k : n ≡ m + (n - m) = omega arith in
        let (none, e, is) = ended (n - m) other y behind (whole number x) rest (leads-on m (n - m) nothing bytes bytes (whole other y) (whole number x) behind rest refl b (subst (λ (j : ℕ). Leads pointer j nothing bytes (whole number x) rest) k a)) in
        both-ended number other x y rest behind (sym e) (sym is)

  -- no line goes on where the bad one stands
  stuck : (bytes : List ℕ) (line : ℕ) (bad : IsBadLine pointer bytes line) (more : ℕ) (to : Read) (rest : List ℕ) → Leads pointer more bad.read bad.rest to rest → (more ≡ 0) × (bad.read ≡ to)
  unfolding Leads
  stuck bytes line bad zero to rest (at, is) = (refl, at)
  stuck bytes line bad (suc more) to rest (text, others, next, e, follows, further) = absurd (bad.stops text others next e follows)

  not-later : (bytes : List ℕ) (line other : ℕ) (a : IsBadLine pointer bytes line) (b : IsBadLine pointer bytes other) → a.before ≤ b.before → a.before ≡ b.before
  not-later bytes line other a b less =
      let k : b.before ≡ a.before + (b.before - a.before) = omega arith in
      let (none, e) = stuck bytes line a (b.before - a.before) b.read b.rest (leads-on a.before (b.before - a.before) nothing bytes bytes a.read b.read a.rest b.rest refl a.leads (subst (λ (j : ℕ). Leads pointer j nothing bytes b.read b.rest) k b.leads)) in
      omega arith

  one-bad : (bytes : List ℕ) (line other : ℕ) → IsBadLine pointer bytes line → IsBadLine pointer bytes other → line ≡ other
  one-bad bytes line other a b = a.counted ∙ ap (λ (n : ℕ). n + 1) (go (cases_lt b.before a.before)) ∙ sym b.counted where
    go : (b.before < a.before) ⊎ (a.before ≤ b.before) → a.before ≡ b.before
    go (inl below) = sym (not-later bytes other line b a (omega arith))
    go (inr above) = not-later bytes line other a b above

  bad-apart : (bytes : List ℕ) (line number : ℕ) (x : Refutation) (rest : List ℕ) → IsBadLine pointer bytes line → IsRefutationText pointer bytes number x rest → ⊥
  bad-apart bytes line number x rest a (m, b) = go (cases_lt m a.before) where
    go : (m < a.before) ⊎ (a.before ≤ m) → ⊥
    go (inl below) =
        let k : a.before ≡ m + (a.before - m) = omega arith in
        let (none, e, is) = ended (a.before - m) number x rest a.read a.rest (leads-on m (a.before - m) nothing bytes bytes (whole number x) a.read rest a.rest refl b (subst (λ (j : ℕ). Leads pointer j nothing bytes a.read a.rest) k a.leads)) in
        a.unfinished number x (sym e)
    go (inr above) =
        let k : m ≡ a.before + (m - a.before) = omega arith in
        let (none, e) = stuck bytes line a (m - a.before) (whole number x) rest (leads-on a.before (m - a.before) nothing bytes bytes a.read (whole number x) a.rest rest refl a.leads (subst (λ (j : ℕ). Leads pointer j nothing bytes (whole number x) rest) k b)) in
        a.unfinished number x e

pub texts-apart : TextsAreReadOneWay
texts-apart pointer bytes = record { alone = same-text pointer bytes; one_line = one-bad pointer bytes; apart = bad-apart pointer bytes }
