-- A piece, a proof and an entry are chosen in one way.
use Rattle.std.proofs.Common.{◌≡◌, ℕ, ◌<◌, ◌≤◌, ◌⊎◌, inl, inr, sym, ◌∙◌, ap, subst, false, Option, Some, None, slice_get, arith}
use Rattle.std.proofs.lemmas.Bool.{cases_lt}
use Rattle.tm_base.specs.declared.ask.Ask.{Ask}
use Rattle.tm_base.specs.declared.assume.Assume.{Assume}
use Rattle.tm_base.specs.declared.cell.RefId.{RefId}
use Rattle.tm_base.specs.declared.definition.RefRow.{RefRow}
use Rattle.tm_base.specs.Cells.{Word}
use Rattle.tm_base.specs.Expanded.{Expanded}
use Rattle.tm_base.specs.Orders.{word_less}
use Rattle.tm_base.specs.Tables.{Tables, OnRows, pointee_in}
use Rattle.tm_base.specs.Viable.{HasWord}
use Rattle.tm_base.proofs.AnswerLemmas.{IsLocalFault-unique}
use Rattle.tm_base.proofs.OrderLemmas.{word_less-total}
use Rattle.tm_laws.proofs.known.DecideLemmas.{Dec-eq, Dec-is, Dec-stable}
use Rattle.tm_refs.specs.Solved.{FailsFirstAt}
use Rattle.tm_refute.specs.Chosen.{HoldsBelow, IsChosenEntry, IsChosenProof, IsFirstRefused}
use Rattle.tm_refute.specs.Refutes.{IsOf}
use Rattle.tm_refute.specs.declared.refutation.Entry.{Entry}
use Rattle.tm_refute.specs.declared.refutation.Piece.{Piece}
use Rattle.tm_refute.specs.declared.refutation.Proof.{Proof}
use Rattle.tm_refute.specs.declared.refutation.Proof.TheVariants.{Local, Forward, Reverse}

-- what is known holds where it follows from a fact, and where it follows from there being none
either : {P Q : Type 0} → Dec Q → (P → Q) → (¬ P → Q) → Q
either known from without = Dec-stable known (λ f. f (without (λ p. f (from p))))

abbrev piece_of : Word → ℕ → Piece
piece_of w o = record { word = w; offset = o }

abbrev pub entry_of : RefId → RefId → ℕ → Proof → Entry
entry_of s t d proof = record { source = s; target = t; depth = d; proof = proof }

abbrev ref_id : ℕ → RefId
ref_id n = record { 0 = n }

module _ (tables : Tables) (assume : Assume) (limit : Option ℕ) (s t : Expanded) where
  abbrev IsFirst : Piece → Type 0
  IsFirst = IsFirstRefused tables assume limit s t

  abbrev Has : Type 0
  Has = HasWord (HoldsBelow tables assume limit) assume.safety t

  not_past : (p q : Piece) → IsFirst p → IsFirst q → Has → p.offset ≤ q.offset
  not_past p q a b has = ((a.refused has).1 q.word q.offset b.value (b.refused has).0).0

  offset-one : (p q : Piece) → IsFirst p → IsFirst q → p.offset ≡ q.offset
  offset-one p q a b =
      either {P = Has} (Dec-eq p.offset q.offset) (λ has. let l = not_past p q a b has in let m = not_past q p b a has in omega arith)
      (λ none. (a.without_words none).0 ∙ sym (b.without_words none).0)

  not_less : (p q : Piece) → IsFirst p → IsFirst q → word_less q.word p.word ≡ false
  not_less p q a b =
      either {P = Has} (Dec-is (word_less q.word p.word) false)
      (λ has. ((a.refused has).1 q.word q.offset b.value (b.refused has).0).1 (sym (offset-one p q a b))) (λ none. (a.without_words none).1 q.word b.value)

  -- one piece is refused first
  pub first-one : (p q : Piece) → IsFirst p → IsFirst q → p ≡ q
  first-one p q a b =
      ap (λ (w : Word). piece_of w p.offset) (word_less-total p.word q.word (not_less q p b a) (not_less p q a b))
      ∙ ap (λ (o : ℕ). piece_of q.word o) (offset-one p q a b)

module _ (tables : Tables) (ask : Ask) where
  -- two references fail first at one depth
  pub depth-one : (r t m n : ℕ) → FailsFirstAt tables ask.assume r t m → FailsFirstAt tables ask.assume r t n → m ≡ n
  depth-one r t m n a b = go (cases_lt m n) (cases_lt n m) where
    go : (m < n) ⊎ (n ≤ m) → (n < m) ⊎ (m ≤ n) → m ≡ n
    go (inl less) other = absurd (a.fails (b.first m less))
    go (inr most) (inl less) = absurd (b.fails (a.first n less))
    go (inr most) (inr least) = omega arith

  proof-one : (depth : ℕ) (x y : Proof) (r t : RefRow) → IsChosenProof tables ask.assume depth x r t → IsChosenProof tables ask.assume depth y r t → x ≡ y
  proof-one depth (Local l) (Local m) r t (first, a) (last, b) = ap Local (IsLocalFault-unique tables ask r t l m a b)
  proof-one depth (Local l) (Forward q) r t (first, a) (above, b) = absurd (omega arith)
  proof-one depth (Local l) (Reverse q) r t (first, a) (above, mutable, every, b) = absurd (omega arith)
  proof-one depth (Forward p) (Local m) r t (above, a) (first, b) = absurd (omega arith)
  proof-one depth (Forward p) (Forward q) r t (above, a) (below, b) =
      ap Forward (first-one tables ask.assume (Some depth) (pointee_in tables r) (pointee_in tables t) p q a b)
  proof-one depth (Forward p) (Reverse q) r t (above, a) (below, mutable, every, b) = absurd (a.misfit (every p.word a.value))
  proof-one depth (Reverse p) (Local m) r t (above, mutable, every, a) (first, b) = absurd (omega arith)
  proof-one depth (Reverse p) (Forward q) r t (above, mutable, every, a) (below, b) = absurd (b.misfit (every q.word b.value))
  proof-one depth (Reverse p) (Reverse q) r t (above, mutable, every, a) (below, writable, each, b) =
      ap Reverse (first-one tables ask.assume (Some depth) (pointee_in tables t) (pointee_in tables r) p q a b)

  rows-one : (depth : ℕ) (x y : Proof) (r t : Option RefRow) → OnRows r t (IsChosenProof tables ask.assume depth x) → OnRows r t (IsChosenProof tables ask.assume depth y) → x ≡ y
  rows-one depth x y (Some r) (Some t) a b = proof-one depth x y r t a b
  rows-one depth x y (Some r) None a b = absurd a
  rows-one depth x y None t a b = absurd a

  abbrev IsChosen : Entry → Type 0
  IsChosen = IsChosenEntry tables ask.assume

  same-references : (s t : RefId) (d e : ℕ) (x y : Proof) → IsChosen (entry_of s t d x) → IsChosen (entry_of s t e y) → entry_of s t d x ≡ entry_of s t e y
  same-references s t d e x y a b =
      let depths = depth-one s.0 t.0 d e a.fails b.fails in
      let there = subst (λ (n : ℕ). OnRows (slice_get tables.refs s.0) (slice_get tables.refs t.0) (IsChosenProof tables ask.assume n y)) (sym depths) b.proof in
      ap (λ (n : ℕ). entry_of s t n x) depths
      ∙ ap (λ (z : Proof). entry_of s t e z) (rows-one d x y (slice_get tables.refs s.0) (slice_get tables.refs t.0) a.proof there)

  -- two references have one chosen entry
  pub entry-one : (e f : Entry) → IsChosen e → IsChosen f → IsOf e.source.0 e.target.0 f → e ≡ f
  entry-one e f a b of =
      let sources : f.source ≡ e.source = ap ref_id of.source in
      let targets : f.target ≡ e.target = ap ref_id of.target in
      let moved = subst (λ (s : RefId). IsChosen (entry_of s e.target f.depth f.proof)) sources (subst (λ (t : RefId). IsChosen (entry_of f.source t f.depth f.proof)) targets b) in
      same-references e.source e.target e.depth f.depth e.proof f.proof a moved
      ∙ ap (λ (s : RefId). entry_of s e.target f.depth f.proof) (sym sources)
      ∙ ap (λ (t : RefId). entry_of f.source t f.depth f.proof) (sym targets)
