-- Each refused cell of a source's word has a rule for which it is refused.
use Rattle.std.proofs.Common.{◌≡◌, ℕ, ◌<◌, ◌≤◌, ◌⊎◌, inl, inr, refl, subst, length, take, Option, Some, None, slice_get, arith}
use Rattle.std.specs.List.{All}
use Rattle.std.proofs.lemmas.Option.{slice_get-get_or}
use Rattle.tm_base.specs.declared.answer.RefFault.{RefFault}
use Rattle.tm_base.specs.declared.answer.Rule.{Rule}
use Rattle.tm_base.specs.declared.answer.Rule.TheVariants.{TooBig, NeedsInit, ByteValue, BytesForReference, ReferenceForBytes}
use Rattle.tm_base.specs.declared.ask.Ask.{Ask}
use Rattle.tm_base.specs.declared.cell.Cell.{Cell}
use Rattle.tm_base.specs.declared.cell.Cell.TheVariants.{Byte, Uninit, Ptr}
use Rattle.tm_base.specs.declared.cell.RefId.{RefId}
use Rattle.tm_base.specs.declared.world.World.{World}
use Rattle.tm_base.specs.Answers.{IsValue, IsRefusedAt, IsLeastFault}
use Rattle.tm_base.specs.Cells.{Word, fit}
use Rattle.tm_base.specs.Expanded.{Expanded}
use Rattle.tm_base.specs.Layout.{size_of}
use Rattle.tm_base.specs.Rules.{source, target, Taken, SomeByteGoesOn, IsOpen, IsCellRule, IsRuleOfNo}
use Rattle.tm_base.specs.Worlds.{tables_of, IsTypeOver}
use Rattle.tm_laws.specs.WordLaws.{IsClosed}
use Rattle.tm_laws.proofs.known.CompatibleLemmas.{Compatible-known, Compatible-rows}
use Rattle.tm_laws.proofs.known.DecideLemmas.{Dec-lt}
use Rattle.tm_laws.proofs.known.RefRuleLemmas.{fault_at, ref_rule}
use Rattle.tm_laws.proofs.refusals.StopLemmas.{fit-length, refused-inside, refused-pointer-is-first, open-is-not-taken}
use Rattle.tm_laws.proofs.refusals.Rows.{pointer-known, open-known}
use Rattle.tm_laws.proofs.refusals.Worlds.{leaves-known, compatible-of_sources, source-closed}
use Rattle.tm_laws.proofs.known.ViableLemmas.{some_byte-known, least_open}
use Rattle.tm_laws.proofs.whole.Types.{expanded_in-for}

module _ (world : World) (ask : Ask) (src_over : IsTypeOver (tables_of world) ask.src) (dst_over : IsTypeOver (tables_of world) ask.dst) where
  abbrev s : Expanded
  s = source (tables_of world) ask

  abbrev t : Expanded
  t = target (tables_of world) ask

  abbrev A : ℕ → ℕ → Type 0
  A = Taken (tables_of world) ask

  pub taken-known : (x u : ℕ) → Dec (A x u)
  taken-known = Compatible-known (tables_of world) ask.assume

  -- each reference that may be taken is the world's
  abbrev pub taken_bound : ℕ → ℕ
  taken_bound u = length world.refs

  pub taken-bounded : (x u : ℕ) → A x u → x < taken_bound u
  taken-bounded x u h = (Compatible-rows (tables_of world) ask.assume x u h).0

  pub value-closed : (w : Word) → IsValue (tables_of world) ask w → All IsClosed w
  value-closed w value = source-closed world s (leaves-known world ask.src src_over) w value

  -- a rule with its fault, where that is least
  abbrev CellFound : Word → Option Cell → Type 0
  CellFound before c = (rule : Rule) × (fault : Option RefFault) × IsCellRule (tables_of world) ask before c rule fault × IsLeastFault (tables_of world) ask before fault

  byte_rule : (before : Word) (b : ℕ) → Dec (SomeByteGoesOn (tables_of world) ask before) → CellFound before (Some (Byte b))
  byte_rule before b (yes goes) = (ByteValue, None, inl (refl, goes, refl), tt)
  byte_rule before b (no stuck) = (BytesForReference, None, inr (refl, stuck, refl), tt)

  ref_found : (w : Word) (o : ℕ) (r : RefId) (k : ℕ) → IsValue (tables_of world) ask w → IsRefusedAt (tables_of world) ask w o
      → slice_get (fit w (size_of t)) o ≡ Some (Ptr r k) → k ≡ 0 → (u : ℕ) → IsOpen (tables_of world) ask (take o (fit w (size_of t))) u
      → ((v : ℕ) → IsOpen (tables_of world) ask (take o (fit w (size_of t))) v → u ≤ v)
      → CellFound (take o (fit w (size_of t))) (Some (Ptr r k))
  ref_found w o r k value refuses e first u opens least =
      let at_first : slice_get (fit w (size_of t)) o ≡ Some (Ptr r 0) = subst (λ (j : ℕ). slice_get (fit w (size_of t)) o ≡ Some (Ptr r j)) first e in
      let named = pointer-known world s (leaves-known world ask.src src_over) w value (size_of t) o r k e in
      let sources = compatible-of_sources world ask.assume in
      let known = open-known world A sources ask.assume.safety t (leaves-known world ask.dst dst_over) (take o (fit w (size_of t))) u opens in
      let apart = open-is-not-taken A sources ask.assume.safety t w o r u (value-closed w value) refuses at_first opens in
      let (rule, depth, holds_rule, least_depth) = ref_rule (tables_of world) ask r u named known apart in
      (rule, Some (fault_at (tables_of world) ask r u depth), inr (fault_at (tables_of world) ask r u depth, refl, refl, first, opens, holds_rule), (least, least_depth))

  abbrev OpenAt : Word → ℕ → ℕ → Type 0
  OpenAt w o = IsOpen (tables_of world) ask (take o (fit w (size_of t)))

  cell_rule : (w : Word) (o : ℕ) → IsValue (tables_of world) ask w → IsRefusedAt (tables_of world) ask w o
      → (c : Option Cell) → slice_get (fit w (size_of t)) o ≡ c → CellFound (take o (fit w (size_of t))) c
  cell_rule w o value refuses None e =
      let f = fit w (size_of t) in
      let inside = refused-inside A ask.assume.safety t w o refuses in
      let long : length f ≡ size_of t = fit-length w (size_of t) in
      let some = slice_get-get_or f o Uninit (omega arith) in
      cc
  cell_rule w o value refuses (Some (Byte b)) e = byte_rule (take o (fit w (size_of t))) b (some_byte-known A taken-known taken_bound taken-bounded ask.assume.safety t (take o (fit w (size_of t))))
  cell_rule w o value refuses (Some Uninit) e = (NeedsInit, None, (refl, refl), tt)
  cell_rule w o value refuses (Some (Ptr r k)) e = go (least_open A taken-known taken_bound taken-bounded ask.assume.safety t (take o (fit w (size_of t)))) where
    go : ((u : ℕ) × OpenAt w o u × ((v : ℕ) → OpenAt w o v → u ≤ v)) ⊎ ((u : ℕ) → ¬ OpenAt w o u) → CellFound (take o (fit w (size_of t))) (Some (Ptr r k))
    go (inr none) = (ReferenceForBytes, None, inl (refl, refl, none), tt)
    go (inl (u, opens, least)) = ref_found w o r k value refuses e (refused-pointer-is-first world.profile A ask.assume.safety t (expanded_in-for (tables_of world) ask.dst) s (expanded_in-for (tables_of world) ask.src) w o r k value refuses e) u opens least

  -- a rule of a no at a refused cell, with its fault, where that is least
  abbrev pub NoFound : Word → ℕ → Type 0
  NoFound w o =
      (rule : Rule) × (fault : Option RefFault) × IsRuleOfNo (tables_of world) ask w o rule fault × IsLeastFault (tables_of world) ask (take o (fit w (size_of t))) fault

  pub rule_of_no : (w : Word) (o : ℕ) → IsValue (tables_of world) ask w → IsRefusedAt (tables_of world) ask w o → NoFound w o
  rule_of_no w o value refuses = go (Dec-lt o (size_of s)) where
    go : Dec (o < size_of s) → NoFound w o
    go (no past) = (TooBig, None, inl (not_below past, refl, refl), tt) where
      not_below : ¬ (o < size_of s) → size_of s ≤ o
      not_below f = grind arith
    go (yes inside) =
        let (rule, fault, holds_rule, least) = cell_rule w o value refuses (slice_get (fit w (size_of t)) o) refl in
        (rule, fault, inr (inside, holds_rule), least)
