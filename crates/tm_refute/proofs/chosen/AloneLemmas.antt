-- A question has one refutation at most.
use Rattle.std.proofs.Common.{◌≡◌, inl, inr, sym, ◌∙◌, ap, subst, List, None}
use Rattle.std.specs.List.{Contains}
use Rattle.std.proofs.lemmas.List.Elements.{All-contains}
use Rattle.tm_base.specs.declared.ask.Ask.{Ask}
use Rattle.tm_base.specs.Rules.{source, target}
use Rattle.tm_base.specs.Tables.{Tables}
use Rattle.tm_refute.specs.Chosen.{Asks, IsAskedFor, IsChosenEntry, IsRefutationOf}
use Rattle.tm_refute.specs.declared.refutation.Entry.{Entry}
use Rattle.tm_refute.specs.declared.refutation.Piece.{Piece}
use Rattle.tm_refute.specs.declared.refutation.Refutation.{Refutation}
use Rattle.tm_refute.proofs.chosen.OneLemmas.{entry-one, first-one}
use Rattle.tm_refute.proofs.chosen.OrderLemmas.{AreAmong, falling, same-list}

abbrev refutation_of : Piece → List Entry → Refutation
refutation_of top entries = record { top = top; entries = entries }

module _ (tables : Tables) (ask : Ask) where
  same-top : (x y : Refutation) → IsRefutationOf tables ask x → IsRefutationOf tables ask y → x.top ≡ y.top
  same-top x y a b = first-one tables ask.assume None (source tables ask) (target tables ask) x.top y.top a.top b.top

  -- what both refutations ask for has one entry
  shared : (x y : Refutation) → IsRefutationOf tables ask x → IsRefutationOf tables ask y → (e : Entry) → Contains x.entries e
      → IsAskedFor tables ask y e.source.0 e.target.0 e.depth → Contains y.entries e
  shared x y a b e at asks =
      let (f, among, of, depth) = b.answered e.source.0 e.target.0 e.depth asks in
      let same : e ≡ f = entry-one tables ask e f (All-contains (IsChosenEntry tables ask.assume) x.entries e a.chosen at) (All-contains (IsChosenEntry tables ask.assume) y.entries f b.chosen among) of in
      subst (λ (z : Entry). Contains y.entries z) (sym same) among

  among-other : (x y : Refutation) → IsRefutationOf tables ask x → IsRefutationOf tables ask y → AreAmong x.entries y.entries
  among-other x y a b =
      falling tables ask x (λ e. Contains y.entries e) a.asked
      (λ e at asks. shared x y a b e at (inl (subst (λ (top : Piece). Asks tables ask.assume None (target tables ask) top e.source.0 e.target.0 e.depth) (same-top x y a b) asks)))
      (λ e f at among there asks. shared x y a b e at (inr (f, there, asks)))

  -- it has no other
  pub refutation-one : (x y : Refutation) → IsRefutationOf tables ask x → IsRefutationOf tables ask y → x ≡ y
  refutation-one x y a b =
      ap (λ (top : Piece). refutation_of top x.entries) (same-top x y a b)
      ∙ ap (λ (entries : List Entry). refutation_of y.top entries) (same-list x.entries y.entries a.in_order b.in_order (among-other x y a b) (among-other y x b a))
