-- Sets that one edge leaves: their classes, and where they lead.
use Rattle.std.proofs.Common.{rules, ◌≡◌, ℕ, ◌+◌, ◌<◌, ◌≤◌, ◌⊎◌, inl, inr, Bool, true, ◌↔◌, List, [], ◌∷◌, length, slice_index_or, refl, sym, ap, ◌∙◌, subst, arith, eq-eqb, Contains}
use Rattle.tm_base.specs.declared.cell.Cell.{Cell}
use Rattle.tm_base.specs.declared.cell.Cell.TheVariants as cell
use Rattle.tm_base.specs.declared.cell.RefId.{RefId}
use Rattle.tm_base.specs.Transmutes.{holds, is_itself}
use Rattle.tm_base.proofs.JudgedLemmas.{Contains-none, Contains-one}
use Rattle.tm_auto.specs.declared.edge.Edge.{Edge}
use Rattle.tm_auto.specs.declared.edge.Label.{Label}
use Rattle.tm_auto.specs.declared.edge.Label.TheVariants as label
use Rattle.tm_auto.specs.declared.edge.Symbol.{Symbol}
use Rattle.tm_auto.specs.declared.edge.Symbol.TheVariants as symbol
use Rattle.tm_auto.specs.Automata.{Automaton, IsStep, edges_from}
use Rattle.tm_auto.specs.Classes.{HasCell, IsFormed, LeavesSet, AreClasses, IsUncut}
use Rattle.tm_auto.specs.Labels.{Takes}
use Rattle.tm_auto.specs.OnlyEdges.{IsOnlyEdge, IsOnlyClass, ends_of}
use Rattle.tm_auto.specs.Sets.{passes, symbol_of}
use Rattle.tm_auto.proofs.ContainsLemmas.{here}
use Rattle.tm_auto.proofs.ClassLemmas.{passes_range, passes_own}
use Rattle.tm_auto.proofs.NextLemmas.{among_from, from_among}
use Rattle.tm_auto.proofs.SetLemmas.{bool_cases}
use Rattle.tm_auto.proofs.StepLemmas.{byte_at, passes_takes}

-- what a list of one has
pub only_item : {X : Type 0} (xs : List X) (d : X) → 1 ≤ length xs → length xs < 2 → xs ≡ slice_index_or xs 0 d ∷ []
only_item [] d l m = absurd (omega arith)
only_item (x ∷ []) d l m = refl
only_item (x ∷ y ∷ xs) d l m = absurd (omega arith)

pub edge_is : (auto : Automaton) (s : ℕ) (edge : Edge) → edges_from s auto.edges ≡ edge ∷ [] → IsOnlyEdge auto (s ∷ []) edge
edge_is auto s edge is e = (
  λ (a, f). sym (Contains-one edge e (subst (λ (z : List Edge). Contains z e) is (from_among s auto.edges e a (sym (Contains-one s e.from f))))),
  λ q.
      let (a, f) = among_from s auto.edges edge (subst (λ (z : List Edge). Contains z edge) (sym is) (here [])) in
      subst (λ (z : Edge). LeavesSet auto (s ∷ []) z) (sym q) (a, subst (λ (z : ℕ). Contains (s ∷ []) z) (sym f) (here [])),
)

pub class_of_bytes : (low high : ℕ) (target : Label) → low ≤ high → high < 256 → IsUncut target low (high + 1) → IsOnlyClass (label.Bytes low high) target (symbol.Bytes low high)
class_of_bytes low high target l b uncut = record { formed = (l, b); takes = takes; alike = alike }
  where
    takes : (c : Cell) → Takes (holds is_itself) (label.Bytes low high) c ↔ HasCell (symbol.Bytes low high) c
    takes (cell.Byte n) = (λ (y, lo, hi, e). let z = ap byte_at e in (omega arith, omega arith), λ (lo, hi). (n, lo, hi, refl))
    takes cell.Uninit = (λ (y, lo, hi, e). cc, λ h. absurd h)
    takes (cell.Ptr r k) = (λ (y, lo, hi, e). cc, λ h. absurd h)

    own : IsUncut (label.Bytes low high) low (high + 1)
    own = (λ h. omega arith, λ h. omega arith)

    alike : (A : ℕ → ℕ → Bool) (c : Cell) (m : Label) → HasCell (symbol.Bytes low high) c → (m ≡ label.Bytes low high) ⊎ (m ≡ target) → passes A m (symbol.Bytes low high) ≡ passes A m (symbol_of c)
    alike A (cell.Byte n) m (lo, hi) (inl e) = passes_range A m low high n (subst (λ (z : Label). IsUncut z low (high + 1)) (sym e) own) lo hi b
    alike A (cell.Byte n) m (lo, hi) (inr e) = passes_range A m low high n (subst (λ (z : Label). IsUncut z low (high + 1)) (sym e) uncut) lo hi b
    alike A cell.Uninit m h e = absurd h
    alike A (cell.Ptr r k) m h e = absurd h

pub class_of_leaf : (r : RefId) (k : ℕ) (target : Label) → IsOnlyClass (label.Leaf r k) target (symbol.Ptr r k)
class_of_leaf r k target = record {
  formed = tt;
  takes = λ c. (takes c, λ h. (r.0, eq-eqb r.0 r.0 refl, h));
  alike = λ A c m h e. subst (λ (z : Cell). passes A m (symbol.Ptr r k) ≡ passes A m (symbol_of z)) (sym h) refl;
}
  where
    takes : (c : Cell) → Takes (holds is_itself) (label.Leaf r k) c → c ≡ cell.Ptr r k
    takes (cell.Byte n) (y, p, e) = cc
    takes cell.Uninit (y, p, e) = cc
    takes (cell.Ptr s j) t = let q = passes_own (label.Leaf r k) s j ((passes_takes is_itself (label.Leaf r k) (cell.Ptr s j)).1 t) in cc

module _ (src : Automaton) (from : List ℕ) (dst : Automaton) (to : List ℕ) (e f : Edge) (x : Symbol) (one : IsOnlyEdge src from e) (two : IsOnlyEdge dst to f) (k : IsOnlyClass e.label f.label x) where
  pub only_classes : AreClasses src from dst to (x ∷ [])
  only_classes = record {
    formed = λ y m. subst IsFormed (Contains-one x y m) k.formed;
    ordered = (λ y c d m. absurd (Contains-none _ m), tt);
    covers = λ c. (
      λ (g, leaves, t). (x, here [], (k.takes c).0 (subst (λ (z : Edge). Takes (holds is_itself) z.label c) ((one g).0 leaves) t)),
      λ (y, m, h). (e, (one e).1 refl, (k.takes c).1 (subst (λ (z : Symbol). HasCell z c) (sym (Contains-one x y m)) h)),
    );
    alike = λ A y c g m h leaves.
        let has = subst (λ (z : Symbol). HasCell z c) (sym (Contains-one x y m)) h in
        let which : (g.label ≡ e.label) ⊎ (g.label ≡ f.label) = elim leaves [ inl l ↦ inl (ap (λ (z : Edge). z.label) ((one g).0 l)) | inr l ↦ inr (ap (λ (z : Edge). z.label) ((two g).0 l)) ] in
        subst (λ (z : Symbol). passes A g.label z ≡ passes A g.label (symbol_of c)) (Contains-one x y m) (k.alike A c g.label has which);
  }

pub only_leads : (A : ℕ → ℕ → Bool) (auto : Automaton) (from : List ℕ) (e : Edge) (x : Symbol) (set : List ℕ) → IsOnlyEdge auto from e → set ≡ ends_of A e x → IsStep A auto from x set
only_leads A auto from e x set one is = elim (bool_cases (passes A e.label x)) [
  | inl p ↦ rw (is, p) (record {
    rising = search rules;
    states = λ s. (
      λ m. let (a, f) = (one e).1 refl in (e, a, f, p, Contains-one e.to s m),
      λ (g, a, f, q, t). subst (λ (z : ℕ). Contains (e.to ∷ []) z) (ap (λ (z : Edge). z.to) (sym ((one g).0 (a, f))) ∙ t) (here []),
    );
  })
  | inr p ↦ rw (is, p) (record {
    rising = search rules;
    states = λ s. (
      λ m. absurd (Contains-none _ m),
      λ (g, a, f, q, t). (let same = subst (λ (z : Edge). passes A z.label x ≡ true) ((one g).0 (a, f)) q in cc),
    );
  })
]
