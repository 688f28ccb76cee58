-- The head of a type with its numbers is in form.
use Rattle.std.proofs.Common.{◌≡◌, ℕ, suc, true, refl, List, ◌∷◌, length, arith}
use Rattle.std.proofs.lemmas.Bool.{lt-ltb}
use Rattle.tm_base.specs.declared.ground.Ground.{Ground, out-Ground}
use Rattle.tm_base.specs.declared.ground.Ground.TheVariants as ground_is
use Rattle.tm_base.specs.Whole.{is_head_in_form}
use Rattle.tm_ground.specs.Closed.{Closed, prim, never, tuple, array, nonzero, wrap, named, ref, no_elements, element}
use Rattle.tm_ground.specs.Numbered.{IsNumbered}
use Rattle.tm_ground.proofs.finding.ContainsLemmas.{get_or-from_get}
use Rattle.tm_ground.proofs.forms.FormLemmas.{is_known}

module _ (types refs : List Closed) (defs regions : ℕ) where
  pub head-in_form : (c : Closed) (g : Ground) → IsNumbered types refs c g → is_known defs regions c ≡ true → is_head_in_form (length types) (length refs) (out-Ground g) ≡ true
  unfolding IsNumbered is_known
  head-in_form (prim p) g h k = rw (h, ground_is.outs-Prim p) refl
  head-in_form never g h k = rw (h, ground_is.outs-Never) refl
  head-in_form (tuple no_elements) g h k = rw (h, ground_is.outs-Unit) refl
  head-in_form (tuple (element c cs)) g (x, xs, e, a, b) k = rw (e, ground_is.outs-Tuple (x ∷ xs)) (lt-ltb 0 (suc (length xs)) (omega arith))
  head-in_form (array c n) g (x, e, a) k = rw (e, ground_is.outs-Array x n) refl
  head-in_form (nonzero p) g h k = rw (h, ground_is.outs-NonZero p) k
  head-in_form (wrap w c) g (x, e, a) k = rw (e, ground_is.outs-Wrap w x) refl
  head-in_form (named def rs args) g (id, e, at) k = rw (e, ground_is.outs-Named id) (lt-ltb id.0 (length types) (get_or-from_get types id.0 _ at).0)
  head-in_form (ref region mutable c) g (r, e, at) k = rw (e, ground_is.outs-Ref r) (lt-ltb r.0 (length refs) (get_or-from_get refs r.0 _ at).0)
