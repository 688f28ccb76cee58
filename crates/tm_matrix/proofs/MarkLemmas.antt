-- What is known of a type, and the marks that follow.
use Rattle.std.proofs.Common.{◌≡◌, ◌↔◌, ℕ, suc, length, refl, sym, ap, ◌∙◌, Bool, true, Option, None, Some, [], ◌∷◌}
use Rattle.std.specs.List.{list_all}
use Rattle.std.specs.Prelude.{IsTrue, is_none}
use Rattle.std.proofs.lemmas.Bool.{and_from, both_ways}
use Rattle.tm_base.specs.declared.answer.Why.{Why}
use Rattle.tm_base.specs.declared.ground.Ground.{Ground, out-Ground, Prim}
use Rattle.tm_base.specs.declared.ground.Ground.TheVariants.{outs-Prim, outs-Array}
use Rattle.tm_base.specs.declared.ground.Primitive.TheVariants.{U8}
use Rattle.tm_base.specs.Expanded.{array, expanded_within, level, prim}
use Rattle.tm_base.specs.Faults.{has_no_layout}
use Rattle.tm_base.specs.Parts.{some_part, is_whole}
use Rattle.tm_base.specs.Reaches.{IsJudged}
use Rattle.tm_base.specs.Tables.{Tables, expanded_in}
use Rattle.tm_base.specs.Whole.{is_head_in_form, is_type_over, written_types}
use Rattle.tm_base.specs.Worlds.{IsTypeOver}
use Rattle.tm_base.proofs.GroundLemmas.{written_types-Array}
use Rattle.tm_layout.specs.Named.{IsRefusedAnswer}
use Rattle.tm_matrix.specs.declared.known.Known.{Known}
use Rattle.tm_matrix.specs.declared.marks.Mark.TheVariants.{Refused}
use Rattle.tm_matrix.specs.Known.{IsKnown}
use Rattle.tm_matrix.specs.Matrix.{AreEnds, bytes}
use Rattle.tm_base.proofs.HeldLemmas.{judged-laid_out}

module _ (tables : Tables) where
  -- a type is judged where none at fault is found
  pub none-judged : (g : Ground) (found : Option (Why × Ground)) → IsRefusedAnswer tables g found → IsTrue (is_none found) ↔ IsJudged tables g
  none-judged g None judged = (λ h. judged, λ h. refl)
  none-judged g (Some found) first = (λ h. cc, λ judged. absurd (differ (sym first.at_fault ∙ judged found.1 first.reached))) where
    differ : Some found.0 ≡ None → ⊥
    differ e = cc

  -- a type without a layout is refused on both sides
  pub no_layout-ends : (known : Known) → IsKnown tables known → has_no_layout (expanded_in tables known.ground) ≡ true → AreEnds tables known.ground (Refused, Refused)
  no_layout-ends known is h = (λ judged. unjudged judged.target_judged, λ judged. unjudged judged.source_judged) where
    unjudged : IsJudged tables known.ground → ⊥
    unjudged judged = both_ways _ (judged-laid_out tables known.ground is.over judged) h

  byte-written : written_types (Prim U8) ≡ Prim U8 ∷ []
  unfolding written_types
  byte-written = refl

  abbrev head : Ground → Bool
  head h = is_head_in_form (length tables.named) (length tables.refs) (out-Ground h)

  bytes-formed : (n : ℕ) → list_all head (written_types (bytes n)) ≡ true
  bytes-formed n =
      ap (list_all head) (written_types-Array (Prim U8) n ∙ ap (λ ts. bytes n ∷ ts) byte-written)
      ∙ and_from (head (bytes n)) _ (ap (is_head_in_form (length tables.named) (length tables.refs)) (outs-Array (Prim U8) n))
      (and_from (head (Prim U8)) true (ap (is_head_in_form (length tables.named) (length tables.refs)) (outs-Prim U8)) refl)

  byte-at : (k : ℕ) → expanded_within tables.profile (suc k) tables.defs tables.named (Prim U8) ≡ prim tables.profile U8
  unfolding expanded_within
  byte-at k = ap (level (expanded_within tables.profile k tables.defs tables.named) tables.profile tables.defs tables.named) (outs-Prim U8)

  bytes-at : (n k : ℕ) → expanded_within tables.profile (suc (suc k)) tables.defs tables.named (bytes n) ≡ array (prim tables.profile U8) n
  unfolding expanded_within
  bytes-at n k =
      ap (level (expanded_within tables.profile (suc k) tables.defs tables.named) tables.profile tables.defs tables.named) (outs-Array (Prim U8) n) ∙ ap (λ t. array t n) (byte-at k)

  bytes-whole : (n : ℕ) → is_whole (expanded_in tables (bytes n)) ≡ true
  unfolding some_part
  bytes-whole n = ap is_whole (bytes-at n 62)

  -- an array of bytes is a type over each world
  pub bytes-over : (n : ℕ) → IsTypeOver tables (bytes n)
  unfolding is_type_over
  bytes-over n = and_from _ _ (bytes-formed n) (bytes-whole n)
