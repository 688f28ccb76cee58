-- What the front of a text inside a comment does to the comments that stand open.
use Rattle.std.proofs.Common.{◌≡◌, ◌==◌, ℕ, suc, ◌+◌, ◌<◌, refl, sym, ap, ◌∙◌, false, ◌&&◌, Some, None, List, [], ◌∷◌, length, eqb-true, arith}
use Rattle.std.proofs.lemmas.Bool.{and_parts, false_from_ne_true}
use Rattle.tm_lex.specs.Comments.{is_opening}
use Rattle.tm_lex.specs.Marks.{behind_mark, behind_bodies}

add_one : (n : ℕ) → n + 1 ≡ suc n
add_one n = omega arith

pub at_closing : (text rest after : List ℕ) (c d : ℕ) → text ≡ c ∷ rest → rest ≡ d ∷ after → c ≡ 42 → d ≡ 47
    → (behind_bodies 0 text ≡ Some after) × ((depth : ℕ) → behind_bodies (depth + 1) text ≡ behind_bodies depth after)
    × (length text ≡ length after + 2)
unfolding behind_bodies
at_closing text rest after c d x y u v =
    let t : text ≡ 42 ∷ 47 ∷ after = x ∙ ap (λ z. c ∷ z) y ∙ ap (λ z. z ∷ d ∷ after) u ∙ ap (λ z. 42 ∷ z ∷ after) v in (
      ap (behind_bodies 0) t,
      λ depth. ap (behind_bodies (depth + 1)) t ∙ ap (λ n. behind_bodies n (42 ∷ 47 ∷ after)) (add_one depth),
      ap length t ∙ omega arith,
    )

pub at_opening : (text rest after : List ℕ) (c d : ℕ) → text ≡ c ∷ rest → rest ≡ d ∷ after → c ≡ 47 → d ≡ 42
    → ((depth : ℕ) → behind_bodies depth text ≡ behind_bodies (depth + 1) after) × (length text ≡ length after + 2)
unfolding behind_bodies
at_opening text rest after c d x y u v =
    let t : text ≡ 47 ∷ 42 ∷ after = x ∙ ap (λ z. c ∷ z) y ∙ ap (λ z. z ∷ d ∷ after) u ∙ ap (λ z. 47 ∷ z ∷ after) v in
    (λ depth. ap (behind_bodies depth) t ∙ ap (λ n. behind_bodies n after) (sym (add_one depth)), ap length t ∙ omega arith)

not_both : (c d a b : ℕ) → (c ≡ a → d ≡ b → ⊥) → (c == a && d == b) ≡ false
not_both c d a b h = false_from_ne_true (c == a && d == b)
    (λ t. let parts = and_parts (c == a) (d == b) t in h (eqb-true c a parts.0) (eqb-true d b parts.1))

pub at_other : (text rest after : List ℕ) (c d : ℕ) → text ≡ c ∷ rest → rest ≡ d ∷ after
    → (c ≡ 42 → d ≡ 47 → ⊥) → (c ≡ 47 → d ≡ 42 → ⊥)
    → ((depth : ℕ) → behind_bodies depth text ≡ behind_bodies depth rest) × (length text ≡ length rest + 1)
unfolding behind_bodies
at_other text rest after c d x y u v =
    let t : text ≡ c ∷ d ∷ after = x ∙ ap (λ z. c ∷ z) y in (
      λ depth. ap (behind_bodies depth) t
          ∙ ap (λ b. behind_mark b (is_opening c d) depth after (λ n. behind_bodies n after) (behind_bodies depth (d ∷ after))) (not_both c d 42 47 u)
          ∙ ap (λ b. behind_mark false b depth after (λ n. behind_bodies n after) (behind_bodies depth (d ∷ after))) (not_both c d 47 42 v)
          ∙ ap (behind_bodies depth) (sym y),
      ap length x ∙ omega arith,
    )

-- less than two characters close nothing
pub at_end : (text : List ℕ) → length text < 2 → (depth : ℕ) → behind_bodies depth text ≡ None
unfolding behind_bodies
at_end [] l depth = refl
at_end (c ∷ []) l depth = refl
at_end (c ∷ d ∷ text) l depth = absurd (omega arith)
