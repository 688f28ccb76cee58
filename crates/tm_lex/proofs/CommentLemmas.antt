-- The body of a block comment is read to its end, and nothing else is.
use Rattle.std.proofs.Common.{◌≡◌, ◌==◌, ℕ, zero, suc, ◌<◌, refl, sym, ap, ◌∙◌, subst, Bool, true, false, Option, Some, List, [], ◌∷◌, ◌++◌, length, append_assoc, eqb-true, arith}
use Rattle.std.proofs.lemmas.Bool.{and_parts}
use Rattle.tm_lex.specs.Comments.{is_opening, is_closing, NoMark, IsBody, closing, nested, other}
use Rattle.tm_lex.specs.Marks.{behind_mark, behind_bodies}

-- what is left to do once a body is read: nothing, or the body around it
abbrev pub behind_outer : ℕ → List ℕ → Option (List ℕ)
behind_outer zero rest = Some rest
behind_outer (suc depth) rest = behind_bodies depth rest

not_empty : (body : List ℕ) → IsBody body → body ≡ [] → ⊥
not_empty _ closing e = cc
not_empty _ (nested u v h k) e = cc
not_empty _ (other c u n h) e = cc

pub body_is_read : (body : List ℕ) (depth : ℕ) (rest : List ℕ) → IsBody body
    → behind_bodies depth (body ++ rest) ≡ behind_outer depth rest
unfolding behind_bodies
body_is_read _ zero rest closing = refl
body_is_read _ (suc depth) rest closing = refl
body_is_read _ depth rest (nested u v h k) =
    ap (behind_bodies (suc depth)) (append_assoc u v rest) ∙ body_is_read u (suc depth) (v ++ rest) h ∙ body_is_read v depth rest k
body_is_read _ depth rest (other c [] n h) = absurd (not_empty [] h refl)
body_is_read _ depth rest (other c (d ∷ u) n h) =
    ap (λ b. behind_mark b (is_opening c d) depth (u ++ rest) (λ m. behind_bodies m (u ++ rest)) (behind_bodies depth (d ∷ (u ++ rest)))) n.1
    ∙ ap (λ b. behind_mark false b depth (u ++ rest) (λ m. behind_bodies m (u ++ rest)) (behind_bodies depth (d ∷ (u ++ rest)))) n.0
    ∙ body_is_read (d ∷ u) depth rest h

-- the bodies of depth + 1 comments, one in another, from the innermost on
abbrev Bodies : ℕ → List ℕ → Type 0
Bodies zero w = IsBody w
Bodies (suc depth) w = (u : List ℕ) × (v : List ℕ) × IsBody u × Bodies depth v × (w ≡ u ++ v)

abbrev Found : ℕ → List ℕ → List ℕ → Type 0
Found depth text rest = (w : List ℕ) × Bodies depth w × (text ≡ w ++ rest)

nest : (depth : ℕ) (u v : List ℕ) → IsBody u → Bodies depth v → Bodies depth (47 ∷ 42 ∷ (u ++ v))
nest zero u v h k = nested u v h k
nest (suc depth) u v h (x, y, i, j, e) =
    (47 ∷ 42 ∷ (u ++ x), y, nested u x h i, j, ap (λ t. 47 ∷ 42 ∷ (u ++ t)) e ∙ ap (λ t. 47 ∷ 42 ∷ t) (sym (append_assoc u x y)))

no_mark_before : (c : ℕ) (u v : List ℕ) → NoMark c (u ++ v) → NoMark c u
no_mark_before c [] v h = tt
no_mark_before c (d ∷ u) v h = h

go_on : (depth c : ℕ) (w : List ℕ) → NoMark c w → Bodies depth w → Bodies depth (c ∷ w)
go_on zero c w n h = other c w n h
go_on (suc depth) c w n (u, v, i, j, e) =
    (c ∷ u, v, other c u (no_mark_before c u v (subst (NoMark c) e n)) i, j, ap (λ t. c ∷ t) e)

bodies_not_empty : (depth : ℕ) → Bodies depth [] → ⊥
bodies_not_empty zero h = not_empty [] h refl
bodies_not_empty (suc depth) ([], v, i, j, e) = not_empty [] i refl
bodies_not_empty (suc depth) (c ∷ u, v, i, j, e) = cc

found_other : (depth c d : ℕ) (text rest : List ℕ) → is_closing c d ≡ false → is_opening c d ≡ false
    → Found depth (d ∷ text) rest → Found depth (c ∷ d ∷ text) rest
found_other depth c d text rest x y ([], i, q) = absurd (bodies_not_empty depth i)
found_other depth c d text rest x y (e ∷ w, i, q) = let same : d ≡ e = cc in
    (c ∷ e ∷ w, go_on depth c (e ∷ w) (subst (λ t. is_opening c t ≡ false) same y, subst (λ t. is_closing c t ≡ false) same x) i, ap (λ t. c ∷ t) q)

found_opening : (depth c d : ℕ) (text rest : List ℕ) → is_opening c d ≡ true
    → Found (suc depth) text rest → Found depth (c ∷ d ∷ text) rest
found_opening depth c d text rest o (w, (u, v, i, j, q), t) =
    let parts = and_parts (c == 47) (d == 42) o in let a = eqb-true c 47 parts.0 in let b = eqb-true d 42 parts.1 in (
      47 ∷ 42 ∷ (u ++ v),
      nest depth u v i j,
      ap (λ x. x ∷ d ∷ text) a ∙ ap (λ x. 47 ∷ x ∷ text) b ∙ ap (λ x. 47 ∷ 42 ∷ x) (t ∙ ap (λ x. x ++ rest) q),
    )

ends : (c d : ℕ) (text : List ℕ) → is_closing c d ≡ true → c ∷ d ∷ text ≡ 42 ∷ 47 ∷ text
ends c d text o = let parts = and_parts (c == 42) (d == 47) o in
    ap (λ x. x ∷ d ∷ text) (eqb-true c 42 parts.0) ∙ ap (λ x. 42 ∷ x ∷ text) (eqb-true d 47 parts.1)

found : (n depth : ℕ) (text rest : List ℕ) → length text < n → behind_bodies depth text ≡ Some rest → Found depth text rest
unfolding behind_bodies
found zero depth text rest l h = absurd (omega arith)
found (suc n) depth [] rest l h = absurd cc
found (suc n) depth (c ∷ []) rest l h = absurd cc
found (suc n) depth (c ∷ d ∷ text) rest l h =
    by (is_closing c d) (is_opening c d) depth refl refl (λ m k. found n m text rest (omega arith) k) (λ m k. found n m (d ∷ text) rest (omega arith) k) h
  where
    by : (x y : Bool) (depth : ℕ) → is_closing c d ≡ x → is_opening c d ≡ y
        → ((m : ℕ) → behind_bodies m text ≡ Some rest → Found m text rest)
        → ((m : ℕ) → behind_bodies m (d ∷ text) ≡ Some rest → Found m (d ∷ text) rest)
        → behind_mark x y depth text (λ m. behind_bodies m text) (behind_bodies depth (d ∷ text)) ≡ Some rest
        → Found depth (c ∷ d ∷ text) rest
    by true y zero x1 y1 again next h = (42 ∷ 47 ∷ [], closing, ends c d text x1 ∙ ap (λ t. 42 ∷ 47 ∷ t) (let a : text ≡ rest = cc in a))
    by true y (suc depth) x1 y1 again next h = let f = again depth h in
        (42 ∷ 47 ∷ f.0, (42 ∷ 47 ∷ [], f.0, closing, f.1, refl), ends c d text x1 ∙ ap (λ t. 42 ∷ 47 ∷ t) f.2)
    by false true depth x1 y1 again next h = found_opening depth c d text rest y1 (again (suc depth) h)
    by false false depth x1 y1 again next h = found_other depth c d text rest x1 y1 (next depth h)

-- where a rest is answered, a body stands before it
pub body_found : (text rest : List ℕ) → behind_bodies 0 text ≡ Some rest → (body : List ℕ) × IsBody body × (text ≡ body ++ rest)
body_found text rest h = let f = found (suc (length text)) 0 text rest (omega arith) h in f
