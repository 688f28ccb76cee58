-- The texts of types by their pieces, and what the front of a text tells of the rest.
use Rattle.std.proofs.Common.{◌≡◌, ℕ, ◌==◌, Bool, false, true≢false, if◌then◌else◌, refl, ap, subst, ◌∙◌, List, [], ◌∷◌, ◌++◌, append_assoc}
use Rattle.std.specs.Prelude.{codes}
use Rattle.tm_base.specs.Texts.{applied, behind_commas, separated, tuple_text}
use Rattle.tm_ground.proofs.texts.WordLemmas.{EndsType}

pub tail-same : {a b : ℕ} {xs ys : List ℕ} → a ∷ xs ≡ b ∷ ys → xs ≡ ys
tail-same e = cc

pub tails-same : {a b c d : ℕ} {xs ys : List ℕ} → a ∷ c ∷ xs ≡ b ∷ d ∷ ys → xs ≡ ys
tails-same e = cc

pub head-same : {a b : ℕ} {xs ys : List ℕ} → a ∷ xs ≡ b ∷ ys → a ≡ b
head-same e = cc

pub end-comma : (a : ℕ) (xs ys : List ℕ) → (a == 44) ≡ false → a ∷ xs ≡ 44 ∷ ys → ⊥
end-comma a xs ys n e = true≢false (subst (λ k. (k == 44) ≡ false) (head-same e) n)

-- two texts of which one begins with what can't end a type
pub ends-apart : (r x : List ℕ) → EndsType r → r ≡ 60 ∷ x → ⊥
ends-apart [] x h e = cc
ends-apart (b ∷ bs) x h e = true≢false (subst (λ k. (k == 60) ≡ false) (head-same e) h.1)

pub space-apart : (r x : List ℕ) → EndsType r → r ≡ 32 ∷ x → ⊥
space-apart [] x h e = cc
space-apart (b ∷ bs) x h e = true≢false (subst (λ k. (k == 32) ≡ false) (head-same e) h.2)

pub less-space : (xs ys : List ℕ) → 60 ∷ xs ≡ 32 ∷ ys → ⊥
less-space xs ys e = cc

pub comma-apart : (xs ys : List ℕ) → 44 ∷ 41 ∷ xs ≡ 44 ∷ 32 ∷ ys → ⊥
comma-apart xs ys e = cc

-- texts with a comma and a space before each, and then an end
abbrev pub behind : List (List ℕ) → List ℕ → List ℕ
behind [] end = end
behind (t ∷ ts) end = 44 ∷ 32 ∷ (t ++ behind ts end)

commas-behind : (ts : List (List ℕ)) (end : List ℕ) → behind_commas ts ++ end ≡ behind ts end
commas-behind [] end = refl
commas-behind (t ∷ ts) end = ap (λ xs. 44 ∷ 32 ∷ xs) (append_assoc t (behind_commas ts) end ∙ ap (λ xs. t ++ xs) (commas-behind ts end))

pub separated-behind : (t : List ℕ) (ts : List (List ℕ)) (end : List ℕ) → separated (t ∷ ts) ++ end ≡ t ++ behind ts end
separated-behind t ts end = append_assoc t (behind_commas ts) end ∙ ap (λ xs. t ++ xs) (commas-behind ts end)

pub applied-text : (name argument r : List ℕ) → applied name argument ++ r ≡ name ++ (60 ∷ (argument ++ (62 ∷ r)))
applied-text name argument r = simp append_assoc

-- what stands in the brackets of a tuple, and what follows them
abbrev pub inside : List (List ℕ) → List ℕ → List ℕ
inside [] r = 41 ∷ r
inside (t ∷ []) r = t ++ (44 ∷ 41 ∷ r)
inside (t ∷ u ∷ us) r = t ++ behind (u ∷ us) (41 ∷ r)

pub tuple-inside : (ts : List (List ℕ)) (r : List ℕ) → tuple_text ts ++ r ≡ 40 ∷ inside ts r
tuple-inside [] r = refl
tuple-inside (t ∷ []) r = ap (λ xs. 40 ∷ xs) (append_assoc t (codes ",)") r)
tuple-inside (t ∷ u ∷ us) r = ap (λ xs. 40 ∷ xs) (append_assoc (separated (t ∷ u ∷ us)) (codes ")") r ∙ separated-behind t (u ∷ us) (41 ∷ r))

pub array-text : (t digits r : List ℕ) → (codes "[" ++ t ++ codes "; " ++ digits ++ codes "]") ++ r ≡ 91 ∷ (t ++ (59 ∷ 32 ∷ (digits ++ (93 ∷ r))))
array-text t digits r = simp append_assoc

abbrev pub mark_of : Bool → List ℕ
mark_of mutable = if mutable then codes " mut " else codes " "

pub ref-text : (region : List ℕ) (mutable : Bool) (t r : List ℕ) → (codes "&" ++ region ++ mark_of mutable ++ t) ++ r ≡ 38 ∷ (region ++ (mark_of mutable ++ (t ++ r)))
ref-text region mutable t r = simp append_assoc
