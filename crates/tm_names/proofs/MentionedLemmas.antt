-- A named type that is written in a type is mentioned there.
use Rattle.std.proofs.Common.{◌≡◌, ℕ, refl, sym, subst, inl, inr, ⊎_elim, Some, List, length, map}
use Rattle.std.proofs.lemmas.Option.{none-some, same_Some}
use Rattle.tm_names.proofs.Members.{Member, behind, either, front}
use Rattle.tm_names.specs.declared.faults.mentions.Mention.{Mention}
use Rattle.tm_names.specs.declared.faults.mentions.Mention.TheVariants.{Name, Life}
use Rattle.tm_names.specs.declared.faults.mentions.NameMention.{NameMention}
use Rattle.tm_names.specs.Holding.{name_of}
use Rattle.tm_names.specs.Mentions.{mentions_of, row_items, row_mentions}
use Rattle.tm_parse.specs.Written.{written, row_written}
use Rattle.tm_parse.specs.declared.parsed.Expr.{Expr, Row_of-Expr, end_of-Expr, more_of-Expr, Prim, Never, Tuple', Array', NonZero, Wrap', Named', Ref'}

module _ (place : ℕ) where
  -- some mention of a name stands at the place
  abbrev IsNamedIn : List Mention → Type 0
  IsNamedIn mentions = (m : NameMention) × (m.place ≡ place) × Member (Name m) mentions

  -- a type itself is mentioned first
  here_mentioned : (e : Expr) → name_of e ≡ Some place → IsNamedIn (mentions_of e)
  unfolding mentions_of
  here_mentioned (Prim p) h = absurd (none-some place h)
  here_mentioned Never h = absurd (none-some place h)
  here_mentioned (Tuple' shape row) h = absurd (none-some place h)
  here_mentioned (Array' shape row n) h = absurd (none-some place h)
  here_mentioned (NonZero p) h = absurd (none-some place h)
  here_mentioned (Wrap' w shape row) h = absurd (none-some place h)
  here_mentioned (Named' there others shape row) h =
      (record { place = there; lifetimes = length others; types = length (row_items row) }, same_Some there place h, inl refl)
  here_mentioned (Ref' life mutable shape row) h = absurd (none-some place h)

  itself_mentioned : (e t : Expr) → e ≡ t → name_of t ≡ Some place → IsNamedIn (mentions_of e)
  itself_mentioned e t same h = here_mentioned e (subst (λ u. name_of u ≡ Some place) (sym same) h)

  mutual
    unfolding mentions_of written

    pub named_mentioned : (e t : Expr) → name_of t ≡ Some place → Member t (written e) → IsNamedIn (mentions_of e)
    named_mentioned (Prim p) t h m = ⊎_elim (λ e. itself_mentioned (Prim p) t e h) (λ n. absurd n) m
    named_mentioned Never t h m = ⊎_elim (λ e. itself_mentioned Never t e h) (λ n. absurd n) m
    named_mentioned (Tuple' shape row) t h m = ⊎_elim (λ e. itself_mentioned (Tuple' shape row) t e h) (λ n. named_among row t h n) m
    named_mentioned (Array' shape row n) t h m = ⊎_elim (λ e. itself_mentioned (Array' shape row n) t e h) (λ n. named_among row t h n) m
    named_mentioned (NonZero p) t h m = ⊎_elim (λ e. itself_mentioned (NonZero p) t e h) (λ n. absurd n) m
    named_mentioned (Wrap' w shape row) t h m = ⊎_elim (λ e. itself_mentioned (Wrap' w shape row) t e h) (λ n. named_among row t h n) m
    named_mentioned (Named' there others shape row) t h m =
        ⊎_elim (λ e. itself_mentioned (Named' there others shape row) t e h)
        (λ n. let found = named_among row t h n in (found.0, found.1, inr (behind (Name found.0) (map Life others) (row_mentions row) found.2))) m
    named_mentioned (Ref' life mutable shape row) t h m =
        ⊎_elim (λ e. itself_mentioned (Ref' life mutable shape row) t e h) (λ n. let found = named_among row t h n in (found.0, found.1, inr found.2)) m

    named_among : {n : _} (row : Row_of-Expr n) (t : Expr) → name_of t ≡ Some place → Member t (row_written row) → IsNamedIn (row_mentions row)
    named_among end_of-Expr t h m = absurd m
    named_among (more_of-Expr e es) t h m =
        ⊎_elim
        (λ n. let found = named_mentioned e t h n in (found.0, found.1, front (Name found.0) (mentions_of e) (row_mentions es) found.2))
        (λ n. let found = named_among es t h n in (found.0, found.1, behind (Name found.0) (mentions_of e) (row_mentions es) found.2))
        (either t (written e) (row_written es) m)
