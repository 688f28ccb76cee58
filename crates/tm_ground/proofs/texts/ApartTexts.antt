-- Where names are apart, two closed types with one canonical text are one type.
use Rattle.std.proofs.Common.{◌≡◌, ℕ, ◌<◌, ◌^◌, ◌==◌, Bool, true, false, true≢false, refl, sym, ap, subst, ◌∙◌, List, [], ◌∷◌, ◌++◌, map, length, append-nil, Some}
use Rattle.std.specs.Prelude.{codes, decimal}
use Rattle.std.proofs.lemmas.Fmt.{decimal_injective}
use Rattle.std.proofs.lemmas.List.{append_cancel_left}
use Rattle.tm_base.specs.declared.definition.Def.{Def}
use Rattle.tm_base.specs.declared.definition.DefId.{DefId}
use Rattle.tm_base.specs.declared.definition.RegionId.{RegionId}
use Rattle.tm_base.specs.declared.ground.Primitive.{Primitive}
use Rattle.tm_base.specs.declared.ground.Primitive.TheVariants as primitive
use Rattle.tm_base.specs.declared.ground.Wrapper.{Wrapper}
use Rattle.tm_base.specs.declared.ground.Wrapper.TheVariants as wrapper
use Rattle.tm_base.specs.Texts.{def_text, prim_text, separated, wrapper_text}
use Rattle.tm_names.specs.declared.resolved.Resolved.{Resolved}
use Rattle.tm_names.specs.ApartNames.{is_word_byte, is_quoted, HasApartNames}
use Rattle.tm_ground.specs.Closed.{Closed, Elements, prim, never, tuple, array, nonzero, wrap, named, ref, no_elements, element}
use Rattle.tm_ground.specs.ClosedTexts.{closed_text, closed_texts}
use Rattle.tm_ground.proofs.texts.NameLemmas.{name_in, def-there, region, name_of, region-word, region-quoted, same-region, same-def, own, own-word, own-bare}
use Rattle.tm_ground.proofs.texts.PieceLemmas.{tail-same, tails-same, end-comma, ends-apart, space-apart, less-space, comma-apart, behind, separated-behind, applied-text, inside, tuple-inside, array-text, mark_of, ref-text}
use Rattle.tm_ground.proofs.texts.WordLemmas.{EndsType, StopsWord, ends-stops, same-word, word-bytes, decimal-bytes, Reading, a_mark, a_prim, a_nonzero, a_wrapper, a_name, read_head, kind_of, look, read-word, prim-kind, prim-word, wrapper-kind, wrapper-word, nonzero-kind, nonzero-word, own-kind, quoted-front, unlike}

same-name : {w v : List ℕ} → a_name w ≡ a_name v → w ≡ v
same-name e = cc

same-wrapper : {w v : Wrapper} → a_wrapper w ≡ a_wrapper v → w ≡ v
same-wrapper e = cc

same-prims : {p q : Primitive} → a_prim p ≡ a_prim q → p ≡ q
same-prims e = cc

same-prim : (p q : Primitive) → prim_text p ≡ prim_text q → p ≡ q
same-prim p q e =
    same-prims (sym (prim-kind p) ∙ ap kind_of e ∙ prim-kind q)

behind-ends : (ts : List (List ℕ)) (b : ℕ) (bs : List ℕ) → EndsType (b ∷ bs) → EndsType (behind ts (b ∷ bs))
unfolding is_word_byte
behind-ends [] b bs h = h
behind-ends (t ∷ ts) b bs h = (refl, refl, refl)

ends-with : (r : List ℕ) → EndsType (41 ∷ r) × EndsType (62 ∷ r) × EndsType (59 ∷ r) × EndsType (44 ∷ r)
unfolding is_word_byte
ends-with r = ((refl, refl, refl), (refl, refl, refl), (refl, refl, refl), (refl, refl, refl))

mark-stops : (mutable : Bool) (r : List ℕ) → StopsWord (mark_of mutable ++ r)
unfolding is_word_byte
mark-stops true r = refl
mark-stops false r = refl

stops-93 : (r : List ℕ) → StopsWord (93 ∷ r)
unfolding is_word_byte
stops-93 r = refl

bracket-read : (x : List ℕ) → read_head (41 ∷ x) ≡ a_mark 41
unfolding is_word_byte
bracket-read x = refl

mut-read : (x : List ℕ) → read_head (codes "mut" ++ (32 ∷ x)) ≡ a_name (codes "mut")
unfolding is_word_byte kind_of look
mut-read x = refl

prim-bare : (p : Primitive) → is_quoted (prim_text p) ≡ false
prim-bare primitive.Bool = refl
prim-bare _ = refl

wrapper-bare : (w : Wrapper) → is_quoted (wrapper_text w) ≡ false
wrapper-bare wrapper.Option = refl
wrapper-bare _ = refl

module _ (resolved : Resolved) where
  abbrev text : Closed → List ℕ
  text = closed_text resolved

  abbrev pub AreKnown : List RegionId → Type 0
  AreKnown [] = Unit {0}
  AreKnown (g ∷ gs) = (g.0 < length resolved.regions) × AreKnown gs

  -- its numbers name definitions and regions, and lengths of arrays are below 2 ^ 64
  unfoldable mutual
    pub IsTold : Closed → Type 0
    IsTold (tuple cs) = AreTold cs
    IsTold (array c n) = (n < 2 ^ 64) × IsTold c
    IsTold (wrap w c) = IsTold c
    IsTold (named def gs cs) = (def.0 < length resolved.defs) × AreKnown gs × AreTold cs
    IsTold (ref g mutable c) = (g.0 < length resolved.regions) × IsTold c
    IsTold c = Unit {0}

    pub AreTold : Elements → Type 0
    AreTold no_elements = Unit {0}
    AreTold (element c cs) = IsTold c × AreTold cs

  -- what a named type is given, and what follows it
  abbrev given : List (List ℕ) → List ℕ → List ℕ
  given [] r = r
  given (t ∷ ts) r = 60 ∷ (t ++ behind ts (62 ∷ r))

  abbrev texts_given : List RegionId → Elements → List (List ℕ)
  texts_given gs cs = map (region resolved) gs ++ closed_texts resolved cs

  def-given : (d : Def) (ts : List (List ℕ)) (r : List ℕ) → def_text (Some d) ts ++ r ≡ d.name ++ given ts r
  def-given d [] r = refl
  def-given d (t ∷ ts) r = applied-text d.name (separated (t ∷ ts)) r ∙ ap (λ xs. d.name ++ (60 ∷ xs)) (separated-behind t ts (62 ∷ r))

  named-given : (def : DefId) (gs : List RegionId) (cs : Elements) (r : List ℕ) → def.0 < length resolved.defs → text (named def gs cs) ++ r ≡ name_of resolved def ++ given (texts_given gs cs) r
  unfolding closed_text
  named-given def gs cs r l =
      let (d, at) = def-there resolved.defs def.0 l in
      ap (λ o. def_text o (texts_given gs cs) ++ r) at ∙ def-given d (texts_given gs cs) r ∙ ap (λ o. name_in o ++ given (texts_given gs cs) r) (sym at)

  given-stops : (ts : List (List ℕ)) (r : List ℕ) → EndsType r → StopsWord (given ts r)
  unfolding is_word_byte
  given-stops [] r s = ends-stops r s
  given-stops (t ∷ ts) r s = refl

  -- what stands in the brackets
  given-behind : (ts us : List (List ℕ)) (r s : List ℕ) → EndsType r → EndsType s → given ts r ≡ given us s → behind ts (62 ∷ r) ≡ behind us (62 ∷ s)
  given-behind [] [] r s f g e = ap (λ xs. 62 ∷ xs) e
  given-behind [] (u ∷ us) r s f g e = absurd (ends-apart r _ f e)
  given-behind (t ∷ ts) [] r s f g e = absurd (ends-apart s _ g (sym e))
  given-behind (t ∷ ts) (u ∷ us) r s f g e = ap (λ xs. 44 ∷ 32 ∷ xs) (tail-same e)

  -- what a type is told by
  abbrev reading_of : Closed → Reading
  reading_of (prim p) = a_prim p
  reading_of never = a_mark 33
  reading_of (tuple cs) = a_mark 40
  reading_of (array c n) = a_mark 91
  reading_of (nonzero p) = a_nonzero
  reading_of (wrap w c) = a_wrapper w
  reading_of (named def gs cs) = a_name (name_of resolved def)
  reading_of (ref g mutable c) = a_mark 38

  module _ (names : HasApartNames resolved) where
    reads : (c : Closed) (r : List ℕ) → IsTold c → EndsType r → read_head (text c ++ r) ≡ reading_of c
    unfolding closed_text IsTold is_word_byte
    reads (prim p) r a f = read-word (prim_text p) r (prim-word p) (ends-stops r f) ∙ prim-kind p
    reads never r a f = refl
    reads (tuple cs) r a f = ap read_head (tuple-inside (closed_texts resolved cs) r)
    reads (array c n) r a f = ap read_head (array-text (text c) (decimal n) r)
    reads (nonzero p) r a f = ap read_head (applied-text (codes "NonZero") (prim_text p) r) ∙ read-word (codes "NonZero") (60 ∷ (prim_text p ++ (62 ∷ r))) nonzero-word refl ∙ nonzero-kind
    reads (wrap w c) r a f = ap read_head (applied-text (wrapper_text w) (text c) r) ∙ read-word (wrapper_text w) (60 ∷ (text c ++ (62 ∷ r))) (wrapper-word w) refl ∙ wrapper-kind w
    reads (named def gs cs) r a f =
        ap read_head (named-given def gs cs r a.0)
        ∙ read-word (name_of resolved def) (given (texts_given gs cs) r) (own-word resolved names def a.0) (given-stops (texts_given gs cs) r f)
        ∙ own-kind (name_of resolved def) (own resolved names def a.0)
    reads (ref g mutable c) r a f = ap read_head (ref-text (region resolved g) mutable (text c) r)

    -- two types at the front of one text are told by the same
    agree : (c d : Closed) (r s : List ℕ) → IsTold c → IsTold d → EndsType r → EndsType s → text c ++ r ≡ text d ++ s → reading_of c ≡ reading_of d
    agree c d r s a b f g e = sym (reads c r a f) ∙ ap read_head e ∙ reads d s b g

    -- no type begins with a quote, and each region does
    bare : (c : Closed) (r : List ℕ) → IsTold c → is_quoted (text c ++ r) ≡ false
    unfolding closed_text IsTold
    bare (prim p) r a = quoted-front (prim_text p) r (prim-word p) ∙ prim-bare p
    bare never r a = refl
    bare (tuple cs) r a = ap is_quoted (tuple-inside (closed_texts resolved cs) r)
    bare (array c n) r a = refl
    bare (nonzero p) r a = refl
    bare (wrap w c) r a = ap is_quoted (applied-text (wrapper_text w) (text c) r) ∙ quoted-front (wrapper_text w) _ (wrapper-word w) ∙ wrapper-bare w
    bare (named def gs cs) r a =
        ap is_quoted (named-given def gs cs r a.0) ∙ quoted-front (name_of resolved def) _ (own-word resolved names def a.0) ∙ own-bare resolved names def a.0
    bare (ref g mutable c) r a = refl

    no-region : (c : Closed) (g : RegionId) (r s : List ℕ) → IsTold c → g.0 < length resolved.regions → text c ++ r ≡ region resolved g ++ s → ⊥
    no-region c g r s a l e =
        true≢false (sym (quoted-front (region resolved g) s (region-word resolved names g l) ∙ region-quoted resolved names g l) ∙ ap is_quoted (sym e) ∙ bare c r a)

    no-region_first : (cs : Elements) (g : RegionId) (r s : List ℕ) → AreTold cs → g.0 < length resolved.regions → behind (closed_texts resolved cs) (62 ∷ r) ≡ 44 ∷ 32 ∷ (region resolved g ++ s) → ⊥
    unfolding closed_text IsTold
    no-region_first no_elements g r s a l e = end-comma 62 r _ refl e
    no-region_first (element c cs) g r s a l e = no-region c g _ s a.0 l (tails-same e)

    -- regions and then types behind commas are the same, where the types are
    same-behind : (gs hs : List RegionId) (cs ds : Elements) (r s : List ℕ) → AreKnown gs → AreKnown hs → AreTold cs → AreTold ds
        → (behind (closed_texts resolved cs) (62 ∷ r) ≡ behind (closed_texts resolved ds) (62 ∷ s) → (cs ≡ ds) × (r ≡ s))
        → behind (texts_given gs cs) (62 ∷ r) ≡ behind (texts_given hs ds) (62 ∷ s) → (gs ≡ hs) × (cs ≡ ds) × (r ≡ s)
    same-behind [] [] cs ds r s a b x y others e = (let (i, j) = others e in (refl, i, j))
    same-behind [] (h ∷ hs) cs ds r s a b x y others e = absurd (no-region_first cs h r _ x b.0 e)
    same-behind (g ∷ gs) [] cs ds r s a b x y others e = absurd (no-region_first ds g s _ y a.0 (sym e))
    same-behind (g ∷ gs) (h ∷ hs) cs ds r s a b x y others e =
        let rest : region resolved g ++ behind (texts_given gs cs) (62 ∷ r) ≡ region resolved h ++ behind (texts_given hs ds) (62 ∷ s) = tails-same e in
        let i = same-word (region resolved g) (region resolved h) _ _ (word-bytes _ (region-word resolved names g a.0)) (word-bytes _ (region-word resolved names h b.0)) (ends-stops _ (behind-ends (texts_given gs cs) 62 r (ends-with r).1)) (ends-stops _ (behind-ends (texts_given hs ds) 62 s (ends-with s).1)) rest in
        let k = same-region resolved names g h a.0 b.0 i.0 in
        let j = same-behind gs hs cs ds r s a.1 b.1 x y others i.1 in
        (ap (λ (x : RegionId). x ∷ gs) k ∙ ap (λ xs. h ∷ xs) j.0, j.1, j.2)

    same-named : (d : DefId) (gs : List RegionId) (cs : Elements) (e : DefId) (hs : List RegionId) (ds : Elements) (r s : List ℕ) → IsTold (named d gs cs) → IsTold (named e hs ds) → EndsType r → EndsType s
        → (behind (closed_texts resolved cs) (62 ∷ r) ≡ behind (closed_texts resolved ds) (62 ∷ s) → (cs ≡ ds) × (r ≡ s))
        → name_of resolved d ≡ name_of resolved e → text (named d gs cs) ++ r ≡ text (named e hs ds) ++ s → (named d gs cs ≡ named e hs ds) × (r ≡ s)
    unfolding IsTold
    same-named d gs cs e hs ds r s a b f g others n t =
        let whole : name_of resolved d ++ given (texts_given gs cs) r ≡ name_of resolved e ++ given (texts_given hs ds) s = sym (named-given d gs cs r a.0) ∙ t ∙ named-given e hs ds s b.0 in
        let rest = append_cancel_left (name_of resolved e) (given (texts_given gs cs) r) (given (texts_given hs ds) s) (subst (λ x. x ++ given (texts_given gs cs) r ≡ name_of resolved e ++ given (texts_given hs ds) s) n whole) in
        let i = same-behind gs hs cs ds r s a.1 b.1 a.2 b.2 others (given-behind (texts_given gs cs) (texts_given hs ds) r s f g rest) in
        let k = same-def resolved names d e a.0 b.0 n in
        (ap (λ (x : DefId). named x gs cs) k ∙ ap (λ xs. named e xs cs) i.0 ∙ ap (named e hs) i.1, i.2)

    -- a name that stands before a space begins no type
    no-name : (d : DefId) (gs : List RegionId) (cs : Elements) (s x w : List ℕ) → IsTold (named d gs cs) → EndsType s → name_of resolved d ≡ w → text (named d gs cs) ++ s ≡ w ++ (32 ∷ x) → ⊥
    unfolding IsTold
    no-name d gs cs s x w a g n t =
        let whole : name_of resolved d ++ given (texts_given gs cs) s ≡ w ++ (32 ∷ x) = sym (named-given d gs cs s a.0) ∙ t in
        by (texts_given gs cs) g (append_cancel_left w (given (texts_given gs cs) s) (32 ∷ x) (subst (λ y. y ++ given (texts_given gs cs) s ≡ w ++ (32 ∷ x)) n whole))
      where
        by : (ts : List (List ℕ)) → EndsType s → given ts s ≡ 32 ∷ x → ⊥
        by [] h e = space-apart s x h e
        by (u ∷ ts) h e = less-space _ x e

    reads-mut : (c : Closed) → reading_of c ≡ a_name (codes "mut") → (def : DefId) × (gs : List RegionId) × (cs : Elements) × (c ≡ named def gs cs) × (name_of resolved def ≡ codes "mut")
    reads-mut (named def gs cs) k = (def, gs, cs, refl, same-name k)
    reads-mut _ k = absurd (unlike k refl)

    not-mut : (d : Closed) (s x : List ℕ) → IsTold d → EndsType s → text d ++ s ≡ codes "mut" ++ (32 ∷ x) → ⊥
    not-mut d s x b g e =
        let (def, gs, cs, i, n) = reads-mut d (sym (reads d s b g) ∙ ap read_head e ∙ mut-read x) in
        no-name def gs cs s x (codes "mut") (subst IsTold i b) g n (subst (λ c. text c ++ s ≡ codes "mut" ++ (32 ∷ x)) i e)

    -- a bracket that closes begins no type
    reads-no-bracket : (c : Closed) → reading_of c ≡ a_mark 41 → ⊥
    reads-no-bracket (prim p) k = unlike k refl
    reads-no-bracket _ k = unlike k refl

    no-bracket : (d : Closed) (s x : List ℕ) → IsTold d → EndsType s → text d ++ s ≡ 41 ∷ x → ⊥
    no-bracket d s x b g e = reads-no-bracket d (sym (reads d s b g) ∙ ap read_head e ∙ bracket-read x)

    same-mark : (m k : Bool) (c d : Closed) (r s : List ℕ) → IsTold c → IsTold d → EndsType r → EndsType s → mark_of m ++ (text c ++ r) ≡ mark_of k ++ (text d ++ s) → (m ≡ k) × (text c ++ r ≡ text d ++ s)
    same-mark true true c d r s a b f g e = (refl, append_cancel_left (codes " mut ") _ _ e)
    same-mark false false c d r s a b f g e = (refl, tail-same e)
    same-mark true false c d r s a b f g e = absurd (not-mut d s (text c ++ r) b g (sym (tail-same e)))
    same-mark false true c d r s a b f g e = absurd (not-mut c r (text d ++ s) a f (tail-same e))

    mutual
      unfolding closed_text IsTold

      -- two types at the front of one text are the same, and so is what follows
      same : (c d : Closed) (r s : List ℕ) → IsTold c → IsTold d → EndsType r → EndsType s → text c ++ r ≡ text d ++ s → reading_of c ≡ reading_of d → (c ≡ d) × (r ≡ s)
      same (prim p) (prim q) r s a b f g e h =
          let i = same-word (prim_text p) (prim_text q) r s (word-bytes _ (prim-word p)) (word-bytes _ (prim-word q)) (ends-stops r f) (ends-stops s g) e in
          (ap prim (same-prim p q i.0), i.1)
      same never never r s a b f g e h = (refl, tail-same e)
      same (tuple cs) (tuple ds) r s a b f g e h =
          let whole : 40 ∷ inside (closed_texts resolved cs) r ≡ 40 ∷ inside (closed_texts resolved ds) s = sym (tuple-inside (closed_texts resolved cs) r) ∙ e ∙ tuple-inside (closed_texts resolved ds) s in
          let i = same-inside cs ds r s a b (tail-same whole) in
          (ap tuple i.0, i.1)
      same (array c n) (array d m) r s a b f g e h =
          let whole : 91 ∷ (text c ++ (59 ∷ 32 ∷ (decimal n ++ (93 ∷ r)))) ≡ 91 ∷ (text d ++ (59 ∷ 32 ∷ (decimal m ++ (93 ∷ s)))) = sym (array-text (text c) (decimal n) r) ∙ e ∙ array-text (text d) (decimal m) s in
          let rest : text c ++ (59 ∷ 32 ∷ (decimal n ++ (93 ∷ r))) ≡ text d ++ (59 ∷ 32 ∷ (decimal m ++ (93 ∷ s))) = tail-same whole in
          let p = (ends-with (32 ∷ (decimal n ++ (93 ∷ r)))).2 in
          let q = (ends-with (32 ∷ (decimal m ++ (93 ∷ s)))).2 in
          let i = same c d _ _ a.1 b.1 p q rest (agree c d _ _ a.1 b.1 p q rest) in
          let digits : decimal n ++ (93 ∷ r) ≡ decimal m ++ (93 ∷ s) = tails-same i.1 in
          let j = same-word (decimal n) (decimal m) (93 ∷ r) (93 ∷ s) (decimal-bytes n a.0) (decimal-bytes m b.0) (stops-93 r) (stops-93 s) digits in
          let k = decimal_injective n m a.0 b.0 j.0 in
          (ap (λ x. array x n) i.0 ∙ ap (λ x. array d x) k, tail-same j.1)
      same (nonzero p) (nonzero q) r s a b f g e h =
          let whole : codes "NonZero" ++ (60 ∷ (prim_text p ++ (62 ∷ r))) ≡ codes "NonZero" ++ (60 ∷ (prim_text q ++ (62 ∷ s))) = sym (applied-text (codes "NonZero") (prim_text p) r) ∙ e ∙ applied-text (codes "NonZero") (prim_text q) s in
          let rest = tail-same (append_cancel_left (codes "NonZero") _ _ whole) in
          let i = same-word (prim_text p) (prim_text q) (62 ∷ r) (62 ∷ s) (word-bytes _ (prim-word p)) (word-bytes _ (prim-word q)) (ends-stops (62 ∷ r) (ends-with r).1) (ends-stops (62 ∷ s) (ends-with s).1) rest in
          (ap nonzero (same-prim p q i.0), tail-same i.1)
      same (wrap w c) (wrap v d) r s a b f g e h =
          let one = same-wrapper h in
          let whole : wrapper_text w ++ (60 ∷ (text c ++ (62 ∷ r))) ≡ wrapper_text v ++ (60 ∷ (text d ++ (62 ∷ s))) = sym (applied-text (wrapper_text w) (text c) r) ∙ e ∙ applied-text (wrapper_text v) (text d) s in
          let rest = tail-same (append_cancel_left (wrapper_text v) _ _ (subst (λ x. wrapper_text x ++ (60 ∷ (text c ++ (62 ∷ r))) ≡ wrapper_text v ++ (60 ∷ (text d ++ (62 ∷ s)))) one whole)) in
          let i = same c d (62 ∷ r) (62 ∷ s) a b (ends-with r).1 (ends-with s).1 rest (agree c d (62 ∷ r) (62 ∷ s) a b (ends-with r).1 (ends-with s).1 rest) in
          (ap (λ x. wrap x c) one ∙ ap (λ x. wrap v x) i.0, tail-same i.1)
      same (named i gs cs) (named j hs ds) r s a b f g e h =
          same-named i gs cs j hs ds r s a b f g (same-others 62 refl (λ x. (ends-with x).1) cs ds r s a.2 b.2) (same-name h) e
      same (ref i m c) (ref j k d) r s a b f g e h =
          let whole : 38 ∷ (region resolved i ++ (mark_of m ++ (text c ++ r))) ≡ 38 ∷ (region resolved j ++ (mark_of k ++ (text d ++ s))) = sym (ref-text (region resolved i) m (text c) r) ∙ e ∙ ref-text (region resolved j) k (text d) s in
          let words = same-word (region resolved i) (region resolved j) (mark_of m ++ (text c ++ r)) (mark_of k ++ (text d ++ s)) (word-bytes _ (region-word resolved names i a.0)) (word-bytes _ (region-word resolved names j b.0)) (mark-stops m _) (mark-stops k _) (tail-same whole) in
          let (flags, rest) = same-mark m k c d r s a.1 b.1 f g words.1 in
          let one = same c d r s a.1 b.1 f g rest (agree c d r s a.1 b.1 f g rest) in
          (ap (λ x. ref x m c) (same-region resolved names i j a.0 b.0 words.0) ∙ ap (λ x. ref j x c) flags ∙ ap (λ x. ref j k x) one.0, one.1)
      same _ _ _ _ _ _ _ _ _ h = absurd (unlike h refl)

      same-inside : (cs ds : Elements) (r s : List ℕ) → AreTold cs → AreTold ds → inside (closed_texts resolved cs) r ≡ inside (closed_texts resolved ds) s → (cs ≡ ds) × (r ≡ s)
      same-inside no_elements no_elements r s a b e = (refl, tail-same e)
      same-inside no_elements (element d no_elements) r s a b e = absurd (no-bracket d _ r b.0 (ends-with (41 ∷ s)).3 (sym e))
      same-inside no_elements (element d (element v ds)) r s a b e = absurd (no-bracket d _ r b.0 (behind-ends (closed_texts resolved (element v ds)) 41 s (ends-with s).0) (sym e))
      same-inside (element c no_elements) no_elements r s a b e = absurd (no-bracket c _ s a.0 (ends-with (41 ∷ r)).3 e)
      same-inside (element c (element u cs)) no_elements r s a b e = absurd (no-bracket c _ s a.0 (behind-ends (closed_texts resolved (element u cs)) 41 r (ends-with r).0) e)
      same-inside (element c no_elements) (element d no_elements) r s a b e =
          let p = (ends-with (41 ∷ r)).3 in
          let q = (ends-with (41 ∷ s)).3 in
          let i = same c d _ _ a.0 b.0 p q e (agree c d _ _ a.0 b.0 p q e) in
          (ap (λ x. element x no_elements) i.0, tails-same i.1)
      same-inside (element c no_elements) (element d (element v ds)) r s a b e =
          let p = (ends-with (41 ∷ r)).3 in
          let q = behind-ends (closed_texts resolved (element v ds)) 41 s (ends-with s).0 in
          let i = same c d _ _ a.0 b.0 p q e (agree c d _ _ a.0 b.0 p q e) in
          absurd (comma-apart r _ i.1)
      same-inside (element c (element u cs)) (element d no_elements) r s a b e =
          let p = behind-ends (closed_texts resolved (element u cs)) 41 r (ends-with r).0 in
          let q = (ends-with (41 ∷ s)).3 in
          let i = same c d _ _ a.0 b.0 p q e (agree c d _ _ a.0 b.0 p q e) in
          absurd (comma-apart s _ (sym i.1))
      same-inside (element c (element u cs)) (element d (element v ds)) r s a b e =
          let p = behind-ends (closed_texts resolved (element u cs)) 41 r (ends-with r).0 in
          let q = behind-ends (closed_texts resolved (element v ds)) 41 s (ends-with s).0 in
          let i = same c d _ _ a.0 b.0 p q e (agree c d _ _ a.0 b.0 p q e) in
          let j = same-others 41 refl (λ x. (ends-with x).0) (element u cs) (element v ds) r s a.1 b.1 i.1 in
          (ap (λ x. element x (element u cs)) i.0 ∙ ap (λ xs. element d xs) j.0, j.1)

      -- types behind commas, and then a mark that ends them
      same-others : (mark : ℕ) → (mark == 44) ≡ false → ((x : List ℕ) → EndsType (mark ∷ x)) → (cs ds : Elements) (r s : List ℕ) → AreTold cs → AreTold ds
          → behind (closed_texts resolved cs) (mark ∷ r) ≡ behind (closed_texts resolved ds) (mark ∷ s) → (cs ≡ ds) × (r ≡ s)
      same-others mark n ends no_elements no_elements r s a b e = (refl, tail-same e)
      same-others mark n ends no_elements (element d ds) r s a b e = absurd (end-comma mark r _ n e)
      same-others mark n ends (element c cs) no_elements r s a b e = absurd (end-comma mark s _ n (sym e))
      same-others mark n ends (element c cs) (element d ds) r s a b e =
          let p = behind-ends (closed_texts resolved cs) mark r (ends r) in
          let q = behind-ends (closed_texts resolved ds) mark s (ends s) in
          let rest = tails-same e in
          let i = same c d _ _ a.0 b.0 p q rest (agree c d _ _ a.0 b.0 p q rest) in
          let j = same-others mark n ends cs ds r s a.1 b.1 i.1 in
          (ap (λ x. element x cs) i.0 ∙ ap (λ xs. element d xs) j.0, j.1)

    -- two types with one text are one
    pub one-text : (c d : Closed) → IsTold c → IsTold d → text c ≡ text d → c ≡ d
    one-text c d a b e =
        let whole = append-nil (text c) ∙ e ∙ sym (append-nil (text d)) in
        (same c d [] [] a b tt tt whole (agree c d [] [] a b tt tt whole)).0
