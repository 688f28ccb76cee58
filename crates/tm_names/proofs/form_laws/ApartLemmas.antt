-- The names of a file without faults tell its definitions and its regions apart.
use Rattle.std.proofs.Common.{◌≡◌, ◌≢◌, ℕ, refl, sym, ap, subst, inl, inr, ⊎_elim, true, ◌||◌, List, [], ◌∷◌, ◌++◌, map, codes, arith}
use Rattle.std.specs.Prelude.{AllPairs, Contains}
use Rattle.std.specs.Str.{bytes_eq, IsUtf8}
use Rattle.std.proofs.lemmas.Bool.{and_from, or_right}
use Rattle.std.proofs.lemmas.List.Kept.{AllPairs-cons}
use Rattle.std.proofs.lemmas.Slice.Eq.{bytes_eq-Decides}
use Rattle.tm_base.specs.declared.definition.Def.{Def}
use Rattle.tm_base.specs.declared.limit.NameWhy.TheVariants.{Twice, Lifetime}
use Rattle.tm_base.specs.declared.profile.Profile.{Profile}
use Rattle.tm_lex.specs.Lexes.{Tokenizes}
use Rattle.tm_lex.specs.declared.token.Token.{Token}
use Rattle.tm_names.proofs.Members.{Member, contained, from_map}
use Rattle.tm_names.proofs.form_laws.TokenNames.{all_mapped, terminals_suit}
use Rattle.tm_names.proofs.form_laws.TypeFormLemmas.{each_passes, of_member}
use Rattle.tm_names.specs.ApartNames.{HasApartNames, is_own_name, is_region_name, is_word_byte}
use Rattle.tm_names.specs.Faults.{HasNoFault, lifetime_lists, name_lists}
use Rattle.tm_names.specs.Resolutions.{def_of, resolved_of}
use Rattle.tm_names.specs.Written.{is_among, name_at}
use Rattle.tm_parse.proofs.bounds.DeclaredClasses.{Declares, declared_kept}
use Rattle.tm_parse.specs.Parsing.{SpellsFile}
use Rattle.tm_parse.specs.Spelling.{terminals_of}
use Rattle.tm_parse.specs.declared.parsed.Decl.{Decl}
use Rattle.tm_parse.specs.declared.parsed.Parsed.{Parsed}

-- a list is cut before each of its members
cut_at : (q : ℕ) (ps : List ℕ) → Member q ps → (before : List ℕ) × (after : List ℕ) × (before ++ (q ∷ after) ≡ ps)
cut_at q [] m = absurd m
cut_at q (p ∷ ps) m =
    ⊎_elim (λ e. ([], ps, ap (λ x. x ∷ ps) (sym e))) (λ n. let (before, after, e) = cut_at q ps n in (p ∷ before, after, ap (λ l. p ∷ l) e)) m

static_is_region : is_region_name (codes "'static") ≡ true
unfolding is_word_byte
static_is_region = refl

module _ (profile : Profile) (name : ℕ → List ℕ) where
  abbrev Differ : List ℕ → List ℕ → Type 0
  Differ x y = x ≢ y

  -- no name of the places stands before at one of them
  abbrev NoneAgain : List ℕ → Type 0
  NoneAgain places = (before after : List ℕ) (place : ℕ) → before ++ (place ∷ after) ≡ places → is_among name before place ≡ true → ⊥

  -- so they are distinct
  distinct : (places : List ℕ) → NoneAgain places → AllPairs Differ (map name places)
  distinct [] h = λ i j d l k. absurd (omega (arith, k))
  distinct (p ∷ ps) h =
      AllPairs-cons Differ (name p) (map name ps) (all_mapped (Differ (name p)) name ps each)
      (distinct ps (λ before after place e t. h (p ∷ before) after place (ap (λ l. p ∷ l) e) (or_right (bytes_eq (name p) (name place)) _ t)))
    where
      each : (q : ℕ) → Member q ps → name p ≢ name q
      each q m same =
          let (before, after, e) = cut_at q ps m in
          h (p ∷ before) after q (ap (λ l. p ∷ l) e) (ap (λ b. b || is_among name before q) ((bytes_eq-Decides (name p) (name q)).1 same))

  def_names : (ds : List Decl) → map name (map (λ d. d.name) ds) ≡ map (λ def. def.name) (map (def_of name) ds)
  def_names [] = refl
  def_names (d ∷ ds) = ap (λ names. name d.name ∷ names) (def_names ds)

  module _ (file : Parsed) (sound : HasNoFault profile name file) where
    none_again : (places : List ℕ) → Member places (name_lists file) → NoneAgain places
    none_again places m before after place e t =
        sound.none Twice place (record {
          before = before;
          after = after;
          listed = subst (Contains (name_lists file)) (sym e) (contained places (name_lists file) m);
          again = t;
        })

    not_static : (q : ℕ) → Member q file.lifetimes → codes "'static" ≢ name q
    not_static q m same =
        sound.none Lifetime q (inr (record {
          places = file.lifetimes;
          listed = contained file.lifetimes (lifetime_lists file) (inl refl);
          among = contained q file.lifetimes m;
          reserved = ap (λ b. b || bytes_eq (name q) (codes "'_")) ((bytes_eq-Decides (name q) (codes "'static")).1 (sym same));
        }))

    pub names_apart : Declares (λ place. is_own_name (name place) ≡ true) (λ place. is_region_name (name place) ≡ true) file → HasApartNames (resolved_of profile name file)
    names_apart declares = record {
      own_names = each_passes (λ def. is_own_name def.name) (map (def_of name) file.decls) own;
      names_distinct = record {
        apart = subst (AllPairs Differ) (def_names file.decls)
            (distinct (map (λ d. d.name) file.decls) (none_again (map (λ d. d.name) file.decls) (inl refl)));
      };
      region_names = and_from (is_region_name (codes "'static")) _ static_is_region (each_passes is_region_name (map name file.lifetimes) regions);
      regions_distinct = record {
        apart = AllPairs-cons Differ (codes "'static") (map name file.lifetimes)
            (all_mapped (Differ (codes "'static")) name file.lifetimes not_static) (distinct file.lifetimes (none_again file.lifetimes (inr (inl refl))));
      };
    }
      where
        own : (def : Def) → Member def (map (def_of name) file.decls) → is_own_name def.name ≡ true
        own def m =
            let (d, among, same) = from_map (def_of name) def file.decls m in
            subst (λ def. is_own_name def.name ≡ true) same (of_member (λ d. is_own_name (name d.name) ≡ true) file.decls d declares.names among)

        regions : (word : List ℕ) → Member word (map name file.lifetimes) → is_region_name word ≡ true
        regions word m =
            let (place, among, same) = from_map name word file.lifetimes m in
            subst (λ word. is_region_name word ≡ true) same (of_member (λ place. is_region_name (name place) ≡ true) file.lifetimes place declares.lifetimes among)

-- so it is with what a text's tokens spell
pub spelled_apart : (profile : Profile) (text : List ℕ) (tokens : List Token) (file : Parsed) → IsUtf8 text → Tokenizes text tokens → SpellsFile (terminals_of text tokens) file
    → HasNoFault profile (name_at text tokens) file → HasApartNames (resolved_of profile (name_at text tokens) file)
spelled_apart profile text tokens file utf8 tokenized spelled sound =
    names_apart profile (name_at text tokens) file sound
    (declared_kept (λ place. is_own_name (name_at text tokens place) ≡ true) (λ place. is_region_name (name_at text tokens place) ≡ true) file
    (terminals_of text tokens) spelled (terminals_suit text tokens utf8 tokenized))
