-- A question has one answer, where no two types at fault that one side reaches share a text.
use Rattle.std.proofs.Common.{◌≡◌, ℕ, ◌<◌, ◌≤◌, ◌⊎◌, ⊎_elim, inl, inr, refl, sym, ◌∙◌, ap, subst, Bool, true, false, Option, Some, None, take, slice_get, arith}
use Rattle.std.specs.List.{All}
use Rattle.tm_base.specs.declared.answer.Answer.{Answer}
use Rattle.tm_base.specs.declared.answer.Answer.TheVariants.{Yes, YesBecause, No, NoAt, Refused}
use Rattle.tm_base.specs.declared.answer.LocalRule.{LocalRule}
use Rattle.tm_base.specs.declared.answer.LocalRule.TheVariants.{MoreUnique, TooBig as too_big, Alignment, Interior, Lifetime}
use Rattle.tm_base.specs.declared.answer.RefFault.{RefFault}
use Rattle.tm_base.specs.declared.answer.Rule.{Rule}
use Rattle.tm_base.specs.declared.answer.Rule.TheVariants.{TargetUninhabited, TargetPrivate, NoCommonValue}
use Rattle.tm_base.specs.declared.answer.Side.{Side}
use Rattle.tm_base.specs.declared.answer.Side.TheVariants.{Source, Target}
use Rattle.tm_base.specs.declared.answer.Why.{Why}
use Rattle.tm_base.specs.declared.ask.Ask.{Ask}
use Rattle.tm_base.specs.declared.cell.Cell.{Cell}
use Rattle.tm_base.specs.declared.cell.Cell.TheVariants.{Byte, Uninit, Ptr}
use Rattle.tm_base.specs.declared.cell.RefId.{RefId}
use Rattle.tm_base.specs.declared.definition.RefRow.{RefRow}
use Rattle.tm_base.specs.declared.ground.Ground.{Ground}
use Rattle.tm_base.specs.Answers.{IsAnswer, IsLeastFault, IsTrueYes, IsTrueExample, IsTrueRefusal, AreJudged, Casts, NoSharedTexts}
use Rattle.tm_base.specs.Cells.{Word, fit, OrOwn}
use Rattle.tm_base.specs.Compatible.{Keeps, KeepsAll, IsLocalFault, CompatibleTo, earlier}
use Rattle.tm_base.specs.Faults.{fault_of}
use Rattle.tm_base.specs.Layout.{size_of}
use Rattle.tm_base.specs.Reaches.{IsJudged}
use Rattle.tm_base.specs.Rules.{target, Taken, HasTargetWord, IsWholeRule, IsOpen, IsRuleOfNo, IsCellRule, IsRefRule, BreaksLocally, BreaksBelow, rule_of}
use Rattle.tm_base.specs.Tables.{Tables, OnRows, expanded_in}
use Rattle.tm_base.specs.Texts.{text_of}
use Rattle.tm_base.proofs.OrderLemmas.{word_less-total, text_less-total}
use Rattle.tm_base.proofs.ValidLemmas.{Valid-grows}

-- the place of a local rule in their order
rank : LocalRule → ℕ
rank MoreUnique = 0
rank too_big = 1
rank Alignment = 2
rank Interior = 3
rank Lifetime = 4

rank-last : (m : LocalRule) → rank m ≤ 4
unfolding rank
rank-last MoreUnique = omega arith
rank-last too_big = omega arith
rank-last Alignment = omega arith
rank-last Interior = omega arith
rank-last Lifetime = omega arith

-- what holds of all rules before one holds of one before it
kept_before : (P : LocalRule → Type 0) (l m : LocalRule) → All P (earlier m) → rank l < rank m → P l
unfolding rank
kept_before P MoreUnique too_big all h = all 0 MoreUnique (omega arith)
kept_before P MoreUnique Alignment all h = all 0 MoreUnique (omega arith)
kept_before P too_big Alignment all h = all 1 MoreUnique (omega arith)
kept_before P MoreUnique Interior all h = all 0 MoreUnique (omega arith)
kept_before P too_big Interior all h = all 1 MoreUnique (omega arith)
kept_before P Alignment Interior all h = all 2 MoreUnique (omega arith)
kept_before P MoreUnique Lifetime all h = all 0 MoreUnique (omega arith)
kept_before P too_big Lifetime all h = all 1 MoreUnique (omega arith)
kept_before P Alignment Lifetime all h = all 2 MoreUnique (omega arith)
kept_before P Interior Lifetime all h = all 3 MoreUnique (omega arith)
kept_before P l m all h = absurd (omega (arith, rank-last m))

rank-same : (l m : LocalRule) → rank l ≡ rank m → l ≡ m
unfolding rank
rank-same MoreUnique MoreUnique h = refl
rank-same too_big too_big h = refl
rank-same Alignment Alignment h = refl
rank-same Interior Interior h = refl
rank-same Lifetime Lifetime h = refl
rank-same _ _ h = absurd (omega arith)

three : (m n : ℕ) → (m < n) ⊎ ((m ≡ n) ⊎ (n < m))
three m n = grind arith

-- two references have one local fault at most
pub IsLocalFault-unique : (tables : Tables) (ask : Ask) (r t : RefRow) (l m : LocalRule) → IsLocalFault tables ask.assume r t l → IsLocalFault tables ask.assume r t m → l ≡ m
IsLocalFault-unique tables ask r t l m first second =
    ⊎_elim
    (λ (below : rank l < rank m). absurd (first.broken (kept_before (Keeps tables ask.assume r t) l m second.kept below)))
    (λ rest. ⊎_elim
    (λ (same : rank l ≡ rank m). rank-same l m same)
    (λ (above : rank m < rank l). absurd (second.broken (kept_before (Keeps tables ask.assume r t) m l first.kept above)))
    rest)
    (three (rank l) (rank m))

kept_rule : (tables : Tables) (ask : Ask) (r t : RefRow) → KeepsAll tables ask.assume r t → (l : LocalRule) → Keeps tables ask.assume r t l
kept_rule tables ask r t h MoreUnique = h.more_unique
kept_rule tables ask r t h too_big = h.too_big
kept_rule tables ask r t h Alignment = h.alignment
kept_rule tables ask r t h Interior = h.interior
kept_rule tables ask r t h Lifetime = h.lifetime

on_both : (r t : Option RefRow) (P Q : RefRow → RefRow → Type 0) → OnRows r t P → OnRows r t Q → (a : RefRow) × (b : RefRow) × P a b × Q a b
on_both (Some r) (Some t) P Q p q = (r, t, p, q)
on_both (Some r) None P Q p q = absurd p
on_both None t P Q p q = absurd p

abbrev fault_with : RefId → RefId → ℕ → RefFault
fault_with s t d = record { source = s; target = t; depth = d }

module _ (tables : Tables) (ask : Ask) where
  abbrev IsLeastDepth : RefId → RefId → ℕ → Type 0
  IsLeastDepth s t d = (depth : ℕ) → ¬ CompatibleTo tables ask.assume depth s.0 t.0 → d ≤ depth

  -- two references have one rule and one least depth
  ref_rule_same : (rule other : Rule) (s t : RefId) (d e : ℕ) (a b : RefRow)
      → BreaksLocally tables ask rule (fault_with s t d) a b ⊎ BreaksBelow tables ask rule (fault_with s t d) a b
      → BreaksLocally tables ask other (fault_with s t e) a b ⊎ BreaksBelow tables ask other (fault_with s t e) a b
      → IsLeastDepth s t d → IsLeastDepth s t e → (rule ≡ other) × (d ≡ e)
  ref_rule_same rule other s t d e a b (inl (l, first, is, zero_d)) (inl (m, second, is', zero_e)) least least' =
      (is ∙ ap rule_of (IsLocalFault-unique tables ask a b l m first second) ∙ sym is', zero_d ∙ sym zero_e)
  ref_rule_same rule other s t d e a b (inl (l, first, is, zero_d)) (inr (keeps, is', fails)) least least' =
      absurd (first.broken (kept_rule tables ask a b keeps l))
  ref_rule_same rule other s t d e a b (inr (keeps, is, fails)) (inl (m, second, is', zero_e)) least least' =
      absurd (second.broken (kept_rule tables ask a b keeps m))
  ref_rule_same rule other s t d e a b (inr (keeps, is, fails)) (inr (keeps', is', fails')) least least' =
      let below : d ≤ e = least e fails' in
      let above : e ≤ d = least' d fails in
      (is ∙ sym is', omega arith)

  rule_at_same : (rule other : Rule) (s t : RefId) (d e : ℕ) → IsRefRule tables ask rule (fault_with s t d) → IsRefRule tables ask other (fault_with s t e)
      → IsLeastDepth s t d → IsLeastDepth s t e → (rule ≡ other) × (d ≡ e)
  rule_at_same rule other s t d e first second least least' =
      let (a, b, p, q) = on_both (slice_get tables.refs s.0) (slice_get tables.refs t.0)
      (λ r t'. BreaksLocally tables ask rule (fault_with s t d) r t' ⊎ BreaksBelow tables ask rule (fault_with s t d) r t')
      (λ r t'. BreaksLocally tables ask other (fault_with s t e) r t' ⊎ BreaksBelow tables ask other (fault_with s t e) r t') first second in
      ref_rule_same rule other s t d e a b p q least least'

  make_fault : (f g : RefFault) → f.source ≡ g.source → f.target.0 ≡ g.target.0 → f.depth ≡ g.depth → f ≡ g
  make_fault f g s t d =
      ap (λ (x : RefId). fault_with x f.target f.depth) s
      ∙ ap (λ (x : ℕ). fault_with g.source (record { 0 = x }) f.depth) t
      ∙ ap (λ (x : ℕ). fault_with g.source g.target x) d

  abbrev BothSame : Rule → Rule → Option RefFault → Option RefFault → Type 0
  BothSame rule other fault found = (rule ≡ other) × (fault ≡ found)

  -- two faults at one open place, each with the least target and the least depth
  ref_same : (before : Word) (r : RefId) (rule other : Rule) (f g : RefFault) → f.source ≡ r → g.source ≡ r
      → IsOpen tables ask before f.target.0 → IsOpen tables ask before g.target.0
      → IsRefRule tables ask rule f → IsRefRule tables ask other g
      → IsLeastFault tables ask before (Some f) → IsLeastFault tables ask before (Some g) → (rule ≡ other) × (f ≡ g)
  ref_same before r rule other f g s s' open_f open_g first second least least' =
      let below : f.target.0 ≤ g.target.0 = least.0 g.target.0 open_g in
      let above : g.target.0 ≤ f.target.0 = least'.0 f.target.0 open_f in
      let targets : f.target.0 ≡ g.target.0 = omega arith in
      let sources : f.source ≡ g.source = s ∙ sym s' in
      let moved : g ≡ fault_with f.source f.target g.depth = make_fault g (fault_with f.source f.target g.depth) (sym sources) (sym targets) refl in
      let second' = subst (IsRefRule tables ask other) moved second in
      let depths = λ (depth : ℕ) (fails : ¬ CompatibleTo tables ask.assume depth f.source.0 f.target.0).
      subst (λ (h : RefFault). (n : ℕ) → ¬ CompatibleTo tables ask.assume n h.source.0 h.target.0 → h.depth ≤ n) moved least'.1 depth fails in
      let same = rule_at_same rule other f.source f.target f.depth g.depth first second' least.1 depths in
      (same.0, make_fault f g sources targets same.1)

  -- a refused cell has one rule and one fault
  cell_rule_same : (before : Word) (c : Option Cell) (rule other : Rule) (fault found : Option RefFault)
      → IsCellRule tables ask before c rule fault → IsCellRule tables ask before c other found
      → IsLeastFault tables ask before fault → IsLeastFault tables ask before found → BothSame rule other fault found
  cell_rule_same before None rule other fault found p q least least' = absurd p
  cell_rule_same before (Some Uninit) rule other fault found (is, e) (is', e') least least' = (is ∙ sym is', e ∙ sym e')
  cell_rule_same before (Some (Byte b)) rule other fault found (inl (is, goes, e)) (inl (is', goes', e')) least least' = (is ∙ sym is', e ∙ sym e')
  cell_rule_same before (Some (Byte b)) rule other fault found (inl (is, goes, e)) (inr (is', stuck, e')) least least' = absurd (stuck goes)
  cell_rule_same before (Some (Byte b)) rule other fault found (inr (is, stuck, e)) (inl (is', goes, e')) least least' = absurd (stuck goes)
  cell_rule_same before (Some (Byte b)) rule other fault found (inr (is, stuck, e)) (inr (is', stuck', e')) least least' = (is ∙ sym is', e ∙ sym e')
  cell_rule_same before (Some (Ptr r k)) rule other fault found (inl (is, e, none)) (inl (is', e', none')) least least' = (is ∙ sym is', e ∙ sym e')
  cell_rule_same before (Some (Ptr r k)) rule other fault found (inl (is, e, none)) (inr (g, e', s', z', open_g, second)) least least' = absurd (none g.target.0 open_g)
  cell_rule_same before (Some (Ptr r k)) rule other fault found (inr (f, e, s, z, open_f, first)) (inl (is', e', none)) least least' = absurd (none f.target.0 open_f)
  cell_rule_same before (Some (Ptr r k)) rule other fault found (inr (f, e, s, z, open_f, first)) (inr (g, e', s', z', open_g, second)) least least' =
      let same = ref_same before r rule other f g s s' open_f open_g first second (subst (IsLeastFault tables ask before) e least) (subst (IsLeastFault tables ask before) e' least') in
      (same.0, e ∙ ap (λ (x : RefFault). Some x) same.1 ∙ sym e')

  rule_of_no_same : (w : Word) (o : ℕ) (rule other : Rule) (fault found : Option RefFault)
      → IsRuleOfNo tables ask w o rule fault → IsRuleOfNo tables ask w o other found
      → IsLeastFault tables ask (take o (fit w (size_of (target tables ask)))) fault → IsLeastFault tables ask (take o (fit w (size_of (target tables ask)))) found
      → BothSame rule other fault found
  rule_of_no_same w o rule other fault found (inl (past, is, e)) (inl (past', is', e')) least least' = (is ∙ sym is', e ∙ sym e')
  rule_of_no_same w o rule other fault found (inl (past, is, e)) (inr (inside, q)) least least' = absurd (omega arith)
  rule_of_no_same w o rule other fault found (inr (inside, p)) (inl (past, is, e)) least least' = absurd (omega arith)
  rule_of_no_same w o rule other fault found (inr (inside, p)) (inr (inside', q)) least least' =
      cell_rule_same (take o (fit w (size_of (target tables ask)))) (slice_get (fit w (size_of (target tables ask))) o) rule other fault found p q least least'

  -- a target that has a word with its private types closed has it with them open
  has_word_open : (keep : Bool) → HasTargetWord tables ask keep → HasTargetWord tables ask true
  has_word_open keep (w, valid) = (w, Valid-grows (OrOwn (Taken tables ask)) (OrOwn (Taken tables ask)) keep true (λ x t a. a) (λ kept. refl) (target tables ask) w valid)

  -- one rule on the types as a whole holds at most
  whole_rule_same : (rule other : Rule) → IsWholeRule tables ask rule → IsWholeRule tables ask other → rule ≡ other
  whole_rule_same TargetUninhabited TargetUninhabited p q = refl
  whole_rule_same TargetUninhabited TargetPrivate p q = absurd (p q.0)
  whole_rule_same TargetUninhabited NoCommonValue p q = absurd (p (has_word_open ask.assume.safety q.0))
  whole_rule_same TargetPrivate TargetUninhabited p q = absurd (q p.0)
  whole_rule_same TargetPrivate TargetPrivate p q = refl
  whole_rule_same TargetPrivate NoCommonValue p q = absurd (p.1 q.0)
  whole_rule_same NoCommonValue TargetUninhabited p q = absurd (q (has_word_open ask.assume.safety p.0))
  whole_rule_same NoCommonValue TargetPrivate p q = absurd (q.1 p.0)
  whole_rule_same NoCommonValue NoCommonValue p q = refl
  whole_rule_same TargetUninhabited _ p q = absurd q
  whole_rule_same TargetPrivate _ p q = absurd q
  whole_rule_same NoCommonValue _ p q = absurd q
  whole_rule_same _ _ p q = absurd p

  -- none of them holds where a cell is refused
  no_whole_rule : (rule : Rule) → IsWholeRule tables ask rule → ask.assume.validity ≡ false → HasTargetWord tables ask ask.assume.safety → ⊥
  no_whole_rule TargetUninhabited p e has = p (has_word_open ask.assume.safety has)
  no_whole_rule TargetPrivate p e has = p.1 has
  no_whole_rule NoCommonValue p e has = cc (p.1)
  no_whole_rule _ p e has = p

  example_casts : (w : Word) → IsTrueExample tables ask w → Casts tables ask
  example_casts w h = inr (inr (h.assumed, (w, h.value, h.accepted)))

  judged_refused : AreJudged tables ask → (side : Side) (why : Why) (g : Ground) → IsTrueRefusal tables ask side why g → ⊥
  judged_refused judged Source why g h = cc (judged.source_judged g h.reached, h.at_fault)
  judged_refused judged Target why g h = cc (judged.target_judged g h.reached, h.at_fault)

  plain_example : (w : Word) → IsTrueYes tables ask → IsTrueExample tables ask w → ⊥
  plain_example w plain example = ⊎_elim (λ (e : ask.assume.validity ≡ false). cc (e, example.assumed)) (λ none. none w example.value) plain.plain

  -- the target's side is named only where the source's reaches no fault
  source_named : (why : Why) (g : Ground) → IsJudged tables ask.src → IsTrueRefusal tables ask Source why g → ⊥
  source_named why g judged h = cc (judged g h.reached, h.at_fault)

  no_at_same : (rule other : Rule) (o p : ℕ) (v w : Word) (fault found : Option RefFault)
      → IsAnswer tables ask (NoAt rule o v fault) → IsAnswer tables ask (NoAt other p w found) → NoAt rule o v fault ≡ NoAt other p w found
  no_at_same rule other o p v w fault found a b =
      let first = a.is_true in
      let second = b.is_true in
      let below : o ≤ p = (a.is_least.0 w p second.value second.offset).0 in
      let above : p ≤ o = (b.is_least.0 v o first.value first.offset).0 in
      let offsets : o ≡ p = omega arith in
      let words : v ≡ w = word_less-total v w ((b.is_least.0 v o first.value first.offset).1 offsets) ((a.is_least.0 w p second.value second.offset).1 (sym offsets)) in
      let rule_there = subst (λ (u : Word). IsRuleOfNo tables ask u o other found) (sym words) (subst (λ (n : ℕ). IsRuleOfNo tables ask w n other found) (sym offsets) second.rule_holds) in
      let least_there = subst (λ (u : Word). IsLeastFault tables ask (take o (fit u (size_of (target tables ask)))) found) (sym words)
      (subst (λ (n : ℕ). IsLeastFault tables ask (take n (fit w (size_of (target tables ask)))) found) (sym offsets) b.is_least.1) in
      let same = rule_of_no_same v o rule other fault found first.rule_holds rule_there a.is_least.1 least_there in
      ap (λ (r : Rule). NoAt r o v fault) same.0
      ∙ ap (λ (n : ℕ). NoAt other n v fault) offsets
      ∙ ap (λ (u : Word). NoAt other p u fault) words
      ∙ ap (λ (f : Option RefFault). NoAt other p w f) same.1

  refused_same : NoSharedTexts tables ask → (side : Side) (why other : Why) (g h : Ground)
      → IsAnswer tables ask (Refused side why g) → IsAnswer tables ask (Refused side other h) → Refused side why g ≡ Refused side other h
  refused_same apart side why other g h a b =
      let first = a.is_true in
      let second = b.is_true in
      let texts : text_of tables g ≡ text_of tables h =
      text_less-total (text_of tables g) (text_of tables h) (b.is_least g why first.reached first.at_fault) (a.is_least h other second.reached second.at_fault) in
      let types : g ≡ h = apart side g h why other first.reached second.reached first.at_fault second.at_fault texts in
      let there : fault_of (expanded_in tables h) ≡ Some why = subst (λ (x : Ground). fault_of (expanded_in tables x) ≡ Some why) types first.at_fault in
      let causes : why ≡ other = cc (there, second.at_fault) in
      ap (λ (x : Why). Refused side x g) causes ∙ ap (λ (x : Ground). Refused side other x) types

  -- the answer to a question is the only one
  pub IsAnswer-unique : NoSharedTexts tables ask → (a b : Answer) → IsAnswer tables ask a → IsAnswer tables ask b → a ≡ b
  IsAnswer-unique apart Yes Yes a b = refl
  IsAnswer-unique apart Yes (YesBecause w) a b = absurd (plain_example w a.is_true b.is_true)
  IsAnswer-unique apart Yes (No rule) a b = absurd (b.is_true.refused a.is_true.casts)
  IsAnswer-unique apart Yes (NoAt rule o w fault) a b = absurd (b.is_true.refused a.is_true.casts)
  IsAnswer-unique apart Yes (Refused side why g) a b = absurd (judged_refused a.is_true.judged side why g b.is_true)
  IsAnswer-unique apart (YesBecause w) Yes a b = absurd (plain_example w b.is_true a.is_true)
  IsAnswer-unique apart (YesBecause v) (YesBecause w) a b =
      ap (λ (u : Word). YesBecause u) (word_less-total v w (b.is_least v a.is_true.value a.is_true.accepted) (a.is_least w b.is_true.value b.is_true.accepted))
  IsAnswer-unique apart (YesBecause v) (No rule) a b = absurd (b.is_true.refused (example_casts v a.is_true))
  IsAnswer-unique apart (YesBecause v) (NoAt rule o w fault) a b = absurd (b.is_true.refused (example_casts v a.is_true))
  IsAnswer-unique apart (YesBecause v) (Refused side why g) a b = absurd (judged_refused a.is_true.judged side why g b.is_true)
  IsAnswer-unique apart (No rule) Yes a b = absurd (a.is_true.refused b.is_true.casts)
  IsAnswer-unique apart (No rule) (YesBecause w) a b = absurd (a.is_true.refused (example_casts w b.is_true))
  IsAnswer-unique apart (No rule) (No other) a b = ap (λ (r : Rule). No r) (whole_rule_same rule other a.is_true.rule_holds b.is_true.rule_holds)
  IsAnswer-unique apart (No rule) (NoAt other o w fault) a b = absurd (no_whole_rule rule a.is_true.rule_holds b.is_true.unassumed b.is_true.has_word)
  IsAnswer-unique apart (No rule) (Refused side why g) a b = absurd (judged_refused a.is_true.judged side why g b.is_true)
  IsAnswer-unique apart (NoAt rule o w fault) Yes a b = absurd (a.is_true.refused b.is_true.casts)
  IsAnswer-unique apart (NoAt rule o w fault) (YesBecause v) a b = absurd (a.is_true.refused (example_casts v b.is_true))
  IsAnswer-unique apart (NoAt rule o w fault) (No other) a b = absurd (no_whole_rule other b.is_true.rule_holds a.is_true.unassumed a.is_true.has_word)
  IsAnswer-unique apart (NoAt rule o v fault) (NoAt other p w found) a b = no_at_same rule other o p v w fault found a b
  IsAnswer-unique apart (NoAt rule o w fault) (Refused side why g) a b = absurd (judged_refused a.is_true.judged side why g b.is_true)
  IsAnswer-unique apart (Refused side why g) Yes a b = absurd (judged_refused b.is_true.judged side why g a.is_true)
  IsAnswer-unique apart (Refused side why g) (YesBecause w) a b = absurd (judged_refused b.is_true.judged side why g a.is_true)
  IsAnswer-unique apart (Refused side why g) (No rule) a b = absurd (judged_refused b.is_true.judged side why g a.is_true)
  IsAnswer-unique apart (Refused side why g) (NoAt rule o w fault) a b = absurd (judged_refused b.is_true.judged side why g a.is_true)
  IsAnswer-unique apart (Refused Source why g) (Refused Source other h) a b = refused_same apart Source why other g h a b
  IsAnswer-unique apart (Refused Source why g) (Refused Target other h) a b = absurd (source_named why g b.is_true.named_side a.is_true)
  IsAnswer-unique apart (Refused Target why g) (Refused Source other h) a b = absurd (source_named other h a.is_true.named_side b.is_true)
  IsAnswer-unique apart (Refused Target why g) (Refused Target other h) a b = refused_same apart Target why other g h a b
