-- Faults and limits are answered exactly where they stand.
use Rattle.std.proofs.Common.{◌≡◌, ◌≤◌, refl, sym, ap, ◌∙◌, subst, List, [], ◌∷◌, ◌++◌, ◌↔◌, length, length-append, append_assoc, append-nil, inl, inr, arith}
use Rattle.std.proofs.lemmas.List.{append_cancel_right}
use Rattle.tm_parse.proofs.reading.Answering.{read, reads, is_right, answer_is_right, file_is_answered}
use Rattle.tm_parse.proofs.grammar.Fronts.{terminals-append, count-within}
use Rattle.tm_parse.proofs.grammar.Lawful.{IsRight}
use Rattle.tm_parse.proofs.reading.Prefixes.{Cuts, cuts}
use Rattle.tm_parse.specs.Accepted.{Begins, SpelledBy, NoFile, whole, answer_of}
use Rattle.tm_parse.specs.Counted.{BeginsCounted, PassesCounted, IsCountedFile, IsCountedFault, IsCountedAnswer}
use Rattle.tm_parse.specs.Events.{Event, terminal, mark, terminals}
use Rattle.tm_parse.specs.Files.{file}
use Rattle.tm_parse.specs.Counting.{Step, Fine, Passes, step, Verdict, Within, Beyond, counted, count, none_yet}
use Rattle.tm_parse.specs.Parts.{Outcome, Done, Stuck, Passed, finish}
use Rattle.tm_parse.specs.declared.counts.Counts.{Counts}
use Rattle.tm_base.specs.declared.limit.LimitKind.{LimitKind}
use Rattle.tm_parse.specs.declared.parsed.Parsed.{Parsed}
use Rattle.tm_parse.specs.declared.terminal.Terminal.{Terminal}

-- the terminals of a file that passes a limit, and of one that begins
passing-text : {kind : LimitKind} {p : List Terminal} {t : Terminal} (o : PassesCounted kind p t) → terminals (o.front ++ o.back) ≡ p ++ (t ∷ o.others)
passing-text {p = p} o = terminals-append o.front o.back ∙ ap (λ x. x ++ terminals o.back) o.text ∙ ap (λ x. p ++ x) o.next

begun-text : {p : List Terminal} (b : BeginsCounted p) → terminals (b.front ++ b.back) ≡ p ++ terminals b.back
begun-text b = terminals-append b.front b.back ∙ ap (λ x. x ++ terminals b.back) b.text

-- a limit is answered where it is passed, whatever follows
pub limit_answered : (kind : LimitKind) (p : List Terminal) (t : Terminal) → PassesCounted kind p t → (rest : List Terminal) → answer_of (p ++ (t ∷ rest)) ≡ Passed kind (t ∷ rest)
unfolding answer_of
limit_answered kind p t o rest =
    let told : read (p ++ (t ∷ o.others)) ≡ Passed kind (t ∷ o.others) = ap read (sym (passing-text o)) ∙ reads o.value (o.front ++ o.back) o.spelled
    ∙ ap (finish o.value []) (count-within none_yet o.after o.front o.back o.within ∙ o.passes) ∙ ap (Passed kind) (append-nil (terminals o.back) ∙ o.next) in
    let right : IsRight file none_yet (p ++ (t ∷ o.others)) (Passed kind (t ∷ o.others)) = subst (IsRight file none_yet (p ++ (t ∷ o.others))) told (is_right (p ++ (t ∷ o.others))) in
    let stop = right.2 in
    let same : p ≡ terminals stop.front = append_cancel_right p (terminals stop.front) (t ∷ o.others) stop.text in
    ap whole (ap (λ x. read (x ++ (t ∷ rest))) same ∙ stop.alone (t ∷ rest) refl)

-- what is left where a limit is passed is no longer than the list
left-shorter : (c : Counts) (kind : LimitKind) (e g : List Event) → count c e ≡ Beyond kind g → length (terminals g) ≤ length (terminals e)
left-shorter c kind [] g h = absurd cc
left-shorter c kind (terminal role t ∷ e) g h = go (step c (terminal role t)) h (λ d. left-shorter d kind e g)
  where
    go : (s : Step) → counted s (terminal role t ∷ e) (λ d. count d e) ≡ Beyond kind g → ((d : Counts) → count d e ≡ Beyond kind g → length (terminals g) ≤ length (terminals e)) → length (terminals g) ≤ length (t ∷ terminals e)
    go (Fine d) h again = omega (arith, again d h)
    go (Passes other) h again = let a : terminal role t ∷ e ≡ g = cc in subst (λ x. length (terminals x) ≤ length (t ∷ terminals e)) a (omega arith)
left-shorter c kind (mark m ∷ e) g h = go (step c (mark m)) h (λ d. left-shorter d kind e g)
  where
    go : (s : Step) → counted s (mark m ∷ e) (λ d. count d e) ≡ Beyond kind g → ((d : Counts) → count d e ≡ Beyond kind g → length (terminals g) ≤ length (terminals e)) → length (terminals g) ≤ length (terminals e)
    go (Fine d) h again = again d h
    go (Passes other) h again = let a : mark m ∷ e ≡ g = cc in subst (λ x. length (terminals x) ≤ length (terminals e)) a (omega arith)

-- no file goes on within the limits past a terminal that passes one
no-within : (kind : LimitKind) (p : List Terminal) (t : Terminal) (x : List Terminal) → PassesCounted kind p t → BeginsCounted (p ++ (t ∷ x)) → ⊥
unfolding answer_of
no-within kind p t x o b =
    let text : terminals (b.front ++ b.back) ≡ p ++ (t ∷ (x ++ terminals b.back)) = begun-text b ∙ append_assoc p (t ∷ x) (terminals b.back) in
    go (count b.after b.back) refl (ap whole (ap (finish b.value []) (sym (count-within none_yet b.after b.front b.back b.within)) ∙ sym (reads b.value (b.front ++ b.back) b.spelled) ∙ ap read text) ∙ limit_answered kind p t o (x ++ terminals b.back))
  where
    go : (v : Verdict) → count b.after b.back ≡ v → whole (finish b.value [] v) ≡ Passed kind (t ∷ (x ++ terminals b.back)) → ⊥
    go (Within d) e q = cc
    go (Beyond other g) e q = let a : terminals g ++ [] ≡ t ∷ (x ++ terminals b.back) = cc in
        let l = ap length (sym (append-nil (terminals g)) ∙ a) in omega (arith, l, length-append x (terminals b.back), left-shorter b.after other b.back g e)

begins-so : (p : List Terminal) (t : Terminal) (z : List Terminal) (v : Parsed) (e : List Event) → SpelledBy v e → terminals e ≡ p ++ (t ∷ z) → Begins (p ++ (t ∷ []))
begins-so p t z v e s q = record { value = v; events = e; others = z; spelled = s; text = q ∙ sym (append_assoc p (t ∷ []) z) }

-- no file goes on at a fault: none begins past it, none passes a limit there or later, and none ends there
no-begin : (p : List Terminal) (t : Terminal) (rest x : List Terminal) → NoFile p (t ∷ rest) → BeginsCounted (p ++ (t ∷ x)) → ⊥
no-begin p t rest x h b = h (begins-so p t (x ++ terminals b.back) b.value (b.front ++ b.back) b.spelled (begun-text b ∙ append_assoc p (t ∷ x) (terminals b.back)))

no-pass : (kind : LimitKind) (p : List Terminal) (t : Terminal) (rest : List Terminal) → NoFile p (t ∷ rest) → PassesCounted kind p t → ⊥
no-pass kind p t rest h o = h (begins-so p t o.others o.value (o.front ++ o.back) o.spelled (passing-text o))

no-pass-later : (kind : LimitKind) (p : List Terminal) (t u : Terminal) (rest x : List Terminal) → NoFile p (t ∷ rest) → PassesCounted kind (p ++ (t ∷ x)) u → ⊥
no-pass-later kind p t u rest x h o = h (begins-so p t (x ++ (u ∷ o.others)) o.value (o.front ++ o.back) o.spelled (passing-text o ∙ append_assoc p (t ∷ x) (u ∷ o.others)))

no-whole : (p rest : List Terminal) (v : Parsed) (e : List Event) → NoFile p rest → SpelledBy v e → terminals e ≡ p ++ rest → ⊥
no-whole p [] v e h s q = h v e s (q ∙ append-nil p)
no-whole p (t ∷ rest) v e h s q = h (begins-so p t rest v e s q)

-- a fault and a limit don't stand in one list
not-both : (kind : LimitKind) (p rest q : List Terminal) (t : Terminal) (z : List Terminal) → BeginsCounted p → NoFile p rest → PassesCounted kind q t → Cuts p rest q (t ∷ z) → ⊥
not-both kind p [] q t z b h o (inl x) = cc
not-both kind p (u ∷ rest) q t z b h o (inl x) = let a : u ≡ t = (let y : u ∷ rest ≡ t ∷ z = x.1 in cc) in
    no-pass kind p t rest (subst (λ w. NoFile p (w ∷ rest)) a h) (subst (λ w. PassesCounted kind w t) (sym x.0) o)
not-both kind p [] q t z b h o (inr (inl x)) = let y : [] ≡ x.item ∷ (x.between ++ (t ∷ z)) = x.rest in cc
not-both kind p (u ∷ rest) q t z b h o (inr (inl x)) = let a : u ≡ x.item = (let y : u ∷ rest ≡ x.item ∷ (x.between ++ (t ∷ z)) = x.rest in cc) in
    no-pass-later kind p x.item t rest x.between (subst (λ w. NoFile p (w ∷ rest)) a h) (subst (λ w. PassesCounted kind w t) x.front o)
not-both kind p rest q t z b h o (inr (inr x)) = let a : t ≡ x.item = (let y : t ∷ z ≡ x.item ∷ (x.between ++ rest) = x.rest in cc) in
    no-within kind q t x.between o (subst BeginsCounted (x.front ∙ ap (λ w. q ++ (w ∷ x.between)) (sym a)) b)

-- two faults of one list stand at one place
one-fault : (p rest q r : List Terminal) → IsCountedFault p rest → IsCountedFault q r → Cuts p rest q r → r ≡ rest
one-fault p rest q r f g (inl x) = sym x.1
one-fault p [] q r f g (inr (inl x)) = absurd (let y : [] ≡ x.item ∷ (x.between ++ r) = x.rest in cc)
one-fault p (u ∷ rest) q r f g (inr (inl x)) = absurd (let a : u ≡ x.item = (let y : u ∷ rest ≡ x.item ∷ (x.between ++ r) = x.rest in cc) in
    no-begin p x.item rest x.between (subst (λ w. NoFile p (w ∷ rest)) a f.1) (subst BeginsCounted x.front g.0))
one-fault p rest q [] f g (inr (inr x)) = absurd (let y : [] ≡ x.item ∷ (x.between ++ rest) = x.rest in cc)
one-fault p rest q (u ∷ r) f g (inr (inr x)) = absurd (let a : u ≡ x.item = (let y : u ∷ r ≡ x.item ∷ (x.between ++ rest) = x.rest in cc) in
    no-begin q x.item r x.between (subst (λ w. NoFile q (w ∷ r)) a g.1) (subst BeginsCounted x.front f.0))

fault-answered : (p rest : List Terminal) → IsCountedFault p rest → answer_of (p ++ rest) ≡ Stuck rest
fault-answered p rest f = go (answer_of (p ++ rest)) (answer_is_right (p ++ rest))
  where
    go : (o : Outcome Parsed) → IsCountedAnswer (p ++ rest) o → o ≡ Stuck rest
    go (Done v c r) g = absurd (no-whole p rest v g.0.events f.1 g.0.spelled g.0.text)
    go (Stuck r) (q, x, g) = ap Stuck (one-fault p rest q r f g (cuts p rest q r x))
    go (Passed kind r) (q, t, z, x, y, o) = absurd (not-both kind p rest q t z f.0 f.1 o (cuts p rest q (t ∷ z) (y ∙ ap (λ w. q ++ w) x)))

-- the laws

pub file_exact : (v : Parsed) (ts : List Terminal) (after : Counts) → (answer_of ts ≡ Done v after []) ↔ IsCountedFile v ts after
file_exact v ts after = (λ h. (subst (IsCountedAnswer ts) h (answer_is_right ts)).0, file_is_answered v ts after)

pub fault_exact : (p rest : List Terminal) → (answer_of (p ++ rest) ≡ Stuck rest) ↔ IsCountedFault p rest
fault_exact p rest = (λ h. back (subst (IsCountedAnswer (p ++ rest)) h (answer_is_right (p ++ rest))), fault-answered p rest)
  where
    back : IsCountedAnswer (p ++ rest) (Stuck rest) → IsCountedFault p rest
    back (q, x, g) = subst (λ w. IsCountedFault w rest) (sym (append_cancel_right p q rest x)) g

pub limit_exact : (kind : LimitKind) (p : List Terminal) (t : Terminal) (rest : List Terminal) → (answer_of (p ++ (t ∷ rest)) ≡ Passed kind (t ∷ rest)) ↔ PassesCounted kind p t
limit_exact kind p t rest = (λ h. back (subst (IsCountedAnswer (p ++ (t ∷ rest))) h (answer_is_right (p ++ (t ∷ rest)))), λ o. limit_answered kind p t o rest)
  where
    back : IsCountedAnswer (p ++ (t ∷ rest)) (Passed kind (t ∷ rest)) → PassesCounted kind p t
    back (q, u, z, x, y, o) = let a : t ≡ u = cc in subst (λ w. PassesCounted kind p w) (sym a) (subst (λ w. PassesCounted kind w u) (sym (append_cancel_right p q (t ∷ rest) y)) o)
