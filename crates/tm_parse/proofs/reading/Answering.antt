-- Each answer says what the list of terminals is, and a spelled file is answered.
use Rattle.std.proofs.Common.{◌≡◌, refl, sym, ap, ◌∙◌, subst, List, [], ◌∷◌, ◌++◌, append-nil, append_assoc}
use Rattle.tm_parse.proofs.grammar.FileLaws.{file_laws}
use Rattle.tm_parse.proofs.grammar.Lawful.{Same, IsDone, Stops, IsPast, IsRight}
use Rattle.tm_parse.specs.Accepted.{SpelledBy, NoFile, whole, answer_of}
use Rattle.tm_parse.specs.Counted.{PassesCounted, IsCountedFile, IsCountedAnswer}
use Rattle.tm_parse.specs.Events.{Event, terminals}
use Rattle.tm_parse.specs.Files.{file}
use Rattle.tm_parse.specs.Counting.{Verdict, Within, Beyond, count, none_yet}
use Rattle.tm_parse.specs.Parts.{Outcome, Done, Stuck, Passed, finish}
use Rattle.tm_parse.specs.declared.counts.Counts.{Counts}
use Rattle.tm_base.specs.declared.limit.LimitKind.{LimitKind}
use Rattle.tm_parse.specs.declared.parsed.Parsed.{Parsed}
use Rattle.tm_parse.specs.declared.terminal.Terminal.{Terminal}

abbrev pub read : List Terminal → Outcome Parsed
read ts = (file 0).read none_yet ts

pub reads : (v : Parsed) (e : List Event) → SpelledBy v e → read (terminals e) ≡ finish v [] (count none_yet e)
reads v e h = subst (λ ts. read ts ≡ finish v [] (count none_yet e)) (append-nil (terminals e)) (file_laws.reads h.levels v e none_yet [] h.spelled tt)

pub is_right : (ts : List Terminal) → IsRight file none_yet ts (read ts)
is_right ts = file_laws.right none_yet ts

not-stuck : (v : Parsed) (x : Verdict) (ts : List Terminal) → finish v [] x ≡ Stuck ts → ⊥
not-stuck v (Within c) ts h = cc
not-stuck v (Beyond kind left) ts h = cc

not-longer : (v w : Parsed) (c : Counts) (x : Verdict) (t : Terminal) (ts : List Terminal) → finish v [] x ≡ Done w c (t ∷ ts) → ⊥
not-longer v w c (Within d) t ts h = let a : [] ≡ t ∷ ts = cc in cc
not-longer v w c (Beyond kind left) t ts h = cc

stuck-answer : (ts rest : List Terminal) (back : List Event) (after : Counts) → Stops file none_yet ts rest back after Stuck → IsCountedAnswer ts (Stuck rest)
stuck-answer ts rest back after g = (
  terminals g.front,
  g.text,
  (record { value = g.value; front = g.front; back = back; after = after; spelled = record { levels = g.depth; spelled = g.spelled }; text = refl; within = g.within }, hopeless rest g.alone),
)
  where
    hopeless : (rest : List Terminal) → ((o : List Terminal) → Same rest o → read (terminals g.front ++ o) ≡ Stuck o) → NoFile (terminals g.front) rest
    hopeless [] alone = λ v e h eq. not-stuck v (count none_yet e) [] (sym (reads v e h) ∙ ap read (eq ∙ sym (append-nil (terminals g.front))) ∙ alone [] refl)
    hopeless (t ∷ rest) alone = λ b. not-stuck b.value (count none_yet b.events) (t ∷ b.others)
        (sym (reads b.value b.events b.spelled) ∙ ap read (b.text ∙ append_assoc (terminals g.front) (t ∷ []) b.others) ∙ alone (t ∷ b.others) refl)

passed-answer : (ts rest : List Terminal) (kind : LimitKind) (back : List Event) (after : Counts) → Stops file none_yet ts rest back after (Passed kind) → IsPast kind rest back after → IsCountedAnswer ts (Passed kind rest)
passed-answer ts [] kind back after g past = absurd (past.some refl)
passed-answer ts (t ∷ rest) kind back after g past = (terminals g.front, t, rest, refl, g.text, next (terminals back) refl past.next)
  where
    next : (u : List Terminal) → terminals back ≡ u → Same (t ∷ rest) u → PassesCounted kind (terminals g.front) t
    next [] e n = absurd n
    next (y ∷ u) e n = record {
      value = g.value;
      front = g.front;
      back = back;
      others = u;
      after = after;
      spelled = record { levels = g.depth; spelled = g.spelled };
      text = refl;
      next = e ∙ ap (λ x. x ∷ u) (sym n);
      within = g.within;
      passes = past.passes;
    }

done-answer : (ts : List Terminal) (v : Parsed) (c : Counts) (rest : List Terminal) → IsDone file none_yet ts v c rest → IsCountedAnswer ts (whole (Done v c rest))
done-answer ts v c [] g = (record { events = g.events; spelled = record { levels = g.depth; spelled = g.spelled }; text = sym (g.text ∙ append-nil (terminals g.events)); within = g.within }, refl)
done-answer ts v c (t ∷ rest) g = (
  terminals g.events,
  g.text,
  (
    record { value = v; front = g.events; back = []; after = c; spelled = record { levels = g.depth; spelled = subst ((file g.depth).spells v) (sym (append-nil g.events)) g.spelled }; text = refl; within = g.within },
    λ b. not-longer b.value v c (count none_yet b.events) t b.others
        (sym (reads b.value b.events b.spelled) ∙ ap read (b.text ∙ append_assoc (terminals g.events) (t ∷ []) b.others) ∙ g.alone (t ∷ b.others) refl),
  ),
)

answers : (ts : List Terminal) (o : Outcome Parsed) → IsRight file none_yet ts o → IsCountedAnswer ts (whole o)
answers ts (Done v c rest) g = done-answer ts v c rest g
answers ts (Stuck rest) (back, after, g) = stuck-answer ts rest back after g
answers ts (Passed kind rest) (back, after, g, past) = passed-answer ts rest kind back after g past

-- each answer is right
pub answer_is_right : (ts : List Terminal) → IsCountedAnswer ts (answer_of ts)
unfolding answer_of
answer_is_right ts = answers ts (read ts) (is_right ts)

-- a file within the limits is answered
pub file_is_answered : (v : Parsed) (ts : List Terminal) (after : Counts) → IsCountedFile v ts after → answer_of ts ≡ Done v after []
unfolding answer_of
file_is_answered v ts after f = ap (λ x. whole (read x)) (sym f.text) ∙ ap whole (reads v f.events f.spelled ∙ ap (finish v []) f.within)

-- and the terminals spell no other file
pub one_file : (v w : Parsed) (ts : List Terminal) (after : Counts) (e : List Event) → IsCountedFile v ts after → SpelledBy w e → terminals e ≡ ts → v ≡ w
unfolding answer_of
one_file v w ts after e f h eq = same (count none_yet e) (sym (ap whole (reads w e h)) ∙ ap answer_of eq ∙ file_is_answered v ts after f)
  where
    same : (x : Verdict) → whole (finish w [] x) ≡ Done v after [] → v ≡ w
    same (Within d) g = cc
    same (Beyond kind left) g = absurd cc
