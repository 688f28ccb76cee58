-- What a list of terminals is by the grammar is what is answered for it.
use Rattle.std.proofs.Common.{◌≡◌, subst, ◌↔◌, List, [], ◌∷◌, ◌++◌}
use Rattle.tm_parse.proofs.reading.Answering.{answer_is_right, file_is_answered, one_file}
use Rattle.tm_parse.proofs.reading.Exactness.{file_exact, fault_exact, limit_exact}
use Rattle.tm_parse.proofs.limits.LimitLemmas.{is-within, is-counted, is-passed, passes-counted}
use Rattle.tm_parse.specs.Accepted.{SpelledBy, PassesAt, IsFile, IsFaultAt, answer_of, IsAnswer}
use Rattle.tm_parse.specs.Counted.{PassesCounted, IsCountedFile, IsCountedFault, IsCountedAnswer}
use Rattle.tm_parse.specs.Events.{Event, terminals}
use Rattle.tm_parse.specs.Parts.{Outcome, Done, Stuck, Passed}
use Rattle.tm_parse.specs.declared.counts.Counts.{Counts}
use Rattle.tm_base.specs.declared.limit.LimitKind.{LimitKind}
use Rattle.tm_parse.specs.declared.parsed.Parsed.{Parsed}
use Rattle.tm_parse.specs.declared.terminal.Terminal.{Terminal}

counted-file : (v : Parsed) (ts : List Terminal) → IsFile v ts → (after : Counts) × IsCountedFile v ts after
counted-file v ts f = let (after, within) = is-counted f.events f.within in (after, record { events = f.events; spelled = f.spelled; text = f.text; within = within })

file-counted : (v : Parsed) (ts : List Terminal) (after : Counts) → IsCountedFile v ts after → IsFile v ts
file-counted v ts after f = record { events = f.events; spelled = f.spelled; text = f.text; within = (is-within f.events after f.within).0 }

fault-counted : (p rest : List Terminal) → IsCountedFault p rest → IsFaultAt p rest
fault-counted p rest (b, none) = (record { value = b.value; front = b.front; back = b.back; spelled = b.spelled; text = b.text; within = (is-within b.front b.after b.within).0 }, none)

counted-fault : (p rest : List Terminal) → IsFaultAt p rest → IsCountedFault p rest
counted-fault p rest (b, none) =
    let (after, within) = is-counted b.front b.within in
    (record { value = b.value; front = b.front; back = b.back; after = after; spelled = b.spelled; text = b.text; within = within }, none)

limit-counted : (kind : LimitKind) (p : List Terminal) (t : Terminal) → PassesCounted kind p t → PassesAt kind p t
limit-counted kind p t o =
    let (event, back, same, passes) = is-passed kind o.front o.back o.after o.within o.passes in
    record {
      value = o.value;
      front = o.front;
      event = event;
      back = back;
      others = o.others;
      spelled = subst (λ (e : List Event). SpelledBy o.value (o.front ++ e)) same o.spelled;
      text = o.text;
      next = subst (λ (e : List Event). terminals e ≡ t ∷ o.others) same o.next;
      passes = passes;
    }

counted-limit : (kind : LimitKind) (p : List Terminal) (t : Terminal) → PassesAt kind p t → PassesCounted kind p t
counted-limit kind p t o =
    let (after, within, passes) = passes-counted kind o.front o.back o.event o.passes in
    record { value = o.value; front = o.front; back = o.event ∷ o.back; others = o.others; after = after; spelled = o.spelled; text = o.text; next = o.next; within = within; passes = passes }

-- ---- the laws

pub answer_is_said : (ts : List Terminal) → IsAnswer ts (answer_of ts)
answer_is_said ts = go (answer_of ts) (answer_is_right ts)
  where
    go : (o : Outcome Parsed) → IsCountedAnswer ts o → IsAnswer ts o
    go (Done v after rest) (f, none) = (file-counted v ts after f, none)
    go (Stuck rest) (p, text, f) = (p, text, fault-counted p rest f)
    go (Passed kind rest) (p, t, others, left, text, o) = (p, t, others, left, text, limit-counted kind p t o)

pub file_said : (v : Parsed) (ts : List Terminal) → ((after : Counts) × (answer_of ts ≡ Done v after [])) ↔ IsFile v ts
file_said v ts = (λ (after, h). file-counted v ts after ((file_exact v ts after).0 h), λ f. let (after, counted) = counted-file v ts f in (after, file_is_answered v ts after counted))

pub one_said : (v w : Parsed) (ts : List Terminal) (e : List Event) → IsFile v ts → SpelledBy w e → terminals e ≡ ts → v ≡ w
one_said v w ts e f h eq = let (after, counted) = counted-file v ts f in one_file v w ts after e counted h eq

pub fault_said : (p rest : List Terminal) → (answer_of (p ++ rest) ≡ Stuck rest) ↔ IsFaultAt p rest
fault_said p rest = (λ h. fault-counted p rest ((fault_exact p rest).0 h), λ f. (fault_exact p rest).1 (counted-fault p rest f))

pub limit_said : (kind : LimitKind) (p : List Terminal) (t : Terminal) (rest : List Terminal) → (answer_of (p ++ (t ∷ rest)) ≡ Passed kind (t ∷ rest)) ↔ PassesAt kind p t
limit_said kind p t rest = (λ h. limit-counted kind p t ((limit_exact kind p t rest).0 h), λ o. (limit_exact kind p t rest).1 (counted-limit kind p t o))
