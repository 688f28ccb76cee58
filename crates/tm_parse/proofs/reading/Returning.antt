-- What is returned for a list of terminals says what the list is, and what it is decides what is returned.
use Rattle.std.proofs.Common.{◌≡◌, ◌⊎◌, ℕ, ◌+◌, ◌-◌, ◌≤◌, refl, sym, ap, ◌∙◌, subst, List, ◌∷◌, ◌++◌, length, length-append, Result, IfOk, IfErr, MatchResult, inl, inr, arith}
use Rattle.tm_parse.proofs.reading.AcceptedLaws.{answer_is_said, file_said, fault_said, limit_said}
use Rattle.tm_parse.proofs.reading.Answering.{read, is_right}
use Rattle.tm_parse.proofs.grammar.Lawful.{IsRight}
use Rattle.tm_parse.specs.Accepted.{answer_of, IsAnswer}
use Rattle.tm_parse.specs.Events.{terminals}
use Rattle.tm_parse.specs.Files.{file}
use Rattle.tm_parse.specs.Counting.{none_yet}
use Rattle.tm_parse.specs.Parsing.{SpellsFile, StopsAt, PassesLimitAt, HasCause, returned, IsAnswered}
use Rattle.tm_parse.specs.Parts.{Outcome, Done, Stuck, Passed}
use Rattle.tm_parse.specs.declared.counts.Counts.{Counts}
use Rattle.tm_parse.specs.declared.parsed.Parsed.{Parsed}
use Rattle.tm_parse.specs.declared.parsing.ParseErr.{ParseErr}
use Rattle.tm_parse.specs.declared.parsing.ParseErr.TheVariants.{At, Limit, Memory}
use Rattle.tm_parse.specs.declared.terminal.Terminal.{Terminal}
use Rattle.tm_base.specs.declared.limit.LimitKind.{LimitKind}

-- the terminals before those that are left are as many as the place says
counts-front : (ts front rest : List Terminal) → ts ≡ front ++ rest → length ts - length rest ≡ length front
counts-front ts front rest h = let whole : length ts ≡ length front + length rest = ap length h ∙ length-append front rest in omega (arith, whole)

-- what is returned is right

pub file_returned : (ts : List Terminal) (r : Result Parsed ParseErr) → IsAnswered ts r → IfOk r (SpellsFile ts)
file_returned ts r (inr e) = subst (λ x. IfOk x (SpellsFile ts)) (sym e) tt
file_returned ts r (inl e) = subst (λ x. IfOk x (SpellsFile ts)) (sym e) (told (answer_of ts) (answer_is_said ts))
  where
    told : (o : Outcome Parsed) → IsAnswer ts o → IfOk (returned ts o) (SpellsFile ts)
    told (Done v after rest) g = g.0
    told (Stuck rest) g = tt
    told (Passed kind rest) g = tt

pub cause_returned : (ts : List Terminal) (r : Result Parsed ParseErr) → IsAnswered ts r → IfErr r (HasCause ts)
cause_returned ts r (inr e) = subst (λ x. IfErr x (HasCause ts)) (sym e) tt
cause_returned ts r (inl e) = subst (λ x. IfErr x (HasCause ts)) (sym e) (told (answer_of ts) (answer_is_said ts))
  where
    told : (o : Outcome Parsed) → IsAnswer ts o → IfErr (returned ts o) (HasCause ts)
    told (Done v after rest) g = tt
    told (Stuck rest) (front, text, fault) = record { front = front; rest = rest; splits = text; long = sym (counts-front ts front rest text); fault = fault }
    told (Passed kind rest) (front, next, others, left, text, passes) =
        record { front = front; next = next; rest = others; splits = text ∙ ap (λ x. front ++ x) left; long = sym (counts-front ts front rest text); passes = passes }

-- what the terminals are is returned

pub spelled_returned : (ts : List Terminal) (r : Result Parsed ParseErr) → IsAnswered ts r → (v : Parsed) → SpellsFile ts v → MatchResult r (λ found. found ≡ v) (λ err. err ≡ Memory)
spelled_returned ts r (inr e) v s = subst (λ x. MatchResult x (λ found. found ≡ v) (λ err. err ≡ Memory)) (sym e) refl
spelled_returned ts r (inl e) v s = subst (λ x. MatchResult x (λ found. found ≡ v) (λ err. err ≡ Memory)) (sym (e ∙ ap (returned ts) ((file_said v ts).1 s).1)) refl

pub fault_returned : (ts : List Terminal) (r : Result Parsed ParseErr) → IsAnswered ts r → (place : ℕ) → StopsAt ts place → MatchResult r (λ _. ⊥) (λ err. (err ≡ At place) ⊎ (err ≡ Memory))
fault_returned ts r (inr e) place s = subst (λ x. MatchResult x (λ _. ⊥) (λ err. (err ≡ At place) ⊎ (err ≡ Memory))) (sym e) (inr refl)
fault_returned ts r (inl e) place s =
    let told : answer_of ts ≡ Stuck s.rest = ap answer_of s.splits ∙ (fault_said s.front s.rest).1 s.fault in
    let at : length ts - length s.rest ≡ place = counts-front ts s.front s.rest s.splits ∙ s.long in
    subst (λ x. MatchResult x (λ _. ⊥) (λ err. (err ≡ At place) ⊎ (err ≡ Memory))) (sym (e ∙ ap (returned ts) told)) (inl (ap At at))

pub limit_returned : (ts : List Terminal) (r : Result Parsed ParseErr) → IsAnswered ts r → (kind : LimitKind) (place : ℕ) → PassesLimitAt ts kind place → MatchResult r (λ _. ⊥) (λ err. (err ≡ Limit kind place) ⊎ (err ≡ Memory))
limit_returned ts r (inr e) kind place s = subst (λ x. MatchResult x (λ _. ⊥) (λ err. (err ≡ Limit kind place) ⊎ (err ≡ Memory))) (sym e) (inr refl)
limit_returned ts r (inl e) kind place s =
    let told : answer_of ts ≡ Passed kind (s.next ∷ s.rest) = ap answer_of s.splits ∙ (limit_said kind s.front s.next s.rest).1 s.passes in
    let at : length ts - length (s.next ∷ s.rest) ≡ place = counts-front ts s.front (s.next ∷ s.rest) s.splits ∙ s.long in
    subst (λ x. MatchResult x (λ _. ⊥) (λ err. (err ≡ Limit kind place) ⊎ (err ≡ Memory))) (sym (e ∙ ap (returned ts) told)) (inl (ap (Limit kind) at))

-- what reading leaves is no longer than the list

abbrev pub left : Outcome Parsed → List Terminal
left (Done v after rest) = rest
left (Stuck rest) = rest
left (Passed kind rest) = rest

shorter : (ts front rest : List Terminal) → ts ≡ front ++ rest → length rest ≤ length ts
shorter ts front rest h = let whole : length ts ≡ length front + length rest = ap length h ∙ length-append front rest in omega (arith, whole)

pub left_within : (ts us : List Terminal) (n : Counts) (count : ℕ) (o : Outcome Parsed) → n ≡ none_yet → us ≡ ts → count ≡ length ts → (file 0).read n us ≡ o → length (left o) ≤ count
left_within ts us n count o first same counts told =
    let here : read ts ≡ o = sym (ap (λ m. (file 0).read m us) first ∙ ap (λ us. (file 0).read none_yet us) same) ∙ told in
    subst (λ n. length (left o) ≤ n) (sym counts) (within o (subst (IsRight file none_yet ts) here (is_right ts)))
  where
    within : (o : Outcome Parsed) → IsRight file none_yet ts o → length (left o) ≤ length ts
    within (Done v after rest) g = shorter ts (terminals g.events) rest g.text
    within (Stuck rest) (back, after, g) = shorter ts (terminals g.front) rest g.text
    within (Passed kind rest) (back, after, g, past) = shorter ts (terminals g.front) rest g.text
