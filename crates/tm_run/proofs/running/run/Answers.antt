use Rattle.tm_run.proofs.runs.RunLemmas.{did-keeps}
use Rattle.tm_run.proofs.running.run.Goals as goal

pub returns-clause-headline : goal.returns-clause-headline
returns-clause-headline g c = (did-keeps _ _ _ _ _ _ _ _ _ _ c.done.ensures).headline

pub returns-clause-only_report : goal.returns-clause-only_report
returns-clause-only_report g c = (did-keeps _ _ _ _ _ _ _ _ _ _ c.done.ensures).only_report

pub returns-clause-outcome : goal.returns-clause-outcome
returns-clause-outcome g c = (did-keeps _ _ _ _ _ _ _ _ _ _ c.done.ensures).outcome

pub returns-clause-part : goal.returns-clause-part
returns-clause-part g c = (did-keeps _ _ _ _ _ _ _ _ _ _ c.done.ensures).part

pub returns-clause-silent_fault : goal.returns-clause-silent_fault
returns-clause-silent_fault g c = (did-keeps _ _ _ _ _ _ _ _ _ _ c.done.ensures).silent_fault

pub returns-clause-silent_memory : goal.returns-clause-silent_memory
returns-clause-silent_memory g c = (did-keeps _ _ _ _ _ _ _ _ _ _ c.done.ensures).silent_memory

pub returns-clause-fault : goal.returns-clause-fault
returns-clause-fault g c = (did-keeps _ _ _ _ _ _ _ _ _ _ c.done.ensures).fault

pub returns-clause-all_yes : goal.returns-clause-all_yes
returns-clause-all_yes g c = (did-keeps _ _ _ _ _ _ _ _ _ _ c.done.ensures).all_yes

pub returns-clause-mixed : goal.returns-clause-mixed
returns-clause-mixed g c = (did-keeps _ _ _ _ _ _ _ _ _ _ c.done.ensures).mixed

pub returns-clause-usage : goal.returns-clause-usage
returns-clause-usage g c = (did-keeps _ _ _ _ _ _ _ _ _ _ c.done.ensures).usage

pub returns-clause-bad_text : goal.returns-clause-bad_text
returns-clause-bad_text g c = (did-keeps _ _ _ _ _ _ _ _ _ _ c.done.ensures).bad_text

pub returns-clause-limit : goal.returns-clause-limit
returns-clause-limit g c = (did-keeps _ _ _ _ _ _ _ _ _ _ c.done.ensures).limit

pub returns-clause-ill_formed : goal.returns-clause-ill_formed
returns-clause-ill_formed g c = (did-keeps _ _ _ _ _ _ _ _ _ _ c.done.ensures).ill_formed

pub returns-clause-read_fault : goal.returns-clause-read_fault
returns-clause-read_fault g c = (did-keeps _ _ _ _ _ _ _ _ _ _ c.done.ensures).read_fault

pub returns-clause-read_risen : goal.returns-clause-read_risen
returns-clause-read_risen g c = (did-keeps _ _ _ _ _ _ _ _ _ _ c.done.ensures).read_risen

pub returns-clause-write_fault : goal.returns-clause-write_fault
returns-clause-write_fault g c = (did-keeps _ _ _ _ _ _ _ _ _ _ c.done.ensures).write_fault

pub returns-clause-write_risen : goal.returns-clause-write_risen
returns-clause-write_risen g c = (did-keeps _ _ _ _ _ _ _ _ _ _ c.done.ensures).write_risen

pub returns-clause-unread : goal.returns-clause-unread
returns-clause-unread g c = (did-keeps _ _ _ _ _ _ _ _ _ _ c.done.ensures).unread

pub returns-clause-taken : goal.returns-clause-taken
returns-clause-taken g c = (did-keeps _ _ _ _ _ _ _ _ _ _ c.done.ensures).taken

pub returns-clause-no_question : goal.returns-clause-no_question
returns-clause-no_question g c = (did-keeps _ _ _ _ _ _ _ _ _ _ c.done.ensures).no_question
