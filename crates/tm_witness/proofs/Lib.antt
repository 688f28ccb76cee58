pub mod WordLemmas
pub mod SearchLemmas
pub mod TypeAutomata
pub mod GoingOnLemmas
pub mod JudgedLeaves
pub mod RuleLemmas
pub mod RefusedLemmas
