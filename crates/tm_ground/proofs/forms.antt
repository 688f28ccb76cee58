pub mod FormLemmas
pub mod OpenLemmas
pub mod HeadLemmas
pub mod OccurringForm
pub mod RowForm
pub mod TypesForm
