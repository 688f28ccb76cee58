mod MarkLemmas
mod ZipLemmas
