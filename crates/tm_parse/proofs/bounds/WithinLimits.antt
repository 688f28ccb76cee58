-- What every file keeps that is spelled within the limits, and so what is returned.
use Rattle.std.proofs.Common.{ℕ, ◌<◌, List, All}
use Rattle.std.specs.Prelude.{Result, Ok, Err, IfOk}
use Rattle.tm_parse.proofs.bounds.EachType.{each_type}
use Rattle.tm_parse.proofs.bounds.FileBounds.{has_few_items}
use Rattle.tm_parse.proofs.bounds.FileKeeping.{kept_definitions}
use Rattle.tm_parse.proofs.bounds.PartBounds.{definition_parts}
use Rattle.tm_parse.proofs.bounds.PlaceBounds.{places_kept}
use Rattle.tm_parse.proofs.reading.Returning.{file_returned}
use Rattle.tm_parse.proofs.bounds.TypeBounds.{keeps_small}
use Rattle.tm_parse.proofs.bounds.TypeIntegers.{keeps_integers}
use Rattle.tm_parse.proofs.bounds.TypeLengths.{keeps_lengths}
use Rattle.tm_parse.proofs.bounds.VariantBounds.{definition_variants}
use Rattle.tm_parse.specs.Accepted.{IsFile}
use Rattle.tm_parse.specs.Bounds.{HasItsVariants, HasFewParts, EachType, IsSmall, HasIntegers, HasShortArrays, CarriesInteger, IsWithinLimits}
use Rattle.tm_parse.specs.Parsing.{SpellsFile, IsAnswered}
use Rattle.tm_parse.specs.Places.{EachPlace}
use Rattle.tm_parse.specs.declared.parsed.Parsed.{Parsed}
use Rattle.tm_parse.specs.declared.parsing.ParseErr.{ParseErr}
use Rattle.tm_parse.specs.declared.terminal.Terminal.{Terminal}

module _ (v : Parsed) (ts : List Terminal) (f : IsFile v ts) where
  pub variants_kept : All HasItsVariants v.decls
  variants_kept = kept_definitions HasItsVariants (definition_variants (λ t. Unit {0})) v ts f

  pub parts_kept : All HasFewParts v.decls
  parts_kept = kept_definitions HasFewParts (definition_parts (λ t. Unit {0})) v ts f

  pub types_kept : EachType IsSmall v
  types_kept = each_type IsSmall (λ t. Unit {0}) keeps_small v ts f (λ k d l. tt)

  pub integers_kept : All CarriesInteger ts → EachType HasIntegers v
  integers_kept carried = each_type HasIntegers CarriesInteger keeps_integers v ts f carried

  pub lengths_kept : EachType HasShortArrays v
  lengths_kept = each_type HasShortArrays (λ t. Unit {0}) keeps_lengths v ts f (λ k d l. tt)

  pub within_limits : All CarriesInteger ts → IsWithinLimits v
  within_limits carried = record { items = has_few_items v ts f; variants = variants_kept; parts = parts_kept; types = types_kept; integers = integers_kept carried; arrays = lengths_kept }

pub within_returned : (ts : List Terminal) (result : Result Parsed ParseErr) → All CarriesInteger ts → IsAnswered ts result → IfOk result IsWithinLimits
within_returned ts result carried answered = go result (file_returned ts result answered)
  where
    go : (result : Result Parsed ParseErr) → IfOk result (SpellsFile ts) → IfOk result IsWithinLimits
    go (Ok v) h = within_limits v ts h carried
    go (Err e) h = tt

pub places_returned : (ts : List Terminal) (n : ℕ) (result : Result Parsed ParseErr) → All (λ t. t.place < n) ts → IsAnswered ts result → IfOk result (EachPlace (λ place. place < n))
places_returned ts n result placed answered = go result (file_returned ts result answered)
  where
    go : (result : Result Parsed ParseErr) → IfOk result (SpellsFile ts) → IfOk result (EachPlace (λ place. place < n))
    go (Ok v) h = places_kept (λ place. place < n) v ts h placed
    go (Err e) h = tt
