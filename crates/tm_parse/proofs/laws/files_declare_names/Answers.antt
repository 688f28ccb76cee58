use Rattle.std.specs.Prelude.{IsTrue}
use Rattle.tm_parse.proofs.bounds.DeclaredClasses.{declared_kept}
use Rattle.tm_parse.proofs.laws.files_declare_names.Goals as goal

pub returns-clause-names : goal.returns-clause-names
returns-clause-names c holds v ts f each =
    (declared_kept (λ place. IsTrue (holds place)) (λ place. Unit {0}) v ts f (λ k d l. record { name = each k d l; lifetime = λ h. tt })).names

pub returns-clause-lifetimes : goal.returns-clause-lifetimes
returns-clause-lifetimes c holds v ts f each =
    (declared_kept (λ place. Unit {0}) (λ place. IsTrue (holds place)) v ts f (λ k d l. record { name = λ h. tt; lifetime = each k d l })).lifetimes
