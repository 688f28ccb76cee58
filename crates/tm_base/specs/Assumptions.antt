-- Sets of assumptions: the documentation of `core::mem::Assume`.
use Rattle.std.specs.Prelude.{IsTrue}
use Rattle.tm_base.specs.declared.assume.Assume.{Assume}

-- the first has each flag that the second has
pub record Includes (more less : Assume) : Type 0 where
  pub alignment : IsTrue less.alignment → IsTrue more.alignment
  pub lifetimes : IsTrue less.lifetimes → IsTrue more.lifetimes
  pub safety : IsTrue less.safety → IsTrue more.safety
  pub validity : IsTrue less.validity → IsTrue more.validity
