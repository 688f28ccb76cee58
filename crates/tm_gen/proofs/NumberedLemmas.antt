-- Parts that are written one after the other.
use Rattle.std.proofs.Common.{◌≡◌, ℕ, ◌+◌, [], refl, add-one}
use Rattle.tm_gen.specs.Written.{Written, plain, followed, numbered}

pub numbered-none : (part : ℕ → ℕ → Written) (x : ℕ) → numbered part 0 x ≡ plain [] x
unfolding numbered
numbered-none part x = refl

-- one part more
pub numbered-more : (part : ℕ → ℕ → Written) (n x : ℕ) → numbered part (n + 1) x ≡ followed (numbered part n x) (part n)
unfolding numbered
numbered-more part n x = rw (add-one n) refl
