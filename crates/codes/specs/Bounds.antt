-- Numbers within a bound, and the cells, which are such numbers.
use Rattle.std.specs.Prelude.{◌≡◌, ℕ, ◌+◌, ◌%◌, ◌<◌, Bool, true, false, Some, None, Option, nat_lt, refl}
use Rattle.std.proofs.Common.{arith, ltb-true}
use Rattle.codes.specs.declared.bounds.Code.{Code}
use Rattle.codes.specs.declared.bounds.UpTo.{UpTo}

-- what is made of n, if n is below the bound
module _ {A : Type 0} (bound n : ℕ) (make : n < bound → A) where
  abbrev pub within_if : (b : Bool) → nat_lt n bound ≡ b → Option A
  within_if true e = Some (make (ltb-true n bound e))
  within_if false e = None

  abbrev pub within : Option A
  within = within_if (nat_lt n bound) refl

-- what n names, where there are numbers up to last
abbrev pub numbered : (last : ℕ) → ℕ → Option (UpTo last)
numbered last n = within (last + 1) n (λ p. record { number = n; small = p })

-- what follows n others, where after the last comes the first
abbrev pub wrapped : (last : ℕ) → ℕ → UpTo last
wrapped last n = record { number = n % (last + 1); small = omega arith }

abbrev pub Cell : Type 0
Cell = UpTo 63

abbrev pub cell_at : ℕ → Option Cell
cell_at = numbered 63

-- the cell numbered by the low six bits of a code
abbrev pub low_cell : Code → Cell
low_cell p = wrapped 63 p.bits
