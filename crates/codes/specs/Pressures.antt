-- Pressures: s codes to the bar, read as signed numbers in two's complement, that stop at both ends of 32 bits.
use Rattle.std.specs.Prelude.{ℕ, Bool, ℤ, pos, ◌+ℤ◌, ◌-ℤ◌, ◌*ℤ◌, int_div, int_lt}
use Rattle.std.proofs.Common.{to_z, of_z}
use Rattle.std.specs.Int.{saturate_to_bits, w32}
use Rattle.codes.specs.declared.bounds.Code.{Code}
use Rattle.codes.specs.Codes.{code}
use Rattle.codes.specs.Kinds.{Arithmetic}

-- the number that a code stands for
abbrev pub signed : Code → ℤ
signed p = to_z w32 p.bits

-- the code of z, stopped at -2 ^ 31 and at 2 ^ 31 - 1
abbrev pub stopped : ℤ → Code
stopped z = code (of_z w32 (saturate_to_bits 31 z))

abbrev pub sum_of : Code → Code → Code
sum_of p q = stopped (signed p +ℤ signed q)

abbrev pub difference_of : Code → Code → Code
difference_of p q = stopped (signed p -ℤ signed q)

-- int_div drops the fraction toward zero
abbrev pub product_of : ℕ → Code → Code → Code
product_of s p q = stopped (int_div (signed p *ℤ signed q) (pos s))

abbrev pub less_than : Code → Code → Bool
less_than p q = int_lt (signed p) (signed q)

abbrev pub pressure : ℕ → Arithmetic
pressure s = record { one = code s; sum = sum_of; difference = difference_of; product = product_of s; less = less_than }
