-- Codes: numbers of 32 bits.
use Rattle.std.specs.Prelude.{ℕ, ◌%◌, ◌^◌, Bool, ◌==◌}
use Rattle.std.proofs.Common.{arith}
use Rattle.codes.specs.declared.bounds.Code.{Code}

-- the code of a number, modulo 2 ^ 32
abbrev pub code : ℕ → Code
code n = record { bits = n % 2 ^ 32; fits = omega arith }

-- zero in every kind
abbrev pub nought : Code
nought = code 0

abbrev pub same : Code → Code → Bool
same p q = p.bits == q.bits
