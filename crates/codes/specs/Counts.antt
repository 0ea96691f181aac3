-- Counts: numbers modulo 2 ^ 32, compared without sign.
use Rattle.std.specs.Prelude.{◌+◌, ◌-◌, ◌*◌, ◌%◌, ◌^◌, nat_lt}
use Rattle.codes.specs.Codes.{code}
use Rattle.codes.specs.Kinds.{Arithmetic}

abbrev pub count : Arithmetic
count = record {
  one = code 1;
  sum = λ p q. code ((p.bits + q.bits) % 2 ^ 32);
  difference = λ p q. code ((p.bits + (2 ^ 32 - q.bits)) % 2 ^ 32);
  product = λ p q. code ((p.bits * q.bits) % 2 ^ 32);
  less = λ p q. nat_lt p.bits q.bits;
}
