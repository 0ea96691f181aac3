-- Counts keep the laws of a kind.
use Rattle.std.specs.Prelude.{ℕ, ◌%◌, ◌^◌, ◌≢◌}
use Rattle.std.proofs.Common.{ap, arith, add_comm, mul_comm}
use Rattle.std.proofs.lemmas.Bool.Decides.{nat_tests}
use Rattle.codes.specs.Codes.{code, nought}
use Rattle.codes.specs.Kinds.{Laws}
use Rattle.codes.specs.Counts.{count}
use Rattle.codes.specs.Alike.{same_code}

pub count_laws : Laws count
count_laws = record {
  sum_zero = λ p. same_code _ p (omega (arith, p.fits));
  sum_swap = λ p q. ap (λ (n : ℕ). code (n % 2 ^ 32)) (add_comm p.bits q.bits);
  difference_self = λ p. same_code _ nought (omega (arith, p.fits));
  difference_zero = λ p. same_code _ p (omega (arith, p.fits));
  product_one = λ p. same_code _ p (omega (arith, p.fits));
  product_zero = λ p. same_code _ nought (omega arith);
  product_swap = λ p q. ap (λ (n : ℕ). code (n % 2 ^ 32)) (mul_comm p.bits q.bits);
  less_self = λ p. grind (arith, nat_tests);
  less_less = λ p q r a b. grind (arith, nat_tests);
  less_either = λ p q n. let apart : (p.bits ≢ q.bits) = λ e. n (same_code p q e) in grind (arith, nat_tests);
}
