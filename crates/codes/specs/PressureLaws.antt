-- Pressures keep the laws of a kind at every number of steps to the bar, and a product of two fits 64 bits on the way.
use Rattle.std.specs.Prelude.{◌≡◌, ℕ, zero, suc, ◌*◌, ◌/◌, ◌%◌, ◌^◌, ◌<◌, ℤ, pos, negsuc, ◌*ℤ◌, neg_ℤ, FitsSigned, ◌≢◌, int_div, refl}
use Rattle.std.proofs.Common.{sym, ap, ◌∙◌, mul-div_cancel, div-le_self, arith, of_z}
use Rattle.std.proofs.Math.Nat.{zero-div}
use borrow.Author.Differences.{up, down}
use borrow.Author.Numbers.{signed_product}
use Rattle.std.proofs.Math.IntN.{+ℤ_comm, +ℤ_idr, +ℤ_invr, *ℤ_comm, *ℤ-zero}
use Rattle.std.proofs.lemmas.Int.{ints, of_z-to_z, to_z-of_z, to_z_pos}
use Rattle.std.specs.Int.{w32, w64}
use Rattle.codes.specs.declared.bounds.Code.{Code}
use Rattle.codes.specs.Codes.{code}
use Rattle.codes.specs.Kinds.{Laws}
use Rattle.codes.specs.Pressures.{signed, stopped, pressure}
use Rattle.codes.specs.Alike.{same_code}

-- a number that a code stands for is its own stop
kept : (p : Code) → stopped (signed p) ≡ p
kept p = same_code (stopped (signed p)) p (grind (arith, ints, of_z-to_z w32 p.bits p.fits, p.fits))

signed_apart : (p q : Code) → (p ≢ q) → signed p ≢ signed q
signed_apart p q apart e = apart (same_code p q (sym (of_z-to_z w32 p.bits p.fits) ∙ ap (of_z w32) e ∙ of_z-to_z w32 q.bits q.fits))

-- products and quotients fit 64 bits
pub product_fits : (a b : ℤ) → FitsSigned w32 a → FitsSigned w32 b → FitsSigned w64 (a *ℤ b)
product_fits a b f g =
    let f64 : FitsSigned w64 a = omega (arith, ints) in
    let g64 : FitsSigned w64 b = omega (arith, ints) in
    simp to_z-of_z at (signed_product w64 w32 w32 a b f g tt)

pub quot_fits : (z : ℤ) (s : ℕ) → FitsSigned w64 z → FitsSigned w64 (int_div z (pos s))
quot_fits z s f = omega (arith, ints, div-le_self (up z) s, div-le_self (down z) s)

-- of a product with s nothing is dropped
quot_product : (z : ℤ) (s : ℕ) → 0 < s → int_div (z *ℤ pos s) (pos s) ≡ z
quot_product (pos a) s positive = ap pos (mul-div_cancel a positive)
quot_product (negsuc a) s positive = quot_neg (suc a * s) ∙ ap (λ n. neg_ℤ (pos n)) (mul-div_cancel (suc a) positive)
  where
    quot_neg : (n : ℕ) → int_div (neg_ℤ (pos n)) (pos s) ≡ neg_ℤ (pos (n / s))
    quot_neg zero = rw zero-div
    quot_neg (suc n) = refl

one_signed : (s : ℕ) → s < 2 ^ 31 → signed (code s) ≡ pos s
one_signed s small = let e : s % 2 ^ 32 ≡ s = omega arith in rw e (to_z_pos w32 s small)

pub pressure_laws : (s : ℕ) → 0 < s → s < 2 ^ 31 → Laws (pressure s)
pressure_laws s positive small = record {
  sum_zero = λ p. rw +ℤ_idr (kept p);
  sum_swap = λ p q. rw (+ℤ_comm (signed p));
  difference_self = λ p. rw +ℤ_invr;
  difference_zero = λ p. rw +ℤ_idr (kept p);
  product_one = λ p. rw (one_signed s small, quot_product) (kept p);
  product_zero = λ p. rw (*ℤ-zero, zero-div);
  product_swap = λ p q. rw (*ℤ_comm (signed p));
  less_self = λ p. grind (arith, ints);
  less_less = λ p q r a b. grind (arith, ints);
  less_either = λ p q n. let apart = signed_apart p q n in grind (arith, ints);
}
