-- What a kind of number computes on codes, and the laws that every kind keeps.
use Rattle.std.specs.Prelude.{◌≡◌, Bool, true, false, ◌⊎◌, ◌≢◌}
use Rattle.codes.specs.declared.bounds.Code.{Code}
use Rattle.codes.specs.Codes.{nought}

pub record Arithmetic : Type 0 where
  pub one : Code
  pub sum : Code → Code → Code
  pub difference : Code → Code → Code
  pub product : Code → Code → Code
  pub less : Code → Code → Bool

-- for all codes; no sum is regrouped, and nothing is said of 0 − p
pub record Laws (k : Arithmetic) : Type 0 where
  pub sum_zero : (p : Code) → k.sum p nought ≡ p
  pub sum_swap : (p q : Code) → k.sum p q ≡ k.sum q p
  pub difference_self : (p : Code) → k.difference p p ≡ nought
  pub difference_zero : (p : Code) → k.difference p nought ≡ p
  pub product_one : (p : Code) → k.product p k.one ≡ p
  pub product_zero : (p : Code) → k.product p nought ≡ nought
  pub product_swap : (p q : Code) → k.product p q ≡ k.product q p
  pub less_self : (p : Code) → k.less p p ≡ false
  pub less_less : (p q r : Code) → k.less p q ≡ true → k.less q r ≡ true → k.less p r ≡ true
  pub less_either : (p q : Code) → (p ≢ q) → (k.less p q ≡ true) ⊎ (k.less q p ≡ true)
