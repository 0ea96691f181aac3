-- What is made of a number within a bound is the same by whatever proof of the bound.
use Rattle.std.proofs.Common.{◌≡◌, ℕ, ◌<◌, Bool, true, false, ltb, Some, refl, ap, ltb-true, lt-ltb}
use native.Mathlib.Bridge.{le_prop}
use Rattle.codes.specs.Bounds.{within_if, within}

module _ {A : Type 0} (bound n : ℕ) (make : n < bound → A) (p : n < bound) where
  made_if : (b : Bool) (e : ltb n bound ≡ b) → within_if bound n make b e ≡ Some (make p)
  made_if true e = ap (λ q. Some (make q)) (le_prop (ltb-true n bound e) p)
  made_if false e = let t = lt-ltb n bound p in cc

  pub within_made : within bound n make ≡ Some (make p)
  within_made = made_if (ltb n bound) refl
