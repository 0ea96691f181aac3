-- A bounded number is the same as another of the same number: a bound has one proof.
use Rattle.std.specs.Prelude.{◌≡◌, ℕ, ◌^◌, ◌<◌, length}
use Rattle.std.proofs.Math.Path.{PathP}
use mathlib.Core.HLevel.{is_prop→PathP}
use Rattle.std.proofs.Math.Bridge.{le_prop}
use Rattle.std.proofs.Math.Nat.{ℕ_set}
use Rattle.codes.specs.declared.bounds.Code.{Code}
use Rattle.codes.specs.declared.bounds.UpTo.{UpTo}
use Rattle.codes.specs.declared.cells.Cells.{Cells}

pub bound_path : {m n : ℕ} (bound : ℕ) (e : m ≡ n) (p : m < bound) (q : n < bound) → PathP (λ i. e i < bound) p q
bound_path bound e p q = is_prop→PathP (λ i. e i < bound) (λ i. le_prop) p q

pub same_code : (p q : Code) → p.bits ≡ q.bits → p ≡ q
same_code p q e i = record { bits = e i; fits = bound_path (2 ^ 32) e p.fits q.fits i }

pub same_number : {last : ℕ} (p q : UpTo last) → p.number ≡ q.number → p ≡ q
same_number p q e i = record { number = e i; small = bound_path _ e p.small q.small i }

-- the contents of the cells are their codes
pub same_cells : (p q : Cells) → p.codes ≡ q.codes → p ≡ q
same_cells p q e i = record { codes = e i; full = is_prop→PathP (λ j. length (e j) ≡ 64) (λ j. ℕ_set _ _) p.full q.full i }
