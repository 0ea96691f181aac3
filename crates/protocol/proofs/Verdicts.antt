-- Verdicts: what passes, and what a refusal tells of the checks that were made.
use Rattle.std.proofs.Common.{◌≡◌, Bool, true, false, not, ◌⊎◌, List, [], ◌∷◌, Some, None, Option, refl, inl, inr}
use Rattle.lir.specs.Refusals.{failing, first}
use Rattle.lir.specs.declared.fault.Refusal.{Refusal}
use Rattle.lir.specs.declared.fault.Refusal.TheVariants.{Ended}

-- of two turns
pub first_passes : (v w : Option Refusal) → first v w ≡ None → (v ≡ None) × (w ≡ None)
first_passes None w e = (refl, e)
first_passes (Some q) w e = cc

pub first_refuses : (v w : Option Refusal) (r : Refusal) → first v w ≡ Some r → (v ≡ Some r) ⊎ ((v ≡ None) × (w ≡ Some r))
first_refuses None w r e = inr (refl, e)
first_refuses (Some q) w r e = inl e

-- of one check
pub check_passes : (q : Refusal) (b : Bool) → failing ((q, b) ∷ []) ≡ None → b ≡ true
check_passes q true e = refl
check_passes q false e = cc

pub check_refuses : (q r : Refusal) (b : Bool) → failing ((q, b) ∷ []) ≡ Some r → (b ≡ false) × (r ≡ q)
check_refuses q r true e = cc
check_refuses q r false e = (refl, cc)

-- what passes the check for the end has not ended
pub goes_on : (over : Bool) (cs : List (Refusal × Bool)) → failing ((Ended, not over) ∷ cs) ≡ None → over ≡ false
goes_on true cs e = cc
goes_on false cs e = refl
