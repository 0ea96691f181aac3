use mathlib.Core.Path.{refl}
use Rattle.codes.specs.Contents.{written}
use Rattle.worked.proofs.worked_cases_hold.Goals as goal

-- all of it is computed
pub returns : goal.returns
unfolding written
returns c = refl
