use Rattle.std.proofs.Common.{refl}
use Rattle.codes.specs.Contents.{written}
use Rattle.codes.specs.Alike.{same_cells}
use Rattle.codes.proofs.cells.Cells.set.Goals as goal

pub returns : goal.returns
unfolding written
returns c = same_cells _ _ refl
