-- Where a machine's run stands.
use Rattle.std.specs.Prelude.{List, vec_items}
use Rattle.lir.specs.Standings.{Standing, going, gone, ended}
use Rattle.lir.specs.Instructions.{names}
use Rattle.codes.specs.declared.bounds.Code.{Code}
use Rattle.codes.specs.declared.cells.Cells.{Cells}
use Rattle.writers.specs.declared.machine.Machine.{Machine}
use Rattle.writers.specs.declared.machine.Outcome.{Outcome}
use Rattle.writers.specs.declared.machine.Outcome.TheVariants.{Going, Gone, Ended}

abbrev pub standing_of : Outcome Code → List Code → Cells → Standing
standing_of Going vs cs = going vs cs
standing_of (Gone e ls) vs cs = gone e (names ls) cs
standing_of Ended vs cs = ended cs

abbrev pub stands : {K : Type 0} → Machine K → Standing
stands m = standing_of m.outcome (vec_items m.values) m.cells
