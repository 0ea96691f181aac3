-- What is reported of a run.
use Rattle.std.specs.Prelude.{ℕ, cond, List, map, filter_map, Some, None, vec_items, Option}
use Rattle.std.specs.List.{range_with_len}
use Rattle.raw_calls.specs.Calls.{also}
use Rattle.codes.specs.Codes.{same}
use Rattle.codes.specs.Contents.{code_in}
use Rattle.codes.specs.Bounds.{cell_at}
use Rattle.codes.specs.declared.bounds.Code.{Code}
use Rattle.codes.specs.Bounds.{Cell}
use Rattle.codes.specs.declared.cells.Cells.{Cells}
use Rattle.lir.specs.Limits.{Exit}
use Rattle.lir.specs.Instructions.{names}
use Rattle.lir.specs.Mapping.{each_live}
use Rattle.lir.specs.Standings.{Standing as Stand, going, gone, ended}
use Rattle.writers.specs.declared.machine.Outcome.{Outcome}
use Rattle.writers.specs.declared.machine.Outcome.TheVariants.{Going, Gone, Ended}
use Rattle.assembly.specs.declared.kinds.KindName.{KindName}
use Rattle.assembly.specs.declared.numbers.Number.{Number}
use Rattle.bench.specs.declared.answer.Content.{Content}
use Rattle.bench.specs.declared.answer.Report.{Report}
use Rattle.assembly.specs.Numbers.{shown}

-- what a report tells: how the run stands, the numbers reported at an exit, and what differs from the start
pub data Telling : Type 0 where
  goes_on : (changes : List Content) → Telling
  has_left : (exit : Exit) (lives : List Number) (changes : List Content) → Telling
  has_ended : (changes : List Content) → Telling

abbrev pub telling : Outcome Number → List Content → Telling
telling Going cs = goes_on cs
telling (Gone e ns) cs = has_left e (names ns) cs
telling Ended cs = has_ended cs

abbrev pub tells : Report → Telling
tells r = telling r.standing (vec_items r.changes)

module _ (k : KindName) where
  abbrev pub stands : Outcome Code → Outcome Number
  stands Going = Going
  stands (Gone e ls) = Gone e (each_live (shown k) ls)
  stands Ended = Ended

  module _ (from to : Cells) where
    -- what the cell of a number holds, where that is another code than at the start
    abbrev pub change_in : Cell → Option Content
    change_in c = cond (same (code_in to c) (code_in from c)) None (Some (record { cell = c; number = shown k (code_in to c) }))

    abbrev pub change : ℕ → Option Content
    change n = also (cell_at n) change_in

    -- the changes among the first n cells
    abbrev pub changes : ℕ → List Content
    changes n = filter_map change (range_with_len 0 n)

  -- what is to be told of a run from a start
  abbrev pub told : Cells → Stand → Telling
  told start (going vs cs) = goes_on (changes start cs 64)
  told start (gone e ls cs) = has_left e (map (shown k) ls) (changes start cs 64)
  told start (ended cs) = has_ended (changes start cs 64)
