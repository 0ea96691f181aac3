-- Where a run stands, and what each instruction does to it. N is what an operand is named by: a handle or a value number.
use Rattle.std.specs.Prelude.{ℕ, cond, List, [], ◌∷◌, ◌++◌, map, slice_index_or}
use Rattle.codes.specs.Kinds.{Arithmetic}
use Rattle.codes.specs.Codes.{nought}
use Rattle.codes.specs.Contents.{code_in, written}
use Rattle.codes.specs.Bounds.{low_cell}
use Rattle.codes.specs.declared.bounds.Code.{Code}
use Rattle.codes.specs.declared.cells.Cells.{Cells}
use Rattle.lir.specs.Instructions.{names, apply, leaves}
use Rattle.lir.specs.Limits.{Exit}
use Rattle.lir.specs.declared.instruction.Instruction.{Instruction}
use Rattle.lir.specs.declared.instruction.Instruction.TheVariants.{Value as value, Store as store, Guard as guard}
use Rattle.lir.specs.declared.instruction.Store.{Store}
use Rattle.lir.specs.declared.instruction.Store.TheVariants.{St, Stx}
use Rattle.lir.specs.declared.instruction.Value.{Value}
use Rattle.lir.specs.declared.instruction.Value.TheVariants.{Imm, Binary, Ld, Ldx}

-- where a run stands: its values so far and the cells; or the exit it left by, the codes reported there and the cells; or the cells at its end
pub data Standing : Type 0 where
  going : (values : List Code) (cells : Cells) → Standing
  gone : (exit : Exit) (lives : List Code) (cells : Cells) → Standing
  ended : (cells : Cells) → Standing

-- the listing: `at` gives the code of each name, `cs` is what the cells hold
module _ {N : Type 0} (k : Arithmetic) (at : N → Code) (cs : Cells) where
  abbrev pub value_of : Value N → Code
  value_of (Imm c) = c
  value_of (Binary o a b) = apply k o (at a) (at b)
  value_of (Ld c) = code_in cs c
  value_of (Ldx a) = code_in cs (low_cell (at a))

  abbrev pub stored : Store N → Cells
  stored (St a c) = written cs c (at a)
  stored (Stx a b) = written cs (low_cell (at b)) (at a)

  abbrev pub carried : List Code → Instruction N → Standing
  carried vs (value i) = going (vs ++ value_of i ∷ []) cs
  carried vs (store i) = going vs (stored i)
  carried vs (guard g) = cond (leaves k g.test (at g.on)) (gone g.exit (map at (names g.lives)) cs) (going vs cs)

-- the value of a name is the one at its number
module _ {N : Type 0} (number : N → ℕ) where
  abbrev pub value_at : List Code → N → Code
  value_at vs a = slice_index_or vs (number a) nought

  -- an instruction changes only a going run
  abbrev pub effect : Arithmetic → Instruction N → Standing → Standing
  effect k i (going vs cs) = carried k (value_at vs) cs vs i
  effect k i (gone e ls cs) = gone e ls cs
  effect k i (ended cs) = ended cs

  -- the run of a list of instructions
  abbrev pub run : Arithmetic → List (Instruction N) → Standing → Standing
  run k [] t = t
  run k (i ∷ is) t = run k is (effect k i t)

-- what the end does
abbrev pub finished : Standing → Standing
finished (going vs cs) = ended cs
finished (gone e ls cs) = gone e ls cs
finished (ended cs) = ended cs

-- what holds of a standing where it is going
abbrev pub Going : (List Code → Cells → Type 0) → Standing → Type 0
Going P (going vs cs) = P vs cs
Going P (gone e ls cs) = Unit {0}
Going P (ended cs) = Unit {0}
