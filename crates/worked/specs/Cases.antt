-- Worked cases: sums, differences and products of two kinds, and a trace of a press from two starts.
use Rattle.std.specs.Prelude.{List, [], ◌∷◌, Bool, true, false, ◌&&◌, ℕ, ◌-◌, ◌^◌, eqb}
use Rattle.codes.specs.Bounds.{low_cell, wrapped}
use Rattle.codes.specs.Codes.{code}
use Rattle.codes.specs.Contents.{blank, code_in, written}
use Rattle.codes.specs.Counts.{count}
use Rattle.codes.specs.Pressures.{pressure}
use Rattle.codes.specs.Bounds.{Cell}
use Rattle.codes.specs.declared.bounds.Code.{Code}
use Rattle.lir.specs.Standings.{Standing, going, gone, ended}
use Rattle.lir.specs.Limits.{handle_of}
use Rattle.lir.specs.Limits.{Exit}
use Rattle.lir.specs.Limits.{Handle}
use Rattle.lir.specs.declared.instruction.Instruction.{Instruction}
use Rattle.lir.specs.declared.instruction.Instruction.TheVariants.{Value as value, Store as store, Guard as guard}
use Rattle.lir.specs.declared.instruction.Op.TheVariants.{Add, Mul}
use Rattle.lir.specs.declared.instruction.Value.TheVariants.{Imm, Binary, Ld}
use Rattle.lir.specs.declared.instruction.Store.TheVariants.{St}
use Rattle.lir.specs.declared.instruction.Test.TheVariants.{Xge}
use Rattle.lir.specs.declared.instruction.Lives.TheVariants.{Zero, One}
use Rattle.writers.specs.Buffers.{standing_from}

abbrev pub every : List Bool → Bool
every [] = true
every (b ∷ bs) = b && every bs

-- the code of -n
abbrev pub minus : ℕ → Code
minus n = code (2 ^ 32 - n)

abbrev pub is : Code → Code → Bool
is p q = eqb p.bits q.bits

abbrev pub are : List Code → List Code → Bool
are [] [] = true
are [] (q ∷ qs) = false
are (p ∷ ps) [] = false
are (p ∷ ps) (q ∷ qs) = is p q && are ps qs

-- the cell and the exit of a number
abbrev pub cell : ℕ → Cell
cell n = low_cell (code n)

abbrev pub exit : ℕ → Exit
exit n = wrapped 255 n

-- the run has ended with a code in a cell
abbrev pub ended_with : Cell → Code → Standing → Bool
ended_with k p (going vs cs) = false
ended_with k p (gone e ls cs) = false
ended_with k p (ended cs) = is (code_in cs k) p

-- the run has left by an exit and reports some codes
abbrev pub left_with : ℕ → List Code → Standing → Bool
left_with n ps (going vs cs) = false
left_with n ps (gone e ls cs) = eqb e.number n && are ls ps
left_with n ps (ended cs) = false

-- a pressure in cell 3 is multiplied by one bar and added to itself; from 250 steps on for the product, or 300 for the pressure, the trace is left;
-- else the sum goes to cell 4
abbrev pub pressing : List (Instruction Handle)
pressing =
    value (Imm (code 100)) ∷
    value (Ld (cell 3)) ∷
    value (Binary Mul (handle_of 1) (handle_of 0)) ∷
    value (Ld (cell 3)) ∷
    value (Binary Add (handle_of 3) (handle_of 2)) ∷
    guard (record { test = Xge (code 250); on = handle_of 2; exit = exit 0; lives = One (handle_of 1) }) ∷
    guard (record { test = Xge (code 300); on = handle_of 3; exit = exit 1; lives = Zero }) ∷
    value (Binary Add (handle_of 2) (handle_of 3)) ∷
    store (St (handle_of 5) (cell 4)) ∷ []

-- the trace kept in a buffer, with its end, and run from a code in cell 3
abbrev pub pressed : Code → Standing
pressed p = standing_from (pressure 100) (record { instructions = pressing; places = 1024; over = true }) (written blank (cell 3) p)

abbrev pub cases : List Bool
cases =
    is (count.sum (code 4294967295) (code 1)) (code 0) ∷
    is (count.difference (code 0) (code 1)) (code 4294967295) ∷
    is (count.product (code 65536) (code 65536)) (code 0) ∷
    is ((pressure 100).product (code 150) (code 250)) (code 375) ∷
    is ((pressure 100).product (minus 3) (code 50)) (minus 1) ∷
    is ((pressure 100).sum (code 2147483647) (code 1)) (code 2147483647) ∷
    ended_with (cell 4) (code 300) (pressed (code 150)) ∷
    left_with 0 (code 260 ∷ []) (pressed (code 260)) ∷ []
