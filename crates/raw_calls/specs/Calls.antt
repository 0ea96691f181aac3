-- What the numbers of a call mean: an instruction, or nothing. A field that an op does not use is ignored.
use Rattle.std.specs.Prelude.{ℕ, cond, List, [], ◌∷◌, Some, None, Option, ◌==◌}
use Rattle.codes.specs.Bounds.{cell_at}
use Rattle.lir.specs.Limits.{exit_at}
use Rattle.lir.specs.Instructions.{lives_of}
use Rattle.lir.specs.declared.instruction.Instruction.{Instruction}
use Rattle.lir.specs.declared.instruction.Instruction.TheVariants.{Value as value, Store as store, Guard as guard}
use Rattle.raw_calls.specs.declared.fields.Fields.{Fields}
use Rattle.lir.specs.declared.instruction.Op.TheVariants.{Add, Sub, Mul, And, Or, Xor, Eq, Lt}
use Rattle.lir.specs.declared.instruction.Value.{Value}
use Rattle.lir.specs.declared.instruction.Value.TheVariants.{Imm, Binary, Ld, Ldx}
use Rattle.lir.specs.declared.instruction.Store.{Store}
use Rattle.lir.specs.declared.instruction.Store.TheVariants.{St, Stx}
use Rattle.lir.specs.declared.instruction.Test.{Test}
use Rattle.lir.specs.declared.instruction.Test.TheVariants.{Xt, Xf, Xge}
use Rattle.lir.specs.declared.instruction.Guard.{Guard}

abbrev pub meant : {A B : Type 0} → (A → B) → Option A → Option B
meant f None = None
meant f (Some a) = Some (f a)

abbrev pub also : {A B : Type 0} → Option A → (A → Option B) → Option B
also None f = None
also (Some a) f = f a

-- the entry of a number in a table, if it has one
abbrev pub found : {A : Type 0} → ℕ → List (ℕ × Option A) → Option A
found n [] = None
found n (p ∷ ps) = cond (n == p.0) p.1 (found n ps)

-- the ops by their numbers, and what each makes of a call's fields and lives
module _ {N : Type 0} (f : Fields N) (lives : List N) where
  abbrev pub guard_by : Test → Option (Instruction N)
  guard_by t = also (exit_at f.exit) (λ e. meant (λ l. guard (record { test = t; on = f.a; exit = e; lives = l })) (lives_of lives))

  abbrev pub table : List (ℕ × Option (Instruction N))
  table =
      (1, Some (value (Imm f.code))) ∷
      (2, Some (value (Binary Add f.a f.b))) ∷
      (3, Some (value (Binary Sub f.a f.b))) ∷
      (4, Some (value (Binary Mul f.a f.b))) ∷
      (5, Some (value (Binary And f.a f.b))) ∷
      (6, Some (value (Binary Or f.a f.b))) ∷
      (7, Some (value (Binary Xor f.a f.b))) ∷
      (10, Some (value (Binary Eq f.a f.b))) ∷
      (11, Some (value (Binary Lt f.a f.b))) ∷
      (12, meant (λ c. value (Ld c)) (cell_at f.cell)) ∷
      (13, Some (value (Ldx f.a))) ∷
      (16, meant (λ c. store (St f.a c)) (cell_at f.cell)) ∷
      (17, Some (store (Stx f.a f.b))) ∷
      (18, guard_by Xt) ∷
      (19, guard_by Xf) ∷
      (20, guard_by (Xge f.code)) ∷ []

  abbrev pub meaning : Option (Instruction N)
  meaning = found f.op table

-- each call takes the instructions of its sort
abbrev pub a_value : {N : Type 0} → Instruction N → Option (Value N)
a_value (value i) = Some i
a_value (store i) = None
a_value (guard g) = None

abbrev pub a_store : {N : Type 0} → Instruction N → Option (Store N)
a_store (value i) = None
a_store (store i) = Some i
a_store (guard g) = None

abbrev pub a_guard : {N : Type 0} → Instruction N → Option (Guard N)
a_guard (value i) = None
a_guard (store i) = None
a_guard (guard g) = Some g

abbrev pub value_call : {N : Type 0} → Fields N → Option (Value N)
value_call f = also (meaning f []) a_value

abbrev pub store_call : {N : Type 0} → Fields N → Option (Store N)
store_call f = also (meaning f []) a_store

abbrev pub guard_call : {N : Type 0} → Fields N → List N → Option (Guard N)
guard_call f lives = also (meaning f lives) a_guard
