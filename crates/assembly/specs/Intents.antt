-- What a call by name is to mean.
use Rattle.std.specs.Prelude.{◌≡◌, List, [], Some, vec_items, Option}
use Rattle.raw_calls.specs.Calls.{meant, guard_by, value_call, store_call, guard_call}
use Rattle.raw_calls.specs.declared.fields.Fields.{Fields}
use Rattle.codes.specs.Bounds.{cell_at}
use Rattle.lir.specs.Limits.{Handle}
use Rattle.lir.specs.declared.instruction.Instruction.{Instruction}
use Rattle.lir.specs.declared.instruction.Instruction.TheVariants.{Value as value, Store as store, Guard as guard}
use Rattle.lir.specs.declared.instruction.Value.TheVariants.{Imm, Binary, Ld, Ldx}
use Rattle.lir.specs.declared.instruction.Store.TheVariants.{St, Stx}
use Rattle.lir.specs.declared.instruction.Test.TheVariants.{Xt, Xf, Xge}
use Rattle.assembly.specs.declared.call.Call.{Call}
use Rattle.assembly.specs.declared.call.Call.TheVariants.{Value as value_line, Store as store_line, Guard as guard_line, End as end_line}
use Rattle.assembly.specs.declared.mnemonic.Mnemonic.{Mnemonic}
use Rattle.assembly.specs.declared.mnemonic.Mnemonic.TheVariants.{Imm as imm, Binary as binary, Ld as ld, Ldx as ldx, St as st, Stx as stx, Xt as xt, Xf as xf, Xge as xge}

-- the instruction that a name makes of the fields and the lives
abbrev pub intended : Mnemonic → Fields Handle → List Handle → Option (Instruction Handle)
intended imm f ls = Some (value (Imm f.code))
intended (binary o) f ls = Some (value (Binary o f.a f.b))
intended ld f ls = meant (λ c. value (Ld c)) (cell_at f.cell)
intended ldx f ls = Some (value (Ldx f.a))
intended st f ls = meant (λ c. store (St f.a c)) (cell_at f.cell)
intended stx f ls = Some (store (Stx f.a f.b))
intended xt f ls = guard_by f ls Xt
intended xf f ls = guard_by f ls Xf
intended xge f ls = guard_by f ls (Xge f.code)

-- the call of a name means its instruction to the writer
abbrev pub Intended : Mnemonic → Call → Type 0
Intended m (value_line f) = meant value (value_call f) ≡ intended m f []
Intended m (store_line f) = meant store (store_call f) ≡ intended m f []
Intended m (guard_line f ls) = meant guard (guard_call f (vec_items ls)) ≡ intended m f (vec_items ls)
Intended m end_line = ⊥
