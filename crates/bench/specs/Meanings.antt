-- What the calls of a script mean to a writer.
use Rattle.std.specs.Prelude.{Option, Result, vec_items}
use Rattle.raw_calls.specs.Calls.{meant, value_call, store_call, guard_call}
use Rattle.protocol.specs.Meanings.{answered, end, Meaning}
use Rattle.protocol.specs.Writers.{Writes, ByNumbers}
use Rattle.lir.specs.declared.instruction.Instruction.TheVariants.{Value as value, Store as store, Guard as guard}
use Rattle.assembly.specs.declared.call.Call.{Call}
use Rattle.assembly.specs.declared.call.Call.TheVariants.{Value as value_line, Store as store_line, Guard as guard_line, End as end_line}
use Rattle.bench.specs.declared.answer.Counts.{Counts}
use Rattle.lir.specs.Limits.{Handle}
use Rattle.lir.specs.declared.fault.Fault.{Fault}

-- what a writer answered
abbrev pub Reply : Type 0
Reply = Result (Option Handle) Fault

-- the step of a call: for an instruction the one that its numbers mean
module _ {W : Type 0} (ws : Writes W) where
  abbrev pub Took : W → Call → Reply → W → Type 0
  Took w (value_line f) r w' = ByNumbers ws w (meant value (value_call f)) (answered r) w'
  Took w (store_line f) r w' = ByNumbers ws w (meant store (store_call f)) (answered r) w'
  Took w (guard_line f ls) r w' = ByNumbers ws w (meant guard (guard_call f (vec_items ls))) (answered r) w'
  Took w end_line r w' = ws.steps w end (answered r) w'

-- what a writer of this meaning says of itself
abbrev pub counts : Meaning → Counts
counts m = record { handles = m.handles; taken = m.taken; space = m.space; ended = m.over }
