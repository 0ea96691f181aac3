-- The evaluator: made with one start, it runs each instruction as it arrives, and its standing is that one run's for every start alike.
use Rattle.std.specs.Prelude.{◌≡◌, ℕ, ◌+◌, ◌-◌, ◌%◌, ◌^◌, ◌<◌, ◌≤◌, Bool, true, false, [], length}
use Rattle.codes.specs.Kinds.{Arithmetic}
use Rattle.codes.specs.declared.cells.Cells.{Cells}
use Rattle.lir.specs.Instructions.{gives}
use Rattle.lir.specs.Standings.{Standing, going, effect, finished, Going}
use Rattle.protocol.specs.Meanings.{Meaning, Order, instruct, end}
use Rattle.protocol.specs.Writers.{Writes}
use Rattle.lir.specs.Limits.{index_of}
use Rattle.lir.specs.declared.fault.Part.TheVariants.{Evaluator as evaluator_part}
use Rattle.writers.specs.Feet.{Foot, foot_writes}
use Rattle.writers.specs.Machines.{stands}
use Rattle.writers.specs.declared.evaluator.Evaluator.{Evaluator}

-- what there is to see of an evaluator
pub record Evaluation : Type 0 where
  pub standing : Standing
  pub handles : ℕ
  pub taken : ℕ
  pub over : Bool

abbrev pub viewed : {K : Type 0} → Evaluator K → Evaluation
viewed e = record { standing = stands e.machine; handles = e.handles; taken = e.taken; over = e.over }

abbrev pub fresh : Cells → Evaluation
fresh s = record { standing = going [] s; handles = 0; taken = 0; over = false }

abbrev pub eval_meaning : Evaluation → Meaning
eval_meaning e = record { standing = λ _. e.standing; handles = e.handles; taken = e.taken; space = 1024 - e.handles; over = e.over }

abbrev pub after : Arithmetic → Evaluation → Order → Evaluation
after k e (instruct i) = record { standing = effect index_of k i e.standing; handles = e.handles + gives i; taken = (e.taken + 1) % 2 ^ 64; over = e.over }
after k e end = record { standing = finished e.standing; handles = e.handles; taken = e.taken; over = true }

-- a going run has one value to each handle
abbrev pub eval_sound : Evaluation → Type 0
eval_sound e = Going (λ vs cs. length vs ≡ e.handles) e.standing × (e.handles ≤ 1024) × (e.taken < 2 ^ 64)

abbrev pub eval_foot : Arithmetic → Foot Evaluation
eval_foot k = record { part = evaluator_part; meaning = eval_meaning; after = after k }

abbrev pub evaluates : {K : Type 0} → Arithmetic → Writes (Evaluator K)
evaluates k = foot_writes (eval_foot k) viewed eval_sound
