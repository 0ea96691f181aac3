use Rattle.std.proofs.Common.{◌≡◌, ◌≤◌, [], take, vec_items, vec_len}
use Rattle.lir.specs.Standings.{going, run}
use Rattle.lir.specs.Limits.{index_of}
use Rattle.writers.specs.Machines.{stands}
use Rattle.writers.proofs.buffer.Buffer.run.Given as goal

-- the machine has run as many as were seen
abbrev pub invariant-loop-i : goal.invariant-loop-i
invariant-loop-i g l = (stands l.machine ≡ run index_of g.K.Kind.arithmetic (take l.i-index (vec_items l.self.kept)) (going [] l.start)) × (vec_len l.machine.values ≤ l.i-index)
