use Rattle.lir.proofs.Runs.{values_kept}
use Rattle.writers.proofs.buffer.calls.BufferWriter.take.Goals as goal

pub invariant_of-self-clause-counted : goal.invariant_of-self-clause-counted
invariant_of-self-clause-counted g c = values_kept _ _ _ _ _ c.args.self.now.counted c.gives.ensures c.push_reserved.ensures.items
