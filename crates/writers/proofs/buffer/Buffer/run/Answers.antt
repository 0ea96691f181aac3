use Rattle.std.proofs.Common.{[], vec_items, rules}
use Rattle.lir.specs.Standings.{going}
use Rattle.lir.proofs.Runs.{gives_one, run_more}
use Rattle.writers.proofs.buffer.Buffer.run.Goals as goal

pub loop-i-preserved : goal.loop-i-preserved
loop-i-preserved g c =
    let more = run_more g.K.Kind.arithmetic (vec_items c.args.self.now.kept) c.loop-i.i-index c.i-item.result (going [] c.args.start.now) in
    let one = gives_one c.i-item.result in
    search rules
