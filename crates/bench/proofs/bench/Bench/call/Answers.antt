use Rattle.std.proofs.Common.{◌≡◌, Some, refl, rules}
use Rattle.bench.specs.declared.bench.Foot.TheVariants.{Buffer, Evaluator}
use Rattle.bench.proofs.bench.Bench.call.Goals as goal

pub returns-in-Some-Buffer-clause-foot : goal.returns-in-Some-Buffer-clause-foot
returns-in-Some-Buffer-clause-foot g c =
    let stands : c.args.self.now.foot ≡ Some (Buffer c.in-Some-Buffer.buffer) = search rules in
    rw stands (c.call.result, c.call.new.writer, refl, refl, c.call.ensures)

pub returns-in-Some-Evaluator-clause-foot : goal.returns-in-Some-Evaluator-clause-foot
returns-in-Some-Evaluator-clause-foot g c =
    let stands : c.args.self.now.foot ≡ Some (Evaluator c.in-Some-Evaluator.evaluator c.in-Some-Evaluator.field-0-1) = search rules in
    rw stands (c.call-in-Some-Evaluator.result, c.call-in-Some-Evaluator.new.writer, refl, refl, c.call-in-Some-Evaluator.ensures)
