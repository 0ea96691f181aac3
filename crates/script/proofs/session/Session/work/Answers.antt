use Rattle.std.proofs.Common.{◌≡◌, Some, refl, rules}
use Rattle.script.specs.declared.session.AnyBench.TheVariants.{Count, Bar20, Bar100}
use Rattle.script.proofs.session.Session.work.Goals as goal

pub returns-in-Some-Count : goal.returns-in-Some-Count
returns-in-Some-Count c =
    let chosen : c.args.self.now.bench ≡ Some (Count c.in-Some-Count.bench) = search rules in
    rw chosen (c.work_on.new.bench, refl, c.work_on.ensures)

pub returns-in-Some-Bar20 : goal.returns-in-Some-Bar20
returns-in-Some-Bar20 c =
    let chosen : c.args.self.now.bench ≡ Some (Bar20 c.in-Some-Bar20.bench) = search rules in
    rw chosen (c.work_on-in-Some-Bar20.new.bench, refl, c.work_on-in-Some-Bar20.ensures)

pub returns-in-Some-Bar100 : goal.returns-in-Some-Bar100
returns-in-Some-Bar100 c =
    let chosen : c.args.self.now.bench ≡ Some (Bar100 c.in-Some-Bar100.bench) = search rules in
    rw chosen (c.work_on-in-Some-Bar100.new.bench, refl, c.work_on-in-Some-Bar100.ensures)
