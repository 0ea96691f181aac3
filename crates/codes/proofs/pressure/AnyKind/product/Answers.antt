use Rattle.std.proofs.Common.{arith}
use Rattle.std.proofs.lemmas.Int.{to_z-of_z}
use Rattle.codes.specs.PressureLaws.{product_fits, quot_fits}
use Rattle.codes.proofs.pressure.AnyKind.product.Goals as goal

pub returns : goal.returns
returns g c = let some = g.S.Scale.some in grind (arith, to_z-of_z, product_fits, quot_fits)
