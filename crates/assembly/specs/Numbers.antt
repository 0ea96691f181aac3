-- Codes as numbers: what is shown of one.
use Rattle.codes.specs.Pressures.{signed}
use Rattle.codes.specs.declared.bounds.Code.{Code}
use Rattle.assembly.specs.declared.kinds.KindName.{KindName}
use Rattle.assembly.specs.declared.kinds.KindName.TheVariants.{Count, Bar20, Bar100}
use Rattle.assembly.specs.declared.numbers.Number.{Number}
use Rattle.assembly.specs.declared.numbers.Number.TheVariants.{Unsigned, Signed}

-- counts without sign, pressures with
abbrev pub shown : KindName → Code → Number
shown Count c = Unsigned c.bits
shown Bar20 c = Signed (signed c)
shown Bar100 c = Signed (signed c)
