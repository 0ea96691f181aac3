-- The kinds by name.
use Rattle.std.specs.Prelude.{ℕ, List, codes}
use Rattle.assembly.specs.declared.kinds.KindName.{KindName}
use Rattle.assembly.specs.declared.kinds.KindName.TheVariants.{Count, Bar20, Bar100}

abbrev pub kind_spelling : KindName → List ℕ
kind_spelling Count = codes "count"
kind_spelling Bar20 = codes "bar20"
kind_spelling Bar100 = codes "bar100"
