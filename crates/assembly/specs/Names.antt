-- The instructions by name: how each is spelled, its number, and the fields of its call.
use Rattle.std.specs.Prelude.{ℕ, List, codes}
use Rattle.codes.specs.Codes.{nought}
use Rattle.lir.specs.Limits.{handle_of}
use Rattle.lir.specs.Limits.{Handle}
use Rattle.raw_calls.specs.declared.fields.Fields.{Fields}
use Rattle.lir.specs.declared.instruction.Op.{Op}
use Rattle.lir.specs.declared.instruction.Op.TheVariants.{Add, Sub, Mul, And, Or, Xor, Eq, Lt}
use Rattle.assembly.specs.declared.mnemonic.Mnemonic.{Mnemonic}
use Rattle.assembly.specs.declared.mnemonic.Sort.{Sort}
use Rattle.assembly.specs.declared.mnemonic.Sort.TheVariants.{Value, Store, Guard}
use Rattle.assembly.specs.declared.mnemonic.Mnemonic.TheVariants.{Imm, Binary, Ld, Ldx, St, Stx, Xt, Xf, Xge}

abbrev pub op_spelling : Op → List ℕ
op_spelling Add = codes "add"
op_spelling Sub = codes "sub"
op_spelling Mul = codes "mul"
op_spelling And = codes "and"
op_spelling Or = codes "or"
op_spelling Xor = codes "xor"
op_spelling Eq = codes "eq"
op_spelling Lt = codes "lt"

abbrev pub spelling : Mnemonic → List ℕ
spelling Imm = codes "imm"
spelling (Binary o) = op_spelling o
spelling Ld = codes "ld"
spelling Ldx = codes "ldx"
spelling St = codes "st"
spelling Stx = codes "stx"
spelling Xt = codes "xt"
spelling Xf = codes "xf"
spelling Xge = codes "xge"

abbrev pub op_number : Op → ℕ
op_number Add = 2
op_number Sub = 3
op_number Mul = 4
op_number And = 5
op_number Or = 6
op_number Xor = 7
op_number Eq = 10
op_number Lt = 11

abbrev pub number : Mnemonic → ℕ
number Imm = 1
number (Binary o) = op_number o
number Ld = 12
number Ldx = 13
number St = 16
number Stx = 17
number Xt = 18
number Xf = 19
number Xge = 20

abbrev pub sort : Mnemonic → Sort
sort Imm = Value
sort (Binary o) = Value
sort Ld = Value
sort Ldx = Value
sort St = Store
sort Stx = Store
sort Xt = Guard
sort Xf = Guard
sort Xge = Guard

abbrev pub blank : Mnemonic → Fields Handle
blank m = record { op = number m; a = handle_of 0; b = handle_of 0; cell = 0; code = nought; exit = 0 }
