-- The instructions: what each computes, when a guard leaves, and which values it names. N is what an operand is named by.
use Rattle.std.specs.Prelude.{ℕ, ◌+◌, Bool, true, cond, not, ◌&&◌, List, [], ◌∷◌, Some, None, Option, bit_and, bit_or, bit_xor, nat_lt}
use Rattle.codes.specs.Kinds.{Arithmetic}
use Rattle.codes.specs.Codes.{code, nought, same}
use Rattle.codes.specs.declared.bounds.Code.{Code}
use Rattle.lir.specs.declared.instruction.Op.{Op}
use Rattle.lir.specs.declared.instruction.Op.TheVariants.{Add, Sub, Mul, And, Or, Xor, Eq, Lt}
use Rattle.lir.specs.declared.instruction.Value.{Value}
use Rattle.lir.specs.declared.instruction.Value.TheVariants.{Imm, Binary, Ld, Ldx}
use Rattle.lir.specs.declared.instruction.Store.{Store}
use Rattle.lir.specs.declared.instruction.Store.TheVariants.{St, Stx}
use Rattle.lir.specs.declared.instruction.Test.{Test}
use Rattle.lir.specs.declared.instruction.Test.TheVariants.{Xt, Xf, Xge}
use Rattle.lir.specs.declared.instruction.Lives.{Lives}
use Rattle.lir.specs.declared.instruction.Lives.TheVariants.{Zero, One, Two, Three, Four}
use Rattle.lir.specs.declared.instruction.Guard.{Guard}
pub use Rattle.lir.specs.declared.instruction.Instruction.{Instruction}
pub use Rattle.lir.specs.declared.instruction.Instruction.TheVariants.{Value as value, Store as store, Guard as guard}

abbrev pub names : {N : Type 0} → Lives N → List N
names Zero = []
names (One p) = p ∷ []
names (Two p q) = p ∷ q ∷ []
names (Three p q s) = p ∷ q ∷ s ∷ []
names (Four p q s t) = p ∷ q ∷ s ∷ t ∷ []

-- four lives at most
abbrev pub lives_of : {N : Type 0} → List N → Option (Lives N)
lives_of [] = Some Zero
lives_of (p ∷ []) = Some (One p)
lives_of (p ∷ q ∷ []) = Some (Two p q)
lives_of (p ∷ q ∷ s ∷ []) = Some (Three p q s)
lives_of (p ∷ q ∷ s ∷ t ∷ []) = Some (Four p q s t)
lives_of (p ∷ q ∷ s ∷ t ∷ u ∷ more) = None

-- the answer of a comparison, in every kind
abbrev pub truth : Bool → Code
truth b = cond b (code 1) nought

-- what a pure instruction of two operands computes
abbrev pub apply : Arithmetic → Op → Code → Code → Code
apply k Add p q = k.sum p q
apply k Sub p q = k.difference p q
apply k Mul p q = k.product p q
apply k And p q = code (bit_and p.bits q.bits)
apply k Or p q = code (bit_or p.bits q.bits)
apply k Xor p q = code (bit_xor p.bits q.bits)
apply k Eq p q = truth (same p q)
apply k Lt p q = truth (k.less p q)

-- whether a guard leaves on a code
abbrev pub leaves : Arithmetic → Test → Code → Bool
leaves k Xt p = not (same p nought)
leaves k Xf p = same p nought
leaves k (Xge c) p = not (k.less p c)

-- how many values an instruction gives
abbrev pub gives : {N : Type 0} → Instruction N → ℕ
gives (value i) = 1
gives (store i) = 0
gives (guard g) = 0

abbrev pub values_in : {N : Type 0} → List (Instruction N) → ℕ
values_in [] = 0
values_in (i ∷ is) = gives i + values_in is

-- every operand and live is among the first n
module _ {N : Type 0} (number : N → ℕ) (n : ℕ) where
  abbrev pub known : N → Bool
  known a = nat_lt (number a) n

  abbrev pub all_known : List N → Bool
  all_known [] = true
  all_known (a ∷ rest) = known a && all_known rest

  abbrev pub defined_value : Value N → Bool
  defined_value (Imm c) = true
  defined_value (Binary o a b) = known a && known b
  defined_value (Ld c) = true
  defined_value (Ldx a) = known a

  abbrev pub defined_store : Store N → Bool
  defined_store (St a c) = known a
  defined_store (Stx a b) = known a && known b

  abbrev pub defined_guard : Guard N → Bool
  defined_guard g = known g.on && all_known (names g.lives)

  abbrev pub defined : Instruction N → Bool
  defined (value i) = defined_value i
  defined (store i) = defined_store i
  defined (guard g) = defined_guard g
