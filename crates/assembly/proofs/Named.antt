-- A call that has the number of a name, and is of the name's sort, means the name's instruction.
use Rattle.std.proofs.Common.{◌≡◌, ℕ, List, [], Some, None, Option, refl, ap, ◌∙◌}
use Rattle.raw_calls.specs.Calls.{meant, also, found, table, a_value, a_store, a_guard, value_call, store_call, guard_call, guard_by}
use Rattle.codes.specs.Bounds.{Cell, cell_at}
use Rattle.lir.specs.Instructions.{lives_of}
use Rattle.lir.specs.Limits.{Exit, Handle, exit_at}
use Rattle.raw_calls.specs.declared.fields.Fields.{Fields}
use Rattle.lir.specs.declared.instruction.Instruction.{Instruction}
use Rattle.lir.specs.declared.instruction.Instruction.TheVariants.{Value as value, Store as store, Guard as guard}
use Rattle.lir.specs.declared.instruction.Lives.{Lives}
use Rattle.lir.specs.declared.instruction.Op.{Op}
use Rattle.lir.specs.declared.instruction.Op.TheVariants.{Add, Sub, Mul, And, Or, Xor, Eq, Lt}
use Rattle.lir.specs.declared.instruction.Test.{Test}
use Rattle.lir.specs.declared.instruction.Test.TheVariants.{Xt, Xf, Xge}
use Rattle.lir.specs.declared.instruction.Value.TheVariants.{Binary, Ld}
use Rattle.lir.specs.declared.instruction.Store.TheVariants.{St}
use Rattle.assembly.specs.declared.mnemonic.Mnemonic.{Mnemonic}
use Rattle.assembly.specs.declared.mnemonic.Mnemonic.TheVariants.{Imm as imm, Binary as binary, Ld as ld, Ldx as ldx, St as st, Stx as stx, Xt as xt, Xf as xf, Xge as xge}
use Rattle.assembly.specs.declared.mnemonic.Sort.TheVariants.{Value as a_value_name, Store as a_store_name, Guard as a_guard_name}
use Rattle.assembly.specs.Names.{number, op_number, sort}
use Rattle.assembly.specs.Intents.{intended}

module _ (f : Fields Handle) where
  value_at : (n : ℕ) → f.op ≡ n → meant value (value_call f) ≡ meant value (also (found n (table f [])) a_value)
  value_at n e = ap (λ (k : ℕ). meant value (also (found k (table f [])) a_value)) e

  store_at : (n : ℕ) → f.op ≡ n → meant store (store_call f) ≡ meant store (also (found n (table f [])) a_store)
  store_at n e = ap (λ (k : ℕ). meant store (also (found k (table f [])) a_store)) e

  guard_at : (ls : List Handle) (n : ℕ) → f.op ≡ n → meant guard (guard_call f ls) ≡ meant guard (also (found n (table f ls)) a_guard)
  guard_at ls n e = ap (λ (k : ℕ). meant guard (also (found k (table f ls)) a_guard)) e

  binary_kept : (o : Op) → meant value (also (found (op_number o) (table f [])) a_value) ≡ Some (value (Binary o f.a f.b))
  binary_kept Add = refl
  binary_kept Sub = refl
  binary_kept Mul = refl
  binary_kept And = refl
  binary_kept Or = refl
  binary_kept Xor = refl
  binary_kept Eq = refl
  binary_kept Lt = refl

  ld_kept : (k : Option Cell) → meant value (also (meant {A = Cell} {B = Instruction Handle} (λ c. value (Ld c)) k) a_value) ≡ meant {A = Cell} {B = Instruction Handle} (λ c. value (Ld c)) k
  ld_kept None = refl
  ld_kept (Some c) = refl

  st_kept : (k : Option Cell) → meant store (also (meant (λ c. store (St f.a c)) k) a_store) ≡ meant (λ c. store (St f.a c)) k
  st_kept None = refl
  st_kept (Some c) = refl

  guard_kept_at : (t : Test) (x : Option Exit) (l : Option (Lives Handle))
      → meant guard (also (also x (λ e. meant (λ l. guard (record { test = t; on = f.a; exit = e; lives = l })) l)) a_guard)
      ≡ also x (λ e. meant (λ l. guard (record { test = t; on = f.a; exit = e; lives = l })) l)
  guard_kept_at t None l = refl
  guard_kept_at t (Some e) None = refl
  guard_kept_at t (Some e) (Some l) = refl

  guard_kept : (ls : List Handle) (t : Test) → meant guard (also (guard_by f ls t) a_guard) ≡ guard_by f ls t
  guard_kept ls t = guard_kept_at t (exit_at f.exit) (lives_of ls)

  pub value_named : (m : Mnemonic) → sort m ≡ a_value_name → f.op ≡ number m → meant value (value_call f) ≡ intended m f []
  value_named imm s e = value_at 1 e
  value_named (binary o) s e = value_at (op_number o) e ∙ binary_kept o
  value_named ld s e = value_at 12 e ∙ ld_kept (cell_at f.cell)
  value_named ldx s e = value_at 13 e
  value_named st s e = cc
  value_named stx s e = cc
  value_named xt s e = cc
  value_named xf s e = cc
  value_named xge s e = cc

  pub store_named : (m : Mnemonic) → sort m ≡ a_store_name → f.op ≡ number m → meant store (store_call f) ≡ intended m f []
  store_named imm s e = cc
  store_named (binary o) s e = cc
  store_named ld s e = cc
  store_named ldx s e = cc
  store_named st s e = store_at 16 e ∙ st_kept (cell_at f.cell)
  store_named stx s e = store_at 17 e
  store_named xt s e = cc
  store_named xf s e = cc
  store_named xge s e = cc

  pub guard_named : (ls : List Handle) (m : Mnemonic) → sort m ≡ a_guard_name → f.op ≡ number m → meant guard (guard_call f ls) ≡ intended m f ls
  guard_named ls imm s e = cc
  guard_named ls (binary o) s e = cc
  guard_named ls ld s e = cc
  guard_named ls ldx s e = cc
  guard_named ls st s e = cc
  guard_named ls stx s e = cc
  guard_named ls xt s e = guard_at ls 18 e ∙ guard_kept ls Xt
  guard_named ls xf s e = guard_at ls 19 e ∙ guard_kept ls Xf
  guard_named ls xge s e = guard_at ls 20 e ∙ guard_kept ls (Xge f.code)
