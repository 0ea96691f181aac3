-- Runs, one instruction further on: how many values they have, and where they stand.
use Rattle.std.proofs.Common.{◌≡◌, ℕ, ◌+◌, ◌<◌, ◌≤◌, Bool, true, false, cond, List, [], ◌∷◌, ◌++◌, length, get_or, take, sym, refl, ap, ◌∙◌, arith}
use Rattle.std.proofs.lemmas.List.{length_push, take_more, take_all}
use Rattle.codes.specs.Kinds.{Arithmetic}
use Rattle.codes.specs.declared.bounds.Code.{Code}
use Rattle.codes.specs.declared.cells.Cells.{Cells}
use Rattle.lir.specs.Instructions.{leaves, gives, values_in}
use Rattle.lir.specs.Standings.{Standing, going, gone, ended, value_at, effect, run, finished, Going}
use Rattle.lir.specs.Limits.{index_of}
use Rattle.lir.specs.Limits.{Exit}
use Rattle.lir.specs.Limits.{Handle}
use Rattle.lir.specs.declared.instruction.Instruction.{Instruction}
use Rattle.lir.specs.declared.instruction.Instruction.TheVariants.{Value as value, Store as store, Guard as guard}

pub gives_one : {N : Type 0} (i : Instruction N) → gives i ≤ 1
gives_one (value i) = omega arith
gives_one (store i) = omega arith
gives_one (guard g) = omega arith

pub values_push : {N : Type 0} (is : List (Instruction N)) (i : Instruction N) → values_in (is ++ i ∷ []) ≡ values_in is + gives i
values_push [] i = omega arith
values_push (j ∷ js) i = let e = values_push js i in omega arith

-- a count of values stays right, if it rises by what an instruction gives
pub values_kept : {N : Type 0} (is js : List (Instruction N)) (i : Instruction N) (n m : ℕ) → n ≡ values_in is → m ≡ gives i → js ≡ is ++ i ∷ [] → n + m ≡ values_in js
values_kept is js i n m a b e = let p = values_push is i in cc

module _ (k : Arithmetic) where
  pub run_push : (is : List (Instruction Handle)) (i : Instruction Handle) (t : Standing) → run index_of k (is ++ i ∷ []) t ≡ effect index_of k i (run index_of k is t)
  run_push [] i t = refl
  run_push (j ∷ js) i t = run_push js i (effect index_of k j t)

  -- the turns of a loop over the instructions: one more, and all of them
  pub run_more : (is : List (Instruction Handle)) (n : ℕ) (i : Instruction Handle) (t : Standing) → n < length is → i ≡ get_or is n i
      → effect index_of k i (run index_of k (take n is) t) ≡ run index_of k (take (n + 1) is) t
  run_more is n i t l e =
      let more : take (n + 1) is ≡ take n is ++ i ∷ [] = take_more is n i l ∙ ap (λ (j : Instruction Handle). take n is ++ j ∷ []) (sym e) in
      sym (ap (λ (js : List (Instruction Handle)). run index_of k js t) more ∙ run_push (take n is) i t)

  pub run_all : (is : List (Instruction Handle)) (n : ℕ) (t : Standing) → length is ≤ n → run index_of k (take n is) t ≡ run index_of k is t
  run_all is n t l = ap (λ (js : List (Instruction Handle)). run index_of k js t) (take_all n is l)

  -- a going run has n values
  abbrev pub Fits : ℕ → Standing → Type 0
  Fits n t = Going (λ vs cs. length vs ≡ n) t

  fits_way : (n : ℕ) (b : Bool) (e : Exit) (ls vs : List Code) (cs : Cells) → length vs ≡ n → Fits n (cond b (gone e ls cs) (going vs cs))
  fits_way n true e ls vs cs f = tt
  fits_way n false e ls vs cs f = f

  pub fits_effect : (n : ℕ) (i : Instruction Handle) (t : Standing) → Fits n t → Fits (n + gives i) (effect index_of k i t)
  fits_effect n (value i) (going vs cs) f = length_push vs _ ∙ ap (λ (m : ℕ). m + 1) f
  fits_effect n (store i) (going vs cs) f = omega (arith, f)
  fits_effect n (guard g) (going vs cs) f = fits_way (n + 0) (leaves k g.test (value_at index_of vs g.on)) _ _ vs cs (omega (arith, f))
  fits_effect n i (gone e ls cs) f = tt
  fits_effect n i (ended cs) f = tt

  pub fits_run : (n : ℕ) (is : List (Instruction Handle)) (t : Standing) → Fits n t → Fits (n + values_in is) (run index_of k is t)
  fits_run n [] t f = let e : n + 0 ≡ n = omega arith in rw e f
  fits_run n (i ∷ is) t f =
      let e : n + (gives i + values_in is) ≡ (n + gives i) + values_in is = omega arith in
      rw e (fits_run (n + gives i) is (effect index_of k i t) (fits_effect n i t f))

  pub fits_end : (n : ℕ) (t : Standing) → Fits n (finished t)
  fits_end n (going vs cs) = tt
  fits_end n (gone e ls cs) = tt
  fits_end n (ended cs) = tt
