-- What a writer means, and what its calls do to the meaning.
use Rattle.std.specs.Prelude.{◌≡◌, ℕ, ◌+◌, ◌%◌, ◌^◌, ◌<◌, Bool, true, not, ◌⊎◌, [], ◌∷◌, length, Some, None, Ok, Err, Option, Result, nat_lt}
use Rattle.codes.specs.Kinds.{Arithmetic}
use Rattle.lir.specs.Refusals.{failing, first}
use Rattle.lir.specs.Instructions.{defined}
use Rattle.lir.specs.Limits.{index_of}
use Rattle.lir.specs.declared.instruction.Instruction.{Instruction}
use Rattle.lir.specs.declared.instruction.Instruction.TheVariants.{Value as value, Store as store, Guard as guard}
use Rattle.lir.specs.Standings.{Standing, Going, value_of, value_at, effect, finished}
use Rattle.lir.specs.Limits.{Handle}
use Rattle.codes.specs.declared.cells.Cells.{Cells}
use Rattle.lir.specs.declared.fault.Fault.{Fault}
use Rattle.lir.specs.declared.fault.Part.{Part}
use Rattle.lir.specs.declared.fault.Refusal.{Refusal}
use Rattle.lir.specs.declared.fault.Refusal.TheVariants.{Undefined, Ended, NoSpace}
use Rattle.lir.specs.declared.instruction.Value.{Value}

-- for every start a standing; the count of handles; the count taken; the space; whether the writer has ended
pub record Meaning : Type 0 where
  pub standing : Cells → Standing
  pub handles : ℕ
  pub taken : ℕ
  pub space : ℕ
  pub over : Bool

pub data Order : Type 0 where
  instruct : Instruction Handle → Order
  end : Order

pub data Answer : Type 0 where
  handle : Handle → Answer
  done : Answer
  refused : Fault → Answer

-- a call's result as an answer
abbrev pub answered : Result (Option Handle) Fault → Answer
answered (Ok (Some h)) = handle h
answered (Ok None) = done
answered (Err f) = refused f

abbrev pub handled : Result Handle Fault → Answer
handled (Ok h) = handle h
handled (Err f) = refused f

abbrev pub settled : Result (Unit {0}) Fault → Answer
settled (Ok u) = done
settled (Err f) = refused f

-- a value that is accepted is answered by a handle, and nothing else is
abbrev pub Fitting : Order → Answer → Type 0
Fitting (instruct (value i)) (handle h) = Unit {0}
Fitting (instruct (value i)) done = ⊥
Fitting (instruct (value i)) (refused f) = Unit {0}
Fitting (instruct (store i)) (handle h) = ⊥
Fitting (instruct (store i)) done = Unit {0}
Fitting (instruct (store i)) (refused f) = Unit {0}
Fitting (instruct (guard g)) (handle h) = ⊥
Fitting (instruct (guard g)) done = Unit {0}
Fitting (instruct (guard g)) (refused f) = Unit {0}
Fitting end (handle h) = ⊥
Fitting end done = Unit {0}
Fitting end (refused f) = Unit {0}

-- a going run has one value to each handle
abbrev pub Coherent : Meaning → Type 0
Coherent m = (s : Cells) → Going (λ vs cs. length vs ≡ m.handles) (m.standing s)

-- the first check of a writer that an order fails
abbrev pub refusal : Meaning → Order → Option Refusal
refusal m (instruct i) = failing ((Ended, not m.over) ∷ (Undefined, defined index_of m.handles i) ∷ [])
refusal m end = failing ((Ended, not m.over) ∷ [])

-- a writer at the foot goes on to check that it has space
abbrev pub foot_refusal : Meaning → Order → Option Refusal
foot_refusal m (instruct i) = first (refusal m (instruct i)) (failing ((NoSpace, nat_lt 0 m.space) ∷ []))
foot_refusal m end = refusal m end

-- a refusal as the fault of a part that has taken so many
abbrev pub fault_of : Part → Meaning → Refusal → Fault
fault_of part m r = record { refusal = r; part = part; place = m.taken }

module _ (k : Arithmetic) where
  -- a value call i answered by h: a new handle, or one that has had the value all along
  abbrev pub Fresh : Value Handle → Handle → Meaning → Meaning → Type 0
  Fresh i h m m' = (h.number ≡ m.handles) × (m'.handles ≡ m.handles + 1) × ((s : Cells) → m'.standing s ≡ effect index_of k (value i) (m.standing s))

  abbrev pub Found : Value Handle → Handle → Meaning → Meaning → Type 0
  Found i h m m' = (h.number < m.handles) × (m'.handles ≡ m.handles)
      × ((s : Cells) → (m'.standing s ≡ m.standing s) × Going (λ vs cs. value_at index_of vs h ≡ value_of k (value_at index_of vs) cs i) (m.standing s))

  abbrev pub Carried : Instruction Handle → Meaning → Meaning → Type 0
  Carried i m m' = (m'.handles ≡ m.handles) × ((s : Cells) → m'.standing s ≡ effect index_of k i (m.standing s))

  -- which answers an accepted instruction may have, and what each does to the standing
  abbrev pub Answered : Instruction Handle → Answer → Meaning → Meaning → Type 0
  Answered (value i) (handle h) m m' = Fresh i h m m' ⊎ Found i h m m'
  Answered (value i) done m m' = ⊥
  Answered (value i) (refused f) m m' = ⊥
  Answered (store i) (handle h) m m' = ⊥
  Answered (store i) done m m' = Carried (store i) m m'
  Answered (store i) (refused f) m m' = ⊥
  Answered (guard g) (handle h) m m' = ⊥
  Answered (guard g) done m m' = Carried (guard g) m m'
  Answered (guard g) (refused f) m m' = ⊥

  pub record Accepted (i : Instruction Handle) (a : Answer) (m m' : Meaning) : Type 0 where
    pub admitted : refusal m (instruct i) ≡ None
    pub answered : Answered i a m m'
    pub counted : m'.taken ≡ (m.taken + 1) % 2 ^ 64
    pub spaced : (m'.space ≡ m.space) ⊎ (m'.space + 1 ≡ m.space)
    pub goes_on : m'.over ≡ m.over

  pub record Finished (m m' : Meaning) : Type 0 where
    pub admitted : refusal m end ≡ None
    pub standing : (s : Cells) → m'.standing s ≡ finished (m.standing s)
    pub handles : m'.handles ≡ m.handles
    pub taken : m'.taken ≡ m.taken
    pub space : m'.space ≡ m.space
    pub over : m'.over ≡ true

  -- part is the writer's own; full is the fault of a full pile
  module _ (part : Part) (full : Fault) where
    -- refused by the first check that fails, as the writer's own fault
    abbrev pub Own : Order → Fault → Meaning → Type 0
    Own o f m = (refusal m o ≡ Some f.refusal) × (f ≡ fault_of part m f.refusal)

    -- or an instruction, where no check fails, for want of space; a refusal changes nothing of the meaning
    abbrev pub Refused : Order → Fault → Meaning → Meaning → Type 0
    Refused (instruct i) f m m' = (m' ≡ m) × (Own (instruct i) f m ⊎ ((refusal m (instruct i) ≡ None) × (m.space ≡ 0) × (f ≡ full)))
    Refused end f m m' = (m' ≡ m) × Own end f m

    abbrev pub Means : Meaning → Order → Answer → Meaning → Type 0
    Means m (instruct i) (handle h) m' = Accepted i (handle h) m m'
    Means m (instruct i) done m' = Accepted i done m m'
    Means m (instruct i) (refused f) m' = Refused (instruct i) f m m'
    Means m end (handle h) m' = ⊥
    Means m end done m' = Finished m m'
    Means m end (refused f) m' = Refused end f m m'
