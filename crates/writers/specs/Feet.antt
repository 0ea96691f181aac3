-- What the writers at the foot share: each answers n as the new handle, and always refuses at space 0.
use Rattle.std.specs.Prelude.{◌≡◌, ℕ, [], Some, None, Option}
use Rattle.lir.specs.Limits.{Handle, handle_of}
use Rattle.protocol.specs.Meanings.{Meaning, Order, instruct, end, Answer, handle, done, refused, foot_refusal, fault_of}
use Rattle.protocol.specs.Writers.{Writes}
use Rattle.lir.specs.declared.fault.Part.{Part}
use Rattle.lir.specs.declared.fault.Refusal.{Refusal}
use Rattle.lir.specs.declared.instruction.Instruction.{Instruction}
use Rattle.lir.specs.declared.instruction.Instruction.TheVariants.{Value as value, Store as store, Guard as guard}

-- a foot by its states: what each means, and what it becomes by an order that is accepted
pub record Foot (S : Type 0) : Type 0 where
  pub part : Part
  pub meaning : S → Meaning
  pub after : S → Order → S

-- the handle that an accepted instruction is answered by, if it gives a value
abbrev pub new_handle : ℕ → Instruction Handle → Option Handle
new_handle n (value i) = Some (handle_of n)
new_handle n (store i) = None
new_handle n (guard g) = None

abbrev pub answer : Meaning → Order → Answer
answer m (instruct (value i)) = handle (handle_of m.handles)
answer m (instruct (store i)) = done
answer m (instruct (guard g)) = done
answer m end = done

module _ {S : Type 0} (f : Foot S) where
  -- by the verdict of its checks: a refusal changes nothing
  abbrev pub Decided : Option Refusal → S → Order → Answer → S → Type 0
  Decided (Some r) s o a s' = (a ≡ refused (fault_of f.part (f.meaning s) r)) × (s' ≡ s)
  Decided None s o a s' = (a ≡ answer (f.meaning s) o) × (s' ≡ f.after s o)

  abbrev pub foot_steps : S → Order → Answer → S → Type 0
  foot_steps s o a s' = Decided (foot_refusal (f.meaning s) o) s o a s'

  -- a type of writers that are seen as states of the foot; no layer saves anything at a foot
  abbrev pub foot_writes : {W : Type 0} → (W → S) → (S → Type 0) → Writes W
  foot_writes seen sound = record {
    part = f.part;
    foot = f.part;
    steps = λ w o a w'. foot_steps (seen w) o a (seen w');
    meaning = λ w. f.meaning (seen w);
    sound = λ w. sound (seen w);
    tally = λ w. record { foot = (f.meaning (seen w)).taken; saved = [] };
    saver = λ w i. None;
  }
