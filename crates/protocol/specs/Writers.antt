-- What is said of a type of writers, and what every one owes.
use Rattle.std.specs.Prelude.{◌≡◌, ℕ, ◌%◌, ◌^◌, cond, Some, None, Ok, Err, Option, Result}
use Rattle.codes.specs.Kinds.{Arithmetic}
use Rattle.lir.specs.declared.instruction.Instruction.{Instruction}
use Rattle.lir.specs.Limits.{Handle}
use Rattle.lir.specs.declared.fault.Fault.{Fault}
use Rattle.lir.specs.declared.fault.Part.{Part}
use Rattle.lir.specs.declared.fault.Refusal.{Refusal}
use Rattle.lir.specs.declared.fault.Refusal.TheVariants.{Malformed, Ended}
use Rattle.protocol.specs.Meanings.{Meaning, Order, instruct, end, Answer, refused, Coherent, fault_of, Means}
use Rattle.protocol.specs.Tallies.{Tally, Credits, total, full_at}

-- what is said of a type of writers
pub record Writes (W : Type 0) : Type 1 where
  -- which part of the library it is, and which the foot of its pile is
  pub part : Part
  pub foot : Part
  -- what a call does to one, exactly
  pub steps : W → Order → Answer → W → Type 0
  pub meaning : W → Meaning
  -- whether one is in order: makers see to it, calls keep it
  pub sound : W → Type 0
  pub tally : W → Tally
  -- which layer's rule saves an instruction; none: it comes to the foot
  pub saver : W → Instruction Handle → Option ℕ

abbrev pub credit_to : {W : Type 0} → Writes W → W → Order → Option ℕ
credit_to ws w (instruct i) = ws.saver w i
credit_to ws w end = None

-- what every writer owes
pub record Lawful {W : Type 0} (k : Arithmetic) (ws : Writes W) : Type 0 where
  pub coherent : (w : W) → ws.sound w → Coherent (ws.meaning w)
  pub counts : (w : W) → ws.sound w → (ws.meaning w).taken ≡ total (ws.tally w) % 2 ^ 64
  pub stays : (w w' : W) (o : Order) (a : Answer) → ws.sound w → ws.steps w o a w' → ws.sound w'
  pub means : (w w' : W) (o : Order) (a : Answer) → ws.sound w → ws.steps w o a w' → Means k ws.part (full_at ws.foot (ws.tally w)) (ws.meaning w) o a (ws.meaning w')
  pub credits : (w w' : W) (o : Order) (a : Answer) → ws.sound w → ws.steps w o a w' → Credits (credit_to ws w o) o a (ws.tally w) (ws.tally w')

module _ {W : Type 0} (ws : Writes W) where
  abbrev pub own_fault : W → Refusal → Fault
  own_fault w r = fault_of ws.part (ws.meaning w) r

  -- a verdict as a result: passed, or refused with the writer's own fault
  abbrev pub judgement : W → Option Refusal → Result (Unit {0}) Fault
  judgement w None = Ok tt
  judgement w (Some r) = Err (own_fault w r)

  -- the same, by what each result tells of the verdict
  abbrev pub Judged : W → Option Refusal → Result (Unit {0}) Fault → Type 0
  Judged w v (Ok u) = v ≡ None
  Judged w v (Err f) = (v ≡ Some f.refusal) × (f ≡ own_fault w f.refusal)

  -- a call by numbers does what the instruction does that they mean; numbers that mean none are refused, after the check for the end
  abbrev pub malformed : W → Fault
  malformed w = own_fault w (cond (ws.meaning w).over Ended Malformed)

  abbrev pub ByNumbers : W → Option (Instruction Handle) → Answer → W → Type 0
  ByNumbers w (Some i) a w' = ws.steps w (instruct i) a w'
  ByNumbers w None a w' = (a ≡ refused (malformed w)) × (w' ≡ w)
