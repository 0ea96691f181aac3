-- The buffer: it keeps the instructions, and its standing at a start is the run of what it keeps.
use Rattle.std.specs.Prelude.{ℕ, ◌-◌, ◌≤◌, Bool, true, false, cond, List, [], ◌∷◌, ◌++◌, length, vec_items}
use Rattle.codes.specs.Kinds.{Arithmetic}
use Rattle.codes.specs.declared.cells.Cells.{Cells}
use Rattle.lir.specs.Instructions.{values_in}
use Rattle.lir.specs.Standings.{Standing, going, run, finished}
use Rattle.protocol.specs.Meanings.{Meaning, Order, instruct, end}
use Rattle.protocol.specs.Writers.{Writes}
use Rattle.lir.specs.Limits.{index_of}
use Rattle.lir.specs.Limits.{Handle}
use Rattle.lir.specs.declared.instruction.Instruction.{Instruction}
use Rattle.lir.specs.declared.fault.Part.TheVariants.{Buffer as buffer_part}
use Rattle.writers.specs.Feet.{Foot, foot_writes}
use Rattle.writers.specs.declared.buffer.Buffer.{Buffer}

-- what there is to see of a buffer
pub record Kept : Type 0 where
  pub instructions : List (Instruction Handle)
  pub places : ℕ
  pub over : Bool

abbrev pub viewed : {K : Type 0} → Buffer K → Kept
viewed b = record { instructions = vec_items b.kept; places = b.places; over = b.over }

abbrev pub empty : ℕ → Kept
empty places = record { instructions = []; places = places; over = false }

abbrev pub finished_if : Bool → Standing → Standing
finished_if over t = cond over (finished t) t

abbrev pub standing_from : Arithmetic → Kept → Cells → Standing
standing_from k b s = finished_if b.over (run index_of k b.instructions (going [] s))

abbrev pub buffer_meaning : Arithmetic → Kept → Meaning
buffer_meaning k b = record {
  standing = standing_from k b;
  handles = values_in b.instructions;
  taken = length b.instructions;
  space = b.places - length b.instructions;
  over = b.over;
}

abbrev pub after : Kept → Order → Kept
after b (instruct i) = record { instructions = b.instructions ++ i ∷ []; places = b.places; over = b.over }
after b end = record { instructions = b.instructions; places = b.places; over = true }

-- at most 1,024 places, and no more kept than there are; where it has ended, its standing is final
abbrev pub buffer_sound : Kept → Type 0
buffer_sound b = (length b.instructions ≤ b.places) × (b.places ≤ 1024)

abbrev pub buffer_foot : Arithmetic → Foot Kept
buffer_foot k = record { part = buffer_part; meaning = buffer_meaning k; after = after }

abbrev pub buffers : {K : Type 0} → Arithmetic → Writes (Buffer K)
buffers k = foot_writes (buffer_foot k) viewed buffer_sound
