-- The buffer is a lawful writer.
use Rattle.std.specs.Prelude.{◌≡◌, ℕ, ◌+◌, ◌-◌, ◌<◌, ◌≤◌, Bool, true, false, List, [], ◌∷◌, length, None, refl}
use Rattle.std.proofs.Common.{◌∙◌, inl, inr, arith}
use Rattle.std.proofs.lemmas.List.{length_push}
use Rattle.codes.specs.Kinds.{Arithmetic}
use Rattle.codes.specs.declared.cells.Cells.{Cells}
use Rattle.lir.specs.Instructions.{values_in, defined}
use Rattle.lir.specs.Standings.{Standing, going, effect, run, finished}
use Rattle.protocol.specs.Meanings.{instruct, end, Accepted, refusal}
use Rattle.protocol.specs.Writers.{Lawful}
use Rattle.lir.specs.Limits.{index_of}
use Rattle.lir.specs.Limits.{Handle}
use Rattle.lir.specs.declared.fault.Refusal.TheVariants.{Undefined}
use Rattle.lir.specs.declared.instruction.Instruction.{Instruction}
use Rattle.lir.specs.declared.instruction.Instruction.TheVariants.{Value as value, Store as store, Guard as guard}
use Rattle.protocol.proofs.Verdicts.{goes_on}
use Rattle.writers.specs.Feet.{answer}
use Rattle.writers.specs.Buffers.{Kept, viewed, finished_if, standing_from, buffer_meaning, after, buffer_sound, buffer_foot, buffers}
use Rattle.writers.specs.declared.buffer.Buffer.{Buffer}
use Rattle.lir.proofs.Runs.{values_push, run_push, Fits, fits_run, fits_end}
use Rattle.writers.specs.Footing.{Grounded, grounded_lawful}

-- it has at most one value to an instruction
pub values_few : {N : Type 0} (is : List (Instruction N)) → values_in is ≤ length is
values_few [] = omega arith
values_few (value i ∷ is) = let e = values_few is in omega arith
values_few (store i ∷ is) = let e = values_few is in omega arith
values_few (guard g ∷ is) = let e = values_few is in omega arith

module _ (k : Arithmetic) where
  fits_if : (n : ℕ) (over : Bool) (t : Standing) → Fits k n t → Fits k n (finished_if over t)
  fits_if n true t f = fits_end k n t
  fits_if n false t f = f

  coherent : (b : Kept) (s : Cells) → Fits k (values_in b.instructions) (standing_from k b s)
  coherent b s =
      let e : 0 + values_in b.instructions ≡ values_in b.instructions = omega arith in
      fits_if (values_in b.instructions) b.over (run index_of k b.instructions (going [] s))
      (rw e at (fits_run k 0 b.instructions (going [] s) refl))

  -- where it has not ended, one more instruction is one more step of each run
  further : (b : Kept) (i : Instruction Handle) (s : Cells) → b.over ≡ false → standing_from k (after b (instruct i)) s ≡ effect index_of k i (standing_from k b s)
  further b i s e = simp (e, run_push k b.instructions i (going [] s))

  closed : (b : Kept) (s : Cells) → b.over ≡ false → standing_from k (after b end) s ≡ finished (standing_from k b s)
  closed b s e = simp e

  open_still : (b : Kept) (i : Instruction Handle) → refusal (buffer_meaning k b) (instruct i) ≡ None → b.over ≡ false
  open_still b i e = goes_on b.over ((Undefined, defined index_of (values_in b.instructions) i) ∷ []) e

  accepts : (b : Kept) (i : Instruction Handle) → buffer_sound b → refusal (buffer_meaning k b) (instruct i) ≡ None → 0 < b.places - length b.instructions
      → Accepted k i (answer (buffer_meaning k b) (instruct i)) (buffer_meaning k b) (buffer_meaning k (after b (instruct i)))
  accepts b (value i) d e room =
      let l = length_push b.instructions (value i) in
      let few = values_few b.instructions in
      record {
        admitted = e;
        answered = inl (omega arith, values_push b.instructions (value i), λ s. further b (value i) s (open_still b (value i) e));
        counted = omega arith;
        spaced = inr (omega arith);
        goes_on = refl;
      }
  accepts b (store i) d e room =
      let l = length_push b.instructions (store i) in
      record { admitted = e; answered = (values_push b.instructions (store i) ∙ omega arith, λ s. further b (store i) s (open_still b (store i) e)); counted = omega arith; spaced = inr (omega arith); goes_on = refl }
  accepts b (guard j) d e room =
      let l = length_push b.instructions (guard j) in
      record { admitted = e; answered = (values_push b.instructions (guard j) ∙ omega arith, λ s. further b (guard j) s (open_still b (guard j) e)); counted = omega arith; spaced = inr (omega arith); goes_on = refl }

  stays : (b : Kept) (i : Instruction Handle) → buffer_sound b → 0 < b.places - length b.instructions → buffer_sound (after b (instruct i))
  stays b i d room = let l = length_push b.instructions i in (omega arith, d.1)

  grounded : Grounded k (buffer_foot k) buffer_sound
  grounded = record {
    coherent = λ b d s. coherent b s;
    counts = λ b d. omega (arith, d.0, d.1);
    stays = stays;
    stays_ended = λ b d. d;
    accepts = accepts;
    finishes = λ b e. record { admitted = e; standing = λ s. closed b s (goes_on b.over [] e); handles = refl; taken = refl; space = refl; over = refl };
  }

  pub buffer_lawful : {K : Type 0} → Lawful {W = Buffer K} k (buffers k)
  buffer_lawful = grounded_lawful k (buffer_foot k) buffer_sound grounded viewed
