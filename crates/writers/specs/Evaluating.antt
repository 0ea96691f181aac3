-- The evaluator is a lawful writer.
use Rattle.std.specs.Prelude.{◌≡◌, ◌-◌, ◌<◌, None, refl}
use Rattle.std.proofs.Common.{inl, inr, arith}
use Rattle.codes.specs.Kinds.{Arithmetic}
use Rattle.protocol.specs.Meanings.{instruct, Accepted, refusal}
use Rattle.protocol.specs.Writers.{Lawful}
use Rattle.lir.specs.Limits.{Handle}
use Rattle.lir.specs.declared.instruction.Instruction.{Instruction}
use Rattle.lir.specs.declared.instruction.Instruction.TheVariants.{Value as value, Store as store, Guard as guard}
use Rattle.writers.specs.Feet.{answer}
use Rattle.writers.specs.Evaluators.{Evaluation, viewed, eval_meaning, after, eval_sound, eval_foot, evaluates}
use Rattle.writers.specs.declared.evaluator.Evaluator.{Evaluator}
use Rattle.lir.proofs.Runs.{gives_one, fits_effect, fits_end}
use Rattle.writers.specs.Footing.{Grounded, grounded_lawful}

module _ (k : Arithmetic) where
  accepts : (e : Evaluation) (i : Instruction Handle) → eval_sound e → refusal (eval_meaning e) (instruct i) ≡ None → 0 < 1024 - e.handles
      → Accepted k i (answer (eval_meaning e) (instruct i)) (eval_meaning e) (eval_meaning (after k e (instruct i)))
  accepts e (value i) d p room = record { admitted = p; answered = inl (omega arith, refl, λ s. refl); counted = refl; spaced = inr (omega arith); goes_on = refl }
  accepts e (store i) d p room = record { admitted = p; answered = (omega arith, λ s. refl); counted = refl; spaced = inl (omega arith); goes_on = refl }
  accepts e (guard j) d p room = record { admitted = p; answered = (omega arith, λ s. refl); counted = refl; spaced = inl (omega arith); goes_on = refl }

  grounded : Grounded k (eval_foot k) eval_sound
  grounded = record {
    coherent = λ e d s. d.0;
    counts = λ e d. d.2;
    stays = λ e i d room. let l = gives_one i in (fits_effect k e.handles i e.standing d.0, omega arith, omega arith);
    stays_ended = λ e d. (fits_end k e.handles e.standing, d.1, d.2);
    accepts = accepts;
    finishes = λ e p. record { admitted = p; standing = λ s. refl; handles = refl; taken = refl; space = refl; over = refl };
  }

  pub eval_lawful : {K : Type 0} → Lawful {W = Evaluator K} k (evaluates k)
  eval_lawful = grounded_lawful k (eval_foot k) eval_sound grounded viewed
