-- A foot whose accepted orders do what they should is a lawful writer.
use Rattle.std.specs.Prelude.{◌≡◌, ℕ, ◌^◌, ◌<◌, [], ◌∷◌, Some, None, Option, nat_lt, refl}
use Rattle.std.proofs.Common.{sym, ap, subst, inl, inr, arith, ltb-true, ltb-false}
use Rattle.codes.specs.Kinds.{Arithmetic}
use Rattle.lir.specs.Refusals.{failing}
use Rattle.protocol.specs.Meanings.{Meaning, Order, instruct, end, Answer, refused, Fitting, Coherent, Means, Accepted, Finished, refusal, foot_refusal, fault_of}
use Rattle.protocol.specs.Tallies.{Tally, Credits, full_at}
use Rattle.protocol.specs.Writers.{credit_to, Lawful}
use Rattle.lir.specs.Limits.{Handle}
use Rattle.lir.specs.declared.fault.Fault.{Fault}
use Rattle.lir.specs.declared.fault.Refusal.{Refusal}
use Rattle.lir.specs.declared.fault.Refusal.TheVariants.{NoSpace}
use Rattle.lir.specs.declared.instruction.Instruction.{Instruction}
use Rattle.lir.specs.declared.instruction.Instruction.TheVariants.{Value as value, Store as store, Guard as guard}
use Rattle.protocol.proofs.Verdicts.{first_passes, first_refuses, check_passes, check_refuses}
use Rattle.writers.specs.Feet.{Foot, answer, Decided, foot_steps, foot_writes}

-- what is left to show of a foot
pub record Grounded {S : Type 0} (k : Arithmetic) (f : Foot S) (sound : S → Type 0) : Type 0 where
  pub coherent : (s : S) → sound s → Coherent (f.meaning s)
  pub counts : (s : S) → sound s → (f.meaning s).taken < 2 ^ 64
  pub stays : (s : S) (i : Instruction Handle) → sound s → 0 < (f.meaning s).space → sound (f.after s (instruct i))
  pub stays_ended : (s : S) → sound s → sound (f.after s end)
  pub accepts : (s : S) (i : Instruction Handle) → sound s → refusal (f.meaning s) (instruct i) ≡ None → 0 < (f.meaning s).space
      → Accepted k i (answer (f.meaning s) (instruct i)) (f.meaning s) (f.meaning (f.after s (instruct i)))
  pub finishes : (s : S) → refusal (f.meaning s) end ≡ None → Finished k (f.meaning s) (f.meaning (f.after s end))

-- an instruction that passes meets no check of a writer, and there is space
pub passes : (m : Meaning) (i : Instruction Handle) → foot_refusal m (instruct i) ≡ None → (refusal m (instruct i) ≡ None) × (0 < m.space)
passes m i e =
    let p = first_passes (refusal m (instruct i)) (failing ((NoSpace, nat_lt 0 m.space) ∷ [])) e in
    (p.0, ltb-true 0 m.space (check_passes NoSpace (nat_lt 0 m.space) p.1))

-- a foot answers by a handle where a value is asked for, and not elsewhere
fitting_answer : (m : Meaning) (o : Order) → Fitting o (answer m o)
fitting_answer m (instruct (value i)) = tt
fitting_answer m (instruct (store i)) = tt
fitting_answer m (instruct (guard g)) = tt
fitting_answer m end = tt

fitting_refused : (o : Order) (e : Fault) → Fitting o (refused e)
fitting_refused (instruct (value i)) e = tt
fitting_refused (instruct (store i)) e = tt
fitting_refused (instruct (guard g)) e = tt
fitting_refused end e = tt

module _ {S : Type 0} (f : Foot S) (sound : S → Type 0) where
  fitting : (v : Option Refusal) (s s' : S) (o : Order) (a : Answer) → Decided f v s o a s' → Fitting o a
  fitting None s s' o a d = subst (λ b. Fitting o b) (sym d.0) (fitting_answer (f.meaning s) o)
  fitting (Some r) s s' o a d = subst (λ b. Fitting o b) (sym d.0) (fitting_refused o _)

  pub foot_fitting : {W : Type 0} (seen : W → S) (w w' : W) (o : Order) (a : Answer) → (foot_writes f seen sound).steps w o a w' → Fitting o a
  foot_fitting seen w w' o a d = fitting (foot_refusal (f.meaning (seen w)) o) (seen w) (seen w') o a d

module _ {S : Type 0} (k : Arithmetic) (f : Foot S) (sound : S → Type 0) (g : Grounded k f sound) where
  abbrev tally : S → Tally
  tally s = record { foot = (f.meaning s).taken; saved = [] }

  abbrev Meant : S → Order → Answer → S → Type 0
  Meant s o a s' = Means k f.part (full_at f.part (tally s)) (f.meaning s) o a (f.meaning s')

  abbrev Counted : S → Order → Answer → S → Type 0
  Counted s o a s' = Credits None o a (tally s) (tally s')

  abbrev denial : S → Refusal → Answer
  denial s r = refused (fault_of f.part (f.meaning s) r)

  -- orders that pass
  abbrev Acceptance : S → Instruction Handle → Type 0
  Acceptance s i = Accepted k i (answer (f.meaning s) (instruct i)) (f.meaning s) (f.meaning (f.after s (instruct i)))

  acceptance : (s : S) (i : Instruction Handle) → sound s → foot_refusal (f.meaning s) (instruct i) ≡ None → Acceptance s i
  acceptance s i d e = let p = passes (f.meaning s) i e in g.accepts s i d p.0 p.1

  accepted_means : (s : S) (i : Instruction Handle) → Acceptance s i → Meant s (instruct i) (answer (f.meaning s) (instruct i)) (f.after s (instruct i))
  accepted_means s (value i) a = a
  accepted_means s (store i) a = a
  accepted_means s (guard j) a = a

  accepted_counted : (s : S) (i : Instruction Handle) → Acceptance s i → Counted s (instruct i) (answer (f.meaning s) (instruct i)) (f.after s (instruct i))
  accepted_counted s (value i) a = (ap (λ (n : ℕ). record { foot = n; saved = [] }) a.counted, tt)
  accepted_counted s (store i) a = (ap (λ (n : ℕ). record { foot = n; saved = [] }) a.counted, tt)
  accepted_counted s (guard j) a = (ap (λ (n : ℕ). record { foot = n; saved = [] }) a.counted, tt)

  passed_means : (s : S) (o : Order) → sound s → foot_refusal (f.meaning s) o ≡ None → Meant s o (answer (f.meaning s) o) (f.after s o)
  passed_means s (instruct i) d e = accepted_means s i (acceptance s i d e)
  passed_means s end d e = g.finishes s e

  passed_counted : (s : S) (o : Order) → sound s → foot_refusal (f.meaning s) o ≡ None → Counted s o (answer (f.meaning s) o) (f.after s o)
  passed_counted s (instruct i) d e = accepted_counted s i (acceptance s i d e)
  passed_counted s end d e = ap (λ (n : ℕ). record { foot = n; saved = [] }) (g.finishes s e).taken

  passed_stays : (s : S) (o : Order) → sound s → foot_refusal (f.meaning s) o ≡ None → sound (f.after s o)
  passed_stays s (instruct i) d e = g.stays s i d (passes (f.meaning s) i e).1
  passed_stays s end d e = g.stays_ended s d

  -- orders that are refused
  denied_means : (s : S) (o : Order) (r : Refusal) → foot_refusal (f.meaning s) o ≡ Some r → Meant s o (denial s r) s
  denied_means s (instruct i) r e = (
    refl,
    elim (first_refuses (refusal (f.meaning s) (instruct i)) (failing ((NoSpace, nat_lt 0 (f.meaning s).space) ∷ [])) r e) [
      | inl own ↦ inl (own, refl)
      | inr full ↦
          let c = check_refuses NoSpace r (nat_lt 0 (f.meaning s).space) full.1 in
          let l = ltb-false 0 (f.meaning s).space c.0 in
          inr (full.0, omega arith, ap (λ (q : Refusal). fault_of f.part (f.meaning s) q) c.1)
    ],
  )
  denied_means s end r e = (refl, (e, refl))

  denied_counted : (s : S) (o : Order) (r : Refusal) → Counted s o (denial s r) s
  denied_counted s (instruct i) r = refl
  denied_counted s end r = refl

  -- what holds of every step, if it holds of both sorts
  decided : (P : S → Order → Answer → S → Type 0)
      → ((s : S) (o : Order) → sound s → foot_refusal (f.meaning s) o ≡ None → P s o (answer (f.meaning s) o) (f.after s o))
      → ((s : S) (o : Order) (r : Refusal) → sound s → foot_refusal (f.meaning s) o ≡ Some r → P s o (denial s r) s)
      → (s s' : S) (o : Order) (a : Answer) (v : Option Refusal) → foot_refusal (f.meaning s) o ≡ v → sound s → Decided f v s o a s' → P s o a s'
  decided P pass deny s s' o a None e d st = subst (λ b. P s o b s') (sym st.0) (subst (λ t. P s o (answer (f.meaning s) o) t) (sym st.1) (pass s o d e))
  decided P pass deny s s' o a (Some r) e d st = subst (λ b. P s o b s') (sym st.0) (subst (λ t. P s o (denial s r) t) (sym st.1) (deny s o r d e))

  abbrev Every : (S → Order → Answer → S → Type 0) → Type 0
  Every P = (s s' : S) (o : Order) (a : Answer) → sound s → foot_steps f s o a s' → P s o a s'

  every : (P : S → Order → Answer → S → Type 0)
      → ((s : S) (o : Order) → sound s → foot_refusal (f.meaning s) o ≡ None → P s o (answer (f.meaning s) o) (f.after s o))
      → ((s : S) (o : Order) (r : Refusal) → sound s → foot_refusal (f.meaning s) o ≡ Some r → P s o (denial s r) s)
      → Every P
  every P pass deny s s' o a d st = decided P pass deny s s' o a (foot_refusal (f.meaning s) o) refl d st

  always_means : Every Meant
  always_means = every Meant passed_means (λ s o r d e. denied_means s o r e)

  always_counted : Every Counted
  always_counted = every Counted passed_counted (λ s o r d e. denied_counted s o r)

  always_stays : Every (λ s o a s'. sound s')
  always_stays = every (λ s o a s'. sound s') passed_stays (λ s o r d e. d)

  -- a foot has no layers to credit
  credit_none : {W : Type 0} (seen : W → S) (w : W) (o : Order) → credit_to (foot_writes f seen sound) w o ≡ None
  credit_none seen w (instruct i) = refl
  credit_none seen w end = refl

  pub grounded_lawful : {W : Type 0} (seen : W → S) → Lawful k (foot_writes f seen sound)
  grounded_lawful seen = record {
    coherent = λ w d. g.coherent (seen w) d;
    counts = λ w d. omega (arith, g.counts (seen w) d);
    stays = λ w w' o a d st. always_stays (seen w) (seen w') o a d st;
    means = λ w w' o a d st. always_means (seen w) (seen w') o a d st;
    credits = λ w w' o a d st. subst (λ b. Credits b o a (tally (seen w)) (tally (seen w'))) (sym (credit_none seen w o)) (always_counted (seen w) (seen w') o a d st);
  }
