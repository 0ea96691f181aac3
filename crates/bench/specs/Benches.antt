-- What a bench does with its foot.
use Rattle.std.specs.Prelude.{◌≡◌, min, IfOk, IfErr, Some, None, Ok, Err, Option, Result}
use Rattle.codes.specs.Contents.{blank}
use Rattle.codes.specs.Kinds.{Arithmetic}
use Rattle.codes.specs.declared.cells.Cells.{Cells}
use Rattle.writers.specs.Buffers.{buffers, empty, viewed as buffer_view}
use Rattle.writers.specs.Evaluators.{evaluates, fresh, viewed as evaluator_view}
use Rattle.writers.specs.declared.buffer.Buffer.{Buffer}
use Rattle.writers.specs.declared.evaluator.Evaluator.{Evaluator}
use Rattle.assembly.specs.declared.kinds.KindName.{KindName}
use Rattle.bench.specs.declared.bench.Bench.{Bench}
use Rattle.bench.specs.declared.bench.Foot.{Foot}
use Rattle.bench.specs.declared.bench.Foot.TheVariants.{Buffer as a_buffer, Evaluator as an_evaluator}
use Rattle.assembly.specs.declared.call.Call.{Call}
use Rattle.bench.specs.declared.command.FootSpec.{FootSpec}
use Rattle.bench.specs.declared.command.FootSpec.TheVariants.{Buffer as buffer_spec, Evaluator as evaluator_spec}
use Rattle.bench.specs.declared.error.Error.{Error}
use Rattle.bench.specs.declared.error.Error.TheVariants.{NoFoot, Memory}
use Rattle.bench.specs.declared.answer.Counts.{Counts}
use Rattle.bench.specs.declared.answer.Report.{Report}
use Rattle.bench.specs.Meanings.{Reply, Took, counts}
use Rattle.bench.specs.Reports.{tells, told}

module _ {K : Type 0} (k : Arithmetic) where
  -- the foot took exactly the step of the call; without a foot there is none to take
  abbrev pub Called : Option (Foot K) → Call → Result Reply Error → Option (Foot K) → Type 0
  Called None call r f' = (r ≡ Err NoFoot) × (f' ≡ None)
  Called (Some (a_buffer b)) call r f' = (a : Reply) × (b' : Buffer K) × (r ≡ Ok a) × (f' ≡ Some (a_buffer b')) × Took (buffers k) b call a b'
  Called (Some (an_evaluator e s)) call r f' = (a : Reply) × (e' : Evaluator K) × (r ≡ Ok a) × (f' ≡ Some (an_evaluator e' s)) × Took (evaluates k) e call a e'

  -- the run of what a buffer keeps, from the start as it is; of an evaluator its own run, from the start that it was made with; only
  -- memory may be wanting
  abbrev pub RanOn : Option (Foot K) → Bench K → Result Report Error → Type 0
  RanOn None b r = r ≡ Err NoFoot
  RanOn (Some (a_buffer w)) b r = IfOk r (λ p. tells p ≡ told b.kind b.start (((buffers k).meaning w).standing b.start)) × IfErr r (λ e. e ≡ Memory)
  RanOn (Some (an_evaluator w s)) b r = IfOk r (λ p. tells p ≡ told b.kind s (((evaluates k).meaning w).standing s)) × IfErr r (λ e. e ≡ Memory)

  abbrev pub Ran : Bench K → Result Report Error → Type 0
  Ran b r = RanOn b.foot b r

  abbrev pub asked : Option (Foot K) → Result Counts Error
  asked None = Err NoFoot
  asked (Some (a_buffer b)) = Ok (counts ((buffers k).meaning b))
  asked (Some (an_evaluator e s)) = Ok (counts ((evaluates k).meaning e))

-- a foot with nothing taken yet; an evaluator's is at the start
abbrev pub Chosen : {K : Type 0} → FootSpec → Cells → Option (Foot K) → Type 0
Chosen spec start None = ⊥
Chosen (buffer_spec n) start (Some (a_buffer b)) = buffer_view b ≡ empty (min n 1024)
Chosen (buffer_spec n) start (Some (an_evaluator e s)) = ⊥
Chosen evaluator_spec start (Some (a_buffer b)) = ⊥
Chosen evaluator_spec start (Some (an_evaluator e s)) = (evaluator_view e ≡ fresh start) × (s ≡ start)

-- a buffer has the places asked for, up to 1,024
abbrev pub granted : FootSpec → FootSpec
granted (buffer_spec n) = buffer_spec (min n 1024)
granted evaluator_spec = evaluator_spec

-- the choice is answered as it was granted, and stands at the foot; where memory is wanting, all stays as it was
abbrev pub Chose : {K : Type 0} → FootSpec → Bench K → Result FootSpec Error → Bench K → Type 0
Chose spec b (Ok s) b' = (s ≡ granted spec) × (b'.kind ≡ b.kind) × (b'.start ≡ b.start) × Chosen spec b.start b'.foot
Chose spec b (Err e) b' = (e ≡ Memory) × (b' ≡ b)

abbrev pub fresh_bench : {K : Type 0} → KindName → Bench K
fresh_bench kind = record { kind = kind; start = blank; foot = None }

abbrev pub with_start : {K : Type 0} → Bench K → Cells → Bench K
with_start b cs = record { kind = b.kind; start = cs; foot = b.foot }
