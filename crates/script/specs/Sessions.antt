-- What a command does to a session.
use Rattle.std.specs.Prelude.{◌≡◌, Some, None, Ok, Err, Option, Result}
use Rattle.codes.specs.Contents.{written}
use Rattle.codes.specs.Counts.{count}
use Rattle.codes.specs.Kinds.{Arithmetic}
use Rattle.codes.specs.Pressures.{pressure}
use Rattle.codes.specs.declared.count.Count.{Count as CountsKind}
use Rattle.codes.specs.declared.pressure.Bar20.{Bar20 as Bar20Kind}
use Rattle.codes.specs.declared.pressure.Bar100.{Bar100 as Bar100Kind}
use Rattle.assembly.specs.Numbers.{shown}
use Rattle.assembly.specs.declared.kinds.KindName.{KindName}
use Rattle.assembly.specs.declared.kinds.KindName.TheVariants.{Count, Bar20, Bar100}
use Rattle.bench.specs.Meanings.{Reply as Answer}
use Rattle.bench.specs.Benches.{Called, Chose, Ran, asked, fresh_bench, with_start}
use Rattle.bench.specs.declared.answer.Report.{Report}
use Rattle.bench.specs.declared.bench.Bench.{Bench}
use Rattle.bench.specs.declared.command.FootSpec.{FootSpec}
use Rattle.bench.specs.declared.error.Error.{Error as BenchError}
use Rattle.bench.specs.declared.error.Error.TheVariants.{Memory as bench_memory, NoFoot as bench_no_foot}
use Rattle.script.specs.declared.command.Command.{Command}
use Rattle.script.specs.declared.command.Command.TheVariants.{Kind as kind_line, Work as work_line}
use Rattle.script.specs.declared.command.Work.{Work}
use Rattle.script.specs.declared.command.Work.TheVariants.{Cell as cell_line, Foot as foot_line, Call as call_line, Run as run_line, Ask as ask_line}
use Rattle.script.specs.declared.error.Error.{Error}
use Rattle.script.specs.declared.error.Error.TheVariants.{Memory, NoKind, NoFoot}
use Rattle.script.specs.declared.reply.Reply.{Reply}
use Rattle.script.specs.declared.reply.Reply.TheVariants.{Kind as kind_reply, Cell as cell_reply, Foot as foot_reply, Call as call_reply, Run as run_reply, Ask as ask_reply}
use Rattle.script.specs.declared.session.Session.{Session}
use Rattle.script.specs.declared.session.AnyBench.{AnyBench}
use Rattle.script.specs.declared.session.AnyBench.TheVariants.{Count as on_counts, Bar20 as on_bar20, Bar100 as on_bar100}

abbrev pub stopped_by : BenchError → Error
stopped_by bench_memory = Memory
stopped_by bench_no_foot = NoFoot

-- a bench's result as a reply
abbrev pub replied : {A : Type 0} → (A → Reply) → Result A BenchError → Result Reply Error
replied f (Ok a) = Ok (f a)
replied f (Err e) = Err (stopped_by e)

-- the work of a line, on a bench whose kind has the arithmetic k
module _ {K : Type 0} (k : Arithmetic) (b : Bench K) where
  abbrev pub Worked : Work → Result Reply Error → Bench K → Type 0
  Worked (cell_line c p) r b' = (r ≡ Ok (cell_reply (record { cell = c; number = shown b.kind p }))) × (b' ≡ with_start b (written b.start c p))
  Worked (foot_line s) r b' = (x : Result FootSpec BenchError) × (r ≡ replied foot_reply x) × Chose s b x b'
  Worked (call_line c) r b' = (x : Result Answer BenchError) × (r ≡ replied call_reply x) × (b'.kind ≡ b.kind) × (b'.start ≡ b.start) × Called k b.foot c x b'.foot
  Worked run_line r b' = (x : Result Report BenchError) × (r ≡ replied run_reply x) × Ran k b x × (b' ≡ b)
  Worked ask_line r b' = (r ≡ replied ask_reply (asked k b.foot)) × (b' ≡ b)

abbrev pub unchosen : Session
unchosen = record { bench = None }

abbrev pub at : AnyBench → Session
at b = record { bench = Some b }

-- a kind begins afresh
abbrev pub begun : KindName → Session
begun Count = at (on_counts (fresh_bench Count))
begun Bar20 = at (on_bar20 (fresh_bench Bar20))
begun Bar100 = at (on_bar100 (fresh_bench Bar100))

-- all else is done on the bench of the kind that was chosen
abbrev pub DoneOn : Option AnyBench → Work → Result Reply Error → Session → Type 0
DoneOn None w r s' = (r ≡ Err NoKind) × (s' ≡ unchosen)
DoneOn (Some (on_counts b)) w r s' = (b' : Bench CountsKind) × (s' ≡ at (on_counts b')) × Worked count b w r b'
DoneOn (Some (on_bar20 b)) w r s' = (b' : Bench Bar20Kind) × (s' ≡ at (on_bar20 b')) × Worked (pressure 20) b w r b'
DoneOn (Some (on_bar100 b)) w r s' = (b' : Bench Bar100Kind) × (s' ≡ at (on_bar100 b')) × Worked (pressure 100) b w r b'

abbrev pub Done : Session → Work → Result Reply Error → Session → Type 0
Done s w r s' = DoneOn s.bench w r s'

abbrev pub Stepped : Session → Command → Result Reply Error → Session → Type 0
Stepped s (kind_line n) r s' = (r ≡ Ok (kind_reply n)) × (s' ≡ begun n)
Stepped s (work_line w) r s' = Done s w r s'

-- a command that is not answered changes nothing
abbrev pub KeptIfStopped : Session → Result Reply Error → Session → Type 0
KeptIfStopped s (Ok r) s' = Unit {0}
KeptIfStopped s (Err e) s' = s' ≡ s
