-- The refusals by their numbers, and the first check that fails.
use Rattle.std.specs.Prelude.{ℕ, Bool, cond, List, [], ◌∷◌, Some, None, Option}
use Rattle.lir.specs.declared.fault.Refusal.{Refusal}
use Rattle.lir.specs.declared.fault.Refusal.TheVariants.{BadHeader, BadLength, BadRecord, Malformed, Undefined, Ended, Full, ExitOrder, NoSpace, Unsettled, WrongSlip}
use Rattle.lir.specs.declared.fault.Part.{Part}
use Rattle.lir.specs.declared.fault.Part.TheVariants.{FileCall, Recording, Buffer, Evaluator, Fold, Range, Guard, Forward, Cse, Other}

abbrev pub number_of : Refusal → ℕ
number_of BadHeader = 1
number_of BadLength = 2
number_of BadRecord = 3
number_of Malformed = 4
number_of Undefined = 5
number_of Ended = 6
number_of Full = 7
number_of ExitOrder = 8
number_of NoSpace = 9
number_of Unsettled = 10
number_of WrongSlip = 11

-- the parts of the library by theirs, and any other by its own
abbrev pub part_number : Part → ℕ
part_number FileCall = 0
part_number Recording = 1
part_number Buffer = 2
part_number Evaluator = 3
part_number Fold = 5
part_number Range = 6
part_number Guard = 7
part_number Forward = 8
part_number Cse = 9
part_number (Other n) = n

-- checks are listed in the order in which they are made, each with whether it holds; the first that does not decides
abbrev pub failing : List (Refusal × Bool) → Option Refusal
failing [] = None
failing (c ∷ cs) = cond c.1 (failing cs) (Some c.0)

-- the verdict of checks that are made in two turns
abbrev pub first : Option Refusal → Option Refusal → Option Refusal
first None v = v
first (Some r) v = Some r
