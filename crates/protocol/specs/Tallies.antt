-- What a pile has counted: what its foot has taken, and what each layer has saved.
use Rattle.std.specs.Prelude.{◌≡◌, ℕ, ◌+◌, ◌%◌, ◌^◌, ◌<◌, List, [], ◌∷◌, length, Some, None, Option, slice_index, slice_set}
use Rattle.lir.specs.declared.fault.Fault.{Fault}
use Rattle.lir.specs.declared.fault.Part.{Part}
use Rattle.lir.specs.declared.fault.Refusal.TheVariants.{NoSpace}
use Rattle.protocol.specs.Meanings.{Order, instruct, end, Answer, handle, done, refused}

-- what the foot of a pile has taken, and what each layer has saved, the top first
pub record Tally : Type 0 where
  pub foot : ℕ
  pub saved : List ℕ

-- one more for the layer that is named, or for the foot
abbrev pub credited : Option ℕ → Tally → Tally
credited None t = record { foot = (t.foot + 1) % 2 ^ 64; saved = t.saved }
credited (Some l) t = record { foot = t.foot; saved = slice_set t.saved l ((slice_index t.saved l + 1) % 2 ^ 64) }

-- a credit names a layer that is there, or the foot
abbrev pub Named : Tally → Option ℕ → Type 0
Named t None = Unit {0}
Named t (Some l) = l < length t.saved

abbrev pub Credits : Option ℕ → Order → Answer → Tally → Tally → Type 0
Credits by (instruct i) (handle h) t t' = (t' ≡ credited by t) × Named t by
Credits by (instruct i) done t t' = (t' ≡ credited by t) × Named t by
Credits by (instruct i) (refused f) t t' = t' ≡ t
Credits by end a t t' = t' ≡ t

abbrev pub sum : List ℕ → ℕ
sum [] = 0
sum (n ∷ ns) = n + sum ns

abbrev pub total : Tally → ℕ
total t = t.foot + sum t.saved

-- the fault of a full pile is its foot's
abbrev pub full_at : Part → Tally → Fault
full_at foot t = record { refusal = NoSpace; part = foot; place = t.foot }
