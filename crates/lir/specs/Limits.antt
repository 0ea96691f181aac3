-- The limits of the numbers that name handles, exits and places.
use Rattle.std.specs.Prelude.{ℕ, Option}
use Rattle.codes.specs.Bounds.{numbered, wrapped}
use Rattle.codes.specs.declared.bounds.UpTo.{UpTo}

abbrev pub Handle : Type 0
Handle = UpTo 1023

abbrev pub Exit : Type 0
Exit = UpTo 255

abbrev pub Place : Type 0
Place = UpTo 4095

abbrev pub handle_at : ℕ → Option Handle
handle_at = numbered 1023

abbrev pub exit_at : ℕ → Option Exit
exit_at = numbered 255

abbrev pub place_at : ℕ → Option Place
place_at = numbered 4095

-- the handle that follows n others
abbrev pub handle_of : ℕ → Handle
handle_of = wrapped 1023

-- a run keeps the value of a handle at its number
abbrev pub index_of : Handle → ℕ
index_of h = h.number
