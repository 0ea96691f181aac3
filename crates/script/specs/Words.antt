-- What is read of a line.
use Rattle.std.specs.Prelude.{◌≡◌, ℕ, ◌⊎◌, List, Some, None, Ok, Err, Result}
use Rattle.std.specs.Borrow.{Bor}
use Rattle.std.specs.Str.Iter.{split_whitespace_steps}
use Rattle.std.specs.declared.str.SplitWhitespace.{SplitWhitespace}
use Rattle.script.specs.declared.error.Error.{Error}
use Rattle.script.specs.declared.error.Error.TheVariants.{Unread}
use Rattle.script.specs.declared.error.Expected.{Expected}
use Rattle.script.specs.declared.error.Expected.TheVariants.{Nothing}

-- the next word is taken; where there is none, the line is refused for what was expected there
abbrev pub NextWord : Expected → SplitWhitespace → Result (Bor (List ℕ)) Error → SplitWhitespace → Type 0
NextWord x s (Ok w) t = split_whitespace_steps s (Some w) t
NextWord x s (Err e) t = split_whitespace_steps s None t × (e ≡ Unread x)

-- what is read is what the next word stands for; where there is none, or it stands for nothing, the line is refused for what was expected there
abbrev pub Reads : {A E : Type 0} → (List ℕ → Result A E → Type 0) → Expected → SplitWhitespace → Result A Error → SplitWhitespace → Type 0
Reads Stands x s (Ok a) t = (w : Bor (List ℕ)) × split_whitespace_steps s (Some w) t × Stands w.now (Ok a)
Reads {E = E} Stands x s (Err e) t = (e ≡ Unread x) × (split_whitespace_steps s None t ⊎ ((w : Bor (List ℕ)) × (f : E) × split_whitespace_steps s (Some w) t × Stands w.now (Err f)))

-- a line ends where no word is left; with one left, it is refused for that
abbrev pub Ends : SplitWhitespace → Result (Unit {0}) Error → SplitWhitespace → Type 0
Ends s (Ok u) t = split_whitespace_steps s None t
Ends s (Err e) t = ((w : Bor (List ℕ)) × split_whitespace_steps s (Some w) t) × (e ≡ Unread Nothing)
