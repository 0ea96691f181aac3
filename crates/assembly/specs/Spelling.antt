-- Words, and what they name.
use Rattle.std.specs.Prelude.{◌≡◌, ℕ, List, Ok, Err, Result, ◌≢◌}
use Rattle.assembly.specs.declared.unknown.UnknownWord.{UnknownWord}

-- what a text spells, or that it spells nothing
abbrev pub Spelled : {A : Type 0} → (A → List ℕ) → List ℕ → Result A UnknownWord → Type 0
Spelled spelling bs (Ok a) = bs ≡ spelling a
Spelled {A = A} spelling bs (Err e) = (a : A) → bs ≢ spelling a
