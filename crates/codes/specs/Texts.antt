-- Codes and numbers as they are written.
use Rattle.std.specs.Prelude.{◌≡◌, ℕ, ◌-◌, ◌^◌, ◌<◌, cond, List, ℤ, pos, negsuc, Some, None, Ok, Err, Option, Result, FitsSigned, nat_lt}
use Rattle.std.specs.Int.{w64}
use Rattle.std.specs.Str.Parse.{IsNumeral, without_leading_plus, without_leading_sign, digits_value, signed_digits_value}
use Rattle.codes.specs.Codes.{code}
use Rattle.codes.specs.declared.bounds.Code.{Code}
use Rattle.codes.specs.declared.bounds.UpTo.{UpTo}
use Rattle.codes.specs.declared.text.OutOfRange.{OutOfRange}

-- without sign up to 2 ^ 32 - 1, or with sign from - 2 ^ 31
abbrev pub coded : ℤ → Option Code
coded (pos n) = cond (nat_lt n (2 ^ 32)) (Some (code n)) None
coded (negsuc n) = cond (nat_lt n (2 ^ 31)) (Some (code (2 ^ 32 - 1 - n))) None

abbrev pub Coded : ℤ → Result Code OutOfRange → Type 0
Coded z (Ok c) = coded z ≡ Some c
Coded z (Err e) = coded z ≡ None

-- what is read is the code of the number that the text writes; where none is read, the text writes no number that has a code
abbrev pub Read : List ℕ → Result Code OutOfRange → Type 0
Read bs (Ok c) = IsNumeral 10 (without_leading_sign bs) × (coded (signed_digits_value 10 bs) ≡ Some c)
Read bs (Err e) = IsNumeral 10 (without_leading_sign bs) → FitsSigned w64 (signed_digits_value 10 bs) → coded (signed_digits_value 10 bs) ≡ None

-- what is read is the number that the text writes; where none is read, the text writes none or one beyond the last
abbrev pub Numbered : {last : ℕ} → List ℕ → Result (UpTo last) OutOfRange → Type 0
Numbered bs (Ok u) = IsNumeral 10 (without_leading_plus bs) × (digits_value 10 (without_leading_plus bs) ≡ u.number)
Numbered {last = last} bs (Err e) = IsNumeral 10 (without_leading_plus bs) → last < digits_value 10 (without_leading_plus bs)
