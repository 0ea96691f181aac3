-- What a line does to a session that is not a command's own doing.
use Rattle.std.specs.Prelude.{◌≡◌, Some, None, Ok, Err, Option, Result}
use Rattle.script.specs.declared.error.Error.{Error}
use Rattle.script.specs.declared.line.Entry.{Entry}
use Rattle.script.specs.Sessions.{Stepped}
use Rattle.script.specs.declared.command.Command.{Command}
use Rattle.script.specs.declared.session.Session.{Session}

-- a line with an answer is the step of some command; a line without one leaves the session as it was
abbrev pub Kept : Session → Result (Option Entry) Error → Session → Type 0
Kept s (Ok None) s' = s' ≡ s
Kept s (Ok (Some e)) s' = (c : Command) × Stepped s c (Ok e.reply) s'
Kept s (Err e) s' = s' ≡ s
