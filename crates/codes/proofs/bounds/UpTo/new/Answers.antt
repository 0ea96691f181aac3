use Rattle.std.proofs.Common.{sym, ◌+◌}
use Rattle.codes.proofs.Within.{within_made}
use Rattle.codes.proofs.bounds.UpTo.new.Goals as goal

pub returns-then-number : goal.returns-then-number
returns-then-number g c = sym (within_made (g.row.LAST + 1) c.args.number (λ p. record { number = c.args.number; small = p }) _)
