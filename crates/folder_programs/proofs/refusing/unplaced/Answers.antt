use Rattle.std.specs.Str.{chars}
use Rattle.folder_programs.proofs.refusing.unplaced.Goals as goal

pub returns : goal.returns
unfolding chars
returns c = λ i. record { fault = c.args.fault; file = c.in_ok-file.ensures i; line = 0; column = 0 }
