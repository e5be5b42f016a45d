use Rattle.name_resolution.specs.MainExcerpt.{is_main_in, main_number}
use Rattle.name_resolution.proofs.Seeking.{Sought}
use Rattle.name_resolution.proofs.excerpts.main_number.Given as goal

abbrev pub invariant-loop-number : goal.invariant-loop-number
invariant-loop-number l = Sought (is_main_in l.home) l.outlines (main_number l.outlines l.home) l.number
