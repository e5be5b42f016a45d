use Rattle.std.proofs.Common.{Bool, not, subst, sym}
use Rattle.code_needs.specs.Combining.{need, only_if}
use Rattle.code_needs.specs.Needs.{Names}
use Rattle.pair_questions.specs.Pairs.{pairs_of}
use Rattle.needs_of_rows.specs.Finding.{Finds}
use Rattle.needs_of_rows.proofs.Finding.{found-nothing}
use Rattle.needs_of_rows.proofs.structures.name_required.Goals as goal

pub returns-in-true : goal.returns-in-true
returns-in-true c =
    subst (λ (b : Bool). Finds (only_if (not b) (need (Names (pairs_of c.args.pairs.now) c.args.field.now.name))) c.args.found.now c.args.found.now) (sym c.in-true.is) (found-nothing _)

pub returns-in-false : goal.returns-in-false
returns-in-false c =
    subst (λ (b : Bool). Finds (only_if (not b) (need (Names (pairs_of c.args.pairs.now) c.args.field.now.name))) c.args.found.now c.ask.new.self) (sym c.in-false.is) c.ask.ensures
