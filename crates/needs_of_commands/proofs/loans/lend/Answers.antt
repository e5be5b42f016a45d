use Rattle.std.proofs.Common.{List, Option, subst, sym}
use Rattle.std.specs.Prelude.{IfSome, slice_get}
use Rattle.pair_questions.specs.declared.pair.Pair.{Pair}
use Rattle.stack_code.specs.Places.{stack_at}
use Rattle.needs_of_commands.specs.Loans.{AreOf}
use Rattle.needs_of_commands.proofs.loans.lend.Goals as goal

pub returns : goal.returns
returns c = λ code place h l. record {
  always = record { indexes = h.indexes; members = h.members; results = h.results; never = h.never };
  here = subst (λ (q : Option (List Pair)). IfSome (slice_get code.instrs place) (AreOf code (stack_at code place) c.args.loan.now.own c.args.loan.now.field q)) (sym c.pairs_of.ensures) l;
}
