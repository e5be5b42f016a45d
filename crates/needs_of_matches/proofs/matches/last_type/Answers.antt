use Rattle.std.proofs.Common.{IfOk, subst}
use Rattle.typed_tree.specs.Exprs.{type_of}
use Rattle.check_words.specs.Sharing.{SameShared}
use Rattle.check_words.specs.State.{IsLast}
use Rattle.needs_of_loops.proofs.Answered.{if-found}
use Rattle.needs_of_matches.proofs.matches.last_type.Goals as goal

pub returns-in-Some : goal.returns-in-Some
returns-in-Some c = if-found (IsLast c.args.found.now) (λ e t. SameShared (type_of e) t) c.shared.result c.in-Some.e.now c.in-Some.ensures (subst (λ t. IfOk c.shared.result (SameShared t)) c.ty.ensures c.shared.ensures)
