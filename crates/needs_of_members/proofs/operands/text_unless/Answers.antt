use Rattle.std.proofs.Common.{Err, Ok, false, subst, sym, true}
use Rattle.typed_tree.specs.SharedTypes.{sem_of}
use Rattle.checks.specs.Checks.{gives}
use Rattle.expr_needs.specs.declared.kind.Kind.TheVariants.{Text}
use Rattle.check_kinds.specs.Over.{ComesOver}
use Rattle.check_kinds.proofs.Over.{over-on, over-stops}
use Rattle.check_members.proofs.TakenMembers.{over-gives}
use Rattle.check_words.specs.Words.{OfKind, done, is_within}
use Rattle.needs_of_members.specs.Fronts.{sum_of}
use Rattle.needs_of_members.proofs.operands.text_unless.Goals as goal

pub returns-in-true-clause-comes : goal.returns-in-true-clause-comes
returns-in-true-clause-comes g c =
    subst (λ b. ComesOver (sum_of g.T.Types.passes b c.args.t.now c.args.at) (g.T.Types.atoms c.args.types.now) (Ok true) (g.T.Types.atoms c.args.types.now)) (sym c.in-true.is)
    (over-on done (λ u. gives true) (g.T.Types.atoms c.args.types.now) (g.T.Types.atoms c.args.types.now) (g.T.Types.atoms c.args.types.now) tt (Ok true) (over-gives tt (g.T.Types.atoms c.args.types.now)) (over-gives true (g.T.Types.atoms c.args.types.now)))

pub returns-in-Ok-clause-comes : goal.returns-in-Ok-clause-comes
returns-in-Ok-clause-comes g c =
    let new = g.T.Types.atoms c.require_kind.new.types in
    subst (λ b. ComesOver (sum_of g.T.Types.passes b c.args.t.now c.args.at) (g.T.Types.atoms c.args.types.now) (Ok false) new) (sym c.in-false.is)
    (over-on (is_within g.T.Types.passes (OfKind Text) (sem_of c.args.t.now) c.args.at) (λ u. gives false) (g.T.Types.atoms c.args.types.now) new new tt (Ok false) (subst (λ m. ComesOver (is_within g.T.Types.passes (OfKind Text) m c.args.at) (g.T.Types.atoms c.args.types.now) (Ok tt) new) c.shapes_in.ensures c.in-Ok.ensures.comes) (over-gives false new))

pub returns-in-Err-clause-comes : goal.returns-in-Err-clause-comes
returns-in-Err-clause-comes g c =
    let new = g.T.Types.atoms c.require_kind.new.types in
    subst (λ b. ComesOver (sum_of g.T.Types.passes b c.args.t.now c.args.at) (g.T.Types.atoms c.args.types.now) (Err c.in-Err.stop) new) (sym c.in-false.is)
    (over-stops (is_within g.T.Types.passes (OfKind Text) (sem_of c.args.t.now) c.args.at) (λ u. gives false) (g.T.Types.atoms c.args.types.now) new c.in-Err.stop
    (subst (λ m. ComesOver (is_within g.T.Types.passes (OfKind Text) m c.args.at) (g.T.Types.atoms c.args.types.now) (Err c.in-Err.stop) new) c.shapes_in.ensures c.in-Err.ensures.comes))
