use Rattle.std.proofs.Common.{Err, Ok, subst, sym}
use Rattle.type_model.specs.Defined.{IsDefined}
use Rattle.typed_tree.specs.SharedTypes.{sem_of}
use Rattle.check_kinds.specs.Over.{ComesOver}
use Rattle.check_kinds.proofs.Over.{over-on, over-stops}
use Rattle.check_words.specs.Statements.{operand_kind, operand_sort}
use Rattle.check_words.specs.Words.{OfKind, is_within}
use Rattle.descriptors.specs.Steps.{AreOwnTypes}
use Rattle.needs_of_members.proofs.operands.sort_of.Goals as goal

pub operand_sort-requires-clause-own : goal.operand_sort-requires-clause-own
operand_sort-requires-clause-own g c = subst (λ env. AreOwnTypes env c.args.own.now) (sym c.require_kind.ensures.atoms) c.requires.own

pub operand_sort-requires-clause-defined : goal.operand_sort-requires-clause-defined
operand_sort-requires-clause-defined g c = subst (λ env. IsDefined env (sem_of c.args.t.now)) (sym c.require_kind.ensures.atoms) c.requires.defined

pub returns-in-Ok-clause-comes : goal.returns-in-Ok-clause-comes
returns-in-Ok-clause-comes g c =
    over-on (is_within g.T.Types.passes (OfKind (operand_kind g.T.Types.passes c.args.op)) (sem_of c.args.t.now) c.args.at) (λ u. operand_sort g.T.Types.passes c.args.op c.args.t.now c.args.at)
    (g.T.Types.atoms c.args.types.now) (g.T.Types.atoms c.require_kind.new.types) (g.T.Types.atoms c.operand_sort.new.types) tt _
    (subst (λ k. ComesOver (is_within g.T.Types.passes (OfKind k) (sem_of c.args.t.now) c.args.at) (g.T.Types.atoms c.args.types.now) (Ok tt) (g.T.Types.atoms c.require_kind.new.types)) c.operand_kind.ensures
    (subst (λ m. ComesOver (is_within g.T.Types.passes (OfKind c.operand_kind.result) m c.args.at) (g.T.Types.atoms c.args.types.now) (Ok tt) (g.T.Types.atoms c.require_kind.new.types)) c.shapes_in.ensures c.in-Ok.ensures.comes))
    c.operand_sort.ensures.comes

pub returns-in-Err-clause-comes : goal.returns-in-Err-clause-comes
returns-in-Err-clause-comes g c =
    over-stops (is_within g.T.Types.passes (OfKind (operand_kind g.T.Types.passes c.args.op)) (sem_of c.args.t.now) c.args.at) (λ u. operand_sort g.T.Types.passes c.args.op c.args.t.now c.args.at)
    (g.T.Types.atoms c.args.types.now) (g.T.Types.atoms c.require_kind.new.types) c.in-Err.stop
    (subst (λ k. ComesOver (is_within g.T.Types.passes (OfKind k) (sem_of c.args.t.now) c.args.at) (g.T.Types.atoms c.args.types.now) (Err c.in-Err.stop) (g.T.Types.atoms c.require_kind.new.types)) c.operand_kind.ensures
    (subst (λ m. ComesOver (is_within g.T.Types.passes (OfKind c.operand_kind.result) m c.args.at) (g.T.Types.atoms c.args.types.now) (Err c.in-Err.stop) (g.T.Types.atoms c.require_kind.new.types)) c.shapes_in.ensures c.in-Err.ensures.comes))
