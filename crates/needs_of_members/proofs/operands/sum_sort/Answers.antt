use Rattle.std.proofs.Common.{Err, Ok, subst, sym}
use Rattle.descriptors.specs.Steps.{AreOwnTypes}
use Rattle.type_model.specs.Defined.{IsDefined}
use Rattle.typed_tree.specs.SharedTypes.{sem_of}
use Rattle.expr_needs.specs.declared.kind.Kind.TheVariants.{Integer}
use Rattle.check_kinds.specs.Over.{ComesOver}
use Rattle.check_kinds.proofs.Over.{over-on, over-stops}
use Rattle.check_words.specs.Words.{OfKind, whether_within}
use Rattle.needs_of_members.specs.Fronts.{sum_of}
use Rattle.needs_of_members.proofs.operands.sum_sort.Goals as goal

pub text_unless-requires-clause-own : goal.text_unless-requires-clause-own
text_unless-requires-clause-own g c = subst (λ env. AreOwnTypes env c.args.own.now) (sym c.is_of_kind.ensures.atoms) c.requires.own

pub text_unless-requires-clause-defined : goal.text_unless-requires-clause-defined
text_unless-requires-clause-defined g c = subst (λ env. IsDefined env (sem_of c.args.t.now)) (sym c.is_of_kind.ensures.atoms) c.requires.defined

pub returns-in-Ok-clause-comes : goal.returns-in-Ok-clause-comes
returns-in-Ok-clause-comes g c =
    over-on (whether_within g.T.Types.passes (OfKind Integer) (sem_of c.args.t.now) c.args.at) (λ ints. sum_of g.T.Types.passes ints c.args.t.now c.args.at)
    (g.T.Types.atoms c.args.types.now) (g.T.Types.atoms c.is_of_kind.new.types) (g.T.Types.atoms c.text_unless.new.types) c.in-Ok.ints c.text_unless.result
    (subst (λ m. ComesOver (whether_within g.T.Types.passes (OfKind Integer) m c.args.at) (g.T.Types.atoms c.args.types.now) (Ok c.in-Ok.ints) (g.T.Types.atoms c.is_of_kind.new.types)) c.shapes_in.ensures c.in-Ok.ensures.comes)
    c.text_unless.ensures.comes

pub returns-in-Err-clause-comes : goal.returns-in-Err-clause-comes
returns-in-Err-clause-comes g c =
    over-stops (whether_within g.T.Types.passes (OfKind Integer) (sem_of c.args.t.now) c.args.at) (λ ints. sum_of g.T.Types.passes ints c.args.t.now c.args.at)
    (g.T.Types.atoms c.args.types.now) (g.T.Types.atoms c.is_of_kind.new.types) c.in-Err.stop
    (subst (λ m. ComesOver (whether_within g.T.Types.passes (OfKind Integer) m c.args.at) (g.T.Types.atoms c.args.types.now) (Err c.in-Err.stop) (g.T.Types.atoms c.is_of_kind.new.types)) c.shapes_in.ensures c.in-Err.ensures.comes)
