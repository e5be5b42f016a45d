use Rattle.std.proofs.Common.{◌∙◌, Ok, Option, ap, length, subst, sym}
use Rattle.flow_narrowing.specs.Flows.{IfShared}
use Rattle.type_model.specs.declared.basic.Ty.{Ty}
use Rattle.type_model.specs.Defined.{IsDefined, TyBelow}
use Rattle.typed_tree.specs.SharedTypes.{Shared}
use Rattle.check_kinds.specs.Over.{ComesOver}
use Rattle.check_words.specs.Words.{below_if}
use Rattle.needs_of_structures.proofs.Asking.{below-none, below-some}
use Rattle.needs_of_structures.proofs.members.below_want.Goals as goal

pub require_below-requires-clause-left : goal.require_below-requires-clause-left
require_below-requires-clause-left g c =
    subst (λ (v : Ty). IsDefined (g.T.Types.atoms c.args.types.now) v.sem) (sym (c.deref.ensures ∙ ap (λ (t : Shared). t.value) c.ty.ensures)) c.requires.part.0

pub require_below-requires-clause-right : goal.require_below-requires-clause-right
require_below-requires-clause-right g c =
    subst (λ (v : Ty). IsDefined (g.T.Types.atoms c.args.types.now) v.sem) (sym c.deref-in-Some.ensures)
    (subst (IfShared (TyBelow (length (g.T.Types.atoms c.args.types.now)))) c.in-Some.is c.requires.want).0

pub returns-in-Some-clause-comes : goal.returns-in-Some-clause-comes
returns-in-Some-clause-comes g c =
    subst (λ (w : Option Shared). ComesOver (below_if g.T.Types.passes w c.args.e.now c.args.at) (g.T.Types.atoms c.args.types.now) c.require_below.result (g.T.Types.atoms c.require_below.new.types)) (sym c.in-Some.is)
    (below-some g.T.Types.passes c.args.e.now c.args.at _ (c.deref.ensures ∙ ap (λ (t : Shared). t.value) c.ty.ensures) c.in-Some.t _ _ _ c.require_below.result c.deref-in-Some.ensures
    c.require_below.ensures.comes)

pub returns-in-None-clause-comes : goal.returns-in-None-clause-comes
returns-in-None-clause-comes g c =
    subst (λ (w : Option Shared). ComesOver (below_if g.T.Types.passes w c.args.e.now c.args.at) (g.T.Types.atoms c.args.types.now) (Ok tt) (g.T.Types.atoms c.args.types.now)) (sym c.in-None.is)
    (below-none g.T.Types.passes c.args.e.now c.args.at _)
