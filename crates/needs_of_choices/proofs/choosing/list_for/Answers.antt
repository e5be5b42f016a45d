use Rattle.std.proofs.Common.{◌≡◌, ◌++◌, Option, None, Ok, false, length, map, refl, subst, sym}
use Rattle.flow_narrowing.specs.Flows.{IfShared}
use Rattle.type_model.specs.declared.basic.Ty.{Ty}
use Rattle.type_model.specs.Defined.{TyBelow}
use Rattle.typed_tree.specs.SharedTypes.{Shared}
use Rattle.expr_needs.specs.ExprTable.{read_expr}
use Rattle.check_kinds.specs.Over.{ComesOver}
use Rattle.check_kinds.proofs.Over.{over-some}
use Rattle.check_words.specs.Constructors.{ListFits}
use Rattle.needs_of_choices.specs.Choosing.{chosen_by, chosen_for}
use Rattle.needs_of_choices.proofs.choosing.list_for.Goals as goal

pub list_of-requires : goal.list_of-requires
list_of-requires g c =
    let n = length (g.T.Types.atoms c.args.types.now) in
    subst (TyBelow n) (sym c.deref.ensures) (subst (IfShared (TyBelow n)) c.in-Some.is c.requires)

pub returns-in-Some-clause-comes : goal.returns-in-Some-clause-comes
returns-in-Some-clause-comes g c =
    subst (λ (w : Option Shared). ComesOver (chosen_for g.T.Types.passes (λ u. u.lists) (ListFits (map (λ i. i.literal) (map read_expr c.args.items.now))) w c.args.at) (g.T.Types.atoms c.args.types.now) c.list_of.result (g.T.Types.atoms c.list_of.new.types)) (sym c.in-Some.is)
    (subst (λ (v : Ty). ComesOver (chosen_by g.T.Types.passes (λ u. u.lists) (ListFits (map (λ i. i.literal) (map read_expr c.args.items.now))) (v.lists ++ v.maps) v c.args.at) (g.T.Types.atoms c.args.types.now) c.list_of.result (g.T.Types.atoms c.list_of.new.types)) c.deref.ensures
    c.list_of.ensures.comes)

pub returns-in-None-clause-comes : goal.returns-in-None-clause-comes
returns-in-None-clause-comes g c =
    subst (λ (w : Option Shared). ComesOver (chosen_for g.T.Types.passes (λ u. u.lists) (ListFits (map (λ i. i.literal) (map read_expr c.args.items.now))) w c.args.at) (g.T.Types.atoms c.args.types.now) (Ok (None, false)) (g.T.Types.atoms c.args.types.now)) (sym c.in-None.is)
    (over-some (λ o p. p ≡ (None, false)) _ (None, false) refl)
