use Rattle.std.proofs.Common.{List, None, Ok, Option, false, length, map, refl, subst, sym, true}
use Rattle.checks.specs.Checks.{Comes}
use Rattle.flow_narrowing.specs.Flows.{IfShared}
use Rattle.type_model.specs.Defined.{TyBelow}
use Rattle.typed_tree.specs.SharedTypes.{Shared}
use Rattle.expr_needs.specs.declared.expected.Expected.{Expected}
use Rattle.expr_needs.specs.ExprTable.{read_member, seen_of}
use Rattle.check_kinds.proofs.Over.{over-at}
use Rattle.check_words.specs.Constructors.{MappingFits}
use Rattle.check_words.specs.State.{IsLast}
use Rattle.check_words.proofs.Coming.{given, next}
use Rattle.check_words.proofs.Standing.{last-has}
use Rattle.check_work.specs.Views.{state_of}
use Rattle.needs_of_choices.specs.Choosing.{chosen, chosen_for}
use Rattle.needs_of_choices.proofs.choosing.mapping_chosen.Goals as goal

pub mapping_for-requires : goal.mapping_for-requires
mapping_for-requires g c = last-has (IfShared (TyBelow (length (g.T.Types.atoms c.args.types.now)))) _ _ (subst (λ (ws : List (Option Shared)). IsLast ws c.in-Some.want.now) c.as_slice.ensures.value c.in-Some.ensures) c.requires.wants

pub returns-in-Nothing-clause-comes : goal.returns-in-Nothing-clause-comes
returns-in-Nothing-clause-comes g c = let s = state_of (g.T.Types.atoms c.args.types.now) c.args.work.now in
    subst (λ (e : Expected). Comes (chosen g.T.Types.passes (λ u. u.maps) (MappingFits (map seen_of (map read_member c.args.members.now))) e c.args.at) s (Ok (None, false)) s) (sym c.in-Nothing.is) (given _ s (None, false) refl)

pub returns-in-Immutable-clause-comes : goal.returns-in-Immutable-clause-comes
returns-in-Immutable-clause-comes g c = let s = state_of (g.T.Types.atoms c.args.types.now) c.args.work.now in
    subst (λ (e : Expected). Comes (chosen g.T.Types.passes (λ u. u.maps) (MappingFits (map seen_of (map read_member c.args.members.now))) e c.args.at) s (Ok (None, true)) s) (sym c.in-Immutable.is) (given _ s (None, true) refl)

pub returns-in-Some-clause-comes : goal.returns-in-Some-clause-comes
returns-in-Some-clause-comes g c =
    let s = state_of (g.T.Types.atoms c.args.types.now) c.args.work.now in
    let w = c.in-Some.want.now in
    subst (λ (e : Expected). Comes (chosen g.T.Types.passes (λ u. u.maps) (MappingFits (map seen_of (map read_member c.args.members.now))) e c.args.at) s c.mapping_for.result (state_of (g.T.Types.atoms c.mapping_for.new.types) c.args.work.now)) (sym c.in-Wanted.is)
    (next _ _ _ _ _ w s (given _ s w (subst (λ (ws : List (Option Shared)). IsLast ws w) c.as_slice.ensures.value c.in-Some.ensures))
    (over-at (chosen_for g.T.Types.passes (λ u. u.maps) (MappingFits (map seen_of (map read_member c.args.members.now))) w c.args.at) s c.mapping_for.result _ c.mapping_for.ensures.comes))
