use Rattle.std.proofs.Common.{Err, Ok, length, subst, sym}
use Rattle.descriptors.proofs.Yielding.{kept-then, plain-below}
use Rattle.type_model.specs.declared.answers.Keys.TheVariants.{AnyIndex}
use Rattle.type_model.specs.declared.basic.Ty.{Ty}
use Rattle.type_model.specs.Defined.{IsDefined, TyBelow}
use Rattle.typed_tree.specs.SharedTypes.{sem_of}
use Rattle.check_kinds.specs.Over.{ComesOver}
use Rattle.check_words.specs.Calls.{IsType, lists_by}
use Rattle.check_words.specs.Members.{member_at}
use Rattle.check_words.specs.Words.{Atoms}
use Rattle.check_work.specs.Views.{state_of}
use Rattle.needs_of_made_calls.proofs.Answering.{kept-same, not-made, stands-over, then-on}
use Rattle.needs_of_made_calls.proofs.Giving.{lists-then}
use Rattle.needs_of_made_calls.proofs.library.give_items.Goals as goal

pub member_at-requires : goal.member_at-requires
member_at-requires g c = subst (λ (t : Ty). IsDefined (g.T.Types.atoms c.args.types.now) t.sem) (sym c.deref.ensures) c.requires.receiver.0

pub give_list-requires-clause-stands : goal.give_list-requires-clause-stands
give_list-requires-clause-stands g c = stands-over (state_of (g.T.Types.atoms c.args.types.now) c.args.work.now) _ c.member_at.ensures.atoms c.requires.stands

pub give_list-requires-clause-below : goal.give_list-requires-clause-below
give_list-requires-clause-below g c =
    let old = g.T.Types.atoms c.args.types.now in
    subst (λ (e : Atoms). TyBelow (length e) c.plain.result) (sym c.member_at.ensures.atoms)
    (subst (TyBelow (length old)) (sym c.plain.ensures) (plain-below (length old) c.in-Ok.member c.in-Ok.ensures.defined))

pub returns-in-Ok-clause-kept : goal.returns-in-Ok-clause-kept
returns-in-Ok-clause-kept g c = kept-then _ _ _ (kept-same _ _ c.member_at.ensures.atoms) c.give_list.ensures.kept

pub returns-in-Ok-clause-comes : goal.returns-in-Ok-clause-comes
returns-in-Ok-clause-comes g c =
    let old = g.T.Types.atoms c.args.types.now in
    let env = g.T.Types.atoms c.member_at.new.types in
    then-on (member_at g.T.Types.passes (sem_of c.args.receiver.now) AnyIndex c.args.what.at)
    (λ m. lists_by c.args.what.count c.args.what.call (IsType g.T.Types.passes m) c.args.what.at) (state_of old c.args.work.now) env c.in-Ok.member c.give_list.result (state_of (g.T.Types.atoms c.give_list.new.types) c.give_list.new.work)
    (subst (λ (t : Ty). ComesOver (member_at g.T.Types.passes t.sem AnyIndex c.args.what.at) old (Ok c.in-Ok.member) env) c.deref.ensures c.in-Ok.ensures.comes)
    (lists-then c.plain.result c.args.what.at c.args.what.count c.args.what.call (IsType g.T.Types.passes c.in-Ok.member) (state_of env c.args.work.now) (state_of (g.T.Types.atoms c.give_list.new.types) c.give_list.new.work) c.give_list.result c.plain.ensures
    c.give_list.ensures.comes)

pub returns-clause-kept : goal.returns-clause-kept
returns-clause-kept g c = kept-same _ _ c.member_at.ensures.atoms

pub returns-clause-comes : goal.returns-clause-comes
returns-clause-comes g c =
    let old = g.T.Types.atoms c.args.types.now in
    let env = g.T.Types.atoms c.member_at.new.types in
    not-made (member_at g.T.Types.passes (sem_of c.args.receiver.now) AnyIndex c.args.what.at)
    (λ m. lists_by c.args.what.count c.args.what.call (IsType g.T.Types.passes m) c.args.what.at) (state_of old c.args.work.now) env c.in-Err.stop
    (subst (λ (t : Ty). ComesOver (member_at g.T.Types.passes t.sem AnyIndex c.args.what.at) old (Err c.in-Err.stop) env) c.deref.ensures c.in-Err.ensures.comes)
