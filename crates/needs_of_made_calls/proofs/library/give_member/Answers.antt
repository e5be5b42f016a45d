use Rattle.std.proofs.Common.{Err, None, Ok, length, subst, sym}
use Rattle.descriptors.proofs.Yielding.{plain-below}
use Rattle.type_model.specs.declared.basic.Ty.{Ty}
use Rattle.type_model.specs.Defined.{IsDefined, TyBelow}
use Rattle.typed_tree.specs.declared.form.StrictForm.TheVariants as form
use Rattle.typed_tree.specs.SharedTypes.{sem_of}
use Rattle.check_kinds.specs.Over.{ComesOver}
use Rattle.check_words.specs.Calls.{IsType, gives_by}
use Rattle.check_words.specs.Members.{member_at}
use Rattle.check_words.specs.Words.{Atoms}
use Rattle.check_work.specs.Views.{state_of}
use Rattle.needs_of_made_calls.proofs.Answering.{lifted-on, not-made, stands-over, then-made}
use Rattle.needs_of_made_calls.proofs.Giving.{so-then-on}
use Rattle.needs_of_made_calls.proofs.library.give_member.Goals as goal

pub member_at-requires : goal.member_at-requires
member_at-requires g c = subst (λ (t : Ty). IsDefined (g.T.Types.atoms c.args.types.now) t.sem) (sym c.deref.ensures) c.requires.receiver.0

pub returns-in-Ok-clause-stands : goal.returns-in-Ok-clause-stands
returns-in-Ok-clause-stands g c =
    let old = g.T.Types.atoms c.args.types.now in
    let new = g.T.Types.atoms c.member_at.new.types in
    lifted-on c.give.result c.lift.result c.lift.ensures _
    (c.give.ensures.stands new
    (subst (λ (e : Atoms). TyBelow (length e) c.plain.result) (sym c.member_at.ensures.atoms)
    (subst (TyBelow (length old)) (sym c.plain.ensures) (plain-below (length old) c.in-Ok.member c.in-Ok.ensures.defined)))
    (stands-over (state_of old c.args.work.now) new c.member_at.ensures.atoms c.requires.stands))

pub returns-in-Ok-clause-comes : goal.returns-in-Ok-clause-comes
returns-in-Ok-clause-comes g c =
    let old = g.T.Types.atoms c.args.types.now in
    let env = g.T.Types.atoms c.member_at.new.types in
    then-made c.give.result c.lift.result c.lift.ensures (member_at g.T.Types.passes (sem_of c.args.receiver.now) c.args.keys c.args.what.at)
    (λ m. gives_by c.args.what.count c.args.what.call (IsType g.T.Types.passes m) c.args.what.at) (state_of old c.args.work.now) env c.in-Ok.member _
    (subst (λ (t : Ty). ComesOver (member_at g.T.Types.passes t.sem c.args.keys c.args.what.at) old (Ok c.in-Ok.member) env) c.deref.ensures c.in-Ok.ensures.comes)
    (so-then-on c.args.what.count (form.Library c.args.what.call None None) c.args.what.at (IsType g.T.Types.passes c.in-Ok.member) c.plain.result (state_of env c.args.work.now) _ c.plain.ensures
    c.give.result (c.give.ensures.comes env))

pub returns-clause-comes : goal.returns-clause-comes
returns-clause-comes g c =
    let old = g.T.Types.atoms c.args.types.now in
    let env = g.T.Types.atoms c.member_at.new.types in
    not-made (member_at g.T.Types.passes (sem_of c.args.receiver.now) c.args.keys c.args.what.at)
    (λ m. gives_by c.args.what.count c.args.what.call (IsType g.T.Types.passes m) c.args.what.at) (state_of old c.args.work.now) env c.in-Err.stop
    (subst (λ (t : Ty). ComesOver (member_at g.T.Types.passes t.sem c.args.keys c.args.what.at) old (Err c.in-Err.stop) env) c.deref.ensures c.in-Err.ensures.comes)
