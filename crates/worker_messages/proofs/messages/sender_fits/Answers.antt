use Rattle.std.proofs.Common.{◌≡◌, ◌∙◌, Some, None, ap, length, refl, subst, sym}
use Rattle.std.specs.Prelude.{slice_get}
use Rattle.std.proofs.lemmas.Option.{slice_get_past, slice_get_read}
use Rattle.type_model.specs.Defined.{IsDefined}
use Rattle.worker_members.specs.Held.{members_held, numbered_held}
use Rattle.worker_messages.proofs.Fitted.{result-defined, result-past, result-there, sender-asked, sender-free}
use Rattle.worker_messages.proofs.messages.sender_fits.Goals as goal

pub returns-then-not-early-clause-comes : goal.returns-then-not-early-clause-comes
returns-then-not-early-clause-comes g c =
    sender-free g.T.Types.passes (members_held c.args.members.now) (numbered_held c.args.event) c.args.sender c.args.early (g.T.Types.atoms c.args.types.now) c.if-not-early.true

pub failure_fits-requires-clause-left : goal.failure_fits-requires-clause-left
failure_fits-requires-clause-left g c =
    let workers = c.args.members.now.workers.items in
    let list = c.deref.result.now in
    let found : slice_get list c.args.sender ≡ Some c.in-Some.member.now = slice_get_read list (length list) c.args.sender c.in-Some.member.now refl c.in-Some.ensures.lookup.3.0 c.in-Some.ensures.lookup.1 in
    let there : slice_get workers c.args.sender ≡ Some c.in-Some.member.now = ap (λ ws. slice_get ws c.args.sender) (sym c.deref.ensures.value) ∙ found in
    subst (IsDefined (g.T.Types.atoms c.args.types.now)) (sym (c.result_sem.ensures ∙ result-there g.T.Types.passes workers c.args.sender c.in-Some.member.now there))
    (result-defined (g.T.Types.atoms c.args.types.now) g.T.Types.passes (members_held c.args.members.now) c.args.sender c.requires.members)

pub returns-in-Some-clause-comes : goal.returns-in-Some-clause-comes
returns-in-Some-clause-comes g c =
    let workers = c.args.members.now.workers.items in
    let list = c.deref.result.now in
    let found : slice_get list c.args.sender ≡ Some c.in-Some.member.now = slice_get_read list (length list) c.args.sender c.in-Some.member.now refl c.in-Some.ensures.lookup.3.0 c.in-Some.ensures.lookup.1 in
    let there : slice_get workers c.args.sender ≡ Some c.in-Some.member.now = ap (λ ws. slice_get ws c.args.sender) (sym c.deref.ensures.value) ∙ found in
    sender-asked g.T.Types.passes (members_held c.args.members.now) (numbered_held c.args.event) c.args.sender c.args.early _ _ c.failure_fits.result c.if-not-early.false c.result_sem.result.now
    (c.result_sem.ensures ∙ result-there g.T.Types.passes workers c.args.sender c.in-Some.member.now there) c.failure_fits.ensures.comes

pub returns-in-None-clause-comes : goal.returns-in-None-clause-comes
returns-in-None-clause-comes g c =
    let workers = c.args.members.now.workers.items in
    let past : slice_get workers c.args.sender ≡ None = ap (λ ws. slice_get ws c.args.sender) (sym c.deref.ensures.value) ∙ slice_get_past c.deref.result.now c.args.sender c.in-None.ensures.lookup.3 in
    sender-asked g.T.Types.passes (members_held c.args.members.now) (numbered_held c.args.event) c.args.sender c.args.early _ _ c.failure_fits-in-None.result c.if-not-early.false _
    (sym (result-past g.T.Types.passes workers c.args.sender past)) c.failure_fits-in-None.ensures.comes
