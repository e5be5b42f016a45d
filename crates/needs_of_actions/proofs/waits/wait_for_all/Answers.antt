use Rattle.std.proofs.Common.{◌≡◌, ◌∙◌, All, Err, Ok, OnOk, length, map, subst, sym}
use Rattle.std.proofs.lemmas.List.{length-map}
use Rattle.flow_narrowing.specs.Flows.{IfShared}
use Rattle.type_model.specs.Defined.{TyBelow}
use Rattle.check_words.specs.Seen.{worker_named}
use Rattle.check_words.specs.Stands.{Stands}
use Rattle.check_words.proofs.Standing.{last-have}
use Rattle.check_work.specs.Views.{constructor_of, state_of}
use Rattle.check_work.proofs.Noting.{made-on, mapped-last}
use Rattle.needs_of_actions.specs.Awaited.{AddsAll}
use Rattle.needs_of_actions.proofs.Awaited.{named-members, all-made, all-refused, all-stand}
use Rattle.needs_of_actions.proofs.waits.wait_for_all.Goals as goal

pub record_atom-requires : goal.record_atom-requires
record_atom-requires g c = let n = length (g.T.Types.atoms c.args.types.now) in
    subst (All (IfShared (TyBelow n))) (sym c.as_slice-2.ensures.value)
    (last-have (IfShared (TyBelow n)) (length c.args.members.now) c.args.work.now.wants.items c.in_ok-known.known.items c.in_ok-known.ensures.wants c.requires.wants)

pub returns-in-Ok-clause-stands : goal.returns-in-Ok-clause-stands
returns-in-Ok-clause-stands g c =
    let s = state_of (g.T.Types.atoms c.args.types.now) c.args.work.now in
    let env = g.T.Types.atoms c.record_atom.new.types in
    let names = map (λ m. m.name) c.args.members.now in
    subst (λ r. OnOk r (Stands (state_of env c.put_wait.new.work))) (sym c.lift.ensures)
    (made-on _ c.put_wait.result (c.put_wait.ensures.stands env c.in-Ok.ensures.there (all-stand s _ (constructor_of c.in_ok-open.open) (mapped-last constructor_of _ _ _ c.in_ok-open.ensures) names (length c.args.members.now) (sym (length-map c.args.members.now (λ m. m.name)))
    c.in_ok-known.known.items _ c.in_ok-known.ensures.wants c.in_ok-known.ensures.kept c.args.at env c.requires c.record_atom.ensures.kept)))

pub returns-in-Ok-clause-comes : goal.returns-in-Ok-clause-comes
returns-in-Ok-clause-comes g c =
    let s = state_of (g.T.Types.atoms c.args.types.now) c.args.work.now in
    let env = g.T.Types.atoms c.record_atom.new.types in
    let names = map (λ m. m.name) c.args.members.now in
    let new = state_of env c.put_wait.new.work in
    let numbers = c.in_ok-numbers.numbers.items in
    all-made s _ (constructor_of c.in_ok-open.open) (mapped-last constructor_of _ _ _ c.in_ok-open.ensures) names (length c.args.members.now) (sym (length-map c.args.members.now (λ m. m.name)))
    c.in_ok-known.known.items _ c.in_ok-known.ensures.wants c.in_ok-known.ensures.kept c.args.at env c.in-Ok.atom numbers c.put_wait.result c.lift.result new c.lift.ensures
    (subst (λ ws. numbers ≡ map (λ m. worker_named ws m.name) c.args.members.now) c.as_slice.ensures.value c.in_ok-numbers.ensures ∙ named-members (worker_named c.args.work.now.site.workers.items) c.args.members.now)
    (subst (λ ws. AddsAll c.in_ok-open.open.keys.items ws c.args.at (g.T.Types.atoms c.args.types.now) (Ok c.in-Ok.atom) env) c.as_slice-2.ensures.value c.in-Ok.ensures.comes)
    (c.put_wait.ensures.comes env)

pub returns-clause-comes : goal.returns-clause-comes
returns-clause-comes g c =
    let s = state_of (g.T.Types.atoms c.args.types.now) c.args.work.now in
    let env = g.T.Types.atoms c.record_atom.new.types in
    let names = map (λ m. m.name) c.args.members.now in
    all-refused s _ (constructor_of c.in_ok-open.open) (mapped-last constructor_of _ _ _ c.in_ok-open.ensures) names (length c.args.members.now) (sym (length-map c.args.members.now (λ m. m.name)))
    c.in_ok-known.known.items _ c.in_ok-known.ensures.wants c.in_ok-known.ensures.kept c.args.at env c.in-Err.stop
    (subst (λ ws. AddsAll c.in_ok-open.open.keys.items ws c.args.at (g.T.Types.atoms c.args.types.now) (Err c.in-Err.stop) env) c.as_slice-2.ensures.value c.in-Err.ensures.comes)
