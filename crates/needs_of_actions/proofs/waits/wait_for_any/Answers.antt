use Rattle.std.proofs.Common.{◌≡◌, ◌∙◌, All, ap, length, map, refl, subst, sym}
use Rattle.flow_narrowing.specs.Flows.{IfShared}
use Rattle.type_model.specs.Defined.{TyBelow}
use Rattle.check_words.specs.Seen.{worker_named}
use Rattle.check_words.proofs.Standing.{last-have}
use Rattle.check_work.specs.Views.{state_of}
use Rattle.needs_of_actions.specs.Awaited.{IsOfSome, futures_in}
use Rattle.needs_of_actions.proofs.Awaited.{wait-stands, waits-come}
use Rattle.needs_of_actions.proofs.waits.wait_for_any.Goals as goal

pub of_any-requires : goal.of_any-requires
of_any-requires g c = let n = length (g.T.Types.atoms c.args.types.now) in
    subst (All (IfShared (TyBelow n))) (sym c.as_slice-3.ensures.value)
    (last-have (IfShared (TyBelow n)) (length c.args.names.now) c.args.work.now.wants.items c.in_ok-known.known.items c.in_ok-known.ensures.wants c.requires.wants)

pub returns-clause-stands : goal.returns-clause-stands
returns-clause-stands g c =
    let s = state_of (g.T.Types.atoms c.args.types.now) c.args.work.now in
    let names = c.args.names.now in
    wait-stands s (length c.args.names.now) c.in_ok-known.known.items _ c.in_ok-known.ensures.wants c.in_ok-known.ensures.kept names c.args.at refl c.of.result
    (c.of.ensures ∙ subst (λ ws. c.in_ok-numbers.numbers.items ≡ map (worker_named ws) names) c.as_slice.ensures.value c.in_ok-numbers.ensures) c.futures-count.result
    (c.futures-count.ensures ∙ ap futures_in (c.as_slice-2.ensures.value ∙ sym c.of.ensures)) c.in_ok-ty.ty _ c.in_ok-gather.ensures c.requires c.in_ok-ty.ensures.below

pub returns-clause-comes : goal.returns-clause-comes
returns-clause-comes g c =
    let env = g.T.Types.atoms c.args.types.now in
    let s = state_of env c.args.work.now in
    let names = c.args.names.now in
    waits-come s (length c.args.names.now) c.in_ok-known.known.items _ c.in_ok-known.ensures.wants c.in_ok-known.ensures.kept names c.args.at refl c.of.result
    (c.of.ensures ∙ subst (λ ws. c.in_ok-numbers.numbers.items ≡ map (worker_named ws) names) c.as_slice.ensures.value c.in_ok-numbers.ensures) c.futures-count.result
    (c.futures-count.ensures ∙ ap futures_in (c.as_slice-2.ensures.value ∙ sym c.of.ensures)) c.in_ok-ty.ty _ c.in_ok-gather.ensures
    (subst (λ ws. IsOfSome ws env c.in_ok-ty.ty) c.as_slice-3.ensures.value c.in_ok-ty.ensures.is)
