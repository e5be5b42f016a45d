use Rattle.std.proofs.Common.{◌↔◌, Bool, IfOk, IsTrue, List, inl, inr, refl, subst}
use Rattle.bal_base.specs.Stops.{IfFault}
use Rattle.type_model.specs.declared.atoms.AtomDef.{AtomDef}
use Rattle.type_model.specs.Calls.{Without}
use Rattle.type_model.specs.Inclusion.{Sub}
use Rattle.code_verifier.proofs.Leading.{fault-leads, stop-leads}
use Rattle.pair_questions.specs.Pairs.{AsksBoth}
use Rattle.pair_questions.proofs.Singles.{both-decided}
use Rattle.pair_questions.proofs.names.are_same.Goals as goal

pub returns-in-Ok-clause-both : goal.returns-in-Ok-clause-both
returns-in-Ok-clause-both g c =
    let env = g.T.Types.atoms c.args.types.now in
    both-decided c.in-Ok.first (Sub env c.args.s.now c.args.t.now) (Sub env c.args.t.now c.args.s.now) c.in-Ok.ensures.answer c.and_below.result
    (subst (λ (e : List AtomDef). IfOk c.and_below.result (λ (yes : Bool). IsTrue yes ↔ (IsTrue c.in-Ok.first × Sub e c.args.t.now c.args.s.now))) c.is_subtype.ensures.atoms c.and_below.ensures.both)

pub returns-in-Ok-clause-limit : goal.returns-in-Ok-clause-limit
returns-in-Ok-clause-limit g c =
    fault-leads g.T.Types.passes (g.T.Types.atoms c.args.types.now) (AsksBoth c.args.s.now c.args.t.now) (Without c.args.t.now c.args.s.now) (inr refl) c.and_below.result
    (subst (λ (e : List AtomDef). IfFault c.and_below.result (g.T.Types.passes e (Without c.args.t.now c.args.s.now))) c.is_subtype.ensures.atoms c.and_below.ensures.limit)

pub returns-in-Err-clause-limit : goal.returns-in-Err-clause-limit
returns-in-Err-clause-limit g c =
    stop-leads g.T.Types.passes (g.T.Types.atoms c.args.types.now) (AsksBoth c.args.s.now c.args.t.now) (Without c.args.s.now c.args.t.now) (inl refl) Bool Bool c.in-Err.stop c.in-Err.ensures.limit
