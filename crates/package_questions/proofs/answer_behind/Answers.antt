use Rattle.std.proofs.Common.{◌≡◌, Ok, Err, rules, subst}
use Rattle.std.specs.Prelude.{IfOk}
use Rattle.bal_base.specs.declared.fault.Refusal.{Refusal}
use Rattle.type_questions.specs.Refusals.{refusal_of}
use Rattle.bal_base.specs.declared.stop.Stop.TheVariants.{Fault as OwnFault}
use Rattle.package_questions.proofs.PackageAsking.{answer-told, fault-refused}
use Rattle.package_questions.proofs.answer_behind.Goals as goal

pub returns-in-Ok : goal.returns-in-Ok
returns-in-Ok g c =
    let came : c.asked.result ≡ Ok c.in-Ok.answer = search rules in
    answer-told g.T.Types.passes c.args.«package».now c.args.s.now c.args.t.now _ _ c.asked.result c.asked.ensures c.in-Ok.answer c.answer_text.result c.told.result came c.answer_text.ensures c.told.ensures

pub returns-in-Err-Fault : goal.returns-in-Err-Fault
returns-in-Err-Fault g c =
    let came : c.asked.result ≡ Err (OwnFault c.in-Err-Fault.fault) = search rules in
    fault-refused g.T.Types.passes c.args.«package».now c.args.s.now c.args.t.now _ _ c.asked.result c.asked.ensures c.in-Err-Fault.fault c.refusal_of.result c.refused.result came
    (subst (λ first. IfOk c.refusal_of.result (λ (r : Refusal). r ≡ refusal_of c.args.«package».now.modules first c.args.s.now c.args.t.now c.in-Err-Fault.fault)) c.requires.first
    (subst (λ ms. IfOk c.refusal_of.result (λ (r : Refusal). r ≡ refusal_of ms c.args.first c.args.s.now c.args.t.now c.in-Err-Fault.fault)) c.as_slice-modules.ensures c.refusal_of.ensures))
    c.refused.ensures
