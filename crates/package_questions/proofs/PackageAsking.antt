-- How the parts of a question in a package go on to the whole.
use Rattle.std.proofs.Common.{◌≡◌, ℕ, List, Result, Ok, Err, sym, subst}
use Rattle.std.specs.Prelude.{IfOk, String}
use Rattle.std.specs.Global.{Global}
use Rattle.bal_base.specs.declared.fault.Fault.{Fault}
use Rattle.bal_base.specs.declared.fault.Refusal.{Refusal}
use Rattle.bal_base.specs.declared.stop.Memory.{Memory as NoMemory}
use Rattle.bal_base.specs.declared.stop.Stop.{Stop}
use Rattle.bal_base.specs.declared.stop.Stop.TheVariants.{Fault as OwnFault}
use Rattle.bal_tree.specs.declared.package.Package.{Package}
use Rattle.checks.specs.Checks.{Comes}
use Rattle.checks.proofs.Steps.{goes_on, stops}
use Rattle.descriptors.specs.Described.{Atoms}
use Rattle.descriptors.specs.declared.names.Names.{Names}
use Rattle.package_questions.specs.PackageAnswers.{AnswersFor, IsRefusedAs, IsToldAs, asked_of, file_count}
use Rattle.text_forms.specs.Forms.{written}
use Rattle.type_builder.specs.MainInPlace.{built}
use Rattle.type_model.specs.declared.answers.Answer.{Answer}
use Rattle.type_model.specs.declared.answers.TypeLimit.{TypeLimit}
use Rattle.type_model.specs.declared.atoms.AtomDef.{AtomDef}
use Rattle.type_model.specs.Calls.{Asked}
use Rattle.type_questions.specs.Answers.{answer_text}
use Rattle.type_questions.specs.Asked.{asked}
use Rattle.type_questions.specs.Refusals.{refusal_of}

module _ (passes : List AtomDef → Asked → TypeLimit → Type 0) (whole : Package) (s t : List ℕ) (old : Atoms) where
  -- ---- the definitions, and then the words

  module _ (mid : Atoms) (r : Result Names (Stop Fault)) (came : Comes (built passes whole) old r mid) where
    pub names-stop : (stop : Stop Fault) → r ≡ Err stop → Comes (asked_of passes whole s t) old (Err stop) mid
    names-stop stop e =
        stops (built passes whole) (λ names. asked passes names whole.main (file_count whole) s t) old mid stop (subst (λ r. Comes (built passes whole) old r mid) e came)

    pub names-asked : (names : Names) (q : Result Answer (Stop Fault)) (new : Atoms) → r ≡ Ok names → Comes (asked passes names whole.main (file_count whole) s t) mid q new → Comes (asked_of passes whole s t) old q new
    names-asked names q new e h =
        goes_on (built passes whole) (λ names. asked passes names whole.main (file_count whole) s t) old mid new names q (subst (λ r. Comes (built passes whole) old r mid) e came) h

  -- ---- what is told of it

  module _ (new : Atoms) (r : Result Answer (Stop Fault)) (came : Comes (asked_of passes whole s t) old r new) where
    pub answer-told : (answer : Answer) (text : Result (String Global) NoMemory) (q : Result (String Global) (Stop Refusal)) → r ≡ Ok answer → IfOk text (λ x. written x ≡ answer_text answer) → IsToldAs text q → AnswersFor passes old whole s t q
    unfolding Comes
    answer-told answer (Ok x) q e h is =
        subst (AnswersFor passes old whole s t) (sym is) (answer, (new, subst (λ r. Comes (asked_of passes whole s t) old r new) e came), h)
    answer-told answer (Err m) q e h is = subst (AnswersFor passes old whole s t) (sym is) tt

    pub fault-refused : (fault : Fault) (x : Result Refusal NoMemory) (stop : Stop Refusal) → r ≡ Err (OwnFault fault) → IfOk x (λ r. r ≡ refusal_of whole.modules (file_count whole) s t fault) → IsRefusedAs x stop → AnswersFor passes old whole s t (Err stop)
    unfolding Comes
    fault-refused fault (Ok r) stop e h is =
        subst (λ stop. AnswersFor passes old whole s t (Err stop)) (sym is) (fault, new, subst (λ r. Comes (asked_of passes whole s t) old r new) e came, h)
    fault-refused fault (Err m) stop e h is = subst (λ stop. AnswersFor passes old whole s t (Err stop)) (sym is) tt
