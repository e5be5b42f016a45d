-- What may come of code that is lowered from a package is what may come of the package.
use Rattle.std.proofs.Common.{ℕ, List, sym, subst}
use Rattle.std.proofs.lemmas.List.Elements.{All-contains, All-contains_itself}
use Rattle.value_model.specs.declared.filler.Filler.{Filler}
use Rattle.value_model.specs.Exact.{FillsExactly}
use Rattle.value_model.specs.Meaning.{Answers}
use Rattle.typed_tree.specs.declared.package.TypedPackage.{TypedPackage}
use Rattle.op_model.specs.ProgramFacts.{KnowsFillers}
use Rattle.eval_model.specs.Allowed.{KnowsFillersOf}
use Rattle.stack_code.specs.declared.code.Code.{Code}
use Rattle.stack_code.specs.CodeMachine.{code_facts}
use Rattle.lower_model.specs.Whole.{HasInherentOf, SameIsAllowed}
use Rattle.lower_model.proofs.Whole.{code-does-the-same}

module _ (p : TypedPackage) (code : Code) (inherent : HasInherentOf p code) (fillers : ℕ → List Filler) where
  abbrev Fills : ℕ → Type 0
  Fills a = FillsExactly code.atoms a (fillers a)

  code-knows : KnowsFillersOf code.atoms p fillers → KnowsFillers (code_facts fillers code) code.inherent
  code-knows knows k d lt = knows _ ((inherent _).0 (All-contains_itself code.inherent k d lt))

  package-knows : KnowsFillers (code_facts fillers code) code.inherent → KnowsFillersOf code.atoms p fillers
  package-knows knows a is = All-contains Fills code.inherent a knows ((inherent a).1 is)

pub same-is-allowed : (natives : Answers) → SameIsAllowed natives
same-is-allowed natives atoms p code lowered inherent narrows words input order ticks o texts = (
  λ (n, (fillers, knows, allowed)).
      let r = (code-does-the-same natives atoms fillers p code lowered (narrows fillers knows) words input order ticks o texts).0 (n, allowed) in
      (r.0, (fillers, code-knows p code inherent fillers (subst (λ x. KnowsFillersOf x p fillers) lowered.atoms knows), r.1)),
  λ (n, (fillers, known, allowed)).
      let knows = subst (λ x. KnowsFillersOf x p fillers) (sym lowered.atoms) (package-knows p code inherent fillers known) in
      let r = (code-does-the-same natives atoms fillers p code lowered (narrows fillers knows) words input order ticks o texts).1 (n, allowed) in
      (r.0, (fillers, knows, r.1)),
)
