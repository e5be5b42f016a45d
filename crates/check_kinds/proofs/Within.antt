-- Questions of a type and of one of which something holds.
use Rattle.std.proofs.Common.{Bool, List, Result, Some}
use Rattle.bal_base.specs.declared.fault.Fault.{Fault}
use Rattle.bal_base.specs.declared.place.Place.{Place}
use Rattle.bal_base.specs.declared.stop.Stop.{Stop}
use Rattle.checks.specs.Checks.{Comes}
use Rattle.checks.specs.Questions.{below, has_some, is_below}
use Rattle.type_model.specs.declared.answers.TypeLimit.{TypeLimit}
use Rattle.type_model.specs.declared.atoms.AtomDef.{AtomDef}
use Rattle.type_model.specs.declared.basic.SemType.{SemType}
use Rattle.type_model.specs.declared.basic.Ty.{Ty}
use Rattle.type_model.specs.Calls.{Asked}
use Rattle.check_words.specs.Words.{Atoms, asking, is_within, some_over, whether_some, whether_within}
use Rattle.check_kinds.specs.Over.{ComesOver}
use Rattle.check_kinds.proofs.Over.{over-asks, over-on, over-some}

module _ (passes : List AtomDef → Asked → TypeLimit → Type 0) (P : Atoms → Ty → Type 0) (at : Place) (old new : Atoms) (t : Ty) (is : P old t) where
  pub asked-within : (s : SemType) (r : Result (Unit {0}) (Stop Fault)) → Comes (below passes s t.sem (Some at)) old r new → ComesOver (is_within passes P s at) old r new
  asked-within s r h =
      over-on (some_over P) (λ u. asking (below passes s u.sem (Some at))) old old new t r (over-some P old t is) (over-asks (below passes s t.sem (Some at)) old new r h)

  pub asked-whether : (s : SemType) (r : Result Bool (Stop Fault)) → Comes (is_below passes s t.sem (Some at)) old r new → ComesOver (whether_within passes P s at) old r new
  asked-whether s r h =
      over-on (some_over P) (λ u. asking (is_below passes s u.sem (Some at))) old old new t r (over-some P old t is) (over-asks (is_below passes s t.sem (Some at)) old new r h)

  pub asked-some : (r : Result Bool (Stop Fault)) → Comes (has_some passes t.sem (Some at)) old r new → ComesOver (whether_some passes P at) old r new
  asked-some r h =
      over-on (some_over P) (λ u. asking (has_some passes u.sem (Some at))) old old new t r (over-some P old t is) (over-asks (has_some passes t.sem (Some at)) old new r h)
