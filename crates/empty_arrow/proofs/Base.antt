-- The diagrams with which pairs begin, and what is sought for an arrow.
use Rattle.std.proofs.Common.{◌≡◌, ℕ, List, [], ◌∷◌, sym, subst}
use Rattle.type_model.specs.declared.basic.SemType.{SemType}
use Rattle.type_model.specs.declared.atoms.AtomDef.{AtomDef}
use Rattle.type_diagrams.specs.Conditions.{Condition, AreOne, everything, and_of, without, condition_of, asks}
use Rattle.type_diagrams.specs.Members.{arguments_of, outcome_of}
use Rattle.type_diagrams.specs.Questions.{lists, readonly}
use Rattle.type_diagrams.specs.Tables.{Table, condition}
use Rattle.type_diagrams.specs.Whole.{Keeps, Gives}
use Rattle.type_diagrams.proofs.Meeting.{Meets-same}
use Rattle.type_diagrams.proofs.Shapes.{one-further, gives-keeps}
use Rattle.empty_arrow.specs.Graphs.{IsBase, arguments_sought, results_sought}
use Rattle.empty_arrow.specs.Pairs.{AreArguments}
use Rattle.type_diagrams.proofs.Asking.{asks_nothing, asks_one_more, asks_one_less, asks_more_first}
use Rattle.type_diagrams.proofs.AskedDiagrams.{gives_as}

module _ (env : List AtomDef) where
  pub base-given : (first second third : Table) (r l a : ℕ) → Keeps first third → Gives first everything r → Gives second (and_of (condition first r) (lists env)) l → Gives third (without (condition second l) (readonly env)) a → IsBase env third a r
  base-given first second third r l a keeps all is_list plain =
      let nothing = one-further (condition first r) everything (asks [] []) all.condition asks_nothing in
      let of_lists = gives_as second _ _ l (asks_one_more (condition first r) [] (lists env) nothing) is_list in record {
        arguments_give = gives_as third _ _ a (asks_one_less (condition second l) (lists env ∷ []) [] (readonly env) of_lists.condition) plain;
        results_give = gives-keeps first third everything r keeps all;
      }

  pub base-keeps : (old new : Table) (a r : ℕ) → Keeps old new → IsBase env old a r → IsBase env new a r
  base-keeps old new a r keeps base = record {
    arguments_give = gives-keeps old new _ a keeps base.arguments_give;
    results_give = gives-keeps old new everything r keeps base.results_give;
  }

  -- the diagrams of what is sought for an arrow
  module _ (defs : List AtomDef) (same : defs ≡ env) (old mid new : Table) (arguments results : ℕ) (base : IsBase env old arguments results) (a : ℕ) where
    pub arguments-given : (t : SemType) (n : ℕ) → arguments_of defs a ≡ condition_of defs t → Keeps mid new → Gives mid (and_of (condition old arguments) (condition_of env t)) n → AreOne (condition new n) (arguments_sought env a)
    arguments-given t n asked keeps gives =
        let here = sym (subst (λ e. arguments_of e a ≡ condition_of e t) same asked) in
        let taken = subst (λ d. AreOne (condition mid n) (and_of (condition old arguments) d)) here gives.condition in
        subst (λ c. AreOne c (arguments_sought env a)) (sym (keeps.conditions n gives.diagram))
        (one-further (condition mid n) (and_of (condition old arguments) (arguments_of env a)) (arguments_sought env a) taken
        (asks_more_first (condition old arguments) (lists env) (arguments_of env a) (readonly env) base.arguments_give.condition))

    pub results-given : (t : SemType) (n : ℕ) → outcome_of defs a ≡ condition_of defs t → Keeps old mid → Gives new (without (condition mid results) (condition_of env t)) n → AreOne (condition new n) (results_sought env a)
    results-given t n asked keeps gives =
        let here = sym (subst (λ e. outcome_of e a ≡ condition_of e t) same asked) in
        let left = subst (λ d. AreOne (condition new n) (without (condition mid results) d)) here gives.condition in
        let begun = subst (λ c. AreOne (condition new n) (without c (outcome_of env a))) (keeps.conditions results base.results_give.diagram) left in
        let nothing = one-further (condition old results) everything (asks [] []) base.results_give.condition asks_nothing in
        one-further (condition new n) (without (condition old results) (outcome_of env a)) (results_sought env a) begun (asks_one_less (condition old results) [] [] (outcome_of env a) nothing)

  pub same-AreArguments : (c d : Condition) → AreOne c d → AreArguments env d → AreArguments env c
  same-AreArguments c d e are x h = are x (h.0, (Meets-same env c d x h.0 e).0 h.1)
