-- What calls give: values of types of which something holds, new lists, and what the library says.
use Rattle.std.proofs.Common.{◌≡◌, ◌+◌, ◌∙◌, ℕ, suc, List, [], ◌∷◌, Option, Some, None, Result, Ok, Err, OnOk, length, refl, sym, subst, ap}
use Rattle.bal_base.specs.declared.fault.Fault.{Fault}
use Rattle.bal_base.specs.declared.place.Place.{Place}
use Rattle.bal_base.specs.declared.stop.Memory.{Memory as NoMemory}
use Rattle.bal_base.specs.declared.stop.Stop.{Stop}
use Rattle.checks.specs.Checks.{Comes, ◌▷◌}
use Rattle.checks.specs.Questions.{adds}
use Rattle.descriptors.specs.Described.{plain}
use Rattle.needs.specs.Needs.{does}
use Rattle.operations.specs.declared.library.LibraryCall.{LibraryCall}
use Rattle.operations.specs.declared.library.LibraryCall.TheVariants.{CloneReadOnly, Println}
use Rattle.operations.specs.Kinds.{IsReadonly}
use Rattle.type_model.specs.declared.answers.TypeLimit.{TypeLimit}
use Rattle.type_model.specs.declared.atoms.AtomDef.{AtomDef}
use Rattle.type_model.specs.declared.atoms.AtomDef.TheVariants.{List as ListAtom}
use Rattle.type_model.specs.declared.basic.SemType.{SemType, Atom}
use Rattle.type_model.specs.declared.basic.Ty.{Ty}
use Rattle.type_model.specs.Calls.{Asked}
use Rattle.type_model.specs.Defined.{TyBelow}
use Rattle.typed_tree.specs.declared.form.Callee.TheVariants as callee
use Rattle.typed_tree.specs.declared.form.StrictForm.{StrictForm}
use Rattle.typed_tree.specs.declared.form.StrictForm.TheVariants as form
use Rattle.typed_tree.specs.SharedTypes.{Shared, sem_of}
use Rattle.check_calls.specs.Results.{made_by, result_of}
use Rattle.check_calls.specs.declared.results.LibraryResult.{LibraryResult}
use Rattle.check_calls.proofs.GivenResults.{as-made}
use Rattle.check_words.specs.Calls.{IsFutureAtom, IsType, applies_to, clones_readonly, lists_by, makes_call_of, makes_library, receiver_type, receivers, starts_of}
use Rattle.check_words.specs.Library.{row_of}
use Rattle.check_words.specs.State.{OfLibrary, OfValue, State}
use Rattle.check_words.specs.Words.{Atoms, PartOf, Step, last_parts, makes_strict, makes_typed}
use Rattle.check_words.proofs.Coming.{given, next}
use Rattle.check_words.proofs.Regrouping.{regroup-all}
use Rattle.made_atoms.proofs.Groups.{adds-then}
use Rattle.needs_of_made_calls.specs.Applied.{applies_last}
use Rattle.needs_of_made_calls.specs.Making.{IsFutureDef, lists_so, makes_so, receivers_of, starts_given}
use Rattle.needs_of_made_calls.proofs.Answering.{asked-as, front-as}

-- ---- a type of which this holds

module _ (count : ℕ) (form : StrictForm) (at : Place) (P : Atoms → Ty → Type 0) (ty : Ty) (s new : State) (p : P s.atoms ty) where
  pub so-then : Comes (makes_so count form ty at) s (Ok tt) new → Comes (makes_strict count form P at) s (Ok tt) new
  unfolding Comes does
  so-then (parts, last, e, (t, is, strict), same) = (parts, last, e, (t, subst (P s.atoms) (sym is) p, strict), same)

  pub so-then-on : (m : Result (Unit {0}) NoMemory) → OnOk m (Comes (makes_so count form ty at) s (Ok tt) new) → OnOk m (Comes (makes_strict count form P at) s (Ok tt) new)
  so-then-on (Ok a) h = so-then h
  so-then-on (Err e) h = tt

-- what is made immutable
pub frozen-given : (count : ℕ) (receiver t : Shared) (at : Place) (s new : State) (m : Result (Unit {0}) NoMemory) → PartOf (sem_of receiver) IsReadonly s.atoms t.value
    → TyBelow (length s.atoms) t.value → OnOk m (Comes (makes_typed count (form.Library CloneReadOnly None (Some t)) t at) s (Ok tt) new) → OnOk m (Comes (clones_readonly count receiver at) s (Ok tt) new)
frozen-given count receiver t at s new (Ok u) p below h =
    next _ (λ (v : Shared). makes_typed count (form.Library CloneReadOnly None (Some v)) v at) s new (Ok tt) t s (given _ s t (p, below)) h
frozen-given count receiver t at s new (Err e) p below h = tt

-- ---- new lists

-- the atom of lists of members of which this holds
abbrev pub AreLists : (Atoms → Ty → Type 0) → Atoms → Atoms → Type 0
AreLists P env defs = (t : Ty) × P env t × (defs ≡ ListAtom [] (Some t) ∷ [])

module _ (ty : Ty) (at : Place) where
  pub list-added : (def : AtomDef) (old new : Atoms) (r : Result ℕ (Stop Fault)) → def ≡ ListAtom [] (Some ty) → Comes (adds (λ env defs. defs ≡ def ∷ []) (Some at)) old r new
      → Comes (adds (AreLists (λ env t. t ≡ ty)) (Some at)) old r new
  list-added def old new r is h =
      adds-then (λ env defs. defs ≡ def ∷ []) (AreLists (λ env t. t ≡ ty)) (Some at) old new r (λ defs same. (ty, refl, subst (λ d. defs ≡ d ∷ []) is same)) h

  pub lists-then : (count : ℕ) (call : LibraryCall) (P : Atoms → Ty → Type 0) (s new : State) (r : Result (Unit {0}) (Stop Fault)) → P s.atoms ty
      → Comes (lists_so count call ty at) s r new → Comes (lists_by count call P at) s r new
  lists-then count call P s new r p h =
      front-as _ _ (λ atom. makes_strict count (form.Library call (Some atom) None) (λ env t. t ≡ plain (Atom atom)) at) s new r
      (λ x mid. asked-as (adds (AreLists (λ env t. t ≡ ty)) (Some at)) (adds (AreLists P) (Some at)) s x mid
      (adds-then (AreLists (λ env t. t ≡ ty)) (AreLists P) (Some at) s.atoms mid.atoms x (λ defs g. (g.0, subst (P s.atoms) (sym g.1) p, g.2)))) h

-- ---- what the library says

own-call : (call : LibraryCall) → (row_of call).call ≡ call
own-call Println = refl
own-call call = refl

module _ (passes : List AtomDef → Asked → TypeLimit → Type 0) where
  pub from-receiver : (t : Shared) (n : Shared → Step) (s new : State) (r : Result (Unit {0}) (Stop Fault)) → Comes (n t) s r new
      → Comes (receiver_type passes (Some t) ▷ n) s r new
  from-receiver t n s new r h = next (receiver_type passes (Some t)) n s new r t s (given _ s t refl) h

  same-receivers : (receiver : Option Shared) → receivers_of receiver ≡ receivers passes receiver
  same-receivers None = refl
  same-receivers (Some t) = refl

  module _ (call : LibraryCall) (receiver : Option Shared) (at : Place) (s new : State) (r : Result (Unit {0}) (Stop Fault)) where
    -- as its result was looked up
    pub told-by : (result : LibraryResult) (count : ℕ) → result_of call ≡ result → Comes (made_by passes result call receiver count at) s r new
        → Comes (made_by passes (result_of call) call receiver count at) s r new
    told-by result count is h = subst (λ x. Comes (made_by passes x call receiver count at) s r new) (sym is) h

    pub row-made : (args count : ℕ) → count ≡ receivers_of receiver + args → Comes (made_by passes (result_of call) call receiver count at) s r new
        → Comes (makes_call_of passes (OfLibrary (row_of call) receiver) args at) s r new
    row-made args count is h =
        subst (λ x. Comes (makes_library passes x receiver (receivers passes receiver + args) at) s r new) (sym (own-call call))
        (subst (λ n. Comes (makes_library passes call receiver n at) s r new) (is ∙ ap (λ n. n + args) (same-receivers receiver)) (as-made passes call receiver count at s new r h))

  -- ---- function values

  abbrev makes_value : ℕ → Place → Step
  makes_value count at = last_parts count ▷ λ parts. applies_to passes parts at ▷ λ m. makes_strict count (form.Call callee.Value) (IsType passes m) at

  abbrev starts_value : ℕ → Place → Place → Step
  starts_value count here at = last_parts count ▷ λ parts. applies_to passes parts here ▷ λ m. starts_given passes count m at

  module _ (args count : ℕ) (is : count ≡ suc args) (at : Place) (s new : State) (r : Result (Unit {0}) (Stop Fault)) where
    pub value-made : Comes (applies_last passes count at ▷ λ m. makes_strict count (form.Call callee.Value) (IsType passes m) at) s r new
        → Comes (makes_call_of passes OfValue args at) s r new
    value-made h =
        subst (λ n. Comes (makes_value n at) s r new) is
        (regroup-all (last_parts count) (λ parts. applies_to passes parts at) (λ m. makes_strict count (form.Call callee.Value) (IsType passes m) at) s new r h)

    pub value-started : (here : Place) → Comes (applies_last passes count here ▷ λ m. starts_given passes count m at) s r new → Comes (starts_of passes OfValue args here at) s r new
    value-started here h =
        subst (λ n. Comes (starts_value n here at) s r new) is
        (regroup-all (last_parts count) (λ parts. applies_to passes parts here) (λ m. starts_given passes count m at) s new r h)

  pub futures-added : (t : SemType) (def : AtomDef) (at : Place) (old new : Atoms) (r : Result ℕ (Stop Fault)) → IsFutureDef t def
      → Comes (adds (λ env defs. defs ≡ def ∷ []) (Some at)) old r new → Comes (adds (λ env. IsFutureAtom passes t) (Some at)) old r new
  futures-added t def at old new r f h =
      adds-then (λ env defs. defs ≡ def ∷ []) (λ env. IsFutureAtom passes t) (Some at) old new r (λ defs same. (f.0, f.1, same ∙ ap (λ d. d ∷ []) f.2)) h
