-- The atoms of an anonymous function: that what they name is there, and that they are added.
use Rattle.std.proofs.Common.{◌≡◌, ◌+◌, ◌<◌, ◌++◌, ◌∙◌, ℕ, Bool, List, [], ◌∷◌, length, take, All, Option, Some, None, IfSome, IfOk, Result, Ok, Err, arith, ap, refl, subst, sym}
use Rattle.std.specs.List.{AllZip}
use Rattle.std.proofs.lemmas.List.Elements.{All-cons, All-head, All-nil, All-tail, All-take}
use Rattle.bal_base.specs.declared.fault.Fault.{Fault}
use Rattle.bal_base.specs.declared.place.Place.{Place}
use Rattle.bal_base.specs.declared.stop.Stop.{Stop}
use Rattle.checks.specs.Checks.{Comes}
use Rattle.checks.specs.Questions.{adds}
use Rattle.descriptors.specs.Described.{IsCopy}
use Rattle.descriptors.proofs.Yielding.{copy-below}
use Rattle.flow_narrowing.specs.Flows.{IfShared}
use Rattle.made_atoms.proofs.Groups.{adds-then, group-there}
use Rattle.type_model.specs.declared.atoms.AtomDef.{AtomDef}
use Rattle.type_model.specs.declared.atoms.AtomDef.TheVariants.{List as ListAtom, Arrow, Future as FutureAtom}
use Rattle.type_model.specs.declared.basic.SemType.{SemType, Atom}
use Rattle.type_model.specs.declared.basic.Ty.{Ty}
use Rattle.type_model.specs.Defined.{DefBelow, IsDefinedGroup, NamesBelow, TyBelow}
use Rattle.type_model.specs.Places.{HasDistinctFields}
use Rattle.type_model.specs.SameType.{IsSameType}
use Rattle.type_model.proofs.DefinedLaws.{DefBelow-more}
use Rattle.type_model.proofs.SameTypes.{NamesBelow-same}
use Rattle.typed_tree.specs.SharedTypes.{Shared, sem_of}
use Rattle.check_words.specs.Calls.{AreCopiesOf, AreOwnAtoms, IsRestOf, fixed_types}
use Rattle.check_words.specs.Stands.{SharedBelow, UnitBelow}
use Rattle.check_words.specs.State.{UnitAtWork, all_but}
use Rattle.check_words.specs.Words.{Atoms}
use Rattle.check_words.proofs.Standing.{others-have}
use Rattle.needs_of_functions.specs.Anonymous.{AreArgumentsOf, AreAtomsAt}

-- ---- the types of its parameters

abbrev pub IsCopyOf : Shared → Ty → Type 0
IsCopyOf t u = IsCopy t.value u

-- by whether something takes the rest
abbrev fixed_by : UnitAtWork → Option ℕ → List Shared
fixed_by u None = take u.params u.slots
fixed_by u (Some atom) = all_but 1 (take u.params u.slots)

pub with-rest : (u : UnitAtWork) (atom : ℕ) (slots params all : List Shared) → u.rest ≡ Some atom → slots ≡ u.slots → params ≡ take u.params slots → all ≡ all_but 1 params → all ≡ fixed_types u
with-rest u atom slots params all is same first e = e ∙ ap (all_but 1) (first ∙ ap (take u.params) same) ∙ sym (ap (fixed_by u) is)

pub without-rest : (u : UnitAtWork) (slots params : List Shared) → u.rest ≡ None → slots ≡ u.slots → params ≡ take u.params slots → params ≡ fixed_types u
without-rest u slots params is same first = first ∙ ap (take u.params) same ∙ sym (ap (fixed_by u) is)

module _ (n : ℕ) where
  copies-below : (ts : List Shared) (us : List Ty) → AreCopiesOf ts us → All (SharedBelow n) ts → All (TyBelow n) us
  copies-below [] [] s h = All-nil (TyBelow n)
  copies-below [] (u ∷ us) s h = absurd s
  copies-below (t ∷ ts) [] s h = absurd s
  copies-below (t ∷ ts) (u ∷ us) s h =
      All-cons (TyBelow n) u us (copy-below n t.value u s.0 (All-head (SharedBelow n) t ts h)) (copies-below ts us s.1 (All-tail (SharedBelow n) t ts h))

  rest-below : (t : Option Shared) (u : Option Ty) → IsRestOf t u → IfShared (TyBelow n) t → IfSome u (TyBelow n)
  rest-below None None s h = tt
  rest-below (Some t) (Some u) s h = copy-below n t.value u s h
  rest-below None (Some u) s h = absurd s
  rest-below (Some t) None s h = absurd s

  fixed-below : (u : UnitAtWork) → UnitBelow n u → (rest : Option ℕ) → All (SharedBelow n) (fixed_by u rest)
  fixed-below u h None = All-take (SharedBelow n) u.params u.slots h.slots
  fixed-below u h (Some atom) = others-have (SharedBelow n) 1 (take u.params u.slots) (All-take (SharedBelow n) u.params u.slots h.slots)

-- ---- the group

module _ (isolated : Bool) (u : UnitAtWork) (first : ℕ) (defs : List AtomDef) (h : AreAtomsAt isolated u first defs) where
  pub atoms-defined : (env : List AtomDef) → first ≡ length env → UnitBelow (length env) u → IsDefinedGroup env defs
  atoms-defined env e below =
      let n : ℕ = length env in
      subst (IsDefinedGroup env) (sym h.8)
      (All-cons (DefBelow (n + 3)) (ListAtom h.0 h.1) (Arrow (Atom first) h.2 isolated ∷ FutureAtom h.3 ∷ [])
      (DefBelow-more n (n + 3) (omega arith) (ListAtom h.0 h.1)
      (copies-below n (fixed_types u) h.0 h.4 (fixed-below n u below u.rest), rest-below n u.rest_member h.1 h.5 below.rest_member))
      (All-cons (DefBelow (n + 3)) (Arrow (Atom first) h.2 isolated) (FutureAtom h.3 ∷ [])
      (omega (arith, e), more h.2 h.6) (All-cons (DefBelow (n + 3)) (FutureAtom h.3) [] (more h.3 h.7) (All-nil (DefBelow (n + 3))))))
    where
      more : (x : SemType) → IsSameType (sem_of u.result) x → NamesBelow (length env + 3) x
      more x same =
          NamesBelow-same (length env + 3) (sem_of u.result) x same
          (DefBelow-more (length env) (length env + 3) (omega arith) (FutureAtom (sem_of u.result)) below.result.0)

  pub atoms-distinct : All HasDistinctFields defs
  atoms-distinct =
      subst (All HasDistinctFields) (sym h.8)
      (All-cons HasDistinctFields (ListAtom h.0 h.1) (Arrow (Atom first) h.2 isolated ∷ FutureAtom h.3 ∷ []) tt
      (All-cons HasDistinctFields (Arrow (Atom first) h.2 isolated) (FutureAtom h.3 ∷ []) tt (All-cons HasDistinctFields (FutureAtom h.3) [] tt (All-nil HasDistinctFields))))

  pub atoms-added : (at : Option Place) (old new : Atoms) (r : Result ℕ (Stop Fault)) → first ≡ length old → Comes (adds (λ env ds. ds ≡ defs) at) old r new
      → Comes (adds (AreOwnAtoms isolated u) at) old r new
  atoms-added at old new r e k =
      adds-then (λ env ds. ds ≡ defs) (AreOwnAtoms isolated u) at old new r
      (λ ds same. (h.0, h.1, h.2, h.3, h.4, h.5, h.6, h.7, same ∙ h.8 ∙ ap (λ (m : ℕ). ListAtom h.0 h.1 ∷ Arrow (Atom m) h.2 isolated ∷ FutureAtom h.3 ∷ []) e)) k

  pub atoms-there : (at : Option Place) (old new : Atoms) (r : Result ℕ (Stop Fault)) → Comes (adds (λ env ds. ds ≡ defs) at) old r new → IfOk r (λ k. k + 2 < length new)
  atoms-there at old new (Ok k) g =
      let e : k + length defs ≡ length new = group-there defs at old new k g in
      let many : length defs ≡ 3 = ap length h.8 in
      omega (arith, e, many)
  atoms-there at old new (Err stop) g = tt

-- put together
pub atoms-are : (isolated : Bool) (u : UnitAtWork) (first : ℕ) (def : AtomDef) (args result future : SemType) (a b c d : List AtomDef) → AreArgumentsOf u def → args ≡ Atom first
    → IsSameType (sem_of u.result) result → IsSameType (sem_of u.result) future → a ≡ [] → b ≡ a ++ def ∷ [] → c ≡ b ++ Arrow args result isolated ∷ [] → d ≡ c ++ FutureAtom future ∷ []
    → AreAtomsAt isolated u first d
atoms-are isolated u first def args result future a b c d list ea r f e1 e2 e3 e4 = (list.0, list.1, result, future, list.2, list.3, r, f, all)
  where
    all : d ≡ ListAtom list.0 list.1 ∷ Arrow (Atom first) result isolated ∷ FutureAtom future ∷ []
    all = rw e4 rw e3 rw e2 rw e1 rw ea rw list.4 refl
