-- The parameter that takes the rest, as answers of calls, and that what stands still stands.
use Rattle.std.proofs.Common.{◌≡◌, ◌++◌, ◌<◌, ◌∙◌, ℕ, List, [], ◌∷◌, All, length, Option, Some, Result, Ok, Err, ap, refl, subst, sym}
use Rattle.std.proofs.lemmas.List.Elements.{All-nil}
use Rattle.bal_base.specs.declared.fault.Fault.{Fault}
use Rattle.bal_base.specs.declared.place.Place.{Place}
use Rattle.bal_base.specs.declared.stop.Stop.{Stop}
use Rattle.bal_base.specs.declared.text.Name.{Name}
use Rattle.bal_tree.specs.declared.name.Word.{Word}
use Rattle.checks.specs.Checks.{Comes}
use Rattle.checks.specs.Questions.{adds}
use Rattle.checks.proofs.Steps.{stops}
use Rattle.descriptors.specs.Described.{IsCopy, list_of}
use Rattle.descriptors.proofs.Yielding.{copy-below, kept-grows, list-below}
use Rattle.made_atoms.proofs.Groups.{adds-then}
use Rattle.type_model.specs.declared.atoms.AtomDef.{AtomDef}
use Rattle.type_model.specs.declared.atoms.AtomDef.TheVariants.{List as ListAtom}
use Rattle.type_model.specs.declared.basic.Ty.{Ty}
use Rattle.type_model.specs.Calls.{KeepsTypes}
use Rattle.type_model.specs.Defined.{DefBelow, TyBelow}
use Rattle.type_model.proofs.DefinedLaws.{TyBelow-more}
use Rattle.typed_tree.specs.SharedTypes.{Shared}
use Rattle.check_words.specs.Calls.{has_rest, is_new, with_parameter, with_rest}
use Rattle.check_words.specs.Sharing.{SameUnit}
use Rattle.check_words.specs.Stands.{SharedBelow, Stands, UnitBelow}
use Rattle.check_words.specs.State.{State, UnitAtWork}
use Rattle.check_words.specs.Statements.{takes_want}
use Rattle.check_words.specs.Words.{Atoms}
use Rattle.check_words.proofs.Coming.{asked, given, next}
use Rattle.check_words.proofs.Entering.{unit-stands}
use Rattle.check_words.proofs.Flowing.{unit-now, unit-set}
use Rattle.check_words.proofs.Standing.{stands-units, unit-replaced}
use Rattle.needs_of_units.proofs.Beginning.{with-parameter-below}
use Rattle.needs_of_units.proofs.Capturing.{same-unit-below}
use Rattle.needs_of_functions.specs.Rests.{AreListsOf, IsListsOf, puts_rest}
use Rattle.needs_of_functions.proofs.Storing.{want-then}

-- ---- the atom

-- the one definition, as a group
pub lists-added : (t : Ty) (def : AtomDef) (at : Option Place) (old new : Atoms) (r : Result ℕ (Stop Fault)) → IsListsOf t def → Comes (adds (λ env defs. defs ≡ def ∷ []) at) old r new
    → Comes (adds (λ env. AreListsOf t) at) old r new
lists-added t def at old new r is h =
    adds-then (λ env defs. defs ≡ def ∷ []) (λ env. AreListsOf t) at old new r (λ defs e. (is.0, is.1, e ∙ ap (λ d. d ∷ []) is.2)) h

pub lists-def-below : (n : ℕ) (t m : Ty) (none fixed : List Ty) → none ≡ [] → fixed ≡ none → IsCopy t m → TyBelow n t → DefBelow n (ListAtom fixed (Some m))
lists-def-below n t m none fixed e f copy h = (subst (All (TyBelow n)) (sym (f ∙ e)) (All-nil (TyBelow n)), copy-below n t m copy h)

pub shared-grows : (old new : List AtomDef) (t : Shared) → KeepsTypes old new → SharedBelow (length old) t → SharedBelow (length new) t
shared-grows old new t kept h = TyBelow-more (length old) (length new) (kept-grows old new kept) t.value h

pub lists-below : (n atom : ℕ) (t : Shared) → t.value ≡ list_of atom → atom < n → SharedBelow n t
lists-below n atom t is lt = subst (TyBelow n) (sym is) (list-below n atom lt)

-- ---- the unit

pub rest-same : (u m : UnitAtWork) (name : Name) (l t : Shared) (atom : ℕ) → SameUnit (with_parameter name l u) m
    → SameUnit (with_rest name l atom t u) (record m { rest = Some atom; rest_member = Some t })
rest-same u m name l t atom h =
    record {
      number = h.number;
      worker = h.worker;
      slots = h.slots;
      params = h.params;
      rest = refl;
      rest_member = refl;
      result = h.result;
      arrow = h.arrow;
      future = h.future;
      captured = h.captured;
      flow = h.flow;
    }

with-rest-below : (n : ℕ) (name : Name) (l t : Shared) (atom : ℕ) (u : UnitAtWork) → SharedBelow n l → SharedBelow n t → atom < n → UnitBelow n u
    → UnitBelow n (with_rest name l atom t u)
with-rest-below n name l t atom u lists member lt h = let k = with-parameter-below n name l u lists h in
    record { slots = k.slots; rest = lt; rest_member = member; result = k.result; flow = k.flow }

module _ (s : State) (kept : List UnitAtWork) (u : UnitAtWork) (is : s.units ≡ kept ++ u ∷ []) (name : Name) (l t : Shared) (atom : ℕ) (made : l.value ≡ list_of atom) (v : UnitAtWork)
    (same : SameUnit (with_rest name l atom t u) v) where
  pub rest-put : Comes (puts_rest name atom t) s (Ok tt) (record s { units = kept ++ v ∷ [] })
  rest-put = next _ _ _ _ _ l s (given _ s l made) (next _ _ _ _ _ u s (unit-now s kept u is) (unit-set s kept u is (with_rest name l atom t u) v same _ refl))

  pub rest-stands : atom < length s.atoms → SharedBelow (length s.atoms) t → Stands s → Stands (record s { units = kept ++ v ∷ [] })
  rest-stands lt below h = let n : ℕ = length s.atoms in
      stands-units s h (kept ++ v ∷ [])
      (unit-replaced n s.units kept u v is h.units
      (same-unit-below n (with_rest name l atom t u) v same (with-rest-below n name l t atom u (lists-below n atom l made lt) below lt (unit-stands s h kept u is))))

-- ---- the whole

module _ (w : Word) (s s1 : State) (t : Shared) (named : Comes (is_new w) s (Ok tt) s) (taken : Comes takes_want s (Ok t) s1) (env : Atoms) where
  pub rest-added : (atom : ℕ) (r : Result (Unit {0}) (Stop Fault)) (new : State) → Comes (adds (λ e. AreListsOf t.value) (Some w.at)) s1.atoms (Ok atom) env
      → Comes (puts_rest w.name atom t) (record s1 { atoms = env }) r new → Comes (has_rest w) s r new
  rest-added atom r new h put =
      next (is_new w) _ s new r tt s named (want-then _ s s1 new t r taken (next _ _ _ _ _ atom (record s1 { atoms = env }) (asked _ s1 env (Ok atom) h) put))

  pub rest-stops : (stop : Stop Fault) → Comes (adds (λ e. AreListsOf t.value) (Some w.at)) s1.atoms (Err stop) env → Comes (has_rest w) s (Err stop) (record s1 { atoms = env })
  rest-stops stop h =
      next (is_new w) _ s (record s1 { atoms = env }) (Err stop) tt s named
      (want-then _ s s1 (record s1 { atoms = env }) t (Err stop) taken (stops _ _ s1 (record s1 { atoms = env }) stop (asked _ s1 env (Err stop) h)))
