-- Functions that begin, as answers of calls, and that what stands still stands.
use Rattle.std.proofs.Common.{◌≡◌, ◌++◌, ◌<◌, ◌∙◌, ℕ, Bool, true, List, [], ◌∷◌, length, All, Option, Some, None, IfSome, IfOk, Result, Ok, map, option_map, ap, append-nil, refl, subst, sym}
use Rattle.std.specs.List.{AllZip}
use Rattle.std.proofs.lemmas.List.Elements.{All-append, All-cons, All-head, All-nil, All-tail}
use Rattle.bal_base.specs.declared.fault.Fault.{Fault}
use Rattle.bal_base.specs.declared.text.Name.{Name}
use Rattle.bal_tree.specs.declared.def.FunctionDef.{FunctionDef}
use Rattle.bal_tree.specs.declared.def.Worker.{Worker}
use Rattle.checks.specs.Checks.{Comes}
use Rattle.descriptors.specs.declared.names.Meaning.TheVariants as meaning
use Rattle.descriptors.specs.declared.names.Names.{Names}
use Rattle.descriptors.specs.declared.names.Scope.{Scope}
use Rattle.descriptors.specs.declared.names.Signature.{Signature}
use Rattle.descriptors.specs.Described.{IsCopy, list_of}
use Rattle.descriptors.specs.Naming.{entry_in}
use Rattle.descriptors.specs.Steps.{SignatureBelow}
use Rattle.descriptors.proofs.Yielding.{copy-below, list-below}
use Rattle.flow_narrowing.specs.declared.flow.Variable.{Variable}
use Rattle.flow_narrowing.specs.Flows.{VariableBelow}
use Rattle.type_model.specs.declared.atoms.AtomDef.{AtomDef}
use Rattle.type_model.specs.declared.basic.Ty.{Ty}
use Rattle.type_model.specs.Calls.{KeepsTypes}
use Rattle.type_model.specs.Defined.{TyBelow}
use Rattle.typed_tree.specs.declared.event.SeenEvent.{SeenEvent}
use Rattle.typed_tree.specs.declared.unit.Captured.{Captured}
use Rattle.typed_tree.specs.Skeleton.{events_of_body}
use Rattle.typed_tree.specs.SharedTypes.{Shared}
use Rattle.check_words.specs.Calls.{opens_unit}
use Rattle.check_words.specs.Sharing.{SameShared, SameUnit}
use Rattle.check_words.specs.Stands.{SharedBelow, SiteBelow, Stands, UnitBelow}
use Rattle.check_words.specs.State.{Site, State, UnitAtWork}
use Rattle.check_words.specs.Units.{AreSlots, begins_function, function_unit, rest_slot, workers_of}
use Rattle.check_words.specs.Words.{Atoms}
use Rattle.check_words.proofs.Coming.{became-this, given, next}
use Rattle.check_words.proofs.Growing.{stands-grows}
use Rattle.check_words.proofs.Same.{same-list}
use Rattle.needs_of_units.proofs.Opening.{stands-site}
use Rattle.needs_of_functions.specs.Defined.{IsDefinedAs}
use Rattle.needs_of_functions.specs.Results.{AddsResults, ComeInTurn, IsFunctionSite, IsFunctionUnit, ResultBelow}
use Rattle.needs_of_functions.proofs.Defining.{function-found}
use Rattle.needs_of_functions.proofs.InTurn.{all-found}
use Rattle.needs_of_functions.proofs.Zipping.{zip-push}

abbrev pub Copies : Ty → Shared → Type 0
Copies t u = IsCopy t u.value

-- ---- slots

list-copied : (atom : ℕ) (t : Shared) → t.value ≡ list_of atom → IsCopy (list_of atom) t.value
list-copied atom t is = subst (IsCopy (list_of atom)) (sym is) (record { sem = refl; lists = refl; maps = refl })

-- what takes the rest, by whether something does
abbrev slot_if : ℕ → Option Ty → List Ty
slot_if atom None = []
slot_if atom (Some t) = list_of atom ∷ []

pub slots-with-rest : (f : Signature) (rest : Ty) (params : List Ty) (slots ts : List Shared) (l : Shared) → f.rest ≡ Some rest → params ≡ f.params → AllZip Copies params slots
    → l.value ≡ list_of f.lists → ts ≡ slots ++ l ∷ [] → AreSlots f ts
slots-with-rest f rest params slots ts l is same h made more =
    subst (λ (o : Option Ty). AllZip Copies (f.params ++ slot_if f.lists o) ts) (sym is)
    (subst (AllZip Copies (f.params ++ list_of f.lists ∷ [])) (sym more)
    (zip-push Copies f.params slots (list_of f.lists) l (subst (λ ps. AllZip Copies ps slots) same h) (list-copied f.lists l made)))

pub slots-alone : (f : Signature) (params : List Ty) (slots : List Shared) → f.rest ≡ None → params ≡ f.params → AllZip Copies params slots → AreSlots f slots
slots-alone f params slots is same h =
    subst (λ (o : Option Ty). AllZip Copies (f.params ++ slot_if f.lists o) slots) (sym is)
    (subst (λ ps. AllZip Copies ps slots) (same ∙ sym (append-nil f.params)) h)

module _ (n : ℕ) where
  copies-below : (ts : List Ty) (us : List Shared) → AllZip Copies ts us → All (TyBelow n) ts → All (SharedBelow n) us
  copies-below [] [] s h = All-nil (SharedBelow n)
  copies-below [] (u ∷ us) s h = absurd s
  copies-below (t ∷ ts) [] s h = absurd s
  copies-below (t ∷ ts) (u ∷ us) s h =
      All-cons (SharedBelow n) u us (copy-below n t u.value s.0 (All-head (TyBelow n) t ts h)) (copies-below ts us s.1 (All-tail (TyBelow n) t ts h))

  rest-below : (f : Signature) → SignatureBelow n f → (rest : Option Ty) → All (TyBelow n) (slot_if f.lists rest)
  rest-below f h None = All-nil (TyBelow n)
  rest-below f h (Some t) = All-cons (TyBelow n) (list_of f.lists) [] (list-below n f.lists h.4) (All-nil (TyBelow n))

  atom-below : (f : Signature) → SignatureBelow n f → (rest : Option Ty) → IfSome (option_map (λ t. f.lists) rest) (λ atom. atom < n)
  atom-below f h None = tt
  atom-below f h (Some t) = h.4

  pub function-below : (f : Signature) (slots : List Shared) (gives : Shared) → AreSlots f slots → SignatureBelow n f → SharedBelow n gives → UnitBelow n (function_unit f slots gives)
  function-below f slots gives are h below =
      record {
        slots = copies-below (f.params ++ rest_slot f) slots are (All-append (TyBelow n) f.params (rest_slot f) h.0 (rest-below f h f.rest));
        rest = atom-below f h f.rest;
        rest_member = tt;
        result = below;
        flow = All-nil (VariableBelow n);
      }

-- the unit as it was put together
pub unit-made : (f : Signature) (gives : Shared) (slots : List Shared) (params : ℕ) (rest : Option ℕ) (cs : List Captured) (vs : List Variable) → AreSlots f slots → params ≡ length slots
    → rest ≡ option_map (λ t. f.lists) f.rest → cs ≡ [] → vs ≡ []
    → IsFunctionUnit f gives (record {
      number = f.unit;
      worker = 0;
      slots = slots;
      params = params;
      rest = rest;
      rest_member = None;
      result = gives;
      arrow = f.arrow;
      future = f.future;
      captured = cs;
      flow = record { variables = vs; reached = true };
    })
unit-made f gives slots params rest cs vs are ep er ec ev = (slots, are, rw ep rw er rw ec rw ev refl)

pub unit-below : (n : ℕ) (f : Signature) (gives : Shared) (u : UnitAtWork) → IsFunctionUnit f gives u → SignatureBelow n f → SharedBelow n gives → UnitBelow n u
unit-below n f gives u h below k = subst (UnitBelow n) (sym h.2) (function-below n f h.0 gives h.1 below k)

-- by another handle of what it gives
pub function-shared : (f : Signature) (gives handle : Shared) (u : UnitAtWork) → SameShared gives handle → (h : IsFunctionUnit f handle u) → SameUnit (function_unit f h.0 gives) u
function-shared f gives handle u same h =
    subst (SameUnit (function_unit f h.0 gives)) (sym h.2)
    (record {
      number = refl;
      worker = refl;
      slots = same-list SameShared (λ t. refl) h.0;
      params = refl;
      rest = refl;
      rest_member = tt;
      result = same;
      arrow = refl;
      future = refl;
      captured = tt;
      flow = record { variables = tt; reached = refl };
    })

-- ---- the whole

module _ (names : Names) (d : FunctionDef) (s : State) (f : Signature) (gives : Shared) (site : Site) (env : Atoms) (is : IsFunctionSite names s.site.scope d gives s.atoms site env) where
  abbrev pub with_site : State
  with_site = record s { atoms = env; site = site }

  pub function-begins : (handle : Shared) (u : UnitAtWork) (new : State) → IsDefinedAs (entry_in names d.name.name s.site.scope.«module») (meaning.Function f) → IsCopy f.result gives.value
      → SameShared gives handle → IsFunctionUnit f handle u → ((v : UnitAtWork) → SameUnit v u → Comes (opens_unit v) with_site (Ok tt) new) → Comes (begins_function names d) s (Ok tt) new
  function-begins handle u new found copy same unit opened = let mid : State = record s { atoms = env } in
      next _ _ _ _ _ f s (function-found names d s f found)
      (next _ _ _ _ _ gives s (given _ s gives copy)
      (next _ _ _ _ _ unit.0 s (given _ s unit.0 unit.1)
      (next _ _ _ _ _ is.found mid (all-found names s.site.scope (workers_of d.body) s env is.found refl is.come)
      (next _ _ _ _ _ tt with_site (became-this _ mid with_site (ap (λ (x : Site). record mid { site = x }) is.is))
      (opened (function_unit f unit.0 gives) (function-shared f gives handle u same unit))))))

  pub site-stands : KeepsTypes s.atoms env → Stands s → SharedBelow (length env) gives → Stands with_site
  site-stands kept h below =
      stands-site (record s { atoms = env }) (stands-grows s env kept h) site
      (subst (SiteBelow (length env)) (sym is.is) (All-cons (ResultBelow (length env)) (Ok gives) is.found below is.below))

-- where the function stands, put together
pub site-made : (names : Names) (scope : Scope) (d : FunctionDef) (gives : Shared) (old new : Atoms) (none before after : List (Result Shared Fault)) (ws : List Worker) (words : List Name)
    (seen events : List SeenEvent) → none ≡ [] → before ≡ none ++ Ok gives ∷ [] → ws ≡ workers_of d.body → AddsResults names scope ws old before after new
    → words ≡ map (λ w. w.name.name) ws → seen ≡ events_of_body d.body → events ≡ seen
    → IsFunctionSite names scope d gives old (record { scope = scope; workers = words; results = after; events = events }) new
site-made names scope d gives old new none before after ws words seen events en eb ew adds ed es ee =
    record {
      found = adds.found;
      come = subst (λ (us : List Worker). ComeInTurn names scope us old adds.found new) ew adds.come;
      below = adds.below;
      is = ap (λ (rs : List (Result Shared Fault)). record { scope = scope; workers = words; results = rs; events = events }) results
          ∙ ap (λ (xs : List Name). record { scope = scope; workers = xs; results = Ok gives ∷ adds.found; events = events }) (ed ∙ ap (map (λ w. w.name.name)) ew)
          ∙ ap (λ (xs : List SeenEvent). record { scope = scope; workers = map (λ w. w.name.name) (workers_of d.body); results = Ok gives ∷ adds.found; events = xs }) (ee ∙ es);
    }
  where
    results : after ≡ Ok gives ∷ adds.found
    results = adds.is ∙ ap (λ rs. rs ++ adds.found) (eb ∙ ap (λ xs. xs ++ Ok gives ∷ []) en)
