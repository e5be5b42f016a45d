-- What the module at hand defines under a name.
use Rattle.std.proofs.Common.{◌≡◌, ◌==◌, ◌||◌, ◌∙◌, ℕ, Bool, true, false, List, [], ◌∷◌, length, Option, Some, None, Result, Ok, Err, if◌then◌else◌, ap, refl, subst, sym}
use Rattle.std.specs.Prelude.{⊤}
use Rattle.bal_base.specs.declared.fault.FaultCode.{FaultCode}
use Rattle.bal_base.specs.declared.fault.FaultCode.TheVariants.{NotPublic, Unknown}
use Rattle.bal_base.specs.declared.text.Name.{Name}
use Rattle.bal_tree.specs.declared.def.FunctionDef.{FunctionDef}
use Rattle.bal_tree.specs.declared.def.VariableDef.{VariableDef}
use Rattle.checks.specs.Checks.{Comes}
use Rattle.descriptors.specs.declared.names.Entry.{Entry}
use Rattle.descriptors.specs.declared.names.Meaning.{Meaning}
use Rattle.descriptors.specs.declared.names.Meaning.TheVariants as meaning
use Rattle.descriptors.specs.declared.names.Names.{Names}
use Rattle.descriptors.specs.declared.names.Scope.{Scope}
use Rattle.descriptors.specs.declared.names.Signature.{Signature}
use Rattle.descriptors.specs.Naming.{entry_in, if_defined, if_imported}
use Rattle.descriptors.specs.Steps.{AreNames, MeaningBelow, SignatureBelow}
use Rattle.type_model.specs.declared.atoms.AtomDef.{AtomDef}
use Rattle.type_model.specs.declared.basic.Ty.{Ty}
use Rattle.type_model.specs.Defined.{TyBelow}
use Rattle.check_words.specs.State.{State}
use Rattle.check_words.specs.Units.{signature_in, signature_of, variable_type}
use Rattle.check_words.proofs.Coming.{given, next}
use Rattle.needs_of_functions.specs.Defined.{IsDefinedAs, IsVariable}

-- a meaning that was found, and that an error is none
abbrev found_or : Meaning → Result Meaning FaultCode → Meaning
found_or d (Ok m) = m
found_or d (Err code) = d

abbrev IsNoMeaning : Result Meaning FaultCode → Type 0
IsNoMeaning (Ok m) = ⊥
IsNoMeaning (Err code) = ⊤

no-meaning : (code : FaultCode) (m : Meaning) → Err code ≡ Ok m → ⊥
no-meaning code m is = subst IsNoMeaning is tt

-- a name without a prefix is one of the module at hand
module _ (names : Names) (scope : Scope) (m : Meaning) where
  visible : (e : Entry) (b : Bool) → (if b then Ok e.meaning else Err NotPublic) ≡ Ok m → e.meaning ≡ m
  visible e true is = ap (found_or m) is
  visible e false is = absurd (no-meaning NotPublic m is)

  defined : (e : Option Entry) → if_defined names scope scope.«module» e ≡ Ok m → IsDefinedAs e m
  defined None is = absurd (no-meaning Unknown m is)
  defined (Some e) is = (e, refl, visible e (scope.«module» == scope.«module» || e.public) is)

  pub defined-as : (v w : Name) → v ≡ w → if_imported names scope v (Some scope.«module») ≡ Ok m → IsDefinedAs (entry_in names w scope.«module») m
  defined-as v w same is = subst (λ name. IsDefinedAs (entry_in names name scope.«module») m) same (defined (entry_in names v scope.«module») is)

pub as-variable : (e : Option Entry) (m : Meaning) (number : ℕ) (final : Bool) (t : Ty) → IsDefinedAs e m → m ≡ meaning.Variable number final t → IsVariable e number t
as-variable e m number final t h is = (final, (h.0, h.1, h.2 ∙ is))

pub variable-below : (env : List AtomDef) (names : Names) (m : ℕ) (w : Name) (number : ℕ) (t : Ty) → AreNames env names → IsVariable (entry_in names w m) number t → TyBelow (length env) t
variable-below env names m w number t h v = subst (MeaningBelow (length env)) v.1.2 (h.meanings m w v.1.0 v.1.1)

-- the number and the type of a variable
abbrev its_variable : Meaning → List (ℕ × Ty)
its_variable (meaning.Variable number final t) = (number, t) ∷ []
its_variable (meaning.TypeName t) = []
its_variable (meaning.Constant t) = []
its_variable (meaning.Function f) = []

abbrev variable_at : Option Entry → List (ℕ × Ty)
variable_at None = []
variable_at (Some e) = its_variable e.meaning

at-entry : (e : Option Entry) (number : ℕ) (t : Ty) → IsVariable e number t → variable_at e ≡ (number, t) ∷ []
at-entry e number t v = ap variable_at v.1.1 ∙ ap its_variable v.1.2

pub variable-typed : (names : Names) (d : VariableDef) (s : State) (number : ℕ) (t : Ty) → IsVariable (entry_in names d.name.name s.site.scope.«module») number t
    → Comes (variable_type names d) s (Ok (number, t)) s
variable-typed names d s number t v =
    next _ _ _ _ _ s.site s (given _ s s.site refl) (given _ s (number, t) (at-entry (entry_in names d.name.name s.site.scope.«module») number t v))

-- ---- functions

pub as-function : (e : Option Entry) (m : Meaning) (f : Signature) → IsDefinedAs e m → m ≡ meaning.Function f → IsDefinedAs e (meaning.Function f)
as-function e m f h is = (h.0, h.1, h.2 ∙ is)

pub signature-below : (env : List AtomDef) (names : Names) (m : ℕ) (w : Name) (f : Signature) → AreNames env names → IsDefinedAs (entry_in names w m) (meaning.Function f)
    → SignatureBelow (length env) f
signature-below env names m w f h e = subst (MeaningBelow (length env)) e.2 (h.meanings m w e.0 e.1)

-- the signature of a function
abbrev its_signature : Meaning → List Signature
its_signature (meaning.Function f) = f ∷ []
its_signature (meaning.TypeName t) = []
its_signature (meaning.Constant t) = []
its_signature (meaning.Variable number final t) = []

pub function-found : (names : Names) (d : FunctionDef) (s : State) (f : Signature) → IsDefinedAs (entry_in names d.name.name s.site.scope.«module») (meaning.Function f)
    → Comes (signature_of names d) s (Ok f) s
function-found names d s f e =
    next _ _ _ _ _ s.site s (given _ s s.site refl)
    (given _ s f (ap signature_in e.1 ∙ ap its_signature e.2))
