-- Atoms are twins of themselves, and so is a state in which nothing is open.
use Rattle.std.proofs.Common.{◌≡◌, ◌∙◌, ℕ, List, [], ◌∷◌, Option, None, Some, IfOk, Result, Ok, Err, length, refl, sym, subst}
use Rattle.std.proofs.lemmas.List.Elements.{All-nil}
use Rattle.std.specs.List.{AllZip}
use Rattle.std.specs.Prelude.{codes}
use Rattle.bal_base.specs.declared.fault.Fault.{Fault}
use Rattle.bal_base.specs.declared.stop.Stop.{Stop}
use Rattle.bal_base.specs.declared.stop.Stop.TheVariants.{Memory, Fault as OwnFault}
use Rattle.bal_tree.specs.declared.package.Package.{Package}
use Rattle.checks.specs.Checks.{Comes, Gives, Outcome, Refuses}
use Rattle.descriptors.specs.declared.names.Names.{Names}
use Rattle.descriptors.specs.declared.names.Signature.{Signature}
use Rattle.descriptors.specs.Naming.{entry_in}
use Rattle.descriptors.specs.Steps.{AreNames}
use Rattle.flow_narrowing.specs.Flows.{IfShared}
use Rattle.type_model.specs.declared.answers.TypeLimit.{TypeLimit}
use Rattle.type_model.specs.declared.atoms.AtomDef.{AtomDef}
use Rattle.type_model.specs.declared.atoms.AtomDef.TheVariants.{List as ListAtom, Mapping as MappingAtom, Arrow, Error as ErrorAtom, Future as FutureAtom}
use Rattle.type_model.specs.declared.atoms.FieldDef.{FieldDef}
use Rattle.type_model.specs.declared.basic.Ty.{Ty}
use Rattle.type_model.specs.Calls.{Asked}
use Rattle.type_model.specs.Defined.{IsEnv, TyBelow}
use Rattle.type_model.proofs.Same.{itself}
use Rattle.typed_tree.specs.declared.package.TypedPackage.{TypedPackage}
use Rattle.stmt_needs.specs.PackageTable.{package_needs}
use Rattle.check_words.specs.Sharing.{SameOption}
use Rattle.check_words.specs.Stands.{CallBelow, ChoiceBelow, ConstructorBelow, MatchBelow, PartBelow, SharedBelow, Stands, UnitBelow}
use Rattle.check_words.specs.State.{State}
use Rattle.check_words.specs.Units.{signature_in}
use Rattle.package_checks.specs.Checked.{IsStart, IsTyped, at_first, checked_package}
use Rattle.check_answers.specs.Answers.{AgreesWith, PackageTwins, SamePackage, Twins}
use Rattle.check_answers.specs.Laws.{PackagesAgree}
use Rattle.check_answers.specs.TwinTypes.{SettledTwins, TwinAtoms, TwinDefs, TwinFields, TwinTypes}
use Rattle.check_answers.proofs.EachNeed.{all-lines-agree}

module _ (m : List AtomDef) where
  itself-type : (t : Ty) → TwinTypes m m t t
  itself-type t = record { shapes = λ x v. itself; lists = refl; maps = refl }

  itself-types : (ts : List Ty) → AllZip (TwinTypes m m) ts ts
  itself-types [] = tt
  itself-types (t ∷ ts) = (itself-type t, itself-types ts)

  itself-option : (o : Option Ty) → SameOption (TwinTypes m m) o o
  itself-option None = tt
  itself-option (Some t) = itself-type t

  itself-fields : (fs : List FieldDef) → AllZip (TwinFields m m) fs fs
  itself-fields [] = tt
  itself-fields (f ∷ fs) = (record { name = refl; ty = itself-type f.ty; optional = refl }, itself-fields fs)

  itself-def : (d : AtomDef) → TwinDefs m m d d
  itself-def (ListAtom fixed rest) = (itself-types fixed, itself-option rest)
  itself-def (MappingAtom fields rest) = (itself-fields fields, itself-option rest)
  itself-def (Arrow args result isolated) = (λ x v. itself, λ x v. itself, refl)
  itself-def (ErrorAtom detail) = λ x v. itself
  itself-def (FutureAtom result) = λ x v. itself

  itself-defs : (ds : List AtomDef) → AllZip (TwinDefs m m) ds ds
  itself-defs [] = tt
  itself-defs (d ∷ ds) = (itself-def d, itself-defs ds)

  nothing-stands : (p : Package) → Stands (at_first m p)
  nothing-stands p =
      record {
        site = All-nil (λ r. IfOk r (SharedBelow (length m)));
        found = All-nil (PartBelow (length m));
        ways = tt;
        wants = All-nil (IfShared (TyBelow (length m)));
        constructors = All-nil (ConstructorBelow (length m));
        calls = All-nil (CallBelow (length m));
        choices = All-nil (ChoiceBelow (length m));
        matches = All-nil (MatchBelow (length m));
        units = All-nil (UnitBelow (length m));
        initialiser = tt;
      }

  nothing-twins : (names : Names) → IsEnv m → AreNames m names → (p : Package) → Twins names (at_first m p) (at_first m p)
  nothing-twins names env are p =
      record {
        over = record {
          atoms = itself-defs m;
          states = record {
            site = record { scope = refl; workers = refl; results = tt; events = refl };
            found = tt;
            ways = tt;
            wants = tt;
            sorts = refl;
            accesses = refl;
            constructors = tt;
            calls = tt;
            choices = tt;
            matches = tt;
            blocks = tt;
            units = tt;
            initialiser = tt;
            done = record { next_unit = refl; functions = tt; workers = tt; variables = tt; initialisers = tt };
          };
        };
        first = record { env = env; stands = nothing-stands p; named = are };
        second = record { env = env; stands = nothing-stands p; named = are };
      }

-- ---- what is found at the end

-- lists that are equal to others
zip-equal : {A : Type 0} (R : A → A → Type 0) (xs ys ks ls : List A) → xs ≡ ks → ys ≡ ls → AllZip R ks ls → AllZip R xs ys
zip-equal R xs ys ks ls e f h = subst (λ k. AllZip R k ys) (sym e) (subst (AllZip R ks) (sym f) h)

same-start : (fs : List Signature) (a b c d : ℕ) → IsStart fs a b → IsStart fs c d → (c ≡ a) × (d ≡ b)
same-start [] a b c d x y = (y.0 ∙ sym x.0, y.1 ∙ sym x.1)
same-start (f ∷ fs) a b c d x y = (y.0 ∙ sym x.0, y.1 ∙ sym x.1)

module _ (passes : List AtomDef → Asked → TypeLimit → Type 0) (names : Names) where
  typed-same : (p : Package) (s r : State) (t u : TypedPackage) → Twins names s r → IsTyped names p s t → IsTyped names p r u → SamePackage (SettledTwins s.atoms r.atoms) t u
  typed-same p s r t u h x y =
      let done = h.over.states.done in
      let begins = same-start (signature_in (entry_in names (codes "main") p.main)) t.start t.words u.start u.words x.begins y.begins in
      record {
        functions = zip-equal _ _ _ _ _ x.functions y.functions done.functions;
        variables = zip-equal _ _ _ _ _ x.variables y.variables done.variables;
        initialisers = zip-equal _ _ _ _ _ x.initialisers y.initialisers done.initialisers;
        start = begins.0;
        words = begins.1;
        units = y.units ∙ done.next_unit ∙ sym x.units;
      }

  -- twins of packages, over the atoms that are there at the end
  at-end : (m n : List AtomDef) (s r : State) (t u : TypedPackage) → m ≡ s.atoms → n ≡ r.atoms → TwinAtoms s.atoms r.atoms → SamePackage (SettledTwins s.atoms r.atoms) t u
      → PackageTwins m t n u
  at-end m n s r t u e f h k = subst (λ i. PackageTwins i t n u) (sym e) (subst (λ j. PackageTwins s.atoms t j u) (sym f) (h, k))

  pub packages-agree : PackagesAgree passes names
  unfolding checked_package
  packages-agree p env is are (Gives t) (Gives u) m n (s, met, x, e) (r, other, y, f) =
      let h = all-lines-agree passes names (package_needs p) (at_first env p) (at_first env p) (nothing-twins env names is are p) (Gives tt) (Gives tt) s r met other in
      at-end m n s r t u e f h.over.atoms (typed-same p s r t u h x y)
  packages-agree p env is are (Gives t) (Refuses g) m n (s, met, x, e) (r, other, f) =
      all-lines-agree passes names (package_needs p) (at_first env p) (at_first env p) (nothing-twins env names is are p) (Gives tt) (Refuses g) s r met other
  packages-agree p env is are (Refuses f) (Gives u) m n (s, met, e) (r, other, y, i) =
      all-lines-agree passes names (package_needs p) (at_first env p) (at_first env p) (nothing-twins env names is are p) (Refuses f) (Gives tt) s r met other
  packages-agree p env is are (Refuses f) (Refuses g) m n (s, met, e) (r, other, i) =
      all-lines-agree passes names (package_needs p) (at_first env p) (at_first env p) (nothing-twins env names is are p) (Refuses f) (Refuses g) s r met other

  -- and so does what a call answered
  pub agrees-with : (p : Package) (env : List AtomDef) → IsEnv env → AreNames env names → (o : Outcome TypedPackage) (m : List AtomDef)
      (r : Result TypedPackage (Stop Fault)) (n : List AtomDef) → checked_package passes names p env o m → Comes (checked_package passes names p) env r n → AgreesWith o m r n
  unfolding Comes
  agrees-with p env is are o m (Ok t) n x y = packages-agree p env is are o (Gives t) m n x y
  agrees-with p env is are o m (Err (OwnFault f)) n x y = packages-agree p env is are o (Refuses f) m n x y
  agrees-with p env is are o m (Err Memory) n x y = tt
