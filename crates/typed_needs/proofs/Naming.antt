-- What names stand for, and what they are as typed parts.
use Rattle.std.proofs.Common.{◌≡◌, ◌∙◌, ℕ, Bool, true, false, List, [], ◌∷◌, All, append-nil, Option, Some, None, IfSome, Result, Ok, Err, refl, rules, sym, subst, ap}
use Rattle.std.specs.Prelude.{IsSomeAnd, if◌then◌else◌, is_some, slice_get, ⊤}
use Rattle.std.proofs.lemmas.List.Elements.{All-head, All-tail}
use Rattle.bal_base.specs.declared.fault.FaultCode.{FaultCode}
use Rattle.bal_base.specs.declared.place.Place.{Place}
use Rattle.bal_base.specs.declared.shape.Shape.{Shape}
use Rattle.bal_base.specs.declared.text.Name.{Name}
use Rattle.bal_tree.specs.declared.name.Prefix.{Prefix}
use Rattle.bal_tree.specs.declared.name.Prefix.TheVariants.{Word as WordPrefix, Int as IntPrefix}
use Rattle.bal_tree.specs.declared.name.QualifiedName.{QualifiedName}
use Rattle.checks.specs.Checks.{Gives, ◌▷◌, gives_some}
use Rattle.descriptors.specs.declared.names.Meaning.{Meaning}
use Rattle.descriptors.specs.declared.names.Meaning.TheVariants as meaning
use Rattle.descriptors.specs.declared.names.Names.{Names}
use Rattle.descriptors.specs.declared.names.Source.{Source}
use Rattle.descriptors.specs.declared.names.Source.TheVariants.{Library, Module}
use Rattle.descriptors.specs.Described.{IsCopy, plain}
use Rattle.descriptors.specs.Naming.{meaning_named}
use Rattle.needs.specs.Needs.{does}
use Rattle.type_model.specs.declared.answers.TypeLimit.{TypeLimit}
use Rattle.type_model.specs.declared.atoms.AtomDef.{AtomDef}
use Rattle.type_model.specs.declared.basic.SemType.{SemType, Atom}
use Rattle.type_model.specs.declared.basic.Ty.{Ty}
use Rattle.type_model.specs.Calls.{Asked, KeepsTypes}
use Rattle.type_model.specs.Defined.{IsDefined}
use Rattle.type_model.specs.Inclusion.{HasExactly, Sub}
use Rattle.type_model.specs.Membership.{In}
use Rattle.type_model.specs.Places.{is_same_text}
use Rattle.type_model.proofs.SameTypes.{In-same}
use Rattle.operations.specs.declared.operation.Constant.{Constant}
use Rattle.operations.specs.declared.operation.Operation.{Operation}
use Rattle.operations.specs.declared.operation.Operation.TheVariants.{Const, LoadModule, MakeFunction}
use Rattle.operations.specs.Rows.{AreBelow, ResultHas, Signature as UnitSignature, Surroundings, shape_of}
use Rattle.operations.specs.Typing.{OpTyped}
use Rattle.typed_tree.proofs.ExprLayers.{expr_layers}
use Rattle.typed_tree.specs.declared.expr.TypedExpr.{TypedExpr}
use Rattle.typed_tree.specs.declared.form.StrictForm.{StrictForm}
use Rattle.typed_tree.specs.declared.form.StrictForm.TheVariants as form
use Rattle.typed_tree.specs.SharedTypes.{Shared, sem_of}
use Rattle.typed_tree.specs.Views.{IsLocal}
use Rattle.held_operations.specs.Constructs.{operations_of}
use Rattle.flow_narrowing.specs.declared.flow.Variable.{Variable}
use Rattle.check_words.specs.Library.{LibraryRow}
use Rattle.check_words.specs.Seen.{Seen, SeenVariable, SeenWorker, SeenConstant, SeenLibrary, SeenMeaning, SeenNothing, as_seen, from_source, in_library, or_function, seen_as, seen_behind, variable_or, worker_or}
use Rattle.check_words.specs.Sharing.{SameShared}
use Rattle.check_words.specs.State.{IsLast, Site, State, UnitAtWork, find_variable, shared_now}
use Rattle.check_words.specs.Values.{SingleOf, gives_constant, gives_meaning, gives_named, gives_seen, gives_variable}
use Rattle.check_words.specs.Words.{Atoms}
use Rattle.tree_promises.specs.Made.{MadeIsTyped}
use Rattle.tree_promises.specs.Types.{IsTypedExpr}
use Rattle.tree_promises.proofs.Pieces.{made-is-typed}
use Rattle.typed_needs.specs.Named.{NameIsTyped}
use Rattle.typed_needs.specs.Pieces.{IsBefore, MakesTyped}
use Rattle.typed_needs.specs.Placing.{AreNamed, IsStored, IsUnitOf}
use Rattle.typed_needs.proofs.Leaving.{Makes, as-same, between, made}
use Rattle.typed_needs.proofs.Opened.{exactly-later}
use Rattle.typed_needs.proofs.Placed.{last-same}
use Rattle.typed_needs.proofs.Strict.{StrictMade, never, one-typed, unless-leaves}

-- ---- what names stand for

-- what holds of all variables holds of the one that is found by its name
pub found-has : (P : Variable → Type 0) (vs : List Variable) (name : Name) → All P vs → IfSome (find_variable vs name) P
found-has P [] name h = tt
found-has P (v ∷ vs) name h = by (is_same_text v.name name) (All-head P v vs h) (found-has P vs name (All-tail P v vs h))
  where
    by : (b : Bool) → P v → IfSome (find_variable vs name) P → IfSome (if b then Some v else find_variable vs name) P
    by true here later = here
    by false here later = later

module _ (names : Names) (site : Site) (place : Surroundings) (q : QualifiedName) where
  abbrev pub StandsFor : Seen → Type 0
  StandsFor (SeenVariable v) = IsStored place v
  StandsFor (SeenWorker w) = ⊤
  StandsFor (SeenConstant c) = ⊤
  StandsFor (SeenLibrary call) = ⊤
  StandsFor (SeenMeaning m) = meaning_named names site.scope q ≡ Ok m
  StandsFor (SeenNothing code) = ⊤

  as-seen-stands : (r : Result Meaning FaultCode) → meaning_named names site.scope q ≡ r → StandsFor (as_seen r)
  as-seen-stands (Ok m) e = e
  as-seen-stands (Err code) e = tt

  library-stands : (r : Option LibraryRow) → StandsFor (in_library r)
  library-stands (Some r) = tt
  library-stands None = tt

  function-stands : (name : Name) (c : Option Constant) → StandsFor (or_function name c)
  function-stands name (Some c) = tt
  function-stands name None = library-stands _

  modules-stand : StandsFor (as_seen (meaning_named names site.scope q))
  modules-stand = as-seen-stands (meaning_named names site.scope q) refl

  worker-stands : (w : Option ℕ) → StandsFor (worker_or names site q w)
  worker-stands (Some w) = tt
  worker-stands None = modules-stand

  variable-stands : (v : Option Variable) → IfSome v (IsStored place) → StandsFor (variable_or names site q v)
  variable-stands (Some v) h = h
  variable-stands None h = worker-stands _

  source-stands : (s : Option Source) → StandsFor (from_source names site q s)
  source-stands (Some Library) = library-stands _
  source-stands (Some (Module m)) = modules-stand
  source-stands None = modules-stand

  behind-stands : (vs : List Variable) → All (IsStored place) vs → (p : Option Prefix) → StandsFor (seen_behind names site vs q p)
  behind-stands vs h None =
      variable-stands (find_variable vs q.word.name) (found-has (IsStored place) vs q.word.name h)
  behind-stands vs h (Some (IntPrefix at)) = function-stands q.word.name _
  behind-stands vs h (Some (WordPrefix w)) = source-stands _

  pub seen-stands : (vs : List Variable) → All (IsStored place) vs → StandsFor (seen_as names site vs q)
  seen-stands vs h = behind-stands vs h q.prefix

-- ---- what they are

abbrev LocalMade : Variable → Place → Atoms → List TypedExpr → TypedExpr → Type 0
LocalMade v at env parts e = (t : Shared) × SameShared (shared_now v) t × IsLocal v.slot (is_some v.narrowed) t at e

module _ (env : List AtomDef) (passes : List AtomDef → Asked → TypeLimit → Type 0) (names : Names) (place : Surroundings) where
  abbrev Typed : ℕ → State → State → Type 0
  Typed = MakesTyped passes names env place

  variable-opened : (v : Variable) (at : Place) (old new : State) → gives_variable v at old (Gives tt) new → Makes 0 (LocalMade v at) old new
  unfolding ◌▷◌
  variable-opened v at old new (u, a, first, makes-it) =
      between 0 (LocalMade v at) old a new new (as-same old a (unless-leaves _ _ at old a u first)) (made 0 (LocalMade v at) tt a new makes-it) (as-same new new refl)

  variable-typed : (v : Variable) (at : Place) (old new : State) → gives_variable v at old (Gives tt) new → IsStored place v → Typed 0 old new
  variable-typed v at old new met stored =
      let (ps, e, l, (t, same, view), found, atoms) = variable-opened v at old new met in
      record { part = e; found = found; typed = by v.narrowed refl t same e view }
    where
      pieces : (t : Shared) → MadeIsTyped env place (sem_of t)
      pieces t = made-is-typed env place (sem_of t)

      by : (n : Option Shared) → v.narrowed ≡ n → (t : Shared) → SameShared (shared_now v) t → (e : TypedExpr) → IsLocal v.slot (is_some v.narrowed) t at e → IsTypedExpr env place e
      by (Some s) is t same e view =
          let p : MadeIsTyped env place (sem_of t) = pieces t in
          p.narrowed v.slot t at e (sem_of v.declared) (subst (λ n. IsLocal v.slot (is_some n) t at e) is view) stored
      by None is t same e view =
          let p : MadeIsTyped env place (sem_of t) = pieces t in
          let declared : t.value ≡ v.declared.value = same ∙ ap (λ n. (shared_now (record v { narrowed = n })).value) is in
          p.loaded v.slot t at e (subst (λ n. IsLocal v.slot (is_some n) t at e) is view)
          (sem_of v.declared, stored, (λ x valid i. subst (λ (u : Ty). In env x u.sem) (sym declared) i))

  -- what is made of no parts by one operation
  value-typed : (f : StrictForm) (op : Operation) (P : Atoms → Ty → Type 0) (Q : Shape → Type 0) (at : Place) (old new : State) → IsBefore env new
      → Makes 0 (StrictMade f P at) old new → operations_of f 0 ≡ op ∷ []
      → ((t : SemType) → ResultHas env (Some t) Q → OpTyped env place op [] (Some t))
      → ((t : Shared) → P old.atoms t.value → IsDefined old.atoms (sem_of t) → KeepsTypes old.atoms env → ResultHas env (Some (sem_of t)) Q) → Typed 0 old new
  value-typed f op P Q at old new after makes-it does row has =
      one-typed env passes names place f op 0 [] P Q at old new after (record { kept = old.found; is = sym (append-nil old.found); many = refl }) tt makes-it does row has

  -- so is a type with the same words
  copy-in : (xs : Atoms) (x : Shape) (t u : Ty) → IsCopy t u → In xs x t.sem → In xs x u.sem
  copy-in xs x t u copy i = (In-same xs x t.sem u.sem copy.sem).0 i

  constant-typed : (c : Constant) (at : Place) (old new : State) → IsBefore env new → gives_constant c at old (Gives tt) new → Typed 0 old new
  constant-typed c at old new after met =
      value-typed (form.Constant c) (Const c) (SingleOf c) (λ x. x ≡ shape_of c) at old new after (made 0 _ tt old new met) refl (λ t has. (refl, has))
      (λ t single defined keeps x valid is. (exactly-later env old.atoms (λ y. y ≡ shape_of c) (sem_of t) keeps defined single.shapes x valid).1 is)

  meant-constant : (t : Ty) (at : Place) (old new : State) → gives_meaning (meaning.Constant t) at old (Gives tt) new
      → (c : Constant) × HasExactly old.atoms t.sem (λ x. x ≡ shape_of c) × Makes 0 (StrictMade (form.Constant c) (λ env. IsCopy t) at) old new
  unfolding ◌▷◌ gives_some
  meant-constant t at old new (c, a, (only, first), makes-it) = (
    c,
    (λ x valid. only x),
    between 0 (StrictMade (form.Constant c) (λ env. IsCopy t) at) old a new new (as-same old a first)
        (made 0 (StrictMade (form.Constant c) (λ env. IsCopy t) at) tt a new makes-it) (as-same new new refl),
  )

  meaning-typed : (m : Meaning) (at : Place) (site : Site) (q : QualifiedName) (old new : State) → IsBefore env new → gives_meaning m at old (Gives tt) new
      → meaning_named names site.scope q ≡ Ok m → AreNamed env names place → Typed 0 old new
  meaning-typed (meaning.TypeName t) at site q old new after met is named = absurd (never _ at old new met)
  meaning-typed (meaning.Constant t) at site q old new after met is named =
      let (c, only, makes-it) = meant-constant t at old new met in
      value-typed (form.Constant c) (Const c) (λ env. IsCopy t) (λ x. x ≡ shape_of c) at old new after makes-it refl (λ u has. (refl, has))
      (λ u copy defined keeps x valid is. (keeps.shapes (sem_of u) defined x).0 (copy-in old.atoms x t u.value copy ((only x valid).1 is)))
  meaning-typed (meaning.Variable number final t) at site q old new after met is named =
      value-typed (form.Variable number) (LoadModule number) (λ env. IsCopy t) (λ x. In env x t.sem) at old new after (made 0 _ tt old new met) refl
      (λ u has. (refl, held u has (slice_get place.variables number) (named.variables site.scope q number final t is)))
      (λ u copy defined keeps x valid i. copy-in env x t u.value copy i)
    where
      held : (u : SemType) → ResultHas env (Some u) (λ x. In env x t.sem) → (o : Option SemType) → IsSomeAnd o (λ s. Sub env s t.sem)
          → IsSomeAnd o (λ s. ResultHas env (Some u) (λ x. In env x s))
      held u has (Some s) under = λ x valid i. has x valid (under x valid i)
      held u has None under = absurd under
  meaning-typed (meaning.Function f) at site q old new after met is named =
      value-typed (form.FunctionName f.unit) (MakeFunction f.unit 0) (λ env t. t ≡ plain (Atom f.arrow)) (λ x. In env x (Atom f.arrow)) at old new after (made 0 _ tt old new met) refl
      (λ u has. (refl, held u has (slice_get place.units f.unit) (named.functions site.scope q f is)))
      (λ u same defined keeps x valid i. subst (λ (t : Ty). In env x t.sem) (sym same) i)
    where
      held : (u : SemType) → ResultHas env (Some u) (λ x. In env x (Atom f.arrow)) → (o : Option UnitSignature) → IsSomeAnd o (IsUnitOf env f)
          → IsSomeAnd o (λ s. AreBelow env [] s.captured × ResultHas env (Some u) (λ x. In env x (Atom s.arrow)))
      held u has (Some s) unit = (
        subst (λ ts. AreBelow env [] ts) (sym unit.captured) tt,
        (λ x valid i. has x valid (subst (λ n. In env x (Atom n)) unit.arrow i)),
      )
      held u has None unit = absurd unit

  pub seen-typed : (seen : Seen) (at : Place) (site : Site) (q : QualifiedName) (old new : State) → IsBefore env new → gives_seen seen at old (Gives tt) new
      → StandsFor names site place q seen → AreNamed env names place → Typed 0 old new
  seen-typed (SeenVariable v) at site q old new after met is named = variable-typed v at old new met is
  seen-typed (SeenWorker w) at site q old new after met is named = absurd (never _ at old new met)
  seen-typed (SeenConstant c) at site q old new after met is named = constant-typed c at old new after met
  seen-typed (SeenLibrary call) at site q old new after met is named = absurd (never _ at old new met)
  seen-typed (SeenMeaning m) at site q old new after met is named = meaning-typed m at site q old new after met is named
  seen-typed (SeenNothing code) at site q old new after met is named = absurd (never code at old new met)

  named-opened : (q : QualifiedName) (old new : State) → gives_named names q old (Gives tt) new
      → (u : UnitAtWork) × IsLast old.units u × gives_seen (seen_as names old.site u.flow.variables q) q.at old (Gives tt) new
  unfolding ◌▷◌ gives_some
  named-opened q old new (seen, b, (u, a, (last, first), (is, second)), met) =
      let one : a ≡ old = first in let two : b ≡ old = second ∙ one in
      let seen-is : seen ≡ seen_as names old.site u.flow.variables q = is ∙ ap (λ (s : State). seen_as names s.site u.flow.variables q) one in (
        u,
        last,
        subst (λ (x : Seen). gives_seen x q.at old (Gives tt) new) seen-is (subst (λ (s : State). gives_seen seen q.at s (Gives tt) new) two met),
      )

  pub name-is-typed : NameIsTyped passes names env place
  name-is-typed q old new after met stored named =
      let (u, last, seen) = named-opened q old new met in
      let same : stored.unit ≡ u = last-same old.units stored.unit u stored.at_hand last in
      let all : All (IsStored place) u.flow.variables = subst (λ (v : UnitAtWork). All (IsStored place) v.flow.variables) same stored.variables in
      seen-typed (seen_as names old.site u.flow.variables q) q.at old.site q old new after seen (seen-stands names old.site place q u.flow.variables all) named
