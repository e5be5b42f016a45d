-- Each operation is typed exactly where its needs are met: a line for each.
use Rattle.std.proofs.Common.{◌⊎◌, ℕ, ◌+◌, Bool, List, [], ◌∷◌, Option, Some, None, inl, inr, refl}
use Rattle.std.specs.Prelude.{All, IsSome, IsSomeAnd, option_map, slice_get}
use Rattle.bal_base.specs.declared.shape.Shape.{Shape}
use Rattle.type_model.specs.declared.answers.Keys.TheVariants.{Field, Results}
use Rattle.type_model.specs.declared.atoms.AtomDef.{AtomDef}
use Rattle.type_model.specs.declared.atoms.FieldDef.{FieldDef}
use Rattle.type_model.specs.declared.basic.SemType.{SemType, Atom}
use Rattle.type_model.specs.declared.basic.Ty.{Ty}
use Rattle.type_model.specs.Membership.{In}
use Rattle.type_model.specs.Places.{item_type}
use Rattle.operations.specs.declared.operation.Operation.{Operation}
use Rattle.operations.specs.declared.operation.Operation.TheVariants as op
use Rattle.operations.specs.Kinds.{IsBoolean}
use Rattle.operations.specs.Rows.{AreBelow, IsWithin, ResultHas, Signature, Surroundings}
use Rattle.operations.specs.Structures.{AwaitsAny, AwaitsEach, GivenByFuture, GivenByWorker, ItemsFit, MayStandIn, MemberFits, NamesRequired}
use Rattle.operations.specs.Typing.{CallsUnit, CallsValue, OnInts, OnStrings, OpTyped, Reads, Writes}
use Rattle.code_needs.specs.Combining.{Needs, ◌&◌, need, nothing, of_some}
use Rattle.code_needs.specs.Laws.{NeedsDecideRows}
use Rattle.code_needs.specs.declared.kind.Kind.{Kind}
use Rattle.code_needs.specs.declared.kind.Kind.TheVariants.{Anydata, Booleans, Errors, Functions, Futures, ImmutableData, Integers, Lists, Mappings, MappingsOrNils, Nils, NilsOrErrors, Sendable, Strings}
use Rattle.code_needs.specs.Needs.{Applies, AreOrdered, Below, FitsFields, Gives, GivesFuture, Has, HasBoth, HasConstant, HasErrorsOf, HasField, HasMade, IsOfKind, ItemHas, ItemIn, MemberHas, MemberIn, Names, Ordered, PartIn}
use Rattle.code_needs.specs.RowNeeds.{awaits, below_each, calls_unit, calls_value, gives_future, has_all, held_by, in_order, items_fit, may_stand, names_required, on_ints, on_strings, reads, row_needs, some_name, what_pairs_need, writes}
use Rattle.code_needs.proofs.Combined.{Decided, and-four, and-three, and-two, as-pair, met-absent, met-as_many, met-as_many_as, met-at_most, met-each, met-each_zip, met-either, met-given, met-list, met-mapping, met-need, met-none, met-nothing, met-one, met-one_and_more, met-only_if, met-pairs, met-some, met-three, met-two, met-unless, never, untrue, otherwise}
use Rattle.code_needs.proofs.LibraryRows.{met-library, neither}
use Rattle.code_needs.proofs.Words.{met-has, met-has_all, met-within}

module _ (env : List AtomDef) where
  -- ---- what several rows share

  met-reads : (place : Surroundings) (held result : Option SemType) → Decided env (Reads env place held result) (reads held result)
  met-reads place held result = met-some env held (λ t. met-has_all env result t)

  met-writes : (place : Surroundings) (held : Option SemType) (operands : List SemType) (result : Option SemType) → Decided env (Writes env place held operands result) (writes held operands result)
  met-writes place held operands result = and-two env (met-one env operands (λ v. met-some env held (λ t. met-need env (Below v t)))) (met-absent env result)

  pub met-below : (ss ts : List SemType) → Decided env (AreBelow env ss ts) (below_each ss ts)
  met-below ss ts = met-each_zip env (λ s t. IsWithin env (λ x. In env x t) s) (λ s t. need (Below s t)) ss ts (λ s t. met-need env (Below s t))

  met-on_ints : (place : Surroundings) (operands : List SemType) (kind : Kind) (result : Option SemType) → Decided env (OnInts env place operands (IsOfKind kind) result) (on_ints operands kind result)
  met-on_ints place operands kind result = met-two env operands (λ a b. and-three env (met-within env a Integers) (met-within env b Integers) (met-has env result kind))

  met-on_strings : (place : Surroundings) (operands : List SemType) (kind : Kind) (result : Option SemType) → Decided env (OnStrings env place operands (IsOfKind kind) result) (on_strings operands kind result)
  met-on_strings place operands kind result = met-two env operands (λ a b. and-three env (met-within env a Strings) (met-within env b Strings) (met-has env result kind))

  met-in_order : (place : Surroundings) (operands : List SemType) (result : Option SemType) → Decided env (OnInts env place operands IsBoolean result ⊎ OnStrings env place operands IsBoolean result) (in_order operands result)
  met-in_order place (a ∷ b ∷ []) result = otherwise env parts whole (and-two env (met-need env (Ordered a b)) (met-has env result Booleans))
    where
      parts : OnInts env place (a ∷ b ∷ []) IsBoolean result ⊎ OnStrings env place (a ∷ b ∷ []) IsBoolean result → AreOrdered env a b × ResultHas env result IsBoolean
      parts (inl h) = (inl (h.0, h.1), h.2)
      parts (inr h) = (inr (h.0, h.1), h.2)

      whole : AreOrdered env a b × ResultHas env result IsBoolean → OnInts env place (a ∷ b ∷ []) IsBoolean result ⊎ OnStrings env place (a ∷ b ∷ []) IsBoolean result
      whole (inl h, r) = inl (h.0, h.1, r)
      whole (inr h, r) = inr (h.0, h.1, r)
  met-in_order place [] result = never env neither
  met-in_order place (a ∷ []) result = never env neither
  met-in_order place (a ∷ b ∷ c ∷ more) result = never env neither

  -- ---- structures

  met-may_stand : (immutable : Bool) (t : SemType) → Decided env (MayStandIn env immutable t) (may_stand immutable t)
  met-may_stand immutable t = met-only_if env immutable (met-within env t ImmutableData)

  met-items : (operands : List SemType) (k : ℕ) (fixed : List Ty) (rest : Option Ty) → Decided env (ItemsFit env operands k fixed rest) (items_fit operands k fixed rest)
  met-items [] k fixed rest = met-nothing env
  met-items (s ∷ more) k fixed rest = and-two env (met-some env (item_type fixed rest k) (λ t. met-need env (Below s t.sem))) (met-items more (k + 1) fixed rest)

  met-names : (fields : List FieldDef) (pairs : List (SemType × SemType)) → Decided env (NamesRequired env fields pairs) (names_required fields pairs)
  met-names fields pairs = met-each env _ _ fields (λ f. met-unless env f.optional (met-need env (Names pairs f.name)))

  met-pairs_need : (fields : List FieldDef) (rest : Option Ty) (pairs : List (SemType × SemType)) → Decided env (All (MemberFits env fields rest) pairs × NamesRequired env fields pairs) (what_pairs_need fields rest pairs)
  met-pairs_need fields rest pairs = and-two env (met-each env _ _ pairs (λ p. met-need env (FitsFields fields rest p))) (met-names fields pairs)

  -- ---- waits

  met-gives_future : (f : SemType) (result : Option SemType) → Decided env (ResultHas env result (GivenByFuture env f)) (gives_future f result)
  met-gives_future f result = met-given env result (λ r. met-either env r (met-need env (PartIn f Results r)) (met-need env (Has r Errors)))

  met-worker : (worker result : Option SemType) → Decided env (IsSome worker × ResultHas env result (λ x. IsSomeAnd worker (λ t. In env x t))) (of_some worker (λ t. has_all result t))
  met-worker (Some t) result = otherwise env (λ h. h.1) (λ h. (refl, h)) (met-has_all env result t)
  met-worker None result = never env (λ h. untrue h.0)

  module _ (place : Surroundings) (of_each : ℕ → (Shape → Type 0) → Type 0) (held : ℕ → Option SemType) (to : (k : ℕ) (P : Shape → Type 0) → of_each k P → ResultHas env (held k) P) (from : (k : ℕ) (P : Shape → Type 0) → ResultHas env (held k) P → of_each k P) where
    met-awaits : (k : ℕ) (names : List (Option ℕ)) (operands : List SemType) → Decided env (AwaitsEach env place of_each k names operands) (awaits place held k names operands)
    met-awaits k [] [] = met-nothing env
    met-awaits k [] (t ∷ more) = never env (λ h. h)
    met-awaits k (Some w ∷ names) operands =
        otherwise env (λ h. ((h.0, to k (GivenByWorker env place w) h.1), h.2)) (λ h. (h.0.0, from k (GivenByWorker env place w) h.0.1, h.1))
        (and-two env (met-worker (slice_get place.workers w) (held k)) (met-awaits (k + 1) names operands))
    met-awaits k (None ∷ names) (t ∷ more) =
        otherwise env (λ h. (h.0, to k (GivenByFuture env t) h.1, h.2)) (λ h. (h.0, from k (GivenByFuture env t) h.1, h.2))
        (and-three env (met-within env t Futures) (met-gives_future t (held k)) (met-awaits (k + 1) names more))
    met-awaits k (None ∷ names) [] = never env (λ h. h)

  met-any : (place : Surroundings) (names : List (Option ℕ)) (operands : List SemType) (result : Option SemType) → Decided env (AwaitsAny env place names operands result) (some_name names & awaits place (λ k. result) 0 names operands)
  met-any place [] operands result = never env (λ h. h)
  met-any place (name ∷ names) operands result =
      otherwise env (λ h. (tt, h)) (λ h. h.1) (and-two env (met-nothing env) (met-awaits place (λ k P. ResultHas env result P) (λ k. result) (λ k P h. h) (λ k P h. h) 0 (name ∷ names) operands))

  into : (o : Option FieldDef) (P : Shape → Type 0) → IsSomeAnd o (λ f. ResultHas env (Some f.ty.sem) P) → ResultHas env (option_map (λ f. f.ty.sem) o) P
  into (Some f) P h = h
  into None P h = h

  out-of : (o : Option FieldDef) (P : Shape → Type 0) → ResultHas env (option_map (λ f. f.ty.sem) o) P → IsSomeAnd o (λ f. ResultHas env (Some f.ty.sem) P)
  out-of (Some f) P h = h
  out-of None P h = h

  met-all : (place : Surroundings) (fields : List FieldDef) (names : List (Option ℕ)) (operands : List SemType) → Decided env (AwaitsEach env place (λ k P. IsSomeAnd (slice_get fields k) (λ f. ResultHas env (Some f.ty.sem) P)) 0 names operands) (awaits place (held_by fields) 0 names operands)
  met-all place fields names operands =
      met-awaits place (λ k P. IsSomeAnd (slice_get fields k) (λ f. ResultHas env (Some f.ty.sem) P)) (held_by fields) (λ k P h. into (slice_get fields k) P h) (λ k P h. out-of (slice_get fields k) P h) 0 names operands

  -- ---- calls

  met-calls_unit : (place : Surroundings) (unit count : ℕ) (operands : List SemType) {P : Signature → Type 0} {f : Signature → Needs} → ((u : Signature) → Decided env (P u) (f u)) → Decided env (CallsUnit env place unit count operands P) (calls_unit place unit count operands f)
  met-calls_unit place unit count operands d = and-two env (met-as_many env operands count) (met-some env (slice_get place.units unit) (λ u. and-two env (met-below operands u.params) (d u)))

  met-calls_value : (place : Surroundings) (count : ℕ) (operands : List SemType) {P : SemType → List SemType → Type 0} {f : SemType → List SemType → Needs} → ((g : SemType) (args : List SemType) → Decided env (P g args) (f g args)) → Decided env (CallsValue env place count operands P) (calls_value count operands f)
  met-calls_value place count operands d =
      met-one_and_more env operands (λ g args. and-four env (met-as_many env args count) (met-within env g Functions) (met-need env (Applies g args)) (d g args))

  -- ---- the rows

  module _ (place : Surroundings) where
    pub met-row : (o : Operation) (operands : List SemType) (result : Option SemType) → Decided env (OpTyped env place o operands result) (row_needs env place o operands result)
    met-row (op.Const c) operands result = and-two env (met-none env operands) (met-given env result (λ r. met-need env (HasConstant r c)))
    met-row (op.Load slot) operands result = and-two env (met-none env operands) (met-reads place (slice_get place.slots slot) result)
    met-row (op.Store slot) operands result = met-writes place (slice_get place.slots slot) operands result
    met-row op.Pop operands result = met-one env operands (λ v. met-absent env result)
    met-row (op.LoadModule m) operands result = and-two env (met-none env operands) (met-reads place (slice_get place.variables m) result)
    met-row (op.StoreModule m) operands result = met-writes place (slice_get place.variables m) operands result
    met-row op.Tick operands result = and-two env (met-none env operands) (met-absent env result)
    met-row op.Add operands result = met-on_ints place operands Integers result
    met-row op.Subtract operands result = met-on_ints place operands Integers result
    met-row op.Multiply operands result = met-on_ints place operands Integers result
    met-row op.Divide operands result = met-on_ints place operands Integers result
    met-row op.Remainder operands result = met-on_ints place operands Integers result
    met-row op.Negate operands result = met-one env operands (λ a. and-two env (met-within env a Integers) (met-has env result Integers))
    met-row op.Concat operands result = met-on_strings place operands Strings result
    met-row op.Less operands result = met-in_order place operands result
    met-row op.LessEqual operands result = met-in_order place operands result
    met-row op.Not operands result = met-one env operands (λ a. and-two env (met-within env a Booleans) (met-has env result Booleans))
    met-row op.Equal operands result = met-two env operands (λ a b. and-three env (met-within env a Anydata) (met-within env b Anydata) (met-has env result Booleans))
    met-row op.Same operands result = met-two env operands (λ a b. met-has env result Booleans)
    met-row (op.MakeList atom immutable count) operands result =
        and-four env (met-as_many env operands count) (met-list env (slice_get env atom) (λ fixed rest. and-two env (met-at_most env fixed count) (met-items operands 0 fixed rest)))
        (met-each env _ _ operands (λ t. met-may_stand immutable t)) (met-given env result (λ r. met-need env (HasMade r atom immutable)))
    met-row (op.MakeMapping atom immutable count) operands result =
        met-pairs env count operands _ _ (λ pairs. and-four env (met-each env _ _ pairs (λ p. met-within env p.0 Strings)) (met-mapping env (slice_get env atom) (λ fields rest. met-pairs_need fields rest pairs))
        (met-each env _ _ pairs (λ p. met-may_stand immutable p.1)) (met-given env result (λ r. met-need env (HasMade r atom immutable))))
    met-row (op.MakeError count) operands result =
        met-one_and_more env operands (λ message behind. met-one_and_more env behind (λ cause details. met-pairs env count details _ _ (λ pairs.
        and-four env (met-within env message Strings) (met-within env cause NilsOrErrors) (met-each env _ _ pairs (λ p. and-two env (met-within env p.0 Strings) (met-within env p.1 ImmutableData)))
        (met-given env result (λ r. met-need env (HasErrorsOf r pairs))))))
    met-row (op.MakeFunction unit count) operands result =
        and-two env (met-as_many env operands count) (met-some env (slice_get place.units unit) (λ u. and-two env (met-below operands u.captured) (met-has_all env result (Atom u.arrow))))
    met-row op.GetItem operands result = met-two env operands (λ l i. and-three env (met-within env l Lists) (met-within env i Integers) (met-given env result (λ r. met-need env (ItemIn l i r))))
    met-row op.GetKey operands result =
        met-two env operands (λ m k. and-three env (met-within env m Mappings) (met-within env k Strings) (met-given env result (λ r. met-either env r (met-need env (MemberIn m k r)) (met-need env (Has r Nils)))))
    met-row op.GetChar operands result = met-two env operands (λ s i. and-three env (met-within env s Strings) (met-within env i Integers) (met-has env result Strings))
    met-row (op.GetField name) operands result = met-one env operands (λ m. and-two env (met-need env (HasField m name)) (met-given env result (λ r. met-need env (PartIn m (Field name) r))))
    met-row (op.GetOptional name) operands result =
        met-one env operands (λ m. and-two env (met-within env m MappingsOrNils) (met-given env result (λ r. met-either env r (met-need env (PartIn m (Field name) r)) (met-need env (Has r Nils)))))
    met-row op.SetItem operands result = and-two env (met-three env operands (λ l i v. and-three env (met-within env l Lists) (met-within env i Integers) (met-need env (ItemHas l i v)))) (met-absent env result)
    met-row op.SetKey operands result = and-two env (met-three env operands (λ m k v. and-three env (met-within env m Mappings) (met-within env k Strings) (met-need env (MemberHas m k v)))) (met-absent env result)
    met-row (op.Test t) operands result = met-one env operands (λ v. met-has env result Booleans)
    met-row (op.Cast t) operands result = met-one env operands (λ v. met-given env result (λ r. met-need env (HasBoth r v t)))
    met-row (op.Call unit count) operands result = met-calls_unit place unit count operands (λ u. met-has_all env result u.result)
    met-row (op.CallValue count) operands result = met-calls_value place count operands (λ f args. met-given env result (λ r. met-need env (Gives f args r)))
    met-row (op.Library call atom count) operands result = and-two env (met-as_many env operands count) (met-library env call atom operands result)
    met-row op.Return operands result = and-two env (met-one env operands (λ v. met-need env (Below v place.result))) (met-absent env result)
    met-row op.Panic operands result = and-two env (met-one env operands (λ e. met-within env e Errors)) (met-absent env result)
    met-row (op.Start unit count) operands result = met-calls_unit place unit count operands (λ u. met-has_all env result (Atom u.future))
    met-row (op.StartValue count) operands result = met-calls_value place count operands (λ f args. met-given env result (λ r. met-need env (GivesFuture f args r)))
    met-row op.Workers operands result = and-two env (met-none env operands) (met-absent env result)
    met-row (op.Send w) operands result = met-one env operands (λ v. and-two env (met-within env v Sendable) (met-has env result Nils))
    met-row (op.Post w) operands result = met-one env operands (λ v. and-two env (met-within env v Sendable) (met-absent env result))
    met-row (op.Done w) operands result = and-two env (met-none env operands) (met-has env result Nils)
    met-row (op.Receive w) operands result = and-two env (met-none env operands) (met-there result)
      where
        met-there : (o : Option SemType) → Decided env (IsSome o) (of_some o (λ r. nothing))
        met-there (Some r) = otherwise env (λ h. tt) (λ h. refl) (met-nothing env)
        met-there None = never env (λ h. untrue h)
    met-row (op.Flush w) operands result = and-two env (met-none env operands) (met-has env result Nils)
    met-row (op.WaitWorker w) operands result =
        otherwise env (λ h. (h.0, (h.1, h.2))) (λ h. (h.0, h.1.0, h.1.1)) (and-two env (met-none env operands) (met-worker (slice_get place.workers w) result))
    met-row op.WaitFuture operands result = met-one env operands (λ f. and-two env (met-within env f Futures) (met-gives_future f result))
    met-row (op.WaitAny names) operands result = met-any place names operands result
    met-row (op.WaitAll atom names) operands result =
        and-two env (met-mapping env (slice_get env atom) (λ fields rest. and-two env (met-as_many_as env names fields) (met-all place fields names operands))) (met-has_all env result (Atom atom))

pub rows-decided : NeedsDecideRows
rows-decided env place o operands result = as-pair env (met-row env place o operands result)
