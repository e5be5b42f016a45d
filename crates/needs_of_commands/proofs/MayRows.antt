-- All needs of operations may be asked about, row by row.
use Rattle.std.proofs.Common.{◌≡◌, ◌<◌, ◌+◌, ◌==◌, ℕ, zero, suc, Bool, List, [], ◌∷◌, Option, Some, None, All, IfSome, ap, length, option_map, refl, slice_get, subst}
use Rattle.std.specs.Prelude.{not, unwrap_or, ⊤}
use Rattle.std.proofs.lemmas.List.Elements.{All-head, All-tail}
use Rattle.std.proofs.lemmas.Option.{get_or_from_slice_get, slice_get_within}
use Rattle.type_model.specs.declared.answers.Keys.TheVariants.{AnyField, AnyIndex, Field, Results}
use Rattle.type_model.specs.declared.atoms.AtomDef.{AtomDef}
use Rattle.type_model.specs.declared.atoms.AtomDef.TheVariants.{List as ListAtom, Mapping as MappingAtom}
use Rattle.type_model.specs.declared.atoms.FieldDef.{FieldDef}
use Rattle.type_model.specs.declared.basic.SemType.{SemType, Atom}
use Rattle.type_model.specs.declared.basic.Ty.{Ty}
use Rattle.type_model.specs.Defined.{DefBelow, IsClosed, IsDefined, TyBelow}
use Rattle.type_model.specs.Places.{HasDistinctFields, item_type, or_rest}
use Rattle.operations.specs.declared.library.LibraryCall.{LibraryCall}
use Rattle.operations.specs.declared.library.LibraryCall.TheVariants as call
use Rattle.operations.specs.declared.operation.Operation.{Operation}
use Rattle.operations.specs.declared.operation.Operation.TheVariants as op
use Rattle.operations.specs.Rows.{Signature, Surroundings}
use Rattle.code_needs.specs.Combining.{Needs, ◌&◌, at_most, need, none, of_list, of_mapping, of_some, only_if, test}
use Rattle.code_needs.specs.declared.kind.Kind.{Kind}
use Rattle.code_needs.specs.declared.kind.Kind.TheVariants.{Anydata, Booleans, Details, Errors, Functions, Futures, ImmutableData, Integers, IntegersOrErrors, Lists, Mappings, MappingsOrNils, Nils, NilsOrErrors, Sendable, Strings}
use Rattle.code_needs.specs.Needs.{Applies, Below, FitsFields, Gives, GivesFuture, Has, HasBoth, HasConstant, HasErrorsOf, HasField, HasMade, ItemHas, ItemIn, MemberHas, MemberIn, Names, Need, Ordered, PartHas, PartIn}
use Rattle.code_needs.specs.RowNeeds.{awaits, below_each, calls_unit, calls_value, gives_future, has_members, has_parts, held_by, in_order, items_fit, library_needs, makes_list, makes_none, may_stand, names_required, on_ints, on_strings, on_text, part_of, prompted, reads, row_needs, some_name, what_pairs_need, within, writes}
use Rattle.needs_of_commands.proofs.MayAsk.{AllDefined, May, MayBeGiven, PairDefined, may-absent, may-as_many, may-as_many_as, may-at_most, may-each, may-fail, may-first, may-four, may-given, may-has, may-has_all, may-list, may-mapping, may-need, may-none, may-nothing, may-one, may-only_if, may-pair, may-pairs, may-some, may-then, may-three, may-triple, may-two, may-within, may-zip}

-- ---- what is there

there-is : {A : Type 0} (x y : A) → Some x ≡ Some y → x ≡ y
there-is x y e = ap (λ o. unwrap_or o x) e

not-there : {A : Type 0} {B : Type 0} (x : A) → None ≡ Some x → B
not-there x e = absurd (let bad : None ≡ Some x = e in let bot : ⊥ = cc in bot)

pub of-all : {A : Type 0} (P : A → Type 0) (xs : List A) (k : ℕ) (x : A) → All P xs → slice_get xs k ≡ Some x → P x
of-all P xs k x h e = subst P (get_or_from_slice_get xs k x x e) (h k x (slice_get_within xs k x e))

pub of-option : {A : Type 0} (P : A → Type 0) (o : Option A) (x : A) → IfSome o P → o ≡ Some x → P x
of-option P (Some y) x h e = subst P (there-is y x e) h
of-option P None x h e = not-there x e

pub some-of : {A : Type 0} (P : A → Type 0) (xs : List A) (k : ℕ) → All P xs → IfSome (slice_get xs k) P
some-of P [] k h = tt
some-of P (x ∷ xs) zero h = All-head P x xs h
some-of P (x ∷ xs) (suc k) h = some-of P xs k (All-tail P x xs h)

module _ (env : List AtomDef) (closed : IsClosed env) (distinct : All HasDistinctFields env) where
  abbrev D : SemType → Type 0
  D = IsDefined env

  -- ---- definitions

  or-rest-below : (o rest : Option Ty) (t : Ty) → IfSome o (TyBelow (length env)) → IfSome rest (TyBelow (length env)) → or_rest o rest ≡ Some t → D t.sem
  or-rest-below (Some s) rest t h g e = (of-option (TyBelow (length env)) (Some s) t h e).0
  or-rest-below None rest t h g e = (of-option (TyBelow (length env)) rest t g e).0

  item-defined : (fixed : List Ty) (rest : Option Ty) (k : ℕ) (t : Ty) → DefBelow (length env) (ListAtom fixed rest) → item_type fixed rest k ≡ Some t → D t.sem
  item-defined fixed rest k t d e = or-rest-below (slice_get fixed k) rest t (some-of (TyBelow (length env)) fixed k d.0) d.1 e

  fields-defined : (fields : List FieldDef) → All (λ f. TyBelow (length env) f.ty) fields → All (λ f. D f.ty.sem) fields
  fields-defined fields h k f lt = (h k f lt).0

  rest-defined : (rest : Option Ty) → IfSome rest (TyBelow (length env)) → IfSome rest (λ t. D t.sem)
  rest-defined (Some t) h = h.0
  rest-defined None h = tt

  defined-at : (n : ℕ) (d : AtomDef) → slice_get env n ≡ Some d → DefBelow (length env) d
  defined-at n d e = of-all (DefBelow (length env)) env n d closed e

  distinct-at : (n : ℕ) (d : AtomDef) → slice_get env n ≡ Some d → HasDistinctFields d
  distinct-at n d e = of-all HasDistinctFields env n d distinct e

  atom-at : (n : ℕ) (d : AtomDef) → slice_get env n ≡ Some d → n < length env
  atom-at n d e = slice_get_within env n d e

  list-atom : (n : ℕ) (f : List Ty → Option Ty → Needs) (ns : List Need) → of_list (slice_get env n) f ≡ Some ns → n < length env
  list-atom n f ns e = by (slice_get env n) refl e
    where
      by : (o : Option AtomDef) → slice_get env n ≡ o → of_list o f ≡ Some ns → n < length env
      by (Some d) at e = atom-at n d at
      by None at e = not-there ns e

  mapping-atom : (n : ℕ) (f : List FieldDef → Option Ty → Needs) (ns : List Need) → of_mapping (slice_get env n) f ≡ Some ns → n < length env
  mapping-atom n f ns e = by (slice_get env n) refl e
    where
      by : (o : Option AtomDef) → slice_get env n ≡ o → of_mapping o f ≡ Some ns → n < length env
      by (Some d) at e = atom-at n d at
      by None at e = not-there ns e

  -- ---- what several rows share

  may-reads : (held result : Option SemType) → MayBeGiven env held → MayBeGiven env result → May env (reads held result)
  may-reads held result h d = may-given env held h (λ t e. may-has_all env result t d e)

  may-writes : (held : Option SemType) (operands : List SemType) (result : Option SemType) → MayBeGiven env held → AllDefined env operands → May env (writes held operands result)
  may-writes held operands result h d =
      may-two env (may-one env operands d (λ v a. may-given env held h (λ t e. may-need env (Below v t) ((a, e), tt)))) (may-absent env result)

  pub may-below : (ss ts : List SemType) → AllDefined env ss → AllDefined env ts → May env (below_each ss ts)
  may-below ss ts c d = may-zip env (λ s t. need (Below s t)) ss ts c d (λ s t a b. may-need env (Below s t) ((a, b), tt))

  may-on_ints : (operands : List SemType) (kind : Kind) (result : Option SemType) → AllDefined env operands → MayBeGiven env result → May env (on_ints operands kind result)
  may-on_ints operands kind result d e = may-pair env operands d (λ a b x y. may-three env (may-within env a Integers x) (may-within env b Integers y) (may-has env result kind e))

  may-on_strings : (operands : List SemType) (kind : Kind) (result : Option SemType) → AllDefined env operands → MayBeGiven env result → May env (on_strings operands kind result)
  may-on_strings operands kind result d e = may-pair env operands d (λ a b x y. may-three env (may-within env a Strings x) (may-within env b Strings y) (may-has env result kind e))

  may-in_order : (operands : List SemType) (result : Option SemType) → AllDefined env operands → MayBeGiven env result → May env (in_order operands result)
  may-in_order operands result d e = may-pair env operands d (λ a b x y. may-two env (may-need env (Ordered a b) ((x, y), tt)) (may-has env result Booleans e))

  -- ---- structures

  may-may_stand : (immutable : Bool) (t : SemType) → D t → May env (may_stand immutable t)
  may-may_stand immutable t d = may-only_if env immutable (may-within env t ImmutableData d)

  may-items : (operands : List SemType) (k : ℕ) (fixed : List Ty) (rest : Option Ty) → DefBelow (length env) (ListAtom fixed rest) → AllDefined env operands → May env (items_fit operands k fixed rest)
  may-items [] k fixed rest b d = may-nothing env
  may-items (s ∷ more) k fixed rest b d =
      may-two env (may-some env (item_type fixed rest k) (λ t e. may-need env (Below s t.sem) ((All-head D s more d, item-defined fixed rest k t b e), tt)))
      (may-items more (k + 1) fixed rest b (All-tail D s more d))

  keys-defined : (pairs : List (SemType × SemType)) → All (PairDefined env) pairs → All (λ p. D p.0) pairs
  keys-defined pairs h k p lt = (h k p lt).0

  may-names : (fields : List FieldDef) (pairs : List (SemType × SemType)) → All (λ f. D f.ty.sem) fields → All (PairDefined env) pairs → May env (names_required fields pairs)
  may-names fields pairs f d =
      may-each env (λ f. D f.ty.sem) (λ f. only_if (not f.optional) (need (Names pairs f.name))) fields f
      (λ f e. may-only_if env (not f.optional) (may-need env (Names pairs f.name) (keys-defined pairs d, tt)))

  may-pairs_need : (fields : List FieldDef) (rest : Option Ty) (pairs : List (SemType × SemType)) → DefBelow (length env) (MappingAtom fields rest) → HasDistinctFields (MappingAtom fields rest) → All (PairDefined env) pairs
      → May env (what_pairs_need fields rest pairs)
  may-pairs_need fields rest pairs b own d =
      let fs = fields-defined fields b.0 in
      may-two env
      (may-each env (PairDefined env) (λ p. need (FitsFields fields rest p)) pairs d (λ p e. may-need env (FitsFields fields rest p) ((e.0, e.1, rest-defined rest b.1, fs), own)))
      (may-names fields pairs fs d)

  -- ---- the library

  may-makes_none : {x : Needs} (atom : Option ℕ) → May env x → May env (makes_none atom x)
  may-makes_none atom h = may-two env (may-absent env atom) h

  may-makes_list : (items : SemType → Needs) (atom : Option ℕ) (result : Option SemType) → MayBeGiven env result → ((t : SemType) → D t → May env (items t)) → May env (makes_list env atom items result)
  may-makes_list items atom result d h =
      may-some env atom (λ a e.
      may-then env (of_list (slice_get env a) (λ fixed rest. none fixed & of_some rest (λ t. items t.sem)))
      (may-list env (slice_get env a) (λ fixed rest f. may-two env (may-none env fixed) (may-some env rest (λ t k. h t.sem (of-option (TyBelow (length env)) rest t (defined-at a (ListAtom fixed rest) f).1 k).0))))
      (λ ns f. may-has_all env result (Atom a) d (list-atom a (λ fixed rest. none fixed & of_some rest (λ t. items t.sem)) ns f)))

  may-parts : (l : SemType) (result : Option SemType) → D l → MayBeGiven env result → May env (has_parts l result)
  may-parts l result a d = may-given env result d (λ r e. may-need env (PartIn l AnyIndex r) ((a, e), tt))

  may-members : (m : SemType) (result : Option SemType) → D m → MayBeGiven env result → May env (has_members m result)
  may-members m result a d = may-given env result d (λ r e. may-need env (PartIn m AnyField r) ((a, e), tt))

  may-part_of : (whole : Kind) (operands : List SemType) → AllDefined env operands → May env (part_of whole operands)
  may-part_of whole (a ∷ from ∷ []) d =
      may-two env (may-within env a whole (All-head D a (from ∷ []) d)) (may-within env from Integers (All-head D from [] (All-tail D a (from ∷ []) d)))
  may-part_of whole (a ∷ from ∷ to ∷ []) d =
      let more = All-tail D a (from ∷ to ∷ []) d in
      may-three env (may-within env a whole (All-head D a (from ∷ to ∷ []) d)) (may-within env from Integers (All-head D from (to ∷ []) more))
      (may-within env to Integers (All-head D to [] (All-tail D from (to ∷ []) more)))
  may-part_of whole [] d = may-fail env
  may-part_of whole (a ∷ []) d = may-fail env
  may-part_of whole (a ∷ from ∷ to ∷ b ∷ more) d = may-fail env

  may-prompted : (operands : List SemType) → May env (prompted operands)
  may-prompted [] = may-nothing env
  may-prompted (prompt ∷ []) = may-nothing env
  may-prompted (prompt ∷ a ∷ more) = may-fail env

  may-text : (atom : Option ℕ) (operands : List SemType) (kind : Kind) (result : Option SemType) → AllDefined env operands → MayBeGiven env result → May env (on_text atom operands kind result)
  may-text atom operands kind result d g = may-one env operands d (λ s a. may-two env (may-within env s Strings a) (may-makes_none atom (may-has env result kind g)))

  may-library : (c : LibraryCall) (atom : Option ℕ) (operands : List SemType) (result : Option SemType) → AllDefined env operands → MayBeGiven env result → May env (library_needs env c atom operands result)
  may-library call.Println atom operands result d g = may-makes_none atom (may-has env result Nils g)
  may-library call.Print atom operands result d g = may-makes_none atom (may-has env result Nils g)
  may-library call.Readln atom operands result d g = may-two env (may-prompted operands) (may-makes_none atom (may-has env result Strings g))
  may-library call.FromString atom operands result d g = may-text atom operands IntegersOrErrors result d g
  may-library call.Abs atom operands result d g = may-one env operands d (λ n a. may-two env (may-within env n Integers a) (may-makes_none atom (may-has env result Integers g)))
  may-library call.ToString atom operands result d g = may-one env operands d (λ v a. may-makes_none atom (may-has env result Strings g))
  may-library call.Clone atom operands result d g = may-one env operands d (λ v a. may-two env (may-within env v Anydata a) (may-makes_none atom (may-has_all env result v g a)))
  may-library call.CloneReadOnly atom operands result d g = may-one env operands d (λ v a. may-two env (may-within env v Anydata a) (may-makes_none atom (may-has env result ImmutableData g)))
  may-library call.StringLength atom operands result d g = may-text atom operands Integers result d g
  may-library call.StartsWith atom operands result d g =
      may-pair env operands d (λ s t a b. may-three env (may-within env s Strings a) (may-within env t Strings b) (may-makes_none atom (may-has env result Booleans g)))
  may-library call.Trim atom operands result d g = may-text atom operands Strings result d g
  may-library call.Substring atom operands result d g = may-two env (may-part_of Strings operands d) (may-makes_none atom (may-has env result Strings g))
  may-library call.ToUpperAscii atom operands result d g = may-text atom operands Strings result d g
  may-library call.ToLowerAscii atom operands result d g = may-text atom operands Strings result d g
  may-library call.ToCodePointInts atom operands result d g =
      may-one env operands d (λ s a. may-two env (may-within env s Strings a) (may-makes_list (λ t. need (Has t Integers)) atom result g (λ t b. may-need env (Has t Integers) (b, tt))))
  may-library call.ListLength atom operands result d g = may-one env operands d (λ l a. may-two env (may-within env l Lists a) (may-makes_none atom (may-has env result Integers g)))
  may-library call.Push atom operands result d g =
      may-first env operands d (λ l values a vs.
      may-three env (may-within env l Lists a) (may-each env D (λ v. need (PartHas l AnyIndex v)) values vs (λ v b. may-need env (PartHas l AnyIndex v) ((a, b), tt))) (may-makes_none atom (may-has env result Nils g)))
  may-library call.Pop atom operands result d g = may-one env operands d (λ l a. may-two env (may-within env l Lists a) (may-makes_none atom (may-parts l result a g)))
  may-library call.RemoveItem atom operands result d g =
      may-pair env operands d (λ l i a b. may-three env (may-within env l Lists a) (may-within env i Integers b) (may-makes_none atom (may-parts l result a g)))
  may-library call.Slice atom operands result d g =
      may-two env (may-part_of Lists operands d)
      (may-first env operands d (λ l bounds a bs. may-makes_list (λ t. need (PartIn l AnyIndex t)) atom result g (λ t b. may-need env (PartIn l AnyIndex t) ((a, b), tt))))
  may-library call.Reverse atom operands result d g =
      may-one env operands d (λ l a. may-two env (may-within env l Lists a) (may-makes_list (λ t. need (PartIn l AnyIndex t)) atom result g (λ t b. may-need env (PartIn l AnyIndex t) ((a, b), tt))))
  may-library call.MappingLength atom operands result d g = may-one env operands d (λ m a. may-two env (may-within env m Mappings a) (may-makes_none atom (may-has env result Integers g)))
  may-library call.Keys atom operands result d g =
      may-one env operands d (λ m a. may-two env (may-within env m Mappings a) (may-makes_list (λ t. need (Has t Strings)) atom result g (λ t b. may-need env (Has t Strings) (b, tt))))
  may-library call.HasKey atom operands result d g =
      may-pair env operands d (λ m k a b. may-three env (may-within env m Mappings a) (may-within env k Strings b) (may-makes_none atom (may-has env result Booleans g)))
  may-library call.Get atom operands result d g =
      may-pair env operands d (λ m k a b. may-three env (may-within env m Mappings a) (may-within env k Strings b) (may-makes_none atom (may-members m result a g)))
  may-library call.RemoveKey atom operands result d g =
      may-pair env operands d (λ m k a b. may-three env (may-within env m Mappings a) (may-within env k Strings b) (may-makes_none atom (may-members m result a g)))
  may-library call.Message atom operands result d g = may-one env operands d (λ e a. may-two env (may-within env e Errors a) (may-makes_none atom (may-has env result Strings g)))
  may-library call.Cause atom operands result d g = may-one env operands d (λ e a. may-two env (may-within env e Errors a) (may-makes_none atom (may-has env result NilsOrErrors g)))
  may-library call.Detail atom operands result d g = may-one env operands d (λ e a. may-two env (may-within env e Errors a) (may-makes_none atom (may-has env result Details g)))

  -- ---- where an operation stands

  abbrev pub SignatureDefined : Signature → Type 0
  SignatureDefined s = AllDefined env s.params × AllDefined env s.captured × D s.result

  pub record AreKept (place : Surroundings) : Type 0 where
    pub units : All SignatureDefined place.units
    pub variables : AllDefined env place.variables
    pub slots : AllDefined env place.slots
    pub result : D place.result
    pub workers : AllDefined env place.workers

  -- what an operation names beside
  abbrev pub NamesDefined : Surroundings → Operation → Type 0
  NamesDefined place (op.Cast t) = D t
  NamesDefined place (op.MakeFunction unit count) = IfSome (slice_get place.units unit) (λ s. s.arrow < length env)
  NamesDefined place (op.Start unit count) = IfSome (slice_get place.units unit) (λ s. s.future < length env)
  NamesDefined place o = ⊤

  module _ (place : Surroundings) (kept : AreKept place) where
    -- ---- waits

    may-gives_future : (f : SemType) (result : Option SemType) → D f → MayBeGiven env result → May env (gives_future f result)
    may-gives_future f result a g = may-given env result g (λ r e. may-two env (may-need env (PartIn f Results r) ((a, e), tt)) (may-need env (Has r Errors) (e, tt)))

    may-awaits : (held : ℕ → Option SemType) → ((k : ℕ) → MayBeGiven env (held k)) → (k : ℕ) (names : List (Option ℕ)) (operands : List SemType) → AllDefined env operands → May env (awaits place held k names operands)
    may-awaits held h k [] [] d = may-nothing env
    may-awaits held h k [] (t ∷ more) d = may-fail env
    may-awaits held h k (Some w ∷ names) operands d =
        may-two env (may-some env (slice_get place.workers w) (λ t e. may-has_all env (held k) t (h k) (of-all D place.workers w t kept.workers e))) (may-awaits held h (k + 1) names operands d)
    may-awaits held h k (None ∷ names) (t ∷ more) d =
        may-three env (may-within env t Futures (All-head D t more d)) (may-gives_future t (held k) (All-head D t more d) (h k)) (may-awaits held h (k + 1) names more (All-tail D t more d))
    may-awaits held h k (None ∷ names) [] d = may-fail env

    may-some_name : (names : List (Option ℕ)) → May env (some_name names)
    may-some_name [] = may-fail env
    may-some_name (name ∷ names) = may-nothing env

    mapped-given : (o : Option FieldDef) → IfSome o (λ f. D f.ty.sem) → MayBeGiven env (option_map (λ f. f.ty.sem) o)
    mapped-given (Some f) h = h
    mapped-given None h = tt

    held-defined : (fields : List FieldDef) → All (λ f. D f.ty.sem) fields → (k : ℕ) → MayBeGiven env (held_by fields k)
    held-defined fields h k = mapped-given (slice_get fields k) (some-of (λ f. D f.ty.sem) fields k h)

    -- ---- calls

    may-calls_unit : {f : Signature → Needs} (unit count : ℕ) (operands : List SemType) → AllDefined env operands → ((u : Signature) → slice_get place.units unit ≡ Some u → SignatureDefined u → May env (f u)) → May env (calls_unit place unit count operands f)
    may-calls_unit unit count operands d h =
        may-two env (may-as_many env operands count) (may-some env (slice_get place.units unit) (λ u e.
        let s = of-all SignatureDefined place.units unit u kept.units e in
        may-two env (may-below operands u.params d s.0) (h u e s)))

    may-calls_value : {f : SemType → List SemType → Needs} (count : ℕ) (operands : List SemType) → AllDefined env operands → ((g : SemType) (args : List SemType) → D g → AllDefined env args → May env (f g args)) → May env (calls_value count operands f)
    may-calls_value count operands d h =
        may-first env operands d (λ g args a b. may-four env (may-as_many env args count) (may-within env g Functions a) (may-need env (Applies g args) ((a, b), tt)) (h g args a b))

    -- ---- the rows

    pub may-row : (o : Operation) (operands : List SemType) (result : Option SemType) → NamesDefined place o → AllDefined env operands → MayBeGiven env result → May env (row_needs env place o operands result)
    may-row (op.Const c) operands result n d g = may-two env (may-none env operands) (may-given env result g (λ r e. may-need env (HasConstant r c) (e, tt)))
    may-row (op.Load slot) operands result n d g = may-two env (may-none env operands) (may-reads (slice_get place.slots slot) result (some-of D place.slots slot kept.slots) g)
    may-row (op.Store slot) operands result n d g = may-writes (slice_get place.slots slot) operands result (some-of D place.slots slot kept.slots) d
    may-row op.Pop operands result n d g = may-one env operands d (λ v a. may-absent env result)
    may-row (op.LoadModule m) operands result n d g = may-two env (may-none env operands) (may-reads (slice_get place.variables m) result (some-of D place.variables m kept.variables) g)
    may-row (op.StoreModule m) operands result n d g = may-writes (slice_get place.variables m) operands result (some-of D place.variables m kept.variables) d
    may-row op.Tick operands result n d g = may-two env (may-none env operands) (may-absent env result)
    may-row op.Add operands result n d g = may-on_ints operands Integers result d g
    may-row op.Subtract operands result n d g = may-on_ints operands Integers result d g
    may-row op.Multiply operands result n d g = may-on_ints operands Integers result d g
    may-row op.Divide operands result n d g = may-on_ints operands Integers result d g
    may-row op.Remainder operands result n d g = may-on_ints operands Integers result d g
    may-row op.Negate operands result n d g = may-one env operands d (λ a x. may-two env (may-within env a Integers x) (may-has env result Integers g))
    may-row op.Concat operands result n d g = may-on_strings operands Strings result d g
    may-row op.Less operands result n d g = may-in_order operands result d g
    may-row op.LessEqual operands result n d g = may-in_order operands result d g
    may-row op.Not operands result n d g = may-one env operands d (λ a x. may-two env (may-within env a Booleans x) (may-has env result Booleans g))
    may-row op.Equal operands result n d g = may-pair env operands d (λ a b x y. may-three env (may-within env a Anydata x) (may-within env b Anydata y) (may-has env result Booleans g))
    may-row op.Same operands result n d g = may-pair env operands d (λ a b x y. may-has env result Booleans g)
    may-row (op.MakeList atom immutable count) operands result n d g =
        may-two env (may-as_many env operands count)
        (may-then env (of_list (slice_get env atom) (λ fixed rest. at_most fixed count & items_fit operands 0 fixed rest))
        (may-list env (slice_get env atom) (λ fixed rest e. may-two env (may-at_most env fixed count) (may-items operands 0 fixed rest (defined-at atom (ListAtom fixed rest) e) d)))
        (λ ns e. may-two env (may-each env D (may_stand immutable) operands d (λ t a. may-may_stand immutable t a))
        (may-given env result g (λ r f. may-need env (HasMade r atom immutable) ((f, list-atom atom (λ fixed rest. at_most fixed count & items_fit operands 0 fixed rest) ns e), tt)))))
    may-row (op.MakeMapping atom immutable count) operands result n d g =
        may-pairs env count operands _ d (λ pairs ps.
        may-two env (may-each env (PairDefined env) (λ p. within p.0 Strings) pairs ps (λ p e. may-within env p.0 Strings e.0))
        (may-then env (of_mapping (slice_get env atom) (λ fields rest. what_pairs_need fields rest pairs))
        (may-mapping env (slice_get env atom) (λ fields rest e. may-pairs_need fields rest pairs (defined-at atom (MappingAtom fields rest) e) (distinct-at atom (MappingAtom fields rest) e) ps))
        (λ ns e. may-two env (may-each env (PairDefined env) (λ p. may_stand immutable p.1) pairs ps (λ p f. may-may_stand immutable p.1 f.1))
        (may-given env result g (λ r f. may-need env (HasMade r atom immutable) ((f, mapping-atom atom (λ fields rest. what_pairs_need fields rest pairs) ns e), tt))))))
    may-row (op.MakeError count) operands result n d g =
        may-first env operands d (λ message behind a bs. may-first env behind bs (λ cause details b ds. may-pairs env count details _ ds (λ pairs ps.
        may-four env (may-within env message Strings a) (may-within env cause NilsOrErrors b)
        (may-each env (PairDefined env) (λ p. within p.0 Strings & within p.1 ImmutableData) pairs ps (λ p e. may-two env (may-within env p.0 Strings e.0) (may-within env p.1 ImmutableData e.1)))
        (may-given env result g (λ r e. may-need env (HasErrorsOf r pairs) ((e, ps), tt))))))
    may-row (op.MakeFunction unit count) operands result n d g =
        may-two env (may-as_many env operands count) (may-some env (slice_get place.units unit) (λ u e.
        may-two env (may-below operands u.captured d (of-all SignatureDefined place.units unit u kept.units e).1)
        (may-has_all env result (Atom u.arrow) g (of-option (λ s. s.arrow < length env) (slice_get place.units unit) u n e))))
    may-row op.GetItem operands result n d g =
        may-pair env operands d (λ l i a b. may-three env (may-within env l Lists a) (may-within env i Integers b) (may-given env result g (λ r e. may-need env (ItemIn l i r) ((a, b, e), tt))))
    may-row op.GetKey operands result n d g =
        may-pair env operands d (λ m k a b. may-three env (may-within env m Mappings a) (may-within env k Strings b)
        (may-given env result g (λ r e. may-two env (may-need env (MemberIn m k r) ((a, b, e), tt)) (may-need env (Has r Nils) (e, tt)))))
    may-row op.GetChar operands result n d g = may-pair env operands d (λ s i a b. may-three env (may-within env s Strings a) (may-within env i Integers b) (may-has env result Strings g))
    may-row (op.GetField name) operands result n d g =
        may-one env operands d (λ m a. may-two env (may-need env (HasField m name) (a, tt)) (may-given env result g (λ r e. may-need env (PartIn m (Field name) r) ((a, e), tt))))
    may-row (op.GetOptional name) operands result n d g =
        may-one env operands d (λ m a. may-two env (may-within env m MappingsOrNils a)
        (may-given env result g (λ r e. may-two env (may-need env (PartIn m (Field name) r) ((a, e), tt)) (may-need env (Has r Nils) (e, tt)))))
    may-row op.SetItem operands result n d g =
        may-two env (may-triple env operands d (λ l i v a b c. may-three env (may-within env l Lists a) (may-within env i Integers b) (may-need env (ItemHas l i v) ((a, b, c), tt)))) (may-absent env result)
    may-row op.SetKey operands result n d g =
        may-two env (may-triple env operands d (λ m k v a b c. may-three env (may-within env m Mappings a) (may-within env k Strings b) (may-need env (MemberHas m k v) ((a, b, c), tt)))) (may-absent env result)
    may-row (op.Test t) operands result n d g = may-one env operands d (λ v a. may-has env result Booleans g)
    may-row (op.Cast t) operands result n d g = may-one env operands d (λ v a. may-given env result g (λ r e. may-need env (HasBoth r v t) ((e, a, n), tt)))
    may-row (op.Call unit count) operands result n d g = may-calls_unit unit count operands d (λ u e s. may-has_all env result u.result g s.2)
    may-row (op.CallValue count) operands result n d g =
        may-calls_value count operands d (λ f args a b. may-given env result g (λ r e. may-need env (Gives f args r) ((a, e, b), tt)))
    may-row (op.Library call atom count) operands result n d g = may-two env (may-as_many env operands count) (may-library call atom operands result d g)
    may-row op.Return operands result n d g = may-two env (may-one env operands d (λ v a. may-need env (Below v place.result) ((a, kept.result), tt))) (may-absent env result)
    may-row op.Panic operands result n d g = may-two env (may-one env operands d (λ e a. may-within env e Errors a)) (may-absent env result)
    may-row (op.Start unit count) operands result n d g =
        may-calls_unit unit count operands d (λ u e s. may-has_all env result (Atom u.future) g (of-option (λ s. s.future < length env) (slice_get place.units unit) u n e))
    may-row (op.StartValue count) operands result n d g =
        may-calls_value count operands d (λ f args a b. may-given env result g (λ r e. may-need env (GivesFuture f args r) ((a, e, b), tt)))
    may-row op.Workers operands result n d g = may-two env (may-none env operands) (may-absent env result)
    may-row (op.Send w) operands result n d g = may-one env operands d (λ v a. may-two env (may-within env v Sendable a) (may-has env result Nils g))
    may-row (op.Post w) operands result n d g = may-one env operands d (λ v a. may-two env (may-within env v Sendable a) (may-absent env result))
    may-row (op.Done w) operands result n d g = may-two env (may-none env operands) (may-has env result Nils g)
    may-row (op.Receive w) operands result n d g = may-two env (may-none env operands) (may-given env result g (λ r e. may-nothing env))
    may-row (op.Flush w) operands result n d g = may-two env (may-none env operands) (may-has env result Nils g)
    may-row (op.WaitWorker w) operands result n d g = may-two env (may-none env operands) (may-reads (slice_get place.workers w) result (some-of D place.workers w kept.workers) g)
    may-row op.WaitFuture operands result n d g = may-one env operands d (λ f a. may-two env (may-within env f Futures a) (may-gives_future f result a g))
    may-row (op.WaitAny names) operands result n d g = may-two env (may-some_name names) (may-awaits (λ k. result) (λ k. g) 0 names operands d)
    may-row (op.WaitAll atom names) operands result n d g =
        may-then env (of_mapping (slice_get env atom) (λ fields rest. test (length names == length fields) & awaits place (held_by fields) 0 names operands))
        (may-mapping env (slice_get env atom) (λ fields rest e.
        may-two env (may-as_many_as env names fields) (may-awaits (held_by fields) (held-defined fields (fields-defined fields (defined-at atom (MappingAtom fields rest) e).0)) 0 names operands d)))
        (λ ns e. may-has_all env result (Atom atom) g (mapping-atom atom (λ fields rest. test (length names == length fields) & awaits place (held_by fields) 0 names operands) ns e))
