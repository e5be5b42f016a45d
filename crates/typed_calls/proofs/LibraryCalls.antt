-- Calls of the library, row by row.
use Rattle.std.proofs.Common.{◌≡◌, ◌≤◌, ◌∙◌, ◌++◌, ◌+◌, inl, inr, ℕ, true, false, List, [], ◌∷◌, length, map, All, Option, Some, None, arith, refl, sym, subst, ap}
use Rattle.std.specs.Prelude.{◌⊎◌, slice_get, ⊤}
use Rattle.std.proofs.lemmas.List.{length-map}
use Rattle.std.proofs.lemmas.List.Elements.{All-head}
use Rattle.bal_base.specs.declared.place.Place.{Place}
use Rattle.bal_base.specs.declared.shape.Shape.{Shape, Nil, Bool as BoolShape, Int, Str, List', Mapping', Error', Function, Future'}
use Rattle.bal_base.specs.Valid.{IsValid}
use Rattle.checks.specs.Checks.{Gives, ◌▷◌, gives_some}
use Rattle.checks.specs.Questions.{adds}
use Rattle.descriptors.specs.declared.names.Names.{Names}
use Rattle.descriptors.specs.Described.{IsPlain, plain}
use Rattle.needs.specs.Needs.{asks}
use Rattle.operations.specs.declared.library.LibraryCall.{LibraryCall}
use Rattle.operations.specs.declared.library.LibraryCall.TheVariants.{Println, Print, Readln, FromString, Abs, ToString, Clone, CloneReadOnly, StringLength, StartsWith, Trim, Substring, ToUpperAscii, ToLowerAscii, ToCodePointInts, ListLength, Push, Pop, RemoveItem, Slice, Reverse, MappingLength, Keys, HasKey, Get, RemoveKey, Message, Cause, Detail}
use Rattle.operations.specs.declared.operation.Operation.TheVariants.{Cast, Library}
use Rattle.operations.specs.Kinds.{IsDetail, IsError, IsImmutableData, IsInteger, IsList, IsNil, IsString}
use Rattle.operations.specs.LibraryTyping.{AtIndexes, AtKeys, LibraryTyped, MakesList}
use Rattle.operations.specs.Rows.{NoOperand, One, ResultHas, Surroundings}
use Rattle.type_model.specs.declared.answers.Keys.{Keys as MemberKeys}
use Rattle.type_model.specs.declared.answers.Keys.TheVariants.{AnyField, AnyIndex}
use Rattle.type_model.specs.declared.answers.TypeLimit.{TypeLimit}
use Rattle.type_model.specs.declared.atoms.AtomDef.{AtomDef}
use Rattle.type_model.specs.declared.atoms.AtomDef.TheVariants.{List as ListAtom}
use Rattle.type_model.specs.declared.basic.BasicSet.TheVariants.{Readonly}
use Rattle.type_model.specs.declared.basic.SemType.{SemType, Atom, Basic}
use Rattle.type_model.specs.declared.basic.Ty.{Ty}
use Rattle.type_model.specs.Basic.{InBasic}
use Rattle.type_model.specs.Calls.{Asked, KeepsTypes}
use Rattle.type_model.specs.Defined.{IsDefined}
use Rattle.type_model.specs.Inclusion.{HasExactly}
use Rattle.type_model.specs.Membership.{In}
use Rattle.type_model.specs.Parts.{StandsAt}
use Rattle.type_model.proofs.DefinedLaws.{NamesBelow-more}
use Rattle.typed_tree.specs.declared.expr.TypedExpr.{TypedExpr}
use Rattle.typed_tree.specs.declared.form.StrictForm.TheVariants as form
use Rattle.typed_tree.specs.Exprs.{type_of}
use Rattle.typed_tree.specs.SharedTypes.{Shared, sem_of}
use Rattle.expr_needs.specs.declared.kind.Kind.{Kind}
use Rattle.expr_needs.specs.declared.kind.Kind.TheVariants as kind
use Rattle.check_words.specs.Calls.{IsType, field_of, gives_by, lists_by, makes_call, makes_call_of, makes_library, member_of, receiver_type, receivers}
use Rattle.check_words.specs.Kinds.{IsOfKind}
use Rattle.check_words.specs.Library.{LibraryRow, row_of, takes_so_many}
use Rattle.check_words.specs.Stands.{PartBelow}
use Rattle.check_words.specs.State.{AreLast, CallAtWork, Called, IsLast, State}
use Rattle.check_words.specs.Words.{Atoms, OfKind}
use Rattle.check_words.proofs.Standing.{last-have}
use Rattle.tree_promises.specs.Made.{AreTypedExprs, MadeIsTyped, sem}
use Rattle.tree_promises.proofs.Pieces.{made-is-typed}
use Rattle.typed_needs.specs.Items.{AreFirst}
use Rattle.typed_needs.specs.Pieces.{IsBefore, MakesTyped}
use Rattle.typed_needs.proofs.AtomKinds.{added-atom, as-list}
use Rattle.typed_needs.proofs.FunctionCalls.{call-closed}
use Rattle.typed_needs.proofs.Leaving.{Makes, made}
use Rattle.typed_needs.proofs.MemberReads.{member-asked}
use Rattle.typed_needs.proofs.Opened.{as-before, exactly-later}
use Rattle.typed_needs.proofs.Placed.{last-same}
use Rattle.typed_needs.proofs.Strict.{StrictMade, one-typed, strict-typed}
use Rattle.typed_calls.specs.Callees.{IsFree, ReceiverFits}
use Rattle.typed_calls.specs.LibraryCalls.{LibraryArgumentsFit, LibraryCallIsTyped, LibraryCallsAreTyped}
use Rattle.typed_calls.proofs.LibraryOperands.{all-pushed, AllInts, alone, counted, method-received, none-left, none-received, one-left, OneOrTwo, part-of, Received, two-left, with-one, with-two}
use Rattle.typed_calls.proofs.LibraryWants.{below, expected, unwanted}

-- frozen shapes are immutable
frozen-readonly : (x : Shape) → IsImmutableData x → InBasic x Readonly
frozen-readonly Nil h = tt
frozen-readonly (BoolShape b) h = tt
frozen-readonly (Int i) h = tt
frozen-readonly (Str t) h = tt
frozen-readonly (List' mark _ items) h = h
frozen-readonly (Mapping' mark _ fields) h = h
frozen-readonly (Error' _ detail) h = tt
frozen-readonly (Function isolated graph) h = tt
frozen-readonly (Future' _ results) h = absurd h

swap-cause : (x : Shape) → IsNil x ⊎ IsError x → IsError x ⊎ IsNil x
swap-cause x (inl nil) = inr nil
swap-cause x (inr error) = inl error

-- ---- what is given

module _ (passes : List AtomDef → Asked → TypeLimit → Type 0) where
  -- the type of the members of the receiver
  record MemberOpened (receiver : Option Shared) (keys : MemberKeys) (old : State) : Type 0 where
    pub receiver_type : Shared
    pub has : receiver ≡ Some receiver_type
    pub m : SemType
    pub defined : IsDefined old.atoms m
    pub exactly : HasExactly old.atoms m (StandsAt old.atoms (sem_of receiver_type) keys)

  item-given : (n : ℕ) (call : LibraryCall) (receiver : Option Shared) (at : Place) (old new : State) → member_of passes receiver (λ m. gives_by n call (IsType passes m) at) at old (Gives tt) new
      → (o : MemberOpened receiver AnyIndex old) × gives_by n call (IsType passes o.m) at old (Gives tt) new
  unfolding ◌▷◌ gives_some
  item-given n call receiver at old new (t, s1, (is, e1), (m, s2, asked, rest)) =
      let (defined, exactly, same) = member-asked passes (sem_of t) AnyIndex at s1 s2 m asked in (
        record {
          receiver_type = t;
          has = is;
          m = m;
          defined = subst (λ (s : State). IsDefined s.atoms m) e1 defined;
          exactly = subst (λ (s : State). HasExactly s.atoms m (StandsAt s.atoms (sem_of t) AnyIndex)) e1 exactly;
        },
        subst (λ (s : State). gives_by n call (IsType passes m) at s (Gives tt) new) (same ∙ e1) rest,
      )

  items-listed : (n : ℕ) (call : LibraryCall) (receiver : Option Shared) (at : Place) (old new : State) → member_of passes receiver (λ m. lists_by n call (IsType passes m) at) at old (Gives tt) new
      → (o : MemberOpened receiver AnyIndex old) × lists_by n call (IsType passes o.m) at old (Gives tt) new
  unfolding ◌▷◌ gives_some
  items-listed n call receiver at old new (t, s1, (is, e1), (m, s2, asked, rest)) =
      let (defined, exactly, same) = member-asked passes (sem_of t) AnyIndex at s1 s2 m asked in (
        record {
          receiver_type = t;
          has = is;
          m = m;
          defined = subst (λ (s : State). IsDefined s.atoms m) e1 defined;
          exactly = subst (λ (s : State). HasExactly s.atoms m (StandsAt s.atoms (sem_of t) AnyIndex)) e1 exactly;
        },
        subst (λ (s : State). lists_by n call (IsType passes m) at s (Gives tt) new) (same ∙ e1) rest,
      )

  field-given : (n : ℕ) (call : LibraryCall) (receiver : Option Shared) (at : Place) (old new : State) → field_of passes receiver (λ m. gives_by n call (IsType passes m) at) at old (Gives tt) new
      → (o : MemberOpened receiver AnyField old) × gives_by n call (IsType passes o.m) at old (Gives tt) new
  unfolding ◌▷◌ gives_some
  field-given n call receiver at old new (t, s1, (is, e1), (m, s2, asked, rest)) =
      let (defined, exactly, same) = member-asked passes (sem_of t) AnyField at s1 s2 m asked in (
        record {
          receiver_type = t;
          has = is;
          m = m;
          defined = subst (λ (s : State). IsDefined s.atoms m) e1 defined;
          exactly = subst (λ (s : State). HasExactly s.atoms m (StandsAt s.atoms (sem_of t) AnyField)) e1 exactly;
        },
        subst (λ (s : State). gives_by n call (IsType passes m) at s (Gives tt) new) (same ∙ e1) rest,
      )

  abbrev ListMade : LibraryCall → ℕ → Place → Atoms → List TypedExpr → TypedExpr → Type 0
  ListMade call atom at = StrictMade (form.Library call (Some atom) None) (λ env t. t ≡ plain (Atom atom)) at

  -- a new list, whose atom comes behind those that are there
  record ListOpened (n : ℕ) (call : LibraryCall) (P : Atoms → Ty → Type 0) (at : Place) (old new : State) : Type 0 where
    pub member : Ty
    pub mid : State
    pub of : P old.atoms member
    pub found : mid.found ≡ old.found
    pub atoms : mid.atoms ≡ old.atoms ++ ListAtom [] (Some member) ∷ []
    pub made : Makes n (ListMade call (length old.atoms) at) mid new

  list-opened : (n : ℕ) (call : LibraryCall) (P : Atoms → Ty → Type 0) (at : Place) (old new : State) → lists_by n call P at old (Gives tt) new → ListOpened n call P at old new
  unfolding ◌▷◌ asks adds
  list-opened n call P at old new (atom, mid, ((defs, (t, of, is), number, atoms), over), makes-it) =
      record {
        member = t;
        mid = mid;
        of = of;
        found = ap (λ (s : State). s.found) over;
        atoms = atoms ∙ ap (λ ds. old.atoms ++ ds) is;
        made = subst (λ k. Makes n (ListMade call k at) mid new) number (made n (ListMade call atom at) tt mid new makes-it);
      }

  -- a copy is of the receiver's type
  copy-opened : (n : ℕ) (receiver : Option Shared) (at : Place) (old new : State) → makes_library passes Clone receiver n at old (Gives tt) new
      → (t : Shared) × (receiver ≡ Some t) × Makes n (StrictMade (form.Library Clone None None) (λ env u. u ≡ t.value) at) old new
  unfolding ◌▷◌ gives_some
  copy-opened n receiver at old new (t, s1, (is, e1), makes-it) =
      (t, is, subst (λ (s : State). Makes n (StrictMade (form.Library Clone None None) (λ env u. u ≡ t.value) at) s new) e1 (made n (StrictMade (form.Library Clone None None) (λ env u. u ≡ t.value) at) tt s1 new makes-it))

  frozen-opened : (n : ℕ) (receiver : Option Shared) (at : Place) (old new : State) → makes_library passes CloneReadOnly receiver n at old (Gives tt) new
      → (t : Shared) × Makes n (StrictMade (form.Library CloneReadOnly None (Some t)) (λ env u. u ≡ t.value) at) old new
  unfolding ◌▷◌ gives_some
  frozen-opened n receiver at old new (r, s1, (is, e1), (t, s2, (holds, e2), makes-it)) = (
    t,
    subst (λ (s : State). Makes n (StrictMade (form.Library CloneReadOnly None (Some t)) (λ env u. u ≡ t.value) at) s new) (e2 ∙ e1)
        (made n (StrictMade (form.Library CloneReadOnly None (Some t)) (λ env u. u ≡ t.value) at) tt s2 new makes-it),
  )

  module _ (names : Names) (env : List AtomDef) (place : Surroundings) where
    abbrev Result : ℕ → State → State → Type 0
    Result = MakesTyped passes names env place

    -- what stands in the receiver over the atoms at the end is of the member's type
    stands-later : (r m : SemType) (keys : MemberKeys) (old : Atoms) → KeepsTypes old env → IsDefined old r → IsDefined old m → HasExactly old m (StandsAt old r keys)
        → (x : Shape) → IsValid x → StandsAt env r keys x → In env x m
    stands-later r m keys old keeps dr dm exactly x valid (whole, shape, stands) =
        (keeps.shapes m dm x).0 ((exactly x valid).1 (whole, (shape.0, (keeps.shapes r dr whole).1 shape.1), stands))

    -- ---- one row

    module _ (n : ℕ) (parts : List TypedExpr) (at : Place) (old new : State) (keeps : KeepsTypes old.atoms env) (after : IsBefore env new) (first : AreFirst env new.atoms)
        (lasts : AreLast old.found n parts) (typed : AreTypedExprs env place parts) where
      abbrev Row : LibraryCall → Option ℕ → SemType → Type 0
      Row call atom t = LibraryTyped env call atom (map sem parts) (Some t)

      given : (call : LibraryCall) (P : Atoms → Ty → Type 0) (Q : Shape → Type 0) → gives_by n call P at old (Gives tt) new → ((t : SemType) → ResultHas env (Some t) Q → Row call None t)
          → ((t : Shared) → P old.atoms t.value → IsDefined old.atoms (sem_of t) → KeepsTypes old.atoms env → ResultHas env (Some (sem_of t)) Q) → Result n old new
      given call P Q met row has =
          one-typed env passes names place (form.Library call None None) (Library call None (length parts)) n parts P Q at old new after lasts typed (made n _ tt old new met) refl
          (λ t gives. (length-map parts sem, row t gives)) has

      kind-given : (call : LibraryCall) (k : Kind) → gives_by n call (OfKind k) at old (Gives tt) new → ((t : SemType) → ResultHas env (Some t) (IsOfKind k) → Row call None t) → Result n old new
      kind-given call k met row =
          given call (OfKind k) (IsOfKind k) met row (λ t of defined kept x valid is. (exactly-later env old.atoms (IsOfKind k) (sem_of t) kept defined of.0.shapes x valid).1 is)

      plain-given : (call : LibraryCall) (Q : Shape → Type 0) → gives_by n call (λ atoms. IsPlain Q atoms) at old (Gives tt) new → ((t : SemType) → ResultHas env (Some t) Q → Row call None t) → Result n old new
      plain-given call Q met row =
          given call (λ atoms. IsPlain Q atoms) Q met row (λ t of defined kept x valid is. (exactly-later env old.atoms Q (sem_of t) kept defined of.shapes x valid).1 is)

      type-given : (call : LibraryCall) (m : SemType) (Q : Shape → Type 0) → gives_by n call (IsType passes m) at old (Gives tt) new → ((x : Shape) → IsValid x → Q x → In env x m)
          → ((t : SemType) → ResultHas env (Some t) Q → Row call None t) → Result n old new
      type-given call m Q met has row =
          given call (IsType passes m) Q met row (λ t is defined kept x valid q. subst (λ (u : Ty). In env x u.sem) (sym is) (has x valid q))

      -- a list of such members
      listed : (call : LibraryCall) (P : Atoms → Ty → Type 0) (Q : Shape → Type 0) → lists_by n call P at old (Gives tt) new
          → ((t : Ty) → P old.atoms t → (x : Shape) → IsValid x → Q x → In env x t.sem) → ((atom : ℕ) (t : SemType) → MakesList env (Some atom) Q (Some t) → Row call (Some atom) t) → Result n old new
      listed call P Q met has row =
          let o = list-opened n call P at old new met in
          let atom : ℕ = length old.atoms in
          let there : slice_get env atom ≡ Some (ListAtom [] (Some o.member)) =
          added-atom env old.atoms (ListAtom [] (Some o.member)) [] (subst (AreFirst env) o.atoms (subst (AreFirst env) o.made.5 first)) in
          as-before env passes names place n old o.mid new o.found
          (one-typed env passes names place (form.Library call (Some atom) None) (Library call (Some atom) (length parts)) n parts (λ env t. t ≡ plain (Atom atom)) (λ x. In env x (Atom atom)) at o.mid new
          after (subst (λ xs. AreLast xs n parts) (sym o.found) lasts) typed o.made refl
          (λ t gives. (length-map parts sem, row atom t (as-list env atom [] (Some o.member) _ there (refl, has o.member o.of), gives)))
          (λ t is defined kept x valid i. subst (λ (u : Ty). In env x u.sem) (sym is) i))

      kinds-listed : (call : LibraryCall) (k : Kind) → lists_by n call (OfKind k) at old (Gives tt) new → ((t : Ty) → OfKind k old.atoms t → IsDefined old.atoms t.sem)
          → ((atom : ℕ) (t : SemType) → MakesList env (Some atom) (IsOfKind k) (Some t) → Row call (Some atom) t) → Result n old new
      kinds-listed call k met defined row =
          listed call (OfKind k) (IsOfKind k) met (λ t of x valid is. (keeps.shapes t.sem (defined t of) x).0 ((of.0.shapes x valid).1 is)) row

      types-listed : (call : LibraryCall) (m : SemType) (Q : Shape → Type 0) → lists_by n call (IsType passes m) at old (Gives tt) new → ((x : Shape) → IsValid x → Q x → In env x m)
          → ((atom : ℕ) (t : SemType) → MakesList env (Some atom) Q (Some t) → Row call (Some atom) t) → Result n old new
      types-listed call m Q met has row =
          listed call (IsType passes m) Q met (λ t is x valid q. subst (λ (u : Ty). In env x u.sem) (sym is) (has x valid q)) row

    -- a type that names no atom is there
    simple-there : (atoms : Atoms) (t : SemType) → IsDefined [] t → IsDefined atoms t
    simple-there atoms t h = NamesBelow-more 0 (length atoms) (omega arith) t h

    -- ---- row by row

    module _ (receiver : Option Shared) (belong args : List TypedExpr) (at : Place) (old new : State) (keeps : KeepsTypes old.atoms env) (after : IsBefore env new) (first : AreFirst env new.atoms)
        (n : ℕ) (lasts : AreLast old.found n (belong ++ args)) (typed : AreTypedExprs env place (belong ++ args))
        (there : (e : TypedExpr) → belong ≡ e ∷ [] → IsDefined old.atoms (sem e)) where
      abbrev Comes : LibraryCall → Type 0
      Comes call =
          takes_so_many (row_of call) (length args) ≡ true → ReceiverFits env (row_of call) receiver belong → LibraryArgumentsFit env (row_of call) receiver 0 args
          → makes_library passes call receiver n at old (Gives tt) new → Result n old new

      -- the operands are these
      from : (call : LibraryCall) (atom : Option ℕ) (t : SemType) (es : List TypedExpr) → belong ++ args ≡ es → LibraryTyped env call atom (map sem es) (Some t)
          → LibraryTyped env call atom (map sem (belong ++ args)) (Some t)
      from call atom t es is h = subst (λ l. LibraryTyped env call atom (map sem l) (Some t)) (sym is) h

      -- the receiver's type is that of the one part
      same-receiver : (t u : Shared) (e : TypedExpr) → receiver ≡ Some t → receiver ≡ Some u → u.value ≡ (type_of e).value → sem_of t ≡ sem e
      same-receiver t u e is has value =
          let one : t ≡ u = some-one t u (sym is ∙ has) in ap (λ (s : Shared). sem_of s) one ∙ ap (λ (y : Ty). y.sem) value
        where
          some-one : (t u : Shared) → Some t ≡ Some u → t ≡ u
          some-one t u e = let q : t ≡ u = cc in q

      -- what stands in the receiver is of the type of its members
      member-has : (call : LibraryCall) (keys : MemberKeys) (e : TypedExpr) → Received env call receiver belong → belong ≡ e ∷ [] → (o : MemberOpened receiver keys old)
          → (x : Shape) → IsValid x → StandsAt env (sem e) keys x → In env x o.m
      member-has call keys e (f, is, t, has, value, of) bound o =
          let one : f ≡ e = heads-same f e (sym is ∙ bound) in
          let same : sem_of o.receiver_type ≡ sem e = same-receiver o.receiver_type t f o.has has value ∙ ap (λ (p : TypedExpr). sem p) one in
          stands-later (sem e) o.m keys old.atoms keeps (there e bound) o.defined (subst (λ s. HasExactly old.atoms o.m (StandsAt old.atoms s keys)) same o.exactly)
        where
          heads-same : (f e : TypedExpr) → f ∷ [] ≡ e ∷ [] → f ≡ e
          heads-same f e is = let q : f ≡ e = cc in q

      -- a receiver alone has no arguments behind it
      none-after : (call : LibraryCall) → (IsFree (row_of call).call → ⊥) → takes_so_many (row_of call) (length args) ≡ true → ReceiverFits env (row_of call) receiver belong
          → (row_of call).more ≡ false → length (row_of call).needed + length (row_of call).possible ≤ 0 → args ≡ []
      none-after call method takes fits fixed few = let (least, most) = counted (row_of call) (length args) takes in none-left args (let m = most fixed in omega (arith, m, few))

      row-Println : Comes Println
      row-Println takes fits arguments met =
          kind-given n (belong ++ args) at old new keeps after first lasts typed Println kind.Nothing met (λ t has. (refl, has))

      row-Print : Comes Print
      row-Print takes fits arguments met =
          kind-given n (belong ++ args) at old new keeps after first lasts typed Print kind.Nothing met (λ t has. (refl, has))

      row-Readln : Comes Readln
      row-Readln takes fits arguments met =
          let none = none-received env Readln receiver belong tt fits in
          let (least, most) = counted (row_of Readln) (length args) takes in
          kind-given n (belong ++ args) at old new keeps after first lasts typed Readln kind.Text met (λ t has. from Readln None t args (ap (λ l. l ++ args) none) (prompt args (most refl), (refl, has)))
        where
          prompt : (es : List TypedExpr) → length es ≤ 1 → NoOperand (map sem es) ⊎ One (map sem es) (λ p. ⊤)
          prompt [] le = inl refl
          prompt (e ∷ []) le = inr tt
          prompt (e ∷ f ∷ es) le = absurd (omega (arith, le))

      row-FromString : Comes FromString
      row-FromString takes fits arguments met =
          let none = none-received env FromString receiver belong tt fits in
          let (least, most) = counted (row_of FromString) (length args) takes in
          let (a, only) = one-left args least (most refl) in
          let fit = subst (λ l. LibraryArgumentsFit env (row_of FromString) receiver 0 l) only arguments in
          plain-given n (belong ++ args) at old new keeps after first lasts typed FromString (λ x. IsInteger x ⊎ IsError x) met
          (λ t has. from FromString None t (a ∷ []) (ap (λ l. l ++ args) none ∙ only) (fit.0, (refl, has)))

      row-Abs : Comes Abs
      row-Abs takes fits arguments met =
          let (e, all, of) = alone env Abs receiver belong args (λ h. h) takes fits refl (omega arith) in
          kind-given n (belong ++ args) at old new keeps after first lasts typed Abs kind.Integer met (λ t has. from Abs None t (e ∷ []) all (of, (refl, has)))

      row-StringLength : Comes StringLength
      row-StringLength takes fits arguments met =
          let (e, all, of) = alone env StringLength receiver belong args (λ h. h) takes fits refl (omega arith) in
          kind-given n (belong ++ args) at old new keeps after first lasts typed StringLength kind.Integer met (λ t has. from StringLength None t (e ∷ []) all (of, (refl, has)))

      row-Trim : Comes Trim
      row-Trim takes fits arguments met =
          let (e, all, of) = alone env Trim receiver belong args (λ h. h) takes fits refl (omega arith) in
          kind-given n (belong ++ args) at old new keeps after first lasts typed Trim kind.Text met (λ t has. from Trim None t (e ∷ []) all (of, (refl, has)))

      row-ToUpperAscii : Comes ToUpperAscii
      row-ToUpperAscii takes fits arguments met =
          let (e, all, of) = alone env ToUpperAscii receiver belong args (λ h. h) takes fits refl (omega arith) in
          kind-given n (belong ++ args) at old new keeps after first lasts typed ToUpperAscii kind.Text met (λ t has. from ToUpperAscii None t (e ∷ []) all (of, (refl, has)))

      row-ToLowerAscii : Comes ToLowerAscii
      row-ToLowerAscii takes fits arguments met =
          let (e, all, of) = alone env ToLowerAscii receiver belong args (λ h. h) takes fits refl (omega arith) in
          kind-given n (belong ++ args) at old new keeps after first lasts typed ToLowerAscii kind.Text met (λ t has. from ToLowerAscii None t (e ∷ []) all (of, (refl, has)))

      row-ListLength : Comes ListLength
      row-ListLength takes fits arguments met =
          let (e, all, of) = alone env ListLength receiver belong args (λ h. h) takes fits refl (omega arith) in
          kind-given n (belong ++ args) at old new keeps after first lasts typed ListLength kind.Integer met (λ t has. from ListLength None t (e ∷ []) all (of, (refl, has)))

      row-MappingLength : Comes MappingLength
      row-MappingLength takes fits arguments met =
          let (e, all, of) = alone env MappingLength receiver belong args (λ h. h) takes fits refl (omega arith) in
          kind-given n (belong ++ args) at old new keeps after first lasts typed MappingLength kind.Integer met (λ t has. from MappingLength None t (e ∷ []) all (of, (refl, has)))

      row-Message : Comes Message
      row-Message takes fits arguments met =
          let (e, all, of) = alone env Message receiver belong args (λ h. h) takes fits refl (omega arith) in
          kind-given n (belong ++ args) at old new keeps after first lasts typed Message kind.Text met (λ t has. from Message None t (e ∷ []) all (of, (refl, has)))

      row-ToString : Comes ToString
      row-ToString takes fits arguments met =
          let (e, all, of) = alone env ToString receiver belong args (λ h. h) takes fits refl (omega arith) in
          kind-given n (belong ++ args) at old new keeps after first lasts typed ToString kind.Text met (λ t has. from ToString None t (e ∷ []) all (refl, has))

      row-Cause : Comes Cause
      row-Cause takes fits arguments met =
          let (e, all, of) = alone env Cause receiver belong args (λ h. h) takes fits refl (omega arith) in
          kind-given n (belong ++ args) at old new keeps after first lasts typed Cause kind.ErrorOrNil met (λ t has. from Cause None t (e ∷ []) all (of, (refl, (λ x valid either. has x valid (swap-cause x either)))))

      row-Detail : Comes Detail
      row-Detail takes fits arguments met =
          let (e, all, of) = alone env Detail receiver belong args (λ h. h) takes fits refl (omega arith) in
          plain-given n (belong ++ args) at old new keeps after first lasts typed Detail IsDetail met (λ t has. from Detail None t (e ∷ []) all (of, (refl, has)))

      row-StartsWith : Comes StartsWith
      row-StartsWith takes fits arguments met =
          let (e, a, all, only, of) = with-one env StartsWith receiver belong args (λ h. h) takes fits refl (omega arith) (omega arith) in
          let fit = subst (λ l. LibraryArgumentsFit env (row_of StartsWith) receiver 0 l) only arguments in
          kind-given n (belong ++ args) at old new keeps after first lasts typed StartsWith kind.Truth met (λ t has. from StartsWith None t (e ∷ a ∷ []) all (of, fit.0, (refl, has)))

      row-HasKey : Comes HasKey
      row-HasKey takes fits arguments met =
          let (e, a, all, only, of) = with-one env HasKey receiver belong args (λ h. h) takes fits refl (omega arith) (omega arith) in
          let fit = subst (λ l. LibraryArgumentsFit env (row_of HasKey) receiver 0 l) only arguments in
          kind-given n (belong ++ args) at old new keeps after first lasts typed HasKey kind.Truth met (λ t has. from HasKey None t (e ∷ a ∷ []) all (of, fit.0, (refl, has)))

      row-ToCodePointInts : Comes ToCodePointInts
      row-ToCodePointInts takes fits arguments met =
          let (e, all, of) = alone env ToCodePointInts receiver belong args (λ h. h) takes fits refl (omega arith) in
          kinds-listed n (belong ++ args) at old new keeps after first lasts typed ToCodePointInts kind.Integer met (λ t kind-of. simple-there old.atoms t.sem kind-of.1) (λ atom t list. from ToCodePointInts (Some atom) t (e ∷ []) all (of, list))

      row-Keys : Comes Keys
      row-Keys takes fits arguments met =
          let (e, all, of) = alone env Keys receiver belong args (λ h. h) takes fits refl (omega arith) in
          kinds-listed n (belong ++ args) at old new keeps after first lasts typed Keys kind.Text met (λ t kind-of. simple-there old.atoms t.sem kind-of.1) (λ atom t list. from Keys (Some atom) t (e ∷ []) all (of, list))

      row-Pop : Comes Pop
      row-Pop takes fits arguments met =
          let r = method-received env Pop receiver belong (λ h. h) fits in
          let (o, given-it) = item-given n Pop receiver at old new met in
          let none = none-after Pop (λ h. h) takes fits refl (omega arith) in
          type-given n (belong ++ args) at old new keeps after first lasts typed Pop o.m (AtIndexes env (sem r.0)) given-it (member-has Pop AnyIndex r.0 r r.1 o)
          (λ t has. from Pop None t (r.0 ∷ []) (ap (λ l. l ++ args) r.1 ∙ ap (λ l. r.0 ∷ l) none) (r.5, (refl, has)))

      row-Reverse : Comes Reverse
      row-Reverse takes fits arguments met =
          let r = method-received env Reverse receiver belong (λ h. h) fits in
          let (o, given-it) = items-listed n Reverse receiver at old new met in
          let none = none-after Reverse (λ h. h) takes fits refl (omega arith) in
          types-listed n (belong ++ args) at old new keeps after first lasts typed Reverse o.m (AtIndexes env (sem r.0)) given-it (member-has Reverse AnyIndex r.0 r r.1 o)
          (λ atom t list. from Reverse (Some atom) t (r.0 ∷ []) (ap (λ l. l ++ args) r.1 ∙ ap (λ l. r.0 ∷ l) none) (r.5, list))

      row-RemoveItem : Comes RemoveItem
      row-RemoveItem takes fits arguments met =
          let r = method-received env RemoveItem receiver belong (λ h. h) fits in
          let (o, given-it) = item-given n RemoveItem receiver at old new met in
          let (least, most) = counted (row_of RemoveItem) (length args) takes in
          let (a, only) = one-left args least (most refl) in
          let fit = subst (λ l. LibraryArgumentsFit env (row_of RemoveItem) receiver 0 l) only arguments in
          type-given n (belong ++ args) at old new keeps after first lasts typed RemoveItem o.m (AtIndexes env (sem r.0)) given-it (member-has RemoveItem AnyIndex r.0 r r.1 o)
          (λ t has. from RemoveItem None t (r.0 ∷ a ∷ []) (ap (λ l. l ++ args) r.1 ∙ ap (λ l. r.0 ∷ l) only) (r.5, fit.0, (refl, has)))

      row-Get : Comes Get
      row-Get takes fits arguments met =
          let r = method-received env Get receiver belong (λ h. h) fits in
          let (o, given-it) = field-given n Get receiver at old new met in
          let (least, most) = counted (row_of Get) (length args) takes in
          let (a, only) = one-left args least (most refl) in
          let fit = subst (λ l. LibraryArgumentsFit env (row_of Get) receiver 0 l) only arguments in
          type-given n (belong ++ args) at old new keeps after first lasts typed Get o.m (AtKeys env (sem r.0)) given-it (member-has Get AnyField r.0 r r.1 o)
          (λ t has. from Get None t (r.0 ∷ a ∷ []) (ap (λ l. l ++ args) r.1 ∙ ap (λ l. r.0 ∷ l) only) (r.5, fit.0, (refl, has)))

      row-RemoveKey : Comes RemoveKey
      row-RemoveKey takes fits arguments met =
          let r = method-received env RemoveKey receiver belong (λ h. h) fits in
          let (o, given-it) = field-given n RemoveKey receiver at old new met in
          let (least, most) = counted (row_of RemoveKey) (length args) takes in
          let (a, only) = one-left args least (most refl) in
          let fit = subst (λ l. LibraryArgumentsFit env (row_of RemoveKey) receiver 0 l) only arguments in
          type-given n (belong ++ args) at old new keeps after first lasts typed RemoveKey o.m (AtKeys env (sem r.0)) given-it (member-has RemoveKey AnyField r.0 r r.1 o)
          (λ t has. from RemoveKey None t (r.0 ∷ a ∷ []) (ap (λ l. l ++ args) r.1 ∙ ap (λ l. r.0 ∷ l) only) (r.5, fit.0, (refl, has)))

      row-Substring : Comes Substring
      row-Substring takes fits arguments met =
          let (e, all, some, of) = with-two env Substring receiver belong args (λ h. h) takes fits refl (omega arith) (omega arith) in
          kind-given n (belong ++ args) at old new keeps after first lasts typed Substring kind.Text met
          (λ t has. from Substring None t (e ∷ args) all (part-of env IsString e args of some (ints arguments some), (refl, has)))
        where
          ints : LibraryArgumentsFit env (row_of Substring) receiver 0 args → OneOrTwo args → AllInts env args
          ints fit (inl (a, is)) = subst (AllInts env) (sym is) ((subst (λ l. LibraryArgumentsFit env (row_of Substring) receiver 0 l) is fit).0, tt)
          ints fit (inr (a, b, is)) = subst (AllInts env) (sym is) (let f = subst (λ l. LibraryArgumentsFit env (row_of Substring) receiver 0 l) is fit in (f.0, (f.1.0, tt)))

      row-Slice : Comes Slice
      row-Slice takes fits arguments met =
          let r = method-received env Slice receiver belong (λ h. h) fits in
          let (o, given-it) = items-listed n Slice receiver at old new met in
          let (least, most) = counted (row_of Slice) (length args) takes in
          let some = two-left args least (most refl) in
          types-listed n (belong ++ args) at old new keeps after first lasts typed Slice o.m (AtIndexes env (sem r.0)) given-it (member-has Slice AnyIndex r.0 r r.1 o)
          (λ atom t list. from Slice (Some atom) t (r.0 ∷ args) (ap (λ l. l ++ args) r.1) (part-of env IsList r.0 args r.5 some (ints arguments some), list))
        where
          ints : LibraryArgumentsFit env (row_of Slice) receiver 0 args → OneOrTwo args → AllInts env args
          ints fit (inl (a, is)) = subst (AllInts env) (sym is) ((subst (λ l. LibraryArgumentsFit env (row_of Slice) receiver 0 l) is fit).0, tt)
          ints fit (inr (a, b, is)) = subst (AllInts env) (sym is) (let f = subst (λ l. LibraryArgumentsFit env (row_of Slice) receiver 0 l) is fit in (f.0, (f.1.0, tt)))

      row-Push : Comes Push
      row-Push takes fits arguments met =
          let r = method-received env Push receiver belong (λ h. h) fits in
          kind-given n (belong ++ args) at old new keeps after first lasts typed Push kind.Nothing met
          (λ t has. from Push None t (r.0 ∷ args) (ap (λ l. l ++ args) r.1)
          (r.5, all-pushed env (row_of Push) receiver r.2 (sem r.0) 0 args refl r.3 (ap (λ (y : Ty). y.sem) r.4) arguments, (refl, has)))

      row-Clone : Comes Clone
      row-Clone takes fits arguments met =
          let r = method-received env Clone receiver belong (λ h. h) fits in
          let (s, is, made-it) = copy-opened n receiver at old new met in
          let none = none-after Clone (λ h. h) takes fits refl (omega arith) in
          let same : sem_of s ≡ sem r.0 = same-receiver s r.2 r.0 is r.3 r.4 in
          one-typed env passes names place (form.Library Clone None None) (Library Clone None (length (belong ++ args))) n (belong ++ args) (λ env u. u ≡ s.value) (λ x. In env x (sem r.0)) at old new after lasts typed made-it refl
          (λ t has. (length-map (belong ++ args) sem, from Clone None t (r.0 ∷ []) (ap (λ l. l ++ args) r.1 ∙ ap (λ l. r.0 ∷ l) none) (r.5, (refl, has))))
          (λ t copy defined kept x valid i. subst (λ (u : Ty). In env x u.sem) (sym copy) (subst (λ u. In env x u) (sym same) i))

      row-CloneReadOnly : Comes CloneReadOnly
      row-CloneReadOnly takes fits arguments met =
          let (e, all, of) = alone env CloneReadOnly receiver belong args (λ h. h) takes fits refl (omega arith) in
          let (s, made-it) = frozen-opened n receiver at old new met in
          strict-typed env passes names place (form.Library CloneReadOnly None (Some s)) n (belong ++ args) (λ env u. u ≡ s.value) at old new after lasts typed made-it
          (λ t copy defined kept.
          let pieces : MadeIsTyped env place (sem_of t) = made-is-typed env place (sem_of t) in
          pieces.two_rows (Library CloneReadOnly None (length (belong ++ args))) (Cast (sem_of s)) (map sem (belong ++ args)) (Basic Readonly) (sem_of t)
          (length-map (belong ++ args) sem, from CloneReadOnly None (Basic Readonly) (e ∷ []) all (of, (refl, (λ x valid frozen. frozen-readonly x frozen))))
          (λ x valid i. subst (λ (u : Ty). In env x u.sem) (sym copy) i.1))

      by-call : (call : LibraryCall) → Comes call
      by-call Println = row-Println
      by-call Print = row-Print
      by-call Readln = row-Readln
      by-call FromString = row-FromString
      by-call Abs = row-Abs
      by-call ToString = row-ToString
      by-call Clone = row-Clone
      by-call CloneReadOnly = row-CloneReadOnly
      by-call StringLength = row-StringLength
      by-call StartsWith = row-StartsWith
      by-call Trim = row-Trim
      by-call Substring = row-Substring
      by-call ToUpperAscii = row-ToUpperAscii
      by-call ToLowerAscii = row-ToLowerAscii
      by-call ToCodePointInts = row-ToCodePointInts
      by-call ListLength = row-ListLength
      by-call Push = row-Push
      by-call Pop = row-Pop
      by-call RemoveItem = row-RemoveItem
      by-call Slice = row-Slice
      by-call Reverse = row-Reverse
      by-call MappingLength = row-MappingLength
      by-call Keys = row-Keys
      by-call HasKey = row-HasKey
      by-call Get = row-Get
      by-call RemoveKey = row-RemoveKey
      by-call Message = row-Message
      by-call Cause = row-Cause
      by-call Detail = row-Detail

    -- ---- the call

    closed-opened : (at : Place) (old new : State) → makes_call passes at old (Gives tt) new
        → (c : CallAtWork) × (mid : State) × IsLast old.calls c × (mid.found ≡ old.found) × (mid.atoms ≡ old.atoms) × makes_call_of passes c.callee c.args at mid (Gives tt) new
    unfolding ◌▷◌
    closed-opened at old new (c, mid, closed, met) = let (last, found, atoms) = call-closed passes c old mid closed in (c, mid, last, found, atoms, met)

    receivers-many : (r : LibraryRow) (receiver : Option Shared) (belong : List TypedExpr) → ReceiverFits env r receiver belong → receivers passes receiver ≡ length belong
    receivers-many r None belong (none, free) = ap length (sym none)
    receivers-many r (Some t) belong (bound, (e, is, kind-of)) = ap length (sym is)

    called : LibraryCallIsTyped passes names env place
    called r receiver at old new c belong args before after first met last is many holds lasts typed fit =
        let (d, mid, l, found, atoms, made-of) = closed-opened at old new met in
        let one : d ≡ c = last-same old.calls d c l last in
        let made-of' : makes_library passes r.call receiver (receivers passes receiver + c.args) at mid (Gives tt) new =
        subst (λ (k : Called). makes_call_of passes k c.args at mid (Gives tt) new) is (subst (λ (x : CallAtWork). makes_call_of passes x.callee x.args at mid (Gives tt) new) one made-of) in
        let so-many : receivers passes receiver + c.args ≡ length belong + c.args = ap (λ k. k + c.args) (receivers-many r receiver belong holds.2) in
        let made-of'' : makes_library passes r.call receiver (length belong + c.args) at mid (Gives tt) new = subst (λ k. makes_library passes r.call receiver k at mid (Gives tt) new) so-many made-of' in
        let all : All (PartBelow (length old.atoms)) (belong ++ args) = last-have (PartBelow (length old.atoms)) (length belong + c.args) old.found (belong ++ args) lasts before.stands.found in
        as-before env passes names place (length belong + c.args) old mid new found
        (by-call receiver belong args at mid new (subst (λ xs. KeepsTypes xs env) (sym atoms) before.keeps) after first (length belong + c.args)
        (subst (λ xs. AreLast xs (length belong + c.args) (belong ++ args)) (sym found) lasts) typed
        (λ e bound. subst (λ (xs : Atoms). IsDefined xs (sem e)) (sym atoms)
        (All-head (PartBelow (length old.atoms)) e args (subst (λ b. All (PartBelow (length old.atoms)) (b ++ args)) bound all)).0)
        r.call (subst (λ (x : LibraryRow). takes_so_many x (length args) ≡ true) holds.0 holds.1) (subst (λ (x : LibraryRow). ReceiverFits env x receiver belong) holds.0 holds.2)
        (subst (λ (x : LibraryRow). LibraryArgumentsFit env x receiver 0 args) holds.0 fit) made-of'')

    pub library-calls-are-typed : LibraryCallsAreTyped passes names env place
    library-calls-are-typed =
        record { expected = expected passes names env place; unwanted = unwanted passes names env place; below = below passes names env place; called = called }
