-- The needs of calls and of anonymous functions keep what was found.
use Rattle.std.proofs.Common.{◌≤◌, ℕ, Bool, List, [], ◌∷◌, All, Option, None, Some, arith, length, subst, sym, ap}
use Rattle.std.proofs.lemmas.List.Elements.{All-head}
use Rattle.bal_base.specs.declared.place.Place.{Place}
use Rattle.bal_tree.specs.declared.name.QualifiedName.{QualifiedName}
use Rattle.bal_tree.specs.declared.name.Word.{Word}
use Rattle.checks.specs.Checks.{Gives}
use Rattle.descriptors.specs.declared.names.Meaning.{Meaning}
use Rattle.descriptors.specs.declared.names.Meaning.TheVariants as meaning
use Rattle.descriptors.specs.declared.names.Names.{Names}
use Rattle.descriptors.specs.declared.names.Signature.{Signature}
use Rattle.needs.specs.Needs.{does}
use Rattle.operations.specs.declared.library.LibraryCall.{LibraryCall}
use Rattle.operations.specs.declared.library.LibraryCall.TheVariants.{Println, Print, Readln, FromString, Abs, ToString, Clone, CloneReadOnly, StringLength, StartsWith, Trim, Substring, ToUpperAscii, ToLowerAscii, ToCodePointInts, ListLength, Push, Pop, RemoveItem, Slice, Reverse, MappingLength, Keys, HasKey, Get, RemoveKey, Message, Cause, Detail}
use Rattle.type_model.specs.declared.answers.TypeLimit.{TypeLimit}
use Rattle.type_model.specs.declared.atoms.AtomDef.{AtomDef}
use Rattle.type_model.specs.declared.basic.SemType.{SemType}
use Rattle.type_model.specs.declared.basic.Ty.{Ty}
use Rattle.type_model.specs.Calls.{Asked}
use Rattle.typed_tree.specs.declared.expr.TypedExpr.{TypedExpr}
use Rattle.typed_tree.specs.declared.form.Callee.TheVariants as callee
use Rattle.typed_tree.specs.declared.form.StrictForm.TheVariants as form
use Rattle.typed_tree.specs.Exprs.{type_of}
use Rattle.typed_tree.specs.SharedTypes.{Shared}
use Rattle.isolation_check.specs.Parts.{Calls, CallsValue}
use Rattle.expr_needs.specs.declared.kind.Kind.TheVariants as kind
use Rattle.flow_narrowing.specs.declared.flow.Variable.{Variable}
use Rattle.check_words.specs.Calls.{applies_to, calls, calls_function, calls_library, calls_meaning, calls_method, calls_named, calls_seen, calls_seen_value, calls_value, expects_argument, expects_by, expects_of_library, expects_pushed, field_of, gives_by, is_argument, is_new, is_receiver, lists_by, makes_call, makes_call_of, makes_library, member_of, picks, starts, starts_of, wants_copy, wants_kind}
use Rattle.check_words.specs.Library.{LibraryRow, Takes}
use Rattle.check_words.specs.Seen.{Seen, SeenConstant, SeenLibrary, SeenMeaning, SeenNothing, SeenVariable, SeenWorker}
use Rattle.check_words.specs.Stands.{PartBelow}
use Rattle.check_words.specs.State.{Called, OfFunction, OfLibrary, OfValue, State}
use Rattle.check_words.specs.Words.{Atoms, Step, makes, makes_strict}
use Rattle.check_words.proofs.Standing.{also-has, last-have, others-have}
use Rattle.isolation_check.proofs.Held.{ExprHeld, FormHeld, noted-held, strict-held}
use Rattle.package_atoms.proofs.Keeping.{Any, Core, Keeps, asked, behind, chosen, core, forgetting, handled, none-chosen, one-of, refused, tested}
use Rattle.package_atoms.proofs.Questions.{adds-grows, applied-grows, member-grows}
use Rattle.package_atoms.proofs.Values.{looked-up, seen-given}
use Rattle.package_atoms.proofs.Words.{Held, Standing, Stays, below-if, call-closed, call-opened, call-set, is-of, made, made-strict, made-typed, no-more, wanting, wanting-some, whether-within, standing-held}

-- ---- of no account

module _ (I : Core → Type 0) (so : Type 0) where
  called : (c : Called) → Keeps I so (calls c) Any I
  called c = call-opened _ _ _

  library-called : (r : LibraryRow) (receiver : Option Shared) (count : ℕ) (at : Place) → Keeps I so (calls_library r receiver count at) Any I
  library-called r receiver count at = behind (tested _ _ _ _ _) (λ u. called _)

  function-called : (f : Signature) (count : ℕ) (at : Place) → Keeps I so (calls_function f count at) Any I
  function-called f count at = behind (tested _ _ _ _ _) (λ u. called _)

  pub new-kept : (w : Word) → Keeps I so (is_new w) Any I
  new-kept w = behind (chosen _ _ _) (λ b. one-of b (refused _ _ _ _ _) (chosen _ _ _))

  pub value-called : (passes : List AtomDef → Asked → TypeLimit → Type 0) → Keeps I so (calls_value passes) Any I
  value-called passes = called OfValue

  receiver-asked : (passes : List AtomDef → Asked → TypeLimit → Type 0) (t : Takes) (e : TypedExpr) (at : Place) → Keeps I so (is_receiver passes t e at) Any I
  receiver-asked passes None e at = chosen _ _ _
  receiver-asked passes (Some k) e at = whether-within _ _ _ _ _ _

  picked : (passes : List AtomDef → Asked → TypeLimit → Type 0) (rows : List LibraryRow) (e : TypedExpr) (at : Place) → Keeps I so (picks passes rows e at) Any I
  picked passes [] e at = refused _ _ _ _ _
  picked passes (r ∷ rows) e at = behind (receiver-asked passes r.receiver e at) (λ b. one-of b (chosen _ _ _) (picked passes rows e at))

  pub method-called : (passes : List AtomDef → Asked → TypeLimit → Type 0) (w : Word) (count : ℕ) (at : Place) → Keeps I so (calls_method passes w count at) Any I
  method-called passes w count at =
      behind (chosen _ _ _) (λ e. behind (picked passes _ e at) (λ r. behind (handled _ _ _ _ Any (λ x s c. tt)) (λ t. library-called r (Some t) count at)))

  applied-to : (passes : List AtomDef → Asked → TypeLimit → Type 0) (es : List TypedExpr) (at : Place) → Keeps I so (applies_to passes es at) Any I
  applied-to passes [] at = none-chosen _ _ _ _
  applied-to passes (f ∷ args) at = behind (asked _ _ _ (adds-grows _ _)) (λ atom. asked _ _ _ (applied-grows _ _ _ _))

-- ---- parts that call values

module _ (n : ℕ) where
  -- what is called has a type that names atoms that are there
  called-held : (es : List TypedExpr) → All (PartBelow n) es → (at : Place) → FormHeld n (form.Call callee.Value) es at
  called-held [] h at w = tt
  called-held (f ∷ args) h at w = noted-held n (CallsValue (type_of f)) at (All-head (PartBelow n) f args h) w

  started-held : (es : List TypedExpr) → All (PartBelow n) es → (at : Place) → FormHeld n (form.Start callee.Value) es at
  started-held [] h at w = tt
  started-held (f ∷ args) h at w = noted-held n (CallsValue (type_of f)) at (All-head (PartBelow n) f args h) w

  made-run : (so : Type 0) (count : ℕ) (P : Atoms → List TypedExpr → TypedExpr → Type 0)
      → ((env : Atoms) (parts : List TypedExpr) (e : TypedExpr) → P env parts e → All (PartBelow n) parts → All (ExprHeld n) parts → ExprHeld n e)
      → (old new : State) (u : Unit {0}) → makes count P old (Gives u) new
      → (length old.atoms ≤ length new.atoms) × (so → Standing n (core old) → Held n (core new) × Unit {0})
  unfolding does Held
  made-run so count P f old new u (parts, last, e, x, is) = (
    omega (arith, ap (λ (s : State). length s.atoms) is),
    λ c s. (
      subst (Held n) (sym (ap core is)) (
        also-has (ExprHeld n) _ e (others-have (ExprHeld n) count old.found s.0.0)
            (f old.atoms parts e x (last-have (PartBelow n) count old.found parts last s.1.found) (last-have (ExprHeld n) count old.found parts last s.0.0)),
        s.0.1,
        s.0.2,
        s.0.3,
        s.0.4,
        s.0.5,
      ),
      tt,
    ),
  )

  made-of : (so : Type 0) (count : ℕ) (P : Atoms → List TypedExpr → TypedExpr → Type 0)
      → ((env : Atoms) (parts : List TypedExpr) (e : TypedExpr) → P env parts e → All (PartBelow n) parts → All (ExprHeld n) parts → ExprHeld n e)
      → Keeps (Standing n) so (makes count P) Any (Held n)
  made-of so count P f = record { run = made-run so count P f }

  value-made : (so : Type 0) (count : ℕ) (P : Atoms → Ty → Type 0) (at : Place) → Keeps (Standing n) so (makes_strict count (form.Call callee.Value) P at) Any (Held n)
  value-made so count P at =
      made-of _ _ _ (λ env parts e x below all. strict-held n (form.Call callee.Value) parts x.0 at e x.2 (called-held parts below at) all)

  value-started : (so : Type 0) (count : ℕ) (P : Atoms → Ty → Type 0) (at : Place) → Keeps (Standing n) so (makes_strict count (form.Start callee.Value) P at) Any (Held n)
  value-started so count P at =
      made-of _ _ _ (λ env parts e x below all. strict-held n (form.Start callee.Value) parts x.0 at e x.2 (started-held parts below at) all)

-- ---- what is kept

module _ (n : ℕ) where
  -- ---- what is called, and arguments

  copy-wanted : (so : Type 0) (ts : List Ty) → Stays n so (wants_copy ts)
  copy-wanted so [] = none-chosen _ _ _ _
  copy-wanted so (t ∷ ts) = wanting-some n _ _

  kind-wanted : (so : Type 0) (t : Takes) → Stays n so (wants_kind t)
  kind-wanted so None = wanting n _ None
  kind-wanted so (Some k) = wanting-some n _ _

  seen-value : (so : Type 0) (passes : List AtomDef → Asked → TypeLimit → Type 0) (seen : Seen) (at : Place) → Stays n so (calls_seen_value passes seen at)
  seen-value so passes seen at = behind (seen-given n _ seen at) (λ u. behind (is-of _ _ kind.AnyFunction at passes) (λ v. value-called _ _ passes))

  meaning-called : (so : Type 0) (passes : List AtomDef → Asked → TypeLimit → Type 0) (m : Meaning) (count : ℕ) (name at : Place) → Stays n so (calls_meaning passes m count name at)
  meaning-called so passes (meaning.Function f) count name at = function-called _ _ f count at
  meaning-called so passes (meaning.TypeName t) count name at = refused _ _ _ _ _
  meaning-called so passes (meaning.Constant t) count name at = seen-value _ passes (SeenMeaning (meaning.Constant t)) name
  meaning-called so passes (meaning.Variable number final t) count name at = seen-value _ passes (SeenMeaning (meaning.Variable number final t)) name

  seen-called : (so : Type 0) (passes : List AtomDef → Asked → TypeLimit → Type 0) (started : Bool) (seen : Seen) (count : ℕ) (name at : Place) → Stays n so (calls_seen passes started seen count name at)
  seen-called so passes started (SeenVariable v) count name at = seen-value _ passes (SeenVariable v) name
  seen-called so passes started (SeenWorker w) count name at = refused _ _ _ _ _
  seen-called so passes started (SeenConstant c) count name at = seen-value _ passes (SeenConstant c) name
  seen-called so passes started (SeenLibrary r) count name at = one-of started (refused _ _ _ _ _) (library-called _ _ r None count at)
  seen-called so passes started (SeenMeaning m) count name at = meaning-called _ passes m count name at
  seen-called so passes started (SeenNothing code) count name at = refused _ _ _ _ _

  pub named-called : (so : Type 0) (passes : List AtomDef → Asked → TypeLimit → Type 0) (names : Names) (started : Bool) (q : QualifiedName) (count : ℕ) (at : Place) → Stays n so (calls_named passes names started q count at)
  named-called so passes names started q count at = behind (looked-up _ _ names q) (λ seen. seen-called _ passes started seen count q.at at)

  pushed-expected : (so : Type 0) (passes : List AtomDef → Asked → TypeLimit → Type 0) (receiver : Option Shared) (at : Place) → Stays n so (expects_pushed passes receiver at)
  pushed-expected so passes None at = none-chosen _ _ _ _
  pushed-expected so passes (Some t) at = behind (asked _ _ _ (member-grows _ _ _ _)) (λ m. wanting-some n _ _)

  library-expects : (so : Type 0) (passes : List AtomDef → Asked → TypeLimit → Type 0) (call : LibraryCall) (receiver : Option Shared) (takes : Takes) (at : Place) → Stays n so (expects_of_library passes call receiver takes at)
  library-expects so passes Push receiver takes at = pushed-expected _ passes receiver at
  library-expects so passes call receiver takes at = kind-wanted _ takes

  expected-by : (so : Type 0) (passes : List AtomDef → Asked → TypeLimit → Type 0) (c : Called) (k : ℕ) (at : Place) → Stays n so (expects_by passes c k at)
  expected-by so passes (OfFunction f) k at = copy-wanted _ _
  expected-by so passes OfValue k at = wanting n _ None
  expected-by so passes (OfLibrary r receiver) k at = library-expects _ passes r.call receiver _ at

  pub argument-expected : (so : Type 0) (passes : List AtomDef → Asked → TypeLimit → Type 0) (at : Place) → Stays n so (expects_argument passes at)
  argument-expected so passes at = behind (chosen _ _ _) (λ c. expected-by _ passes c.callee c.args at)

  pub argument-kept : (so : Type 0) (passes : List AtomDef → Asked → TypeLimit → Type 0) (at : Place) → Stays n so (is_argument passes at)
  argument-kept so passes at =
      behind (chosen _ _ _) (λ c. behind (chosen _ _ _) (λ w. behind (chosen _ _ _) (λ e. behind (below-if _ _ _ _ _ w) (λ u. behind (no-more n _ 1) (λ v. call-set _ _ _)))))

  -- ---- results of the library

  gives-so : (so : Type 0) (count : ℕ) (call : LibraryCall) (P : Atoms → Ty → Type 0) (at : Place) (passes : List AtomDef → Asked → TypeLimit → Type 0) → Stays n so (gives_by count call P at)
  gives-so so count call P at passes = made-strict n _ _ _ _ _ (λ es w. tt)

  lists-so : (so : Type 0) (count : ℕ) (call : LibraryCall) (P : Atoms → Ty → Type 0) (at : Place) (passes : List AtomDef → Asked → TypeLimit → Type 0) → Stays n so (lists_by count call P at)
  lists-so so count call P at passes = behind (asked _ _ _ (adds-grows _ _)) (λ atom. made-strict n _ _ _ _ _ (λ es w. tt))

  of-member : (so : Type 0) (passes : List AtomDef → Asked → TypeLimit → Type 0) (receiver : Option Shared) (next : SemType → Step) (at : Place) → ((m : SemType) → Stays n so (next m)) → Stays n so (member_of passes receiver next at)
  of-member so passes receiver next at f = behind (chosen _ _ _) (λ t. behind (asked _ _ _ (member-grows _ _ _ _)) f)

  of-field : (so : Type 0) (passes : List AtomDef → Asked → TypeLimit → Type 0) (receiver : Option Shared) (next : SemType → Step) (at : Place) → ((m : SemType) → Stays n so (next m)) → Stays n so (field_of passes receiver next at)
  of-field so passes receiver next at f = behind (chosen _ _ _) (λ t. behind (asked _ _ _ (member-grows _ _ _ _)) f)

  library-made : (so : Type 0) (passes : List AtomDef → Asked → TypeLimit → Type 0) (call : LibraryCall) (receiver : Option Shared) (count : ℕ) (at : Place) → Stays n so (makes_library passes call receiver count at)
  library-made so passes Println receiver count at = gives-so _ _ _ _ _ passes
  library-made so passes Print receiver count at = gives-so _ _ _ _ _ passes
  library-made so passes Readln receiver count at = gives-so _ _ _ _ _ passes
  library-made so passes FromString receiver count at = gives-so _ _ _ _ _ passes
  library-made so passes Abs receiver count at = gives-so _ _ _ _ _ passes
  library-made so passes ToString receiver count at = gives-so _ _ _ _ _ passes
  library-made so passes Clone receiver count at = behind (chosen _ _ _) (λ t. made-typed n _ _ _ t _ (λ es w. tt))
  library-made so passes CloneReadOnly receiver count at = behind (chosen _ _ _) (λ t. behind (chosen _ _ _) (λ u. made-typed n _ _ _ u _ (λ es w. tt)))
  library-made so passes StringLength receiver count at = gives-so _ _ _ _ _ passes
  library-made so passes StartsWith receiver count at = gives-so _ _ _ _ _ passes
  library-made so passes Trim receiver count at = gives-so _ _ _ _ _ passes
  library-made so passes Substring receiver count at = gives-so _ _ _ _ _ passes
  library-made so passes ToUpperAscii receiver count at = gives-so _ _ _ _ _ passes
  library-made so passes ToLowerAscii receiver count at = gives-so _ _ _ _ _ passes
  library-made so passes ToCodePointInts receiver count at = lists-so _ _ _ _ _ passes
  library-made so passes ListLength receiver count at = gives-so _ _ _ _ _ passes
  library-made so passes Push receiver count at = gives-so _ _ _ _ _ passes
  library-made so passes Pop receiver count at = of-member _ passes receiver _ at (λ m. gives-so _ _ _ _ _ passes)
  library-made so passes RemoveItem receiver count at = of-member _ passes receiver _ at (λ m. gives-so _ _ _ _ _ passes)
  library-made so passes Slice receiver count at = of-member _ passes receiver _ at (λ m. lists-so _ _ _ _ _ passes)
  library-made so passes Reverse receiver count at = of-member _ passes receiver _ at (λ m. lists-so _ _ _ _ _ passes)
  library-made so passes MappingLength receiver count at = gives-so _ _ _ _ _ passes
  library-made so passes Keys receiver count at = lists-so _ _ _ _ _ passes
  library-made so passes HasKey receiver count at = gives-so _ _ _ _ _ passes
  library-made so passes Get receiver count at = of-field _ passes receiver _ at (λ m. gives-so _ _ _ _ _ passes)
  library-made so passes RemoveKey receiver count at = of-field _ passes receiver _ at (λ m. gives-so _ _ _ _ _ passes)
  library-made so passes Message receiver count at = gives-so _ _ _ _ _ passes
  library-made so passes Cause receiver count at = gives-so _ _ _ _ _ passes
  library-made so passes Detail receiver count at = gives-so _ _ _ _ _ passes

  -- ---- calls that are made

  call-made : (so : Type 0) (passes : List AtomDef → Asked → TypeLimit → Type 0) (c : Called) (count : ℕ) (at : Place) → Keeps (Standing n) so (makes_call_of passes c count at) Any (Held n)
  call-made so passes (OfFunction f) count at = forgetting (Standing n) (standing-held n) (made-strict n _ _ _ _ _ (λ es w. noted-held n (Calls f.unit) at tt w))
  call-made so passes OfValue count at = behind (chosen _ _ _) (λ parts. behind (applied-to _ _ passes parts at) (λ r. value-made n _ _ _ _))
  call-made so passes (OfLibrary r receiver) count at = forgetting (Standing n) (standing-held n) (library-made _ passes r.call receiver _ at)

  pub call-kept : (so : Type 0) (passes : List AtomDef → Asked → TypeLimit → Type 0) (at : Place) → Keeps (Standing n) so (makes_call passes at) Any (Held n)
  call-kept so passes at = behind (call-closed _ _) (λ c. call-made _ passes c.callee c.args at)

  call-started : (so : Type 0) (passes : List AtomDef → Asked → TypeLimit → Type 0) (c : Called) (count : ℕ) (here at : Place) → Keeps (Standing n) so (starts_of passes c count here at) Any (Held n)
  call-started so passes (OfFunction f) count here at = forgetting (Standing n) (standing-held n) (made-strict n _ _ _ _ _ (λ es w. noted-held n (Calls f.unit) at tt w))
  call-started so passes OfValue count here at =
      behind (chosen _ _ _) (λ parts. behind (applied-to _ _ passes parts here) (λ r. behind (asked _ _ _ (adds-grows _ _)) (λ atom. value-started n _ _ _ _)))
  call-started so passes (OfLibrary r receiver) count here at = none-chosen _ _ _ _

  pub start-kept : (so : Type 0) (passes : List AtomDef → Asked → TypeLimit → Type 0) (here at : Place) → Keeps (Standing n) so (starts passes here at) Any (Held n)
  start-kept so passes here at = behind (call-closed _ _) (λ c. call-started _ passes c.callee c.args here at)
