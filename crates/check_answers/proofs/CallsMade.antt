-- Calls that are made: two runs of the need agree.
use Rattle.std.proofs.Common.{◌≡◌, ◌++◌, ◌+◌, ◌<◌, ℕ, suc, List, [], ◌∷◌, All, length, Option, Some, None, arith, refl, sym, subst, ap}
use Rattle.std.specs.List.{AllZip}
use Rattle.std.proofs.lemmas.List.Elements.{All-nil}
use Rattle.bal_base.specs.declared.place.Place.{Place}
use Rattle.bal_base.specs.declared.shape.Shape.{Shape}
use Rattle.checks.specs.Agreement.{Alike, AreTwins, BothKeep}
use Rattle.checks.specs.Checks.{Gives, Refuses, ◌▷◌}
use Rattle.checks.specs.Questions.{member}
use Rattle.checks.proofs.Twins.{applied-alike, member-alike}
use Rattle.descriptors.specs.declared.names.Signature.{Signature}
use Rattle.descriptors.specs.Described.{IsCopy, IsPlain, plain}
use Rattle.operations.specs.Kinds.{IsReadonly}
use Rattle.operations.specs.declared.library.LibraryCall.{LibraryCall}
use Rattle.operations.specs.declared.library.LibraryCall.TheVariants.{Abs, Cause, Clone, CloneReadOnly, Detail, FromString, Get, HasKey, Keys, ListLength, MappingLength, Message, Pop, Print, Println, Push, Readln, RemoveItem, RemoveKey, Reverse, Slice, StartsWith, StringLength, Substring, ToCodePointInts, ToLowerAscii, ToString, ToUpperAscii, Trim}
use Rattle.type_model.specs.declared.answers.Keys.{Keys as MemberKeys}
use Rattle.type_model.specs.declared.answers.Keys.TheVariants.{AnyField, AnyIndex}
use Rattle.type_model.specs.declared.answers.TypeLimit.{TypeLimit}
use Rattle.type_model.specs.declared.atoms.AtomDef.{AtomDef}
use Rattle.type_model.specs.declared.atoms.AtomDef.TheVariants.{List as ListAtom}
use Rattle.type_model.specs.declared.basic.SemType.{Atom, SemType}
use Rattle.type_model.specs.declared.basic.Ty.{Ty}
use Rattle.type_model.specs.Calls.{Asked}
use Rattle.type_model.specs.Defined.{IsClosed, IsDefined, TyBelow}
use Rattle.type_model.proofs.DefinedLaws.{NamesBelow-more}
use Rattle.typed_tree.specs.declared.expr.TypedExpr.{TypedExpr}
use Rattle.typed_tree.specs.declared.form.Callee.TheVariants as callee
use Rattle.typed_tree.specs.declared.form.StrictForm.TheVariants as form
use Rattle.typed_tree.specs.Exprs.{type_of}
use Rattle.typed_tree.specs.SharedTypes.{Shared, sem_of}
use Rattle.expr_needs.specs.declared.kind.Kind.{Kind}
use Rattle.expr_needs.specs.declared.kind.Kind.TheVariants as kind
use Rattle.check_words.specs.Calls.{AreTypesOf, IsType, applies_to, callee_unit, clones_readonly, field_of, gives_by, lists_by, makes_call, makes_call_of, makes_library, member_of, receiver_type, receivers}
use Rattle.check_words.specs.Sharing.{SameOption}
use Rattle.check_words.specs.State.{Called, OfFunction, OfLibrary, OfValue}
use Rattle.check_words.specs.Words.{Atoms, OfKind, Step, makes_strict, sem}
use Rattle.check_answers.specs.Answers.{TwinsOver}
use Rattle.check_answers.specs.Pieces as say
use Rattle.check_answers.specs.TwinStates.{CallTwins, CalledTwins, PartTwins, SharedTwins}
use Rattle.check_answers.specs.TwinTypes.{SettledTwins, TwinAtoms, TwinDefs, TwinTypes}
use Rattle.check_answers.proofs.Adding.{Grown, adds-leads, grown-ends}
use Rattle.check_answers.proofs.Agreeing.{behind-over}
use Rattle.check_answers.proofs.Growing.{settled-later}
use Rattle.check_answers.proofs.Leading.{Any2, Leads, Pairs, leads-asking, leads-nothing, leads-over, leads-regroup, leads-some, leads-then, leads-to}
use Rattle.check_answers.proofs.Made.{group, same-atom}
use Rattle.check_answers.proofs.Meanings.{copies-twin, itself-twin, kinds-twin, part-twin, same-twin}
use Rattle.check_answers.proofs.MemberReads.{plain-twins}
use Rattle.check_answers.proofs.Questions.{Before, Behind, D, Equal, before-atoms, strict-leads, typed-leads}
use Rattle.check_answers.proofs.Words.{closes-call-leads, parts-leads}

-- a type whose shapes are said, and which names no atom
plain-below : (env : Atoms) (P : Shape → Type 0) (t : Ty) → IsPlain P env t → IsDefined [] t.sem → TyBelow (length env) t
plain-below env P t h d = (
  NamesBelow-more 0 (length env) (omega arith) t.sem d,
  subst (All (λ c. c.atom < length env)) (sym h.lists) (All-nil (λ c. c.atom < length env)),
  subst (All (λ c. c.atom < length env)) (sym h.maps) (All-nil (λ c. c.atom < length env)),
)

module _ (passes : List AtomDef → Asked → TypeLimit → Type 0) (m n : Atoms) (first : IsClosed m) (second : IsClosed n) (twins : TwinAtoms m n) where
  abbrev B : Pairs
  B = Before m n

  abbrev E : Ty → Ty → Type 0
  E = D m n

  -- a need that adds no atoms goes to its end
  pub ending : (c d : Step) → Leads B (Behind m n) Any2 c d → Leads B TwinsOver Any2 c d
  ending c d h = leads-to B (Behind m n) TwinsOver Any2 Any2 c d (λ s t a b k q. (behind-over m n s t twins k, q)) h

  -- ---- members

  abbrev Sems : SemType → SemType → Type 0
  Sems a b = AreTwins m a n b × IsDefined m a × IsDefined n b

  member-settled : (s u : SemType) (keys : MemberKeys) (at : Option Place) → AreTwins m s n u → Alike (BothKeep m n Sems) m n (member passes s keys at) (member passes u keys at)
  unfolding member
  member-settled s u keys at h (Gives a) (Gives b) m2 n2 x y =
      let r = member-alike passes m n s u keys at h (Gives a) (Gives b) m2 n2 x y in
      ((r.0, subst (λ k. IsDefined k a) refl x.0, y.0), r.1, r.2)
  member-settled s u keys at h (Gives a) (Refuses g) m2 n2 x y = member-alike passes m n s u keys at h (Gives a) (Refuses g) m2 n2 x y
  member-settled s u keys at h (Refuses f) (Gives b) m2 n2 x y = member-alike passes m n s u keys at h (Refuses f) (Gives b) m2 n2 x y
  member-settled s u keys at h (Refuses f) (Refuses g) m2 n2 x y = member-alike passes m n s u keys at h (Refuses f) (Refuses g) m2 n2 x y

  plain-settled : (a b : SemType) (t u : Ty) → Sems a b → t ≡ plain a → u ≡ plain b → SettledTwins m n t u
  plain-settled a b t u h x y =
      subst (λ k. SettledTwins m n k u) (sym x) (subst (SettledTwins m n (plain a)) (sym y)
      (record {
        twins = record { shapes = h.0; lists = refl; maps = refl };
        first = (h.1, All-nil (λ c. c.atom < length m), All-nil (λ c. c.atom < length m));
        second = (h.2, All-nil (λ c. c.atom < length n), All-nil (λ c. c.atom < length n));
      }))

  ints-settled : (t u : Ty) → OfKind kind.Integer m t → OfKind kind.Integer n u → SettledTwins m n t u
  ints-settled t u h k = record { twins = kinds-twin m n kind.Integer t u h k; first = plain-below m _ t h.0 h.1; second = plain-below n _ u k.0 k.1 }

  texts-settled : (t u : Ty) → OfKind kind.Text m t → OfKind kind.Text n u → SettledTwins m n t u
  texts-settled t u h k = record { twins = kinds-twin m n kind.Text t u h k; first = plain-below m _ t h.0 h.1; second = plain-below n _ u k.0 k.1 }

  -- ---- results of the library

  gives-leads : (k : ℕ) (call : LibraryCall) (P Q : Atoms → Ty → Type 0) (at : Place) → ((t u : Ty) → P m t → Q n u → TwinTypes m n t u)
      → Leads B TwinsOver Any2 (gives_by k call P at) (gives_by k call Q at)
  gives-leads k call P Q at h = ending _ _ (strict-leads m n k (form.Library call None None) (form.Library call None None) P Q at (refl, refl) h)

  kind-made : (k : ℕ) (call : LibraryCall) (of : Kind) (at : Place) → Leads B TwinsOver Any2 (gives_by k call (OfKind of) at) (gives_by k call (OfKind of) at)
  kind-made k call of at = gives-leads k call (OfKind of) (OfKind of) at (kinds-twin m n of)

  listed : (P Q : Atoms → Ty → Type 0) (d e : List AtomDef) → ((t u : Ty) → P m t → Q n u → SettledTwins m n t u) → (t : Ty) × P m t × (d ≡ ListAtom [] (Some t) ∷ [])
      → (u : Ty) × Q n u × (e ≡ ListAtom [] (Some u) ∷ []) → AllZip (TwinDefs (m ++ d) (n ++ e)) d e
  listed P Q d e f (t, p, x) (u, q, y) =
      group m n first second twins d e _ _ x y ((tt, (let k = settled-later m n d e first second t u (f t u p q) in k.twins)), tt)

  lists-leads : (k : ℕ) (call : LibraryCall) (P Q : Atoms → Ty → Type 0) (at : Place) → ((t u : Ty) → P m t → Q n u → SettledTwins m n t u)
      → Leads B TwinsOver Any2 (lists_by k call P at) (lists_by k call Q at)
  lists-leads k call P Q at f =
      leads-then B (Grown m n) TwinsOver Equal Any2 _ _ _ _ (adds-leads m n first second twins _ _ (Some at) (λ d e x y. listed P Q d e f x y))
      (λ a b e. grown-ends m n Any2 _ _ (λ more others z.
      strict-leads (m ++ more) (n ++ others) k (form.Library call (Some a) None) (form.Library call (Some b) None) _ _ at (ap (λ i. say.DoesCall call (Some i)) e, refl)
      (λ t u x y. plain-twins (m ++ more) (n ++ others) (Atom a) (Atom b) t u (same-atom (m ++ more) (n ++ others) z a b e) x y)))

  receiver-leads : (o p : Option Shared) → SameOption (SharedTwins E E) o p → Leads B B (SharedTwins E E) (receiver_type passes o) (receiver_type passes p)
  receiver-leads o p h = leads-some B _ _ _ (λ s t a b q x y. of o p a b h x y)
    where
      of : (o p : Option Shared) (a b : Shared) → SameOption (SharedTwins E E) o p → o ≡ Some a → p ≡ Some b → SharedTwins E E a b
      of o p a b h x y = subst (λ k. SameOption (SharedTwins E E) k (Some b)) x (subst (SameOption (SharedTwins E E) o) y h)

  member-leads : (o p : Option Shared) (next other : SemType → Step) (at : Place) → SameOption (SharedTwins E E) o p
      → ((a b : SemType) → Sems a b → Leads B TwinsOver Any2 (next a) (other b)) → Leads B TwinsOver Any2 (member_of passes o next at) (member_of passes p other at)
  member-leads o p next other at h f =
      leads-then B B TwinsOver (SharedTwins E E) Any2 _ _ _ _ (receiver-leads o p h)
      (λ t u k. leads-then B B TwinsOver Sems Any2 _ _ _ _
      (leads-asking m n B Sems _ _ (before-atoms m n) (member-settled (sem_of t) (sem_of u) AnyIndex (Some at) k.twins.shapes)) f)

  field-leads : (o p : Option Shared) (next other : SemType → Step) (at : Place) → SameOption (SharedTwins E E) o p
      → ((a b : SemType) → Sems a b → Leads B TwinsOver Any2 (next a) (other b)) → Leads B TwinsOver Any2 (field_of passes o next at) (field_of passes p other at)
  field-leads o p next other at h f =
      leads-then B B TwinsOver (SharedTwins E E) Any2 _ _ _ _ (receiver-leads o p h)
      (λ t u k. leads-then B B TwinsOver Sems Any2 _ _ _ _
      (leads-asking m n B Sems _ _ (before-atoms m n) (member-settled (sem_of t) (sem_of u) AnyField (Some at) k.twins.shapes)) f)

  type-made : (k : ℕ) (call : LibraryCall) (at : Place) (a b : SemType) → Sems a b
      → Leads B TwinsOver Any2 (gives_by k call (IsType passes a) at) (gives_by k call (IsType passes b) at)
  type-made k call at a b h = gives-leads k call (IsType passes a) (IsType passes b) at (λ t u x y. plain-twins m n a b t u h.0 x y)

  list-made : (k : ℕ) (call : LibraryCall) (at : Place) (a b : SemType) → Sems a b
      → Leads B TwinsOver Any2 (lists_by k call (IsType passes a) at) (lists_by k call (IsType passes b) at)
  list-made k call at a b h = lists-leads k call (IsType passes a) (IsType passes b) at (λ t u x y. plain-settled a b t u h x y)

  -- the receiver, made immutable, and what its type is cast to
  clone-leads : (t u : Shared) (k : ℕ) (at : Place) → SharedTwins E E t u → Leads B TwinsOver Any2 (clones_readonly k t at) (clones_readonly k u at)
  clone-leads t u k at h =
      leads-then B B TwinsOver (SharedTwins E E) Any2 _ _ _ _
      (leads-over m n B (SharedTwins E E) _ _ (before-atoms m n)
      (λ a b x y. record { twins = part-twin m n (sem_of t) (sem_of u) IsReadonly a.value b.value h.twins.shapes x.0 y.0; first = x.1; second = y.1 }))
      (λ a b i. ending _ _ (typed-leads m n k (form.Library CloneReadOnly None (Some a)) (form.Library CloneReadOnly None (Some b)) a b at (refl, i) i.twins))

  library-leads : (call : LibraryCall) (o p : Option Shared) (k : ℕ) (at : Place) → SameOption (SharedTwins E E) o p
      → Leads B TwinsOver Any2 (makes_library passes call o k at) (makes_library passes call p k at)
  library-leads Println o p k at h = kind-made k Println kind.Nothing at
  library-leads Print o p k at h = kind-made k Print kind.Nothing at
  library-leads Readln o p k at h = kind-made k Readln kind.Text at
  library-leads FromString o p k at h = gives-leads k FromString _ _ at (λ t u x y. same-twin m n _ t u x y)
  library-leads Abs o p k at h = kind-made k Abs kind.Integer at
  library-leads ToString o p k at h = kind-made k ToString kind.Text at
  library-leads Clone o p k at h =
      leads-then B B TwinsOver (SharedTwins E E) Any2 _ _ _ _ (receiver-leads o p h)
      (λ t u i. ending _ _ (typed-leads m n k (form.Library Clone None None) (form.Library Clone None None) t u at (refl, refl) i.twins))
  library-leads CloneReadOnly o p k at h = leads-then B B TwinsOver (SharedTwins E E) Any2 _ _ _ _ (receiver-leads o p h) (λ t u i. clone-leads t u k at i)
  library-leads StringLength o p k at h = kind-made k StringLength kind.Integer at
  library-leads StartsWith o p k at h = kind-made k StartsWith kind.Truth at
  library-leads Trim o p k at h = kind-made k Trim kind.Text at
  library-leads Substring o p k at h = kind-made k Substring kind.Text at
  library-leads ToUpperAscii o p k at h = kind-made k ToUpperAscii kind.Text at
  library-leads ToLowerAscii o p k at h = kind-made k ToLowerAscii kind.Text at
  library-leads ToCodePointInts o p k at h = lists-leads k ToCodePointInts (OfKind kind.Integer) (OfKind kind.Integer) at ints-settled
  library-leads ListLength o p k at h = kind-made k ListLength kind.Integer at
  library-leads Push o p k at h = kind-made k Push kind.Nothing at
  library-leads Pop o p k at h = member-leads o p _ _ at h (λ a b i. type-made k Pop at a b i)
  library-leads RemoveItem o p k at h = member-leads o p _ _ at h (λ a b i. type-made k RemoveItem at a b i)
  library-leads Slice o p k at h = member-leads o p _ _ at h (λ a b i. list-made k Slice at a b i)
  library-leads Reverse o p k at h = member-leads o p _ _ at h (λ a b i. list-made k Reverse at a b i)
  library-leads MappingLength o p k at h = kind-made k MappingLength kind.Integer at
  library-leads Keys o p k at h = lists-leads k Keys (OfKind kind.Text) (OfKind kind.Text) at texts-settled
  library-leads HasKey o p k at h = kind-made k HasKey kind.Truth at
  library-leads Get o p k at h = field-leads o p _ _ at h (λ a b i. type-made k Get at a b i)
  library-leads RemoveKey o p k at h = field-leads o p _ _ at h (λ a b i. type-made k RemoveKey at a b i)
  library-leads Message o p k at h = kind-made k Message kind.Text at
  library-leads Cause o p k at h = kind-made k Cause kind.ErrorOrNil at
  library-leads Detail o p k at h = gives-leads k Detail _ _ at (λ t u x y. same-twin m n _ t u x y)

  -- ---- values that are called

  copies-of : (d e : Atoms) (es fs : List TypedExpr) (ts us : List Ty) → AllZip (PartTwins E E) es fs → AreTypesOf passes es ts → AreTypesOf passes fs us
      → AllZip (TwinTypes (m ++ d) (n ++ e)) ts us
  copies-of d e [] [] [] [] h x y = tt
  copies-of d e (a ∷ es) (b ∷ fs) (t ∷ ts) (u ∷ us) h x y = (
    (let k = settled-later m n d e first second (type_of a).value (type_of b).value h.0.ty in
        copies-twin (m ++ d) (n ++ e) (type_of a).value (type_of b).value t u k.twins x.0 y.0),
    copies-of d e es fs ts us h.1 x.1 y.1,
  )
  copies-of d e [] (b ∷ fs) ts us h x y = absurd h
  copies-of d e (a ∷ es) [] ts us h x y = absurd h
  copies-of d e [] [] (t ∷ ts) us h x y = absurd x
  copies-of d e [] [] [] (u ∷ us) h x y = absurd y
  copies-of d e (a ∷ es) (b ∷ fs) [] us h x y = absurd x
  copies-of d e (a ∷ es) (b ∷ fs) (t ∷ ts) [] h x y = absurd y

  pub arguments-same : (es fs : List TypedExpr) (d e : List AtomDef) → AllZip (PartTwins E E) es fs → (ts : List Ty) × AreTypesOf passes es ts × (d ≡ ListAtom ts None ∷ [])
      → (us : List Ty) × AreTypesOf passes fs us × (e ≡ ListAtom us None ∷ []) → AllZip (TwinDefs (m ++ d) (n ++ e)) d e
  arguments-same es fs d e h (ts, x, p) (us, y, q) = group m n first second twins d e _ _ p q ((copies-of d e es fs ts us h x y, tt), tt)

  -- what the value gives, and then the part that is made
  value-made : (es fs : List TypedExpr) (k : ℕ) (at : Place) → AllZip (PartTwins E E) es fs
      → Leads B TwinsOver Any2 (applies_to passes es at ▷ λ r. makes_strict k (form.Call callee.Value) (IsType passes r) at) (applies_to passes fs at ▷ λ r. makes_strict k (form.Call callee.Value) (IsType passes r) at)
  value-made (f ∷ args) (g ∷ others) k at h =
      leads-regroup B TwinsOver Any2 _ _ _ _ _ _
      (leads-then B (Grown m n) TwinsOver Equal Any2 _ _ _ _
      (adds-leads m n first second twins _ _ (Some at) (λ d e x y. arguments-same args others d e h.1 x y))
      (λ a b e. grown-ends m n Any2 _ _ (λ more others2 z.
      let M = m ++ more in let N = n ++ others2 in
      let t = settled-later m n more others2 first second (type_of f).value (type_of g).value h.0.ty in
      leads-then (Before M N) (Before M N) (Behind M N) (λ r s. AreTwins M r N s) Any2 _ _ _ _
      (leads-asking M N (Before M N) (λ r s. AreTwins M r N s) _ _ (before-atoms M N)
      (applied-alike passes M N (sem f) (Atom a) (sem g) (Atom b) (Some at) t.twins.shapes (same-atom M N z a b e)))
      (λ r s i. strict-leads M N k (form.Call callee.Value) (form.Call callee.Value) (IsType passes r) (IsType passes s) at refl (λ x y p q. plain-twins M N r s x y i p q)))))
  value-made [] [] k at h = leads-then B B TwinsOver (λ r s. AreTwins m r n s) Any2 _ _ _ _ (leads-nothing B B (λ r s. AreTwins m r n s) _)
      (λ r s i. ending _ _ (strict-leads m n k (form.Call callee.Value) (form.Call callee.Value) (IsType passes r) (IsType passes s) at refl (λ x y p q. plain-twins m n r s x y i p q)))
  value-made [] (g ∷ others) k at h = absurd h
  value-made (f ∷ args) [] k at h = absurd h

  -- ---- calls

  receivers-same : (o p : Option Shared) → SameOption (SharedTwins E E) o p → receivers passes p ≡ receivers passes o
  receivers-same None None h = refl
  receivers-same (Some t) (Some u) h = refl
  receivers-same None (Some u) h = absurd h
  receivers-same (Some t) None h = absurd h

  function-made : (f : Signature) (k : ℕ) (at : Place)
      → Leads B TwinsOver Any2 (makes_strict k (form.Call (callee_unit f)) (λ env. IsCopy f.result) at) (makes_strict k (form.Call (callee_unit f)) (λ env. IsCopy f.result) at)
  function-made f k at =
      ending _ _ (strict-leads m n k (form.Call (callee_unit f)) (form.Call (callee_unit f)) (λ env. IsCopy f.result) (λ env. IsCopy f.result) at refl
      (λ a b x y. copies-twin m n f.result f.result a b (itself-twin m n twins f.result) x y))

  call-of : (c d : Called) (k : ℕ) (at : Place) → CalledTwins E E c d → Leads B TwinsOver Any2 (makes_call_of passes c k at) (makes_call_of passes d k at)
  call-of (OfFunction f) (OfFunction g) k at h =
      subst (λ i. Leads B TwinsOver Any2 (makes_call_of passes (OfFunction f) k at) (makes_call_of passes (OfFunction i) k at)) (sym h) (function-made f k at)
  call-of OfValue OfValue k at h =
      leads-then B B TwinsOver (AllZip (PartTwins E E)) Any2 _ _ _ _ (parts-leads m n E E (suc k)) (λ es fs i. value-made es fs (suc k) at i)
  call-of (OfLibrary r o) (OfLibrary q p) k at h =
      subst (λ i. Leads B TwinsOver Any2 (makes_call_of passes (OfLibrary r o) k at) (makes_call_of passes (OfLibrary i p) k at)) (sym h.0)
      (subst (λ i. Leads B TwinsOver Any2 (makes_library passes r.call o (receivers passes o + k) at) (makes_library passes r.call p (i + k) at)) (sym (receivers-same o p h.1))
      (library-leads r.call o p (receivers passes o + k) at h.1))
  call-of (OfFunction f) OfValue k at h = absurd h
  call-of (OfFunction f) (OfLibrary q p) k at h = absurd h
  call-of OfValue (OfFunction g) k at h = absurd h
  call-of OfValue (OfLibrary q p) k at h = absurd h
  call-of (OfLibrary r o) (OfFunction g) k at h = absurd h
  call-of (OfLibrary r o) OfValue k at h = absurd h

  pub makes-call-leads : (at : Place) → Leads B TwinsOver Any2 (makes_call passes at) (makes_call passes at)
  makes-call-leads at =
      leads-then B B TwinsOver (CallTwins E E) Any2 _ _ _ _ (closes-call-leads m n E E)
      (λ c d h. subst (λ i. Leads B TwinsOver Any2 (makes_call_of passes c.callee c.args at) (makes_call_of passes d.callee i at)) (sym h.args) (call-of c.callee d.callee c.args at h.callee))
