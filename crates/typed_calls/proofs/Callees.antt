-- What calls open with.
use Rattle.std.proofs.Common.{◌≡◌, ◌∙◌, ◌++◌, ℕ, Bool, true, false, not, List, [], ◌∷◌, length, All, Option, Some, None, IfSome, append-nil, refl, sym, subst, ap}
use Rattle.std.specs.Prelude.{◌&&◌, filter, find, if◌then◌else◌, Result, Ok, Err, ⊤}
use Rattle.std.proofs.lemmas.List.Elements.{All-cons, All-head, All-nil, All-tail}
use Rattle.bal_base.specs.declared.fault.FaultCode.{FaultCode}
use Rattle.bal_base.specs.declared.fault.FaultCode.TheVariants.{Arity, Captured, NameAsValue, NoField, Unknown}
use Rattle.bal_base.specs.declared.place.Place.{Place}
use Rattle.bal_base.specs.declared.text.Name.{Name}
use Rattle.bal_tree.specs.declared.name.Prefix.{Prefix}
use Rattle.bal_tree.specs.declared.name.Prefix.TheVariants.{Int as IntPrefix, Word as WordPrefix}
use Rattle.bal_tree.specs.declared.name.QualifiedName.{QualifiedName}
use Rattle.checks.specs.Checks.{Check, Gives, ◌▷◌, gives_some, refuses}
use Rattle.descriptors.specs.declared.names.Meaning.{Meaning}
use Rattle.descriptors.specs.declared.names.Meaning.TheVariants as meaning
use Rattle.descriptors.specs.declared.names.Names.{Names}
use Rattle.descriptors.specs.declared.names.Source.{Source}
use Rattle.descriptors.specs.declared.names.Source.TheVariants.{Library, Module}
use Rattle.descriptors.specs.Naming.{meaning_named}
use Rattle.needs.specs.Needs.{does}
use Rattle.operations.specs.declared.library.LibraryCall.{LibraryCall}
use Rattle.operations.specs.declared.operation.Constant.{Constant}
use Rattle.operations.specs.Rows.{Surroundings}
use Rattle.type_model.specs.declared.answers.TypeLimit.{TypeLimit}
use Rattle.type_model.specs.declared.atoms.AtomDef.{AtomDef}
use Rattle.type_model.specs.Calls.{Asked, KeepsTypes}
use Rattle.typed_tree.specs.declared.expr.TypedExpr.{TypedExpr}
use Rattle.typed_tree.specs.Exprs.{type_of}
use Rattle.expr_needs.specs.declared.kind.Kind.TheVariants as kind
use Rattle.flow_narrowing.specs.declared.flow.Variable.{Variable}
use Rattle.check_words.specs.Calls.{calls, calls_meaning, calls_named, calls_seen, calls_seen_value, function_takes, is_receiver, picks}
use Rattle.check_words.specs.Library.{LibraryRow, Takes, calls_of_values, functions_of_int, functions_of_io, is_named, methods, methods_named, row_of, takes_so_many}
use Rattle.check_words.specs.Seen.{Seen, SeenVariable, SeenWorker, SeenConstant, SeenLibrary, SeenMeaning, SeenNothing, as_seen, from_source, in_library, or_function, seen_as, seen_behind, variable_or, worker_or}
use Rattle.check_words.specs.Stands.{CallBelow, Stands}
use Rattle.check_words.specs.State.{CallAtWork, Called, IsLast, OfFunction, OfLibrary, OfValue, Site, State, UnitAtWork}
use Rattle.check_words.specs.Values.{constant_in, gives_meaning, gives_seen, uses}
use Rattle.check_words.specs.Words.{Atoms, OfKind, by_handles, fails, makes, unless}
use Rattle.check_words.proofs.Standing.{front-have, stands-calls}
use Rattle.tree_promises.specs.Made.{sem}
use Rattle.typed_needs.specs.Pieces.{IsBefore, MakesTyped}
use Rattle.typed_needs.specs.Placing.{AreNamed, IsStored}
use Rattle.typed_needs.proofs.Asking.{is-of-leaves, is-of-so, of-kind-later, whether-leaves, whether-opened}
use Rattle.typed_needs.proofs.Items.{mapped-all}
use Rattle.typed_needs.proofs.Leaving.{LeavesAll, all-some}
use Rattle.typed_needs.proofs.Naming.{StandsFor, seen-stands, seen-typed}
use Rattle.typed_needs.proofs.Placed.{last-same}
use Rattle.typed_needs.proofs.Strict.{never, unless-leaves}
use Rattle.typed_needs.proofs.Waits.{none-off}
use Rattle.typed_calls.specs.Callees.{CalleesAreOpened, HoldsCallee, IsFree, IsStartable, KindFits, MethodIsOpened, NamedIsOpened, OpensNamed, ValueIsOpened, opened}

-- ---- rows of the library

abbrev pub IsFreeRow : LibraryRow → Type 0
IsFreeRow r = (r ≡ row_of r.call) × IsFree r.call

abbrev pub IsMethodRow : LibraryRow → Type 0
IsMethodRow r = (r ≡ row_of r.call) × ¬ IsFree r.call

abbrev IsMethodCall : LibraryCall → Type 0
IsMethodCall c = IsMethodRow (row_of c)

-- member by member
abbrev EachHas : {A : Type 0} → (A → Type 0) → List A → Type 0
EachHas P [] = ⊤
EachHas P (x ∷ xs) = P x × EachHas P xs

each-all : {A : Type 0} (P : A → Type 0) (xs : List A) → EachHas P xs → All P xs
each-all P [] h = All-nil P
each-all P (x ∷ xs) h = All-cons P x xs h.0 (each-all P xs h.1)

all-methods : All IsMethodRow methods
all-methods =
    mapped-all IsMethodRow row_of calls_of_values
    (each-all IsMethodCall calls_of_values
    ((refl, (λ h. h)), ((refl, (λ h. h)), ((refl, (λ h. h)), ((refl, (λ h. h)), ((refl, (λ h. h)), ((refl, (λ h. h)), ((refl, (λ h. h)), ((refl, (λ h. h)), ((refl, (λ h. h)), ((refl, (λ h. h)), ((refl, (λ h. h)), ((refl, (λ h. h)), ((refl, (λ h. h)), ((refl, (λ h. h)), ((refl, (λ h. h)), ((refl, (λ h. h)), ((refl, (λ h. h)), ((refl, (λ h. h)), ((refl, (λ h. h)), ((refl, (λ h. h)), ((refl, (λ h. h)), ((refl, (λ h. h)), ((refl, (λ h. h)), ((refl, (λ h. h)), ((refl, (λ h. h)), tt))))))))))))))))))))))))))

some-kept : {A : Type 0} (P : A → Type 0) (p : A → Bool) (xs : List A) → All P xs → All P (filter p xs)
some-kept P p [] h = All-nil P
some-kept P p (x ∷ xs) h = by (p x) (All-head P x xs h) (some-kept P p xs (All-tail P x xs h))
  where
    by : (b : Bool) → P x → All P (filter p xs) → All P (if b then x ∷ filter p xs else filter p xs)
    by true here rest = All-cons P x (filter p xs) here rest
    by false here rest = rest

first-has : {A : Type 0} (P : A → Type 0) (p : A → Bool) (xs : List A) → All P xs → IfSome (find p xs) P
first-has P p [] h = tt
first-has P p (x ∷ xs) h = by (p x) (All-head P x xs h) (first-has P p xs (All-tail P x xs h))
  where
    by : (b : Bool) → P x → IfSome (find p xs) P → IfSome (if b then Some x else find p xs) P
    by true here later = here
    by false here later = later

io-free : All IsFreeRow functions_of_io
io-free = each-all IsFreeRow functions_of_io ((refl, tt), ((refl, tt), ((refl, tt), tt)))

int-free : All IsFreeRow functions_of_int
int-free = each-all IsFreeRow functions_of_int ((refl, tt), tt)

-- ---- a name of the library stands for a function of it

abbrev LibraryIsFree : Seen → Type 0
LibraryIsFree (SeenVariable v) = ⊤
LibraryIsFree (SeenWorker w) = ⊤
LibraryIsFree (SeenConstant c) = ⊤
LibraryIsFree (SeenLibrary r) = IsFreeRow r
LibraryIsFree (SeenMeaning m) = ⊤
LibraryIsFree (SeenNothing code) = ⊤

module _ (names : Names) (site : Site) (q : QualifiedName) where
  free-in-library : (r : Option LibraryRow) → IfSome r IsFreeRow → LibraryIsFree (in_library r)
  free-in-library (Some r) h = h
  free-in-library None h = tt

  free-or-function : (name : Name) (c : Option Constant) → LibraryIsFree (or_function name c)
  free-or-function name (Some c) = tt
  free-or-function name None = free-in-library _ (first-has IsFreeRow (is_named name) functions_of_int int-free)

  free-as-seen : (r : Result Meaning FaultCode) → LibraryIsFree (as_seen r)
  free-as-seen (Ok m) = tt
  free-as-seen (Err code) = tt

  free-worker : (w : Option ℕ) → LibraryIsFree (worker_or names site q w)
  free-worker (Some w) = tt
  free-worker None = free-as-seen _

  free-variable : (v : Option Variable) → LibraryIsFree (variable_or names site q v)
  free-variable (Some v) = tt
  free-variable None = free-worker _

  free-source : (s : Option Source) → LibraryIsFree (from_source names site q s)
  free-source (Some Library) = free-in-library _ (first-has IsFreeRow (is_named q.word.name) functions_of_io io-free)
  free-source (Some (Module m)) = free-as-seen _
  free-source None = free-as-seen _

  free-behind : (vs : List Variable) (p : Option Prefix) → LibraryIsFree (seen_behind names site vs q p)
  free-behind vs None = free-variable _
  free-behind vs (Some (IntPrefix at)) = free-or-function q.word.name _
  free-behind vs (Some (WordPrefix w)) = free-source _

-- ---- a name as a part leaves the calls

abbrev LeavesCalls : {A : Type 0} → Check State A → Type 0
LeavesCalls {A} m = (old new : State) (a : A) → m old (Gives a) new → new.calls ≡ old.calls

calls-then : {A B : Type 0} (m : Check State A) (next : A → Check State B) → LeavesCalls m → ((a : A) → LeavesCalls (next a)) → LeavesCalls (m ▷ next)
unfolding ◌▷◌
calls-then m next f g old new b (a, mid, first, second) = g a mid new b second ∙ f old mid a first

calls-same : {A : Type 0} (m : Check State A) → LeavesAll m → LeavesCalls m
calls-same m f old new a met = ap (λ (s : State). s.calls) (f old new a met)

calls-made : (count : ℕ) (P : Atoms → List TypedExpr → TypedExpr → Type 0) → LeavesCalls (makes count P)
unfolding does
calls-made count P old new u (parts, last, e, p, is) = ap (λ (s : State). s.calls) is

calls-failed : (code : FaultCode) (at : Place) → LeavesCalls (fails {A = Unit {0}} code at)
calls-failed code at old new u met = absurd (never code at old new met)

meaning-leaves : (m : Meaning) (at : Place) → LeavesCalls (gives_meaning m at)
meaning-leaves (meaning.TypeName t) at = calls-failed Unknown at
meaning-leaves (meaning.Constant t) at = calls-then _ _ (calls-same (constant_in t) (all-some _)) (λ c. calls-made 0 _)
meaning-leaves (meaning.Variable number final t) at = calls-made 0 _
meaning-leaves (meaning.Function f) at = calls-made 0 _

seen-leaves : (seen : Seen) (at : Place) → LeavesCalls (gives_seen seen at)
seen-leaves (SeenVariable v) at = calls-then _ _ (calls-same (uses v at) (unless-leaves (not (v.captured && v.assigned)) Captured at)) (λ u. calls-made 0 _)
seen-leaves (SeenWorker w) at = calls-failed NameAsValue at
seen-leaves (SeenConstant c) at = calls-made 0 _
seen-leaves (SeenLibrary call) at = calls-failed Unknown at
seen-leaves (SeenMeaning m) at = meaning-leaves m at
seen-leaves (SeenNothing code) at = calls-failed code at

-- ---- words

never-row : (code : FaultCode) (at : Place) (old new : State) (r : LibraryRow) → fails {A = LibraryRow} code at old (Gives r) new → ⊥
unfolding refuses
never-row code at old new r x = x

call-opened : (c : Called) (u : Unit {0}) (old new : State) → calls c old (Gives u) new → new ≡ record old { calls = old.calls ++ opened c ∷ [] }
unfolding does
call-opened c u old new is = is

unless-so : (b : Bool) (code : FaultCode) (at : Place) (u : Unit {0}) (old new : State) → unless b code at old (Gives u) new → (b ≡ true) × (new ≡ old)
unless-so true code at u old new met = (refl, unless-leaves true code at old new u met)
unless-so false code at u old new met = absurd (never code at old new met)

-- where the arguments are as many as is said
opened-when : (b : Bool) (at : Place) (c : Called) (old new : State) → (unless b Arity at ▷ λ u. calls c) old (Gives tt) new
    → (b ≡ true) × (new ≡ record old { calls = old.calls ++ opened c ∷ [] })
unfolding ◌▷◌
opened-when b at c old new (u, mid, first, second) =
    let (holds, same) = unless-so b Arity at u old mid first in
    (holds, call-opened c tt mid new second ∙ ap (λ (s : State). record s { calls = s.calls ++ opened c ∷ [] }) same)

-- before a call was opened it stood as well
before-call : (env : List AtomDef) (mid new : State) (c : CallAtWork) → new ≡ record mid { calls = mid.calls ++ c ∷ [] } → IsBefore env new → IsBefore env mid
before-call env mid new c is after =
    let calls : new.calls ≡ mid.calls ++ c ∷ [] = ap (λ (s : State). s.calls) is in
    let atoms : new.atoms ≡ mid.atoms = ap (λ (s : State). s.atoms) is in
    let first : All (CallBelow (length new.atoms)) mid.calls =
    front-have (CallBelow (length new.atoms)) mid.calls (c ∷ []) (subst (All (CallBelow (length new.atoms))) calls after.stands.calls) in
    let back : record new { calls = mid.calls } ≡ mid = ap (λ (s : State). record s { calls = mid.calls }) is in
    record { stands = subst Stands back (stands-calls new after.stands mid.calls first); keeps = subst (λ xs. KeepsTypes xs env) atoms after.keeps }

module _ (passes : List AtomDef → Asked → TypeLimit → Type 0) (names : Names) (env : List AtomDef) (place : Surroundings) where
  -- ---- names

  abbrev Opens : Bool → ℕ → State → State → Type 0
  Opens = OpensNamed passes names env place

  opens-none : (started : Bool) (count : ℕ) (callee : Called) (old new : State) → new ≡ record old { calls = old.calls ++ opened callee ∷ [] }
      → HoldsCallee env place count callee [] → (started ≡ true → IsStartable callee) → Opens started count old new
  opens-none started count callee old new is holds startable =
      record {
        callee = callee;
        parts = [];
        calls = ap (λ (s : State). s.calls) is;
        found = ap (λ (s : State). s.found) is ∙ sym (append-nil old.found);
        typed = tt;
        holds = holds;
        startable = startable;
      }

  -- a value, which has to be a function
  value-seen : (started : Bool) (count : ℕ) (seen : Seen) (at : Place) (q : QualifiedName) (old new : State) → IsBefore env new → calls_seen_value passes seen at old (Gives tt) new
      → StandsFor names old.site place q seen → AreNamed env names place → Opens started count old new
  unfolding ◌▷◌
  value-seen started count seen at q old new after (u, s1, first, (v, s2, of, put)) stands named =
      let same : s2 ≡ s1 = is-of-leaves passes kind.AnyFunction at s1 s2 v of in
      let is : new ≡ record s1 { calls = s1.calls ++ opened OfValue ∷ [] } =
      call-opened OfValue tt s2 new put ∙ ap (λ (s : State). record s { calls = s.calls ++ opened OfValue ∷ [] }) same in
      let before : IsBefore env s1 = before-call env s1 new (opened OfValue) is after in
      let made : MakesTyped passes names env place 0 old s1 = seen-typed env passes names place seen at old.site q old s1 before first stands named in
      let found : s1.found ≡ old.found ++ made.part ∷ [] = made.found ∙ ap (λ xs. xs ++ made.part ∷ []) (none-off old.found) in
      let function = is-of-so passes names env kind.AnyFunction at v s1 s2 made.part before of (record { kept = old.found; is = found }) in
      record {
        callee = OfValue;
        parts = made.part ∷ [];
        calls = ap (λ (s : State). s.calls) is ∙ ap (λ cs. cs ++ opened OfValue ∷ []) (seen-leaves seen at old s1 u first);
        found = ap (λ (s : State). s.found) is ∙ found;
        typed = (made.typed, tt);
        holds = (made.part, refl, function);
        startable = λ e. tt;
      }

  meaning-opened : (started : Bool) (m : Meaning) (count : ℕ) (name at : Place) (q : QualifiedName) (old new : State) → IsBefore env new
      → calls_meaning passes m count name at old (Gives tt) new → meaning_named names old.site.scope q ≡ Ok m → AreNamed env names place → Opens started count old new
  meaning-opened started (meaning.TypeName t) count name at q old new after met is named = absurd (never Unknown name old new met)
  meaning-opened started (meaning.Constant t) count name at q old new after met is named =
      value-seen started count (SeenMeaning (meaning.Constant t)) name q old new after met is named
  meaning-opened started (meaning.Variable number final t) count name at q old new after met is named =
      value-seen started count (SeenMeaning (meaning.Variable number final t)) name q old new after met is named
  meaning-opened started (meaning.Function f) count name at q old new after met is named =
      let (takes, all) = opened-when (function_takes f count) at (OfFunction f) old new met in
      opens-none started count (OfFunction f) old new all (refl, takes, named.functions old.site.scope q f is) (λ e. tt)

  seen-opened : (started : Bool) (seen : Seen) (count : ℕ) (name at : Place) (q : QualifiedName) (old new : State) → IsBefore env new
      → calls_seen passes started seen count name at old (Gives tt) new → StandsFor names old.site place q seen → LibraryIsFree seen → AreNamed env names place
      → Opens started count old new
  seen-opened started (SeenVariable v) count name at q old new after met stands free named = value-seen started count (SeenVariable v) name q old new after met stands named
  seen-opened started (SeenWorker w) count name at q old new after met stands free named = absurd (never NameAsValue name old new met)
  seen-opened started (SeenConstant c) count name at q old new after met stands free named = value-seen started count (SeenConstant c) name q old new after met stands named
  seen-opened true (SeenLibrary r) count name at q old new after met stands free named = absurd (never Unknown name old new met)
  seen-opened false (SeenLibrary r) count name at q old new after met stands free named =
      let (takes, all) = opened-when (takes_so_many r count) at (OfLibrary r None) old new met in
      opens-none false count (OfLibrary r None) old new all (free.0, takes, (refl, free.1)) (λ e. absurd (let bad : ⊥ = cc in bad))
  seen-opened started (SeenMeaning m) count name at q old new after met stands free named = meaning-opened started m count name at q old new after met stands named
  seen-opened started (SeenNothing code) count name at q old new after met stands free named = absurd (never code name old new met)

  named-looked-up : (started : Bool) (q : QualifiedName) (count : ℕ) (at : Place) (old new : State) → calls_named passes names started q count at old (Gives tt) new
      → (u : UnitAtWork) × IsLast old.units u × calls_seen passes started (seen_as names old.site u.flow.variables q) count q.at at old (Gives tt) new
  unfolding ◌▷◌ gives_some
  named-looked-up started q count at old new (seen, b, (u, a, (last, first), (is, second)), met) =
      let one : a ≡ old = first in let two : b ≡ old = second ∙ one in
      let seen-is : seen ≡ seen_as names old.site u.flow.variables q = is ∙ ap (λ (s : State). seen_as names s.site u.flow.variables q) one in (
        u,
        last,
        subst (λ (x : Seen). calls_seen passes started x count q.at at old (Gives tt) new) seen-is (subst (λ (s : State). calls_seen passes started seen count q.at at s (Gives tt) new) two met),
      )

  named : NamedIsOpened passes names env place
  named started q count at old new after met stored names-are =
      let (u, last, seen) = named-looked-up started q count at old new met in
      let same : stored.unit ≡ u = last-same old.units stored.unit u stored.at_hand last in
      let all : All (IsStored place) u.flow.variables = subst (λ (v : UnitAtWork). All (IsStored place) v.flow.variables) same stored.variables in
      seen-opened started (seen_as names old.site u.flow.variables q) count q.at at q old new after seen (seen-stands names old.site place q u.flow.variables all)
      (free-behind names old.site q u.flow.variables q.prefix) names-are

  -- ---- values and methods

  value : ValueIsOpened passes names env place
  value count old new e met function = (call-opened OfValue tt old new met, (e, refl, function))

  receiver-so : (k : Takes) (e : TypedExpr) (at : Place) (old mid : State) → IsBefore env old → IsLast old.found e → is_receiver passes k e at old (Gives true) mid → KindFits env k e
  receiver-so None e at old mid before last met = tt
  receiver-so (Some k) e at old mid before last met = of-kind-later passes names env k old e before last (whether-opened passes (OfKind k) (sem e) at old mid met)

  receiver-leaves : (k : Takes) (e : TypedExpr) (at : Place) → LeavesAll (is_receiver passes k e at)
  receiver-leaves None e at = all-some _
  receiver-leaves (Some k) e at = whether-leaves passes (OfKind k) (sem e) at

  abbrev Picked : LibraryRow → TypedExpr → State → State → Type 0
  Picked r e old new = IsMethodRow r × KindFits env r.receiver e × (new ≡ old)

  picked : (rows : List LibraryRow) (e : TypedExpr) (at : Place) (old new : State) (r : LibraryRow) → IsBefore env old → IsLast old.found e → All IsMethodRow rows
      → picks passes rows e at old (Gives r) new → Picked r e old new
  unfolding ◌▷◌ gives_some
  picked [] e at old new r before last all met = absurd (never-row NoField at old new r met)
  picked (row ∷ rows) e at old new r before last all (true, mid, asked, (is, same)) =
      let still : mid ≡ old = receiver-leaves row.receiver e at old mid true asked in (
        subst IsMethodRow (sym is) (All-head IsMethodRow row rows all),
        subst (λ (x : LibraryRow). KindFits env x.receiver e) (sym is) (receiver-so row.receiver e at old mid before last asked),
        same ∙ still,
      )
  picked (row ∷ rows) e at old new r before last all (false, mid, asked, rest) =
      let still : mid ≡ old = receiver-leaves row.receiver e at old mid false asked in
      picked rows e at old new r before last (All-tail IsMethodRow row rows all) (subst (λ (s : State). picks passes rows e at s (Gives r) new) still rest)

  method : MethodIsOpened passes names env place
  unfolding ◌▷◌ gives_some by_handles
  method w count at old new e before (f, s1, (l, e1), (r, s2, picks-it, (t, s3, (same, e3), put))) last =
      let one : f ≡ e = last-same old.found f e l last in
      let picks' : picks passes (methods_named w.name) e at old (Gives r) s2 =
      subst (λ (p : TypedExpr). picks passes (methods_named w.name) p at old (Gives r) s2) one (subst (λ (s : State). picks passes (methods_named w.name) f at s (Gives r) s2) e1 picks-it) in
      let (row, fits, still) = picked (methods_named w.name) e at old s2 r before last (some-kept IsMethodRow (is_named w.name) methods all-methods) picks' in
      let (takes, all) = opened-when (takes_so_many r count) at (OfLibrary r (Some t)) s3 new put in
      let value : t.value ≡ (type_of e).value = same ∙ ap (λ (p : TypedExpr). (type_of p).value) one in (
        OfLibrary r (Some t),
        all ∙ ap (λ (s : State). record s { calls = s.calls ++ opened (OfLibrary r (Some t)) ∷ [] }) (e3 ∙ still),
        (row.0, takes, (row.1, (e, refl, (value, fits)))),
      )

  pub callees-are-opened : CalleesAreOpened passes names env place
  callees-are-opened = record { named = named; values = value; methods = method }
