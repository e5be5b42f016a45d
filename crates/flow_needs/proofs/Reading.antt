-- What a name stands for, as a part that keeps the flow: a variable is read where it is known, and as what it is narrowed to where it is known in that type.
use Rattle.std.proofs.Common.{◌≡◌, ◌≤◌, ◌∙◌, ◌++◌, ℕ, Bool, List, [], ◌∷◌, length, Option, None, Some, Result, Ok, Err, append-nil, arith, refl, sym, subst, ap}
use Rattle.std.specs.Prelude.{is_some, ⊤}
use Rattle.std.proofs.lemmas.List.Elements.{All-nil}
use Rattle.bal_base.specs.declared.fault.FaultCode.{FaultCode}
use Rattle.bal_base.specs.declared.place.Place.{Place}
use Rattle.bal_base.specs.declared.text.Name.{Name}
use Rattle.bal_tree.specs.declared.name.Prefix.{Prefix}
use Rattle.bal_tree.specs.declared.name.Prefix.TheVariants.{Word as WordPrefix, Int as IntPrefix}
use Rattle.bal_tree.specs.declared.name.QualifiedName.{QualifiedName}
use Rattle.checks.specs.Checks.{Check, Gives, ◌▷◌, gives_some, refuses}
use Rattle.descriptors.specs.declared.names.Meaning.{Meaning}
use Rattle.descriptors.specs.declared.names.Meaning.TheVariants as meaning
use Rattle.descriptors.specs.declared.names.Names.{Names}
use Rattle.descriptors.specs.declared.names.Source.{Source}
use Rattle.descriptors.specs.declared.names.Source.TheVariants.{Library, Module}
use Rattle.needs.specs.Needs.{does}
use Rattle.operations.specs.declared.operation.Constant.{Constant}
use Rattle.type_model.specs.declared.atoms.AtomDef.{AtomDef}
use Rattle.type_model.specs.declared.basic.Ty.{Ty}
use Rattle.typed_tree.specs.declared.expr.TypedExpr.{TypedExpr}
use Rattle.typed_tree.specs.declared.form.StrictForm.{StrictForm}
use Rattle.typed_tree.specs.SharedTypes.{Shared, sem_of}
use Rattle.typed_tree.specs.Views.{IsLocal, IsStrict}
use Rattle.flow_narrowing.specs.declared.flow.Variable.{Variable}
use Rattle.flow_narrowing.specs.Flows.{now, or_declared}
use Rattle.check_words.specs.Library.{LibraryRow}
use Rattle.check_words.specs.Seen.{Seen, SeenVariable, SeenWorker, SeenConstant, SeenLibrary, SeenMeaning, SeenNothing, as_seen, from_source, in_library, looks_up, or_function, seen_as, seen_behind, variable_or, worker_or}
use Rattle.check_words.specs.State.{IsLast, Site, State, UnitAtWork, find_variable, shared_now}
use Rattle.check_words.specs.Values.{gives_meaning, gives_named, gives_seen, gives_variable}
use Rattle.check_words.specs.Words.{Atoms, makes}
use Rattle.check_words.proofs.LastOnes.{kept-is}
use Rattle.tree_promises.specs.Flows.{Around}
use Rattle.tree_promises.specs.Known.{Flow}
use Rattle.tree_promises.specs.Laws.{MadeExprsKeepFlows}
use Rattle.tree_promises.specs.MadeFlows.{IsKnown, KeepsFlow, MadeKeepsFlow}
use Rattle.typed_needs.proofs.Placed.{last-same}
use Rattle.calm_needs.proofs.PlacedParts.{local-units, strict-units, units_of}
use Rattle.flow_needs.specs.Quiet.{IsQuiet, KnowsOn}
use Rattle.flow_needs.specs.Runs.{ComesToFlow, IsFlowingUnit}
use Rattle.flow_needs.specs.Slots.{AreWithin, HaveSlots}
use Rattle.flow_needs.proofs.Forms.{form-keeps}
use Rattle.flow_needs.proofs.Growing.{StrictOf, as_live, comes-plain, known, units-from}
use Rattle.flow_needs.proofs.Known.{all-variables-are-known}
use Rattle.flow_needs.proofs.Quieting.{on-beside, on-then, quiet-same, quiet-unless}

-- ---- what names stand for

module _ (names : Names) (site : Site) (vs : List Variable) (q : QualifiedName) where
  -- a variable that is seen is the one of this name
  abbrev pub IsSeenHere : Seen → Type 0
  IsSeenHere (SeenVariable v) = find_variable vs q.word.name ≡ Some v
  IsSeenHere (SeenWorker w) = ⊤
  IsSeenHere (SeenConstant c) = ⊤
  IsSeenHere (SeenLibrary call) = ⊤
  IsSeenHere (SeenMeaning m) = ⊤
  IsSeenHere (SeenNothing code) = ⊤

  as-seen-here : (r : Result Meaning FaultCode) → IsSeenHere (as_seen r)
  as-seen-here (Ok m) = tt
  as-seen-here (Err code) = tt

  library-here : (r : Option LibraryRow) → IsSeenHere (in_library r)
  library-here (Some r) = tt
  library-here None = tt

  function-here : (name : Name) (c : Option Constant) → IsSeenHere (or_function name c)
  function-here name (Some c) = tt
  function-here name None = library-here _

  worker-here : (w : Option ℕ) → IsSeenHere (worker_or names site q w)
  worker-here (Some w) = tt
  worker-here None = as-seen-here _

  variable-here : (v : Option Variable) → find_variable vs q.word.name ≡ v → IsSeenHere (variable_or names site q v)
  variable-here (Some v) e = e
  variable-here None e = worker-here _

  source-here : (s : Option Source) → IsSeenHere (from_source names site q s)
  source-here (Some Library) = library-here _
  source-here (Some (Module m)) = as-seen-here _
  source-here None = as-seen-here _

  behind-here : (p : Option Prefix) → IsSeenHere (seen_behind names site vs q p)
  behind-here None = variable-here (find_variable vs q.word.name) refl
  behind-here (Some (IntPrefix at)) = function-here q.word.name _
  behind-here (Some (WordPrefix w)) = source-here _

  pub seen-here : IsSeenHere (seen_as names site vs q)
  seen-here = behind-here q.prefix

-- ---- parts that are made of nothing

no-parts : {A : Type 0} (xs : List A) → length xs ≡ 0 → xs ≡ []
no-parts [] e = refl
no-parts (x ∷ xs) e = absurd (omega (arith, e))

-- one part more, and what it is
pub record AddsOne (P : TypedExpr → Type 0) (old new : State) : Type 0 where
  pub part : TypedExpr
  pub is : P part
  pub found : new.found ≡ old.found ++ part ∷ []
  pub ways : new.ways ≡ None
  pub choices : new.choices ≡ old.choices
  pub on : KnowsOn old new

pub adds-makes : (P : Atoms → List TypedExpr → TypedExpr → Type 0) (Q : TypedExpr → Type 0) → ((env : Atoms) (e : TypedExpr) → P env [] e → Q e) → (old new : State) (a : Unit {0})
    → makes 0 P old (Gives a) new → AddsOne Q old new
unfolding does
adds-makes P Q view old new a (parts, last, e, x, is) =
    record {
      part = e;
      is = view old.atoms e (subst (λ xs. P old.atoms xs e) (no-parts parts last.many) x);
      found = ap (λ (s : State). s.found) is ∙ ap (λ xs. xs ++ e ∷ []) (kept-is 0 old.found old.found [] (sym (append-nil old.found)) refl);
      ways = ap (λ (s : State). s.ways) is;
      choices = ap (λ (s : State). s.choices) is;
      on = on-beside old new (ap (λ (s : State). s.units) is);
    }

pub adds-behind : (P : TypedExpr → Type 0) (r s t : State) → IsQuiet r s → AddsOne P s t → AddsOne P r t
adds-behind P r s t q a =
    record {
      part = a.part;
      is = a.is;
      found = a.found ∙ ap (λ xs. xs ++ a.part ∷ []) q.found;
      ways = a.ways;
      choices = a.choices ∙ q.choices;
      on = on-then r s t q.on a.on;
    }

pub adds-before : (P : TypedExpr → Type 0) (r s t : State) → AddsOne P r s → IsQuiet s t → AddsOne P r t
adds-before P r s t a q =
    record {
      part = a.part;
      is = a.is;
      found = q.found ∙ a.found;
      ways = q.ways ∙ a.ways;
      choices = q.choices ∙ a.choices;
      on = on-then r s t a.on q.on;
    }

pub adds-other : (P Q : TypedExpr → Type 0) → ((e : TypedExpr) → P e → Q e) → (r s : State) → AddsOne P r s → AddsOne Q r s
adds-other P Q f r s a = record { part = a.part; is = f a.part a.is; found = a.found; ways = a.ways; choices = a.choices; on = a.on }

-- ---- names

-- the read of a variable
abbrev pub ReadOf : Variable → TypedExpr → Type 0
ReadOf v e = (t : Shared) × (at : Place) × (t.value ≡ now v) × IsLocal v.slot (is_some v.narrowed) t at e

pub now-shared : (v : Variable) → (shared_now v).value ≡ now v
now-shared v = by v.narrowed
  where
    by : (n : Option Shared) → (shared_now (record v { narrowed = n })).value ≡ or_declared n v.declared
    by (Some t) = refl
    by None = refl

pub variable-read : (v : Variable) (at : Place) (old new : State) (a : Unit {0}) → gives_variable v at old (Gives a) new → AddsOne (ReadOf v) old new
unfolding ◌▷◌
variable-read v at old new a (u, mid, first, made) =
    adds-behind (ReadOf v) old mid new (quiet-unless _ _ at old mid u first)
    (adds-makes _ (ReadOf v) (λ env e (t, same, view). (t, at, same ∙ now-shared v, view)) mid new a made)

abbrev NotRead : TypedExpr → Type 0
NotRead = StrictOf []

-- what is given by a name: a variable that is read, or what evaluates nothing
abbrev pub GivenBy : Seen → TypedExpr → Type 0
GivenBy (SeenVariable v) = ReadOf v
GivenBy (SeenWorker w) = NotRead
GivenBy (SeenConstant c) = NotRead
GivenBy (SeenLibrary call) = NotRead
GivenBy (SeenMeaning m) = NotRead
GivenBy (SeenNothing code) = NotRead

abbrev Fails : Check State (Unit {0}) → Type 0
Fails m = (old new : State) (a : Unit {0}) → m old (Gives a) new → ⊥

none-strict : (P : Atoms → Ty → Type 0) (form : StrictForm) (at : Place) (old new : State) (a : Unit {0})
    → makes 0 (λ env parts e. (t : Shared) × P env t.value × IsStrict form parts t at e) old (Gives a) new → AddsOne NotRead old new
none-strict P form at old new a made = adds-makes _ NotRead (λ env e (t, p, view). (form, t, at, view)) old new a made

meaning-given : (m : Meaning) (at : Place) (old new : State) (a : Unit {0}) → gives_meaning m at old (Gives a) new → AddsOne NotRead old new
unfolding ◌▷◌ gives_some refuses
meaning-given (meaning.TypeName t) at old new a met = absurd met
meaning-given (meaning.Constant t) at old new a (c, mid, (is, first), made) =
    adds-behind NotRead old mid new (quiet-same old mid first) (none-strict _ _ at mid new a made)
meaning-given (meaning.Variable number final t) at old new a made = none-strict _ _ at old new a made
meaning-given (meaning.Function f) at old new a made = none-strict _ _ at old new a made

pub seen-given : (seen : Seen) (at : Place) (old new : State) (a : Unit {0}) → gives_seen seen at old (Gives a) new → AddsOne (GivenBy seen) old new
unfolding refuses
seen-given (SeenVariable v) at old new a met = variable-read v at old new a met
seen-given (SeenWorker w) at old new a met = absurd met
seen-given (SeenConstant c) at old new a made = none-strict _ _ at old new a made
seen-given (SeenLibrary call) at old new a met = absurd met
seen-given (SeenMeaning m) at old new a met = meaning-given m at old new a met
seen-given (SeenNothing code) at old new a met = absurd met

-- what a name is looked up as
pub looked-up : (names : Names) (q : QualifiedName) (old new : State) (seen : Seen) → looks_up names q old (Gives seen) new
    → (u : UnitAtWork) × IsLast old.units u × (seen ≡ seen_as names old.site u.flow.variables q) × IsSeenHere names old.site u.flow.variables q seen × (new ≡ old)
unfolding ◌▷◌ gives_some
looked-up names q old new seen (u, mid, (last, first), (is, same)) = (
  u,
  last,
  is ∙ ap (λ (s : State). seen_as names s.site u.flow.variables q) first,
  subst (λ (x : Seen). IsSeenHere names old.site u.flow.variables q x) (sym is)
      (subst (λ (s : State). IsSeenHere names old.site u.flow.variables q (seen_as names s.site u.flow.variables q)) (sym first) (seen-here names old.site u.flow.variables q)),
  same ∙ first,
)

-- a name gives what it stands for
pub record NamesOne (names : Names) (q : QualifiedName) (old new : State) : Type 0 where
  pub unit : UnitAtWork
  pub at_hand : IsLast old.units unit
  pub seen : Seen
  pub is : seen ≡ seen_as names old.site unit.flow.variables q
  pub here : IsSeenHere names old.site unit.flow.variables q seen
  pub one : AddsOne (GivenBy seen) old new

pub named-given : (names : Names) (q : QualifiedName) (old new : State) (a : Unit {0}) → gives_named names q old (Gives a) new → NamesOne names q old new
unfolding ◌▷◌
named-given names q old new a (seen, mid, looked, given) =
    let (u, last, is, here, same) = looked-up names q old mid seen looked in
    record {
      unit = u;
      at_hand = last;
      seen = seen;
      is = is;
      here = here;
      one = seen-given seen q.at old new a (subst (λ (s : State). gives_seen seen q.at s (Gives a) new) same given);
    }

pub within-more : (n m : ℕ) (vs : List Variable) → n ≤ m → AreWithin n vs → AreWithin m vs
within-more n m [] le h = tt
within-more n m (w ∷ vs) le h = ((let lt = h.0 in omega (arith, lt, le)), within-more n m vs le h.1)

-- no function stands in what a name gives
pub given-units : (seen : Seen) (e : TypedExpr) → GivenBy seen e → units_of e ≡ []
given-units (SeenVariable v) e (t, at, is, view) = local-units e view
given-units (SeenWorker w) e (form, t, at, view) = strict-units e view
given-units (SeenConstant c) e (form, t, at, view) = strict-units e view
given-units (SeenLibrary call) e (form, t, at, view) = strict-units e view
given-units (SeenMeaning m) e (form, t, at, view) = strict-units e view
given-units (SeenNothing code) e (form, t, at, view) = strict-units e view

module _ (env : List AtomDef) (around : Around) (live : Bool) (flows : MadeExprsKeepFlows) where
  -- the variable is known, and where it is narrowed in the type of the read
  pub read-known : (u : UnitAtWork) (name : Name) (v : Variable) (t : Shared) → HaveSlots (length u.slots) u.flow.variables → length u.slots ≤ length around.slots
      → find_variable u.flow.variables name ≡ Some v → t.value ≡ now v → IsKnown env around v.slot (is_some v.narrowed) (sem_of t) (known env around live u.flow)
  read-known u name v t slots long e is =
      subst (λ (x : Ty). IsKnown env around v.slot (is_some v.narrowed) x.sem (known env around live u.flow)) (sym is)
      ((all-variables-are-known env around (length around.slots)).reads (as_live env around live u.flow) name v
      (record { apart = slots.apart; within = within-more (length u.slots) (length around.slots) u.flow.variables long slots.within }) e)

  pub given-keeps : (u : UnitAtWork) (site : Site) (names : Names) (q : QualifiedName) (seen : Seen) (e : TypedExpr) (base : Option Flow)
      → HaveSlots (length u.slots) u.flow.variables → length u.slots ≤ length around.slots → IsSeenHere names site u.flow.variables q seen → GivenBy seen e
      → KeepsFlow env around base e (known env around live u.flow)
  given-keeps u site names q seen e base slots long here given = by seen here given
    where
      made : MadeKeepsFlow env around base
      made = flows env around base

      strict : StrictOf [] e → KeepsFlow env around base e (known env around live u.flow)
      strict (form, t, at, view) = made.strict form [] t at e (known env around live u.flow) view tt (form-keeps env around base (known env around live u.flow) form 0)

      by : (seen : Seen) → IsSeenHere names site u.flow.variables q seen → GivenBy seen e → KeepsFlow env around base e (known env around live u.flow)
      by (SeenVariable v) here (t, at, is, view) =
          made.loaded v.slot (is_some v.narrowed) t at e (known env around live u.flow) view (read-known u q.word.name v t slots long here is)
      by (SeenWorker w) here s = strict s
      by (SeenConstant c) here s = strict s
      by (SeenLibrary call) here s = strict s
      by (SeenMeaning m) here s = strict s
      by (SeenNothing code) here s = strict s

  pub comes-named : (names : Names) (q : QualifiedName) (old new : State) (u : UnitAtWork) → IsLast old.units u → HaveSlots (length u.slots) u.flow.variables
      → length u.slots ≤ length around.slots → NamesOne names q old new → ComesToFlow env around live old new
  comes-named names q old new u last slots long n =
      let one : n.unit ≡ u = last-same old.units n.unit u n.at_hand last in
      comes-plain env around live old new n.one.part u last n.one.found n.one.on n.one.ways
      (λ base free. given-keeps u old.site names q n.seen n.one.part base slots long
      (subst (λ (x : UnitAtWork). IsSeenHere names old.site x.flow.variables q n.seen) one n.here) n.one.is)
      (units-from env around live n.one.part [] (given-units n.seen n.one.part n.one.is) (All-nil (IsFlowingUnit env)))
