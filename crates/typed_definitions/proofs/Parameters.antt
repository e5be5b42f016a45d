-- Functions whose parameters are named: their variables stand in the first slots of the unit at hand.
use Rattle.std.proofs.Common.{All, Bool, List, None, Option, Some, [], ap, length, map, subst, suc, sym, zero, ℕ, ◌++◌, ◌∙◌, ◌∷◌, ◌≡◌}
use Rattle.std.proofs.lemmas.List.Elements.{All-append, All-cons, All-nil}
use Rattle.std.specs.Prelude.{slice_get}
use Rattle.bal_tree.specs.declared.name.Word.{Word}
use Rattle.bal_tree.specs.declared.params.Param.{Param}
use Rattle.bal_tree.specs.declared.params.Params.{Params}
use Rattle.check_words.specs.Calls.{parameter}
use Rattle.check_words.specs.Sharing.{SameUnit}
use Rattle.check_words.specs.State.{IsLast, State, UnitAtWork, all_but, replaced, with_variable}
use Rattle.check_words.specs.Units.{names_parameter}
use Rattle.checks.specs.Checks.{Gives, gives_some, ◌▷◌}
use Rattle.descriptors.specs.declared.names.Names.{Names}
use Rattle.expr_needs.specs.Needs.{NamesParameter, Need}
use Rattle.flow_narrowing.specs.declared.flow.Variable.{Variable}
use Rattle.needs.specs.Needs.{in_turn_from}
use Rattle.operations.specs.Rows.{Surroundings}
use Rattle.stmt_needs.specs.PackageTable.{parameter_needs, parameters_needs}
use Rattle.type_model.specs.Calls.{Asked}
use Rattle.type_model.specs.declared.answers.TypeLimit.{TypeLimit}
use Rattle.type_model.specs.declared.atoms.AtomDef.{AtomDef}
use Rattle.type_model.specs.declared.basic.SemType.{SemType}
use Rattle.typed_bodies.proofs.Declaring.{new-leaves}
use Rattle.typed_exprs.proofs.Steps.{parted}
use Rattle.typed_exprs.specs.Lines.{Run}
use Rattle.typed_functions.proofs.Begun.{AreIn, by-handles}
use Rattle.typed_functions.proofs.Captures.{InSlots}
use Rattle.typed_needs.proofs.Going.{unit-by-handles, unit-then, with-flow}
use Rattle.typed_needs.proofs.Placed.{all-but-last, last-same}
use Rattle.typed_needs.specs.Between.{IsStanding}
use Rattle.typed_needs.specs.Going.{IsSameUnit}
use Rattle.typed_stmts.proofs.Words.{flow-changed}
use Rattle.typed_tree.specs.Listed.{Listed, if_there, nothing, one, ◌&◌}
use Rattle.typed_tree.specs.SharedTypes.{Shared, sem_of}

-- ---- what is so throughout a run is so behind it

module _ (passes : List AtomDef → Asked → TypeLimit → Type 0) (names : Names) (env : List AtomDef) (P : State → Type 0) where
  abbrev pub Keeps : Listed Need → Type 0
  Keeps needs = (old new : State) → P old → Run passes names env needs old new → P new

  pub none-keeps : Keeps nothing
  unfolding gives_some
  none-keeps old new h (is, same) = subst P (sym same) h

  pub both-keep : (p q : Listed Need) → Keeps p → Keeps q → Keeps (p & q)
  both-keep p q f g old new h run = let (m, a, b) = parted passes names env p q old new run in g m new (f old m h a) b

  pub turn-keeps : {X : Type 0} (f : X → Listed Need) → ((x : X) → Keeps (f x)) → (xs : List X) (start : Listed Need) → Keeps start → Keeps (in_turn_from start f xs)
  turn-keeps f each [] start begun = begun
  turn-keeps f each (x ∷ xs) start begun = turn-keeps f each xs (start & f x) (both-keep start (f x) begun (each x))

-- ---- one parameter

-- On the units that were there stands another form of the same unit, with its variables in its slots, and all else is as it was.
pub record Named (place : Surroundings) (kept : List UnitAtWork) (first : UnitAtWork) (base s : State) : Type 0 where
  pub unit : UnitAtWork
  pub units : s.units ≡ kept ++ unit ∷ []
  pub same : IsSameUnit first unit
  pub stored : AreIn place unit
  pub ways : s.ways ≡ None
  pub atoms : s.atoms ≡ base.atoms
  pub site : s.site ≡ base.site
  pub found : s.found ≡ base.found
  pub blocks : s.blocks ≡ base.blocks
  pub matches : s.matches ≡ base.matches
  pub workers : s.done.workers ≡ base.done.workers
  pub functions : s.done.functions ≡ base.done.functions
  pub initialisers : s.done.initialisers ≡ base.done.initialisers
  pub variables : s.done.variables ≡ base.done.variables
  pub standing : IsStanding s

-- its slot has its type
record ParameterPut (w : Word) (assigned : Bool) (old new : State) : Type 0 where
  pub was : UnitAtWork
  pub now : UnitAtWork
  pub before : IsLast old.units was
  pub type : Shared
  pub there : slice_get was.slots (length was.flow.variables) ≡ Some type
  pub same : SameUnit (record was { flow = with_variable (parameter w.name (length was.flow.variables) type assigned) was.flow }) now
  pub all : new ≡ record old { units = replaced old.units now; ways = None }

parameter-put : (w : Word) (assigned : Bool) (old new : State) → names_parameter w assigned old (Gives tt) new → ParameterPut w assigned old new
unfolding ◌▷◌ gives_some
parameter-put w assigned old new (u, s1, fresh, (unit, s2, (last, e2), (t, s3, (there, e3), changed))) =
    let e1 : s1 ≡ old = new-leaves w old s1 u fresh in
    let all : s3 ≡ old = e3 ∙ e2 ∙ e1 in
    let x = flow-changed (with_variable (parameter w.name (length unit.flow.variables) t assigned)) tt s3 new changed in
    let one : x.was ≡ unit = last-same s3.units x.was unit x.before (subst (λ (s : State). IsLast s.units unit) (sym (e3 ∙ e2)) last) in
    record {
      was = x.was;
      now = x.now;
      before = subst (λ (s : State). IsLast s.units x.was) all x.before;
      type = t;
      there = subst (λ (v : UnitAtWork). slice_get v.slots (length v.flow.variables) ≡ Some t) (sym one) there;
      same = subst (λ (v : UnitAtWork). SameUnit (record x.was { flow = with_variable (parameter w.name (length v.flow.variables) t assigned) x.was.flow }) x.now) (sym one) x.same;
      all = subst (λ (s : State). new ≡ record s { units = replaced s.units x.now; ways = None }) all x.all;
    }

get-mapped : (xs : List Shared) (i : ℕ) (t : Shared) → slice_get xs i ≡ Some t → slice_get (map sem_of xs) i ≡ Some (sem_of t)
get-mapped [] i t e = absurd (let bad : ⊥ = cc in bad)
get-mapped (x ∷ xs) zero t e = (let same : x ≡ t = cc in ap (λ (u : Shared). Some (sem_of u)) same)
get-mapped (x ∷ xs) (suc i) t e = get-mapped xs i t e

module _ (passes : List AtomDef → Asked → TypeLimit → Type 0) (names : Names) (env : List AtomDef) (place : Surroundings) (kept : List UnitAtWork) (first : UnitAtWork) (base : State) where
  abbrev Now : State → Type 0
  Now = Named place kept first base

  parameter-named : (w : Word) (assigned : Bool) → Keeps passes names env Now (one (NamesParameter w assigned))
  parameter-named w assigned old new h run =
      let p = parameter-put w assigned old new run.0 in
      let hand : h.unit ≡ p.was = last-same old.units h.unit p.was (record { kept = kept; is = h.units }) p.before in
      let slots : List SemType = map sem_of p.was.slots in
      let v : Variable = parameter w.name (length p.was.flow.variables) p.type assigned in
      let stored : AreIn place p.was = subst (AreIn place) hand h.stored in
      let more : All (InSlots place slots) (p.was.flow.variables ++ v ∷ []) =
      All-append (InSlots place slots) p.was.flow.variables (v ∷ []) stored
      (All-cons (InSlots place slots) v [] (get-mapped p.was.slots (length p.was.flow.variables) p.type p.there) (All-nil (InSlots place slots))) in
      let next : UnitAtWork = record p.was { flow = with_variable v p.was.flow } in
      let units : new.units ≡ kept ++ p.now ∷ [] =
      ap (λ (s : State). s.units) p.all ∙ ap (λ us. all_but 1 us ++ p.now ∷ []) h.units ∙ ap (λ us. us ++ p.now ∷ []) (all-but-last kept h.unit) in
      record {
        unit = p.now;
        units = units;
        same = unit-then first p.was p.now (subst (IsSameUnit first) hand h.same)
            (unit-by-handles p.was next p.now (with-flow p.was (with_variable v p.was.flow)) p.same);
        stored = by-handles place next p.now p.same more;
        ways = ap (λ (s : State). s.ways) p.all;
        atoms = ap (λ (s : State). s.atoms) p.all ∙ h.atoms;
        site = ap (λ (s : State). s.site) p.all ∙ h.site;
        found = ap (λ (s : State). s.found) p.all ∙ h.found;
        blocks = ap (λ (s : State). s.blocks) p.all ∙ h.blocks;
        matches = ap (λ (s : State). s.matches) p.all ∙ h.matches;
        workers = ap (λ (s : State). s.done.workers) p.all ∙ h.workers;
        functions = ap (λ (s : State). s.done.functions) p.all ∙ h.functions;
        initialisers = ap (λ (s : State). s.done.initialisers) p.all ∙ h.initialisers;
        variables = ap (λ (s : State). s.done.variables) p.all ∙ h.variables;
        standing = run.1;
      }

  pub parameters-named : (assigned : List Word) (ps : Params) → Keeps passes names env Now (parameters_needs assigned ps)
  parameters-named assigned ps =
      both-keep passes names env Now _ _
      (turn-keeps passes names env Now (parameter_needs assigned) (λ p. parameter-named p.name _) ps.params.items nothing (none-keeps passes names env Now)) (rest ps.rest)
    where
      rest : (p : Option Param) → Keeps passes names env Now (if_there (parameter_needs assigned) p)
      rest None = none-keeps passes names env Now
      rest (Some p) = parameter-named p.name _
