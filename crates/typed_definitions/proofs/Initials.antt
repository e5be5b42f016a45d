-- Initial values where they begin and where they end.
use Rattle.std.proofs.Common.{Bool, List, None, Option, Some, [], ap, false, refl, subst, sym, true, ℕ, ◌++◌, ◌∙◌, ◌∷◌, ◌≡◌}
use Rattle.bal_base.specs.declared.place.Place.{Place}
use Rattle.bal_tree.specs.declared.def.VariableDef.{VariableDef}
use Rattle.check_words.specs.Sharing.{SameUnit}
use Rattle.check_words.specs.State.{InitialiserAtWork, IsLast, Site, State, UnitAtWork, all_but}
use Rattle.check_words.specs.Units.{begins_initial, ends_initial, ends_value, initialiser_or_new, keeps_at_work, variable_type}
use Rattle.check_words.specs.Words.{OfKind, by_handles}
use Rattle.checks.specs.Checks.{Gives, gives_some, ◌▷◌}
use Rattle.descriptors.specs.Described.{IsCopy}
use Rattle.descriptors.specs.Naming.{entry_in}
use Rattle.descriptors.specs.declared.names.Entry.{Entry}
use Rattle.descriptors.specs.declared.names.Meaning.TheVariants as meaning
use Rattle.descriptors.specs.declared.names.Meaning.{Meaning}
use Rattle.descriptors.specs.declared.names.Names.{Names}
use Rattle.expr_needs.specs.declared.kind.Kind.TheVariants as kind
use Rattle.needs.specs.Needs.{does}
use Rattle.type_model.specs.declared.atoms.AtomDef.{AtomDef}
use Rattle.type_model.specs.declared.basic.Ty.{Ty}
use Rattle.typed_definitions.specs.Initials.{IsVariable}
use Rattle.typed_stmts.proofs.Words.{part-taken, want-put-some, wants-dropped}
use Rattle.typed_tree.specs.SharedTypes.{Shared}
use Rattle.typed_tree.specs.declared.expr.TypedExpr.{TypedExpr}
use Rattle.typed_tree.specs.declared.package.Initial.{Initial}
use Rattle.typed_tree.specs.declared.package.ModuleVariable.{ModuleVariable}
use Rattle.typed_units.proofs.Beginning.{number-taken, unit-gone}

-- ---- states that differ in numbers of units alone, or in what is wanted

pub record IsAlike (s t : State) : Type 0 where
  pub atoms : t.atoms ≡ s.atoms
  pub site : t.site ≡ s.site
  pub found : t.found ≡ s.found
  pub units : t.units ≡ s.units
  pub blocks : t.blocks ≡ s.blocks
  pub matches : t.matches ≡ s.matches
  pub initialiser : t.initialiser ≡ s.initialiser
  pub functions : t.done.functions ≡ s.done.functions
  pub workers : t.done.workers ≡ s.done.workers
  pub initialisers : t.done.initialisers ≡ s.done.initialisers
  pub variables : t.done.variables ≡ s.done.variables

pub alike-same : (s t : State) → t ≡ s → IsAlike s t
alike-same s t e =
    record {
      atoms = ap (λ (x : State). x.atoms) e;
      site = ap (λ (x : State). x.site) e;
      found = ap (λ (x : State). x.found) e;
      units = ap (λ (x : State). x.units) e;
      blocks = ap (λ (x : State). x.blocks) e;
      matches = ap (λ (x : State). x.matches) e;
      initialiser = ap (λ (x : State). x.initialiser) e;
      functions = ap (λ (x : State). x.done.functions) e;
      workers = ap (λ (x : State). x.done.workers) e;
      initialisers = ap (λ (x : State). x.done.initialisers) e;
      variables = ap (λ (x : State). x.done.variables) e;
    }

pub alike-on : (r s t : State) → IsAlike r s → IsAlike s t → IsAlike r t
alike-on r s t f g =
    record {
      atoms = g.atoms ∙ f.atoms;
      site = g.site ∙ f.site;
      found = g.found ∙ f.found;
      units = g.units ∙ f.units;
      blocks = g.blocks ∙ f.blocks;
      matches = g.matches ∙ f.matches;
      initialiser = g.initialiser ∙ f.initialiser;
      functions = g.functions ∙ f.functions;
      workers = g.workers ∙ f.workers;
      initialisers = g.initialisers ∙ f.initialisers;
      variables = g.variables ∙ f.variables;
    }

alike-number : (k : ℕ) (s t : State) → t ≡ record s { done = record s.done { next_unit = k } } → IsAlike s t
alike-number k s t e =
    record {
      atoms = ap (λ (x : State). x.atoms) e;
      site = ap (λ (x : State). x.site) e;
      found = ap (λ (x : State). x.found) e;
      units = ap (λ (x : State). x.units) e;
      blocks = ap (λ (x : State). x.blocks) e;
      matches = ap (λ (x : State). x.matches) e;
      initialiser = ap (λ (x : State). x.initialiser) e;
      functions = ap (λ (x : State). x.done.functions) e;
      workers = ap (λ (x : State). x.done.workers) e;
      initialisers = ap (λ (x : State). x.done.initialisers) e;
      variables = ap (λ (x : State). x.done.variables) e;
    }

-- ---- what the names say of the variable

pub variable-is : (names : Names) (d : VariableDef) (old new : State) (v : ℕ × Ty) → variable_type names d old (Gives v) new → IsVariable names d old.site v.0 v.1 × (new ≡ old)
unfolding ◌▷◌ gives_some
variable-is names d old new v (site, a, (is, e), (found, e')) =
    (subst (λ (s : Site). IsVariable names d s v.0 v.1) is (by (entry_in names d.name.name site.scope.«module») refl), e' ∙ e)
  where
    by-meaning : (x : Entry) (m : Meaning) → entry_in names d.name.name site.scope.«module» ≡ Some x → x.meaning ≡ m → IsVariable names d site v.0 v.1
    by-meaning x (meaning.Variable number final t) there is =
        let same : (number, t) ≡ v = cc in
        record {
          entry = x;
          final = final;
          there = there;
          meaning = is ∙ ap (λ (p : ℕ × Ty). meaning.Variable p.0 final p.1) same;
        }
    by-meaning x (meaning.TypeName t) there is = absurd (let bad : ⊥ = cc in bad)
    by-meaning x (meaning.Constant t) there is = absurd (let bad : ⊥ = cc in bad)
    by-meaning x (meaning.Function f) there is = absurd (let bad : ⊥ = cc in bad)

    by : (o : Option Entry) → entry_in names d.name.name site.scope.«module» ≡ o → IsVariable names d site v.0 v.1
    by None there = absurd (let bad : ⊥ = cc in bad)
    by (Some x) there = by-meaning x x.meaning there refl

-- ---- where one begins

-- the initialiser of the module, which begins with its first variable
abbrev pub IsFrom : List AtomDef → Option InitialiserAtWork → InitialiserAtWork → Type 0
IsFrom env (Some i) w = w ≡ i
IsFrom env None w = (w.values ≡ []) × (w.unit.flow.variables ≡ []) × OfKind kind.ErrorOrNil env w.unit.result.value

abbrev pub kept_as : Bool → InitialiserAtWork → Option InitialiserAtWork → Option InitialiserAtWork
kept_as true i o = Some i
kept_as false i o = o

initialiser-from : (o : Option InitialiserAtWork) (i : InitialiserAtWork) (s t : State) → initialiser_or_new o s (Gives i) t → IsFrom s.atoms o i × IsAlike s t
unfolding ◌▷◌ gives_some
initialiser-from (Some j) i s t (is, e) = (is, alike-same s t e)
initialiser-from None i s t (n, a, taken, (r, b, (written, eb), (is, e))) =
    let (k, ea) = number-taken n s a taken in
    let alike = alike-number k s a ea in (
      (
        ap (λ (x : InitialiserAtWork). x.values) is,
        ap (λ (x : InitialiserAtWork). x.unit.flow.variables) is,
        subst (λ (x : InitialiserAtWork). OfKind kind.ErrorOrNil s.atoms x.unit.result.value) (sym is) (subst (λ xs. OfKind kind.ErrorOrNil xs r.value) alike.atoms written),
      ),
      alike-on s a t alike (alike-same a t (e ∙ eb)),
    )

pub record InitialBegun (names : Names) (d : VariableDef) (kept : Bool) (old new : State) : Type 0 where
  pub at_work : InitialiserAtWork
  pub from : IsFrom old.atoms old.initialiser at_work
  pub unit : UnitAtWork
  pub same : SameUnit at_work.unit unit
  pub units : new.units ≡ old.units ++ unit ∷ []
  pub number : ℕ
  pub type : Ty
  pub named : IsVariable names d old.site number type
  pub want : Shared
  pub copied : IsCopy type want.value
  pub wants : IsLast new.wants (Some want)
  pub ways : new.ways ≡ None
  pub initialiser : new.initialiser ≡ kept_as kept at_work old.initialiser
  pub atoms : new.atoms ≡ old.atoms
  pub site : new.site ≡ old.site
  pub found : new.found ≡ old.found
  pub blocks : new.blocks ≡ old.blocks
  pub matches : new.matches ≡ old.matches
  pub functions : new.done.functions ≡ old.done.functions
  pub workers : new.done.workers ≡ old.done.workers
  pub initialisers : new.done.initialisers ≡ old.done.initialisers
  pub variables : new.done.variables ≡ old.done.variables

-- it is kept where the module is initialised
put-aside : (kept : Bool) (i : InitialiserAtWork) (s t : State) → keeps_at_work kept i s (Gives tt) t → (t ≡ record s { initialiser = kept_as kept i s.initialiser })
unfolding does gives_some
put-aside true i s t e = e
put-aside false i s t (is, e) = e

pub initial-begun : (names : Names) (d : VariableDef) (kept : Bool) (old new : State) → begins_initial names d kept old (Gives tt) new → InitialBegun names d kept old new
unfolding ◌▷◌ gives_some does by_handles
initial-begun names d kept old new (i, m1, (o, m0, (is, e0), begun), (u, m2, aside, (x, m3, (v, m, (same, em), e3), (t, m4, typed, (w, m5, (copied, e5), put))))) =
    let (from, alike) = initialiser-from o i m0 m1 begun in
    let first : IsAlike old m1 = alike-on old m0 m1 (alike-same old m0 e0) alike in
    let e2 = put-aside kept i m1 m2 aside in
    let (named, e4) = variable-is names d m3 m4 t typed in
    let (want, e6, value) = want-put-some w tt m5 new put in
    let to-3 : m3 ≡ record m1 { initialiser = kept_as kept i m1.initialiser; units = m1.units ++ v ∷ []; ways = None } =
    e3 ∙ ap (λ (s : State). record s { units = s.units ++ v ∷ []; ways = None }) (em ∙ e2) in
    let to-5 : m5 ≡ m3 = e5 ∙ e4 in
    let all : new ≡ record m3 { wants = m3.wants ++ Some want ∷ [] } = e6 ∙ ap (λ (s : State). record s { wants = s.wants ++ Some want ∷ [] }) to-5 in
    let site-3 : m3.site ≡ old.site = ap (λ (s : State). s.site) to-3 ∙ first.site in
    let from-old : IsFrom old.atoms old.initialiser i = subst (λ (s : State). IsFrom s.atoms old.initialiser i) e0 (subst (λ (p : Option InitialiserAtWork). IsFrom m0.atoms p i) is from) in
    record {
      at_work = i;
      from = from-old;
      unit = v;
      same = same;
      units = ap (λ (s : State). s.units) all ∙ ap (λ (s : State). s.units) to-3 ∙ ap (λ us. us ++ v ∷ []) first.units;
      number = t.0;
      type = t.1;
      named = subst (λ (s : Site). IsVariable names d s t.0 t.1) site-3 named;
      want = want;
      copied = subst (λ (y : Ty). IsCopy t.1 y) (sym value) copied;
      wants = record { kept = m3.wants; is = ap (λ (s : State). s.wants) all };
      ways = ap (λ (s : State). s.ways) all ∙ ap (λ (s : State). s.ways) to-3;
      initialiser = ap (λ (s : State). s.initialiser) all ∙ ap (λ (s : State). s.initialiser) to-3 ∙ ap (λ (p : Option InitialiserAtWork). kept_as kept i p) first.initialiser;
      atoms = ap (λ (s : State). s.atoms) all ∙ ap (λ (s : State). s.atoms) to-3 ∙ first.atoms;
      site = ap (λ (s : State). s.site) all ∙ site-3;
      found = ap (λ (s : State). s.found) all ∙ ap (λ (s : State). s.found) to-3 ∙ first.found;
      blocks = ap (λ (s : State). s.blocks) all ∙ ap (λ (s : State). s.blocks) to-3 ∙ first.blocks;
      matches = ap (λ (s : State). s.matches) all ∙ ap (λ (s : State). s.matches) to-3 ∙ first.matches;
      functions = ap (λ (s : State). s.done.functions) all ∙ ap (λ (s : State). s.done.functions) to-3 ∙ first.functions;
      workers = ap (λ (s : State). s.done.workers) all ∙ ap (λ (s : State). s.done.workers) to-3 ∙ first.workers;
      initialisers = ap (λ (s : State). s.done.initialisers) all ∙ ap (λ (s : State). s.done.initialisers) to-3 ∙ first.initialisers;
      variables = ap (λ (s : State). s.done.variables) all ∙ ap (λ (s : State). s.done.variables) to-3 ∙ first.variables;
    }

-- ---- where it ends

pub record InitialEnded (names : Names) (d : VariableDef) (kept : Bool) (old new : State) : Type 0 where
  pub value : TypedExpr
  pub last : IsLast old.found value
  pub unit : UnitAtWork
  pub at_hand : IsLast old.units unit
  pub number : ℕ
  pub type : Ty
  pub named : IsVariable names d old.site number type
  -- behind the variable, before the value is kept or dropped
  pub mid : State
  pub found : mid.found ≡ all_but 1 old.found
  pub units : mid.units ≡ all_but 1 old.units
  pub initialiser : mid.initialiser ≡ old.initialiser
  pub atoms : mid.atoms ≡ old.atoms
  pub site : mid.site ≡ old.site
  pub blocks : mid.blocks ≡ old.blocks
  pub matches : mid.matches ≡ old.matches
  pub functions : mid.done.functions ≡ old.done.functions
  pub workers : mid.done.workers ≡ old.done.workers
  pub initialisers : mid.done.initialisers ≡ old.done.initialisers
  pub variable : ModuleVariable
  pub variables : mid.done.variables ≡ old.done.variables ++ variable ∷ []
  pub wanted : IsLast old.wants (Some variable.ty)
  pub ends : ends_value kept unit number value d.name.at mid (Gives tt) new

pub initial-ended : (names : Names) (d : VariableDef) (kept : Bool) (old new : State) → ends_initial names d kept old (Gives tt) new → InitialEnded names d kept old new
unfolding ◌▷◌ gives_some does
initial-ended names d kept old new (value, s1, taken, (t, s2, (want, e2), (x, s3, dropped, (unit, s4, closed, (site, s5, (is, e5), (number, s6, typed, (v, s7, (isv, e7), (y, s8, e8, ends)))))))) =
    let (last, e1) = part-taken value old s1 taken in
    let e3 = wants-dropped 1 x s2 s3 dropped in
    let (hand, e4) = unit-gone unit s3 s4 closed in
    let (named, e6) = variable-is names d s5 s6 number typed in
    let to-7 : s7 ≡ s4 = e7 ∙ e6 ∙ e5 in
    let units-3 : s3.units ≡ old.units = ap (λ (s : State). s.units) e3 ∙ ap (λ (s : State). s.units) e2 ∙ ap (λ (s : State). s.units) e1 in
    let found-4 : s4.found ≡ all_but 1 old.found = ap (λ (s : State). s.found) e4 ∙ ap (λ (s : State). s.found) e3 ∙ ap (λ (s : State). s.found) e2 ∙ ap (λ (s : State). s.found) e1 in
    let initialiser-4 : s4.initialiser ≡ old.initialiser = ap (λ (s : State). s.initialiser) e4 ∙ ap (λ (s : State). s.initialiser) e3 ∙ ap (λ (s : State). s.initialiser) e2 ∙ ap (λ (s : State). s.initialiser) e1 in
    let atoms-4 : s4.atoms ≡ old.atoms = ap (λ (s : State). s.atoms) e4 ∙ ap (λ (s : State). s.atoms) e3 ∙ ap (λ (s : State). s.atoms) e2 ∙ ap (λ (s : State). s.atoms) e1 in
    let site-4 : s4.site ≡ old.site = ap (λ (s : State). s.site) e4 ∙ ap (λ (s : State). s.site) e3 ∙ ap (λ (s : State). s.site) e2 ∙ ap (λ (s : State). s.site) e1 in
    let blocks-4 : s4.blocks ≡ old.blocks = ap (λ (s : State). s.blocks) e4 ∙ ap (λ (s : State). s.blocks) e3 ∙ ap (λ (s : State). s.blocks) e2 ∙ ap (λ (s : State). s.blocks) e1 in
    let matches-4 : s4.matches ≡ old.matches = ap (λ (s : State). s.matches) e4 ∙ ap (λ (s : State). s.matches) e3 ∙ ap (λ (s : State). s.matches) e2 ∙ ap (λ (s : State). s.matches) e1 in
    let done-4 : s4.done ≡ old.done = ap (λ (s : State). s.done) e4 ∙ ap (λ (s : State). s.done) e3 ∙ ap (λ (s : State). s.done) e2 ∙ ap (λ (s : State). s.done) e1 in
    let done-7 : s7.done ≡ old.done = ap (λ (s : State). s.done) to-7 ∙ done-4 in
    record {
      value = value;
      last = last;
      unit = unit;
      at_hand = subst (λ us. IsLast us unit) units-3 hand;
      number = number.0;
      type = number.1;
      named = subst (λ (s : Site). IsVariable names d s number.0 number.1) (ap (λ (s : State). s.site) e5 ∙ site-4) named;
      mid = s8;
      found = ap (λ (s : State). s.found) e8 ∙ ap (λ (s : State). s.found) to-7 ∙ found-4;
      units = ap (λ (s : State). s.units) e8 ∙ ap (λ (s : State). s.units) to-7 ∙ ap (λ (s : State). s.units) e4 ∙ ap (λ us. all_but 1 us) units-3;
      initialiser = ap (λ (s : State). s.initialiser) e8 ∙ ap (λ (s : State). s.initialiser) to-7 ∙ initialiser-4;
      atoms = ap (λ (s : State). s.atoms) e8 ∙ ap (λ (s : State). s.atoms) to-7 ∙ atoms-4;
      site = ap (λ (s : State). s.site) e8 ∙ ap (λ (s : State). s.site) to-7 ∙ site-4;
      blocks = ap (λ (s : State). s.blocks) e8 ∙ ap (λ (s : State). s.blocks) to-7 ∙ blocks-4;
      matches = ap (λ (s : State). s.matches) e8 ∙ ap (λ (s : State). s.matches) to-7 ∙ matches-4;
      functions = ap (λ (s : State). s.done.functions) e8 ∙ ap (λ d. d.functions) done-7;
      workers = ap (λ (s : State). s.done.workers) e8 ∙ ap (λ d. d.workers) done-7;
      initialisers = ap (λ (s : State). s.done.initialisers) e8 ∙ ap (λ d. d.initialisers) done-7;
      variable = v;
      variables = ap (λ (s : State). s.done.variables) e8 ∙ ap (λ d. d.variables ++ v ∷ []) done-7;
      wanted = subst (λ (x : Shared). IsLast old.wants (Some x)) (sym isv.ty) (subst (λ (s : List (Option Shared)). IsLast s (Some t)) (ap (λ (s : State). s.wants) e1) want);
      ends = ends;
    }

-- it is kept behind those that are done
pub record ValueKept (unit : UnitAtWork) (number : ℕ) (value : TypedExpr) (i : InitialiserAtWork) (old new : State) : Type 0 where
  pub initial : Initial
  pub variable : initial.variable ≡ number
  pub value_is : initial.value.value ≡ value
  pub all : new ≡ record old { initialiser = Some (record { unit = unit; values = i.values ++ initial ∷ [] }) }

pub value-kept : (unit : UnitAtWork) (number : ℕ) (value : TypedExpr) (at : Place) (i : InitialiserAtWork) (old new : State) → old.initialiser ≡ Some i
    → ends_value true unit number value at old (Gives tt) new → ValueKept unit number value i old new
unfolding ◌▷◌ gives_some does
value-kept unit number value at i old new there (j, a, (o, b, (is, eb), now), (x, c, (isx, ec), e)) =
    let (from, ea) = some-now o i j b a (is ∙ there) now in
    record {
      initial = x;
      variable = isx.0;
      value_is = isx.1;
      all = e ∙ ap (λ (s : State). record s { initialiser = Some (record { unit = unit; values = j.values ++ x ∷ [] }) }) (ec ∙ ea ∙ eb)
          ∙ ap (λ (k : InitialiserAtWork). record old { initialiser = Some (record { unit = unit; values = k.values ++ x ∷ [] }) }) from;
    }
  where
    some-now : (o : Option InitialiserAtWork) (i j : InitialiserAtWork) (s t : State) → o ≡ Some i → initialiser_or_new o s (Gives j) t → (j ≡ i) × (t ≡ s)
    some-now None i j s t e now = absurd (let bad : ⊥ = cc in bad)
    some-now (Some k) i j s t e (same, et) = (let one : k ≡ i = cc in same ∙ one, et)

pub value-dropped : (unit : UnitAtWork) (number : ℕ) (value : TypedExpr) (at : Place) (old new : State) → ends_value false unit number value at old (Gives tt) new → IsAlike old new
unfolding does
value-dropped unit number value at old new e = alike-number unit.number old new e
