-- What conditions of one operand say of variables: `!a`, `(a)`, and `a is T` of a variable.
use Rattle.std.proofs.Common.{◌≡◌, ◌∙◌, ◌++◌, ◌⊎◌, inl, inr, Bool, List, [], ◌∷◌, length, Option, None, Some, refl, sym, subst, ap}
use Rattle.bal_base.specs.declared.place.Place.{Place}
use Rattle.bal_tree.specs.declared.name.Prefix.{Prefix}
use Rattle.bal_tree.specs.declared.name.QualifiedName.{QualifiedName}
use Rattle.checks.specs.Checks.{Gives, ◌▷◌, gives_some}
use Rattle.needs.specs.Needs.{asks, does}
use Rattle.type_model.specs.declared.answers.TypeLimit.{TypeLimit}
use Rattle.type_model.specs.declared.atoms.AtomDef.{AtomDef}
use Rattle.type_model.specs.Calls.{Asked}
use Rattle.typed_tree.specs.declared.expr.TypedExpr.{TypedExpr}
use Rattle.typed_tree.specs.declared.form.Operator.TheVariants as operator
use Rattle.typed_tree.specs.declared.form.StrictForm.TheVariants as form
use Rattle.typed_tree.specs.SharedTypes.{Shared}
use Rattle.typed_tree.specs.Views.{IsParens, IsStrict}
use Rattle.expr_needs.specs.declared.kind.Kind.TheVariants as kind
use Rattle.flow_narrowing.specs.declared.flow.Flow.{Flow as CheckedFlow}
use Rattle.flow_narrowing.specs.declared.flow.Variable.{Variable}
use Rattle.flow_narrowing.specs.Narrowed.{WhereFalse, WhereTrue}
use Rattle.check_words.specs.Joins.{narrows_to, where_false}
use Rattle.check_words.specs.Seen.{variable_behind, variable_named}
use Rattle.check_words.specs.Sharing.{SameOption, SameWays}
use Rattle.check_words.specs.State.{AreLast, IsLast, State, UnitAtWork, Ways, all_but, find_variable, shared_now, ways_or_same, with_type}
use Rattle.check_words.specs.Values.{encloses, narrowed_by, tests, turns, ways_if, ways_of_test}
use Rattle.check_words.specs.Words.{Atoms, OfKind, makes, sets_ways}
use Rattle.check_words.proofs.Same.{same-flow}
use Rattle.tree_promises.specs.Flows.{Around}
use Rattle.tree_promises.specs.Known.{Flow}
use Rattle.tree_promises.specs.Laws.{MadeExprsKeepFlows}
use Rattle.tree_promises.specs.MadeFlows.{MadeKeepsFlow}
use Rattle.typed_needs.proofs.Placed.{last-same}
use Rattle.typed_needs.specs.Between.{units_in}
use Rattle.calm_needs.proofs.PlacedParts.{parens-units, strict-units, units_of}
use Rattle.flow_needs.specs.Narrower.{AreNarrower}
use Rattle.flow_needs.specs.Runs.{ComesToFlow, LeavesWays}
use Rattle.flow_needs.proofs.Conditions.{leaves-same, narrower-same}
use Rattle.flow_needs.proofs.Growing.{known, units-from}
use Rattle.flow_needs.proofs.Own.{all-found, cons-of}
use Rattle.flow_needs.proofs.Quieting.{on-beside, on-then}
use Rattle.flow_needs.proofs.Ways.{flow-seen, ways-put, ways-seen}

-- ---- one part in place of the last one, which says something of variables

pub record Says (View : TypedExpr → TypedExpr → Type 0) (w : Option Ways) (old new : State) : Type 0 where
  pub before : TypedExpr
  pub last : AreLast old.found 1 (before ∷ [])
  pub part : TypedExpr
  pub view : View before part
  pub found : new.found ≡ all_but 1 old.found ++ part ∷ []
  pub units : new.units ≡ old.units
  pub ways : SameOption SameWays w new.ways
  pub atoms : new.atoms ≡ old.atoms

abbrev Negation : Place → TypedExpr → TypedExpr → Type 0
Negation at a e = (t : Shared) × IsStrict (form.Operator operator.Not) (a ∷ []) t at e

abbrev Enclosure : Place → TypedExpr → TypedExpr → Type 0
Enclosure at a e = (t : Shared) × IsParens a t at e

abbrev pub TestOf : Shared → Place → TypedExpr → TypedExpr → Type 0
TestOf t at a e = (u : Shared) × IsStrict (form.Is t) (a ∷ []) u at e

one-of : (xs : List TypedExpr) → length xs ≡ 1 → (a : TypedExpr) × (xs ≡ a ∷ [])
one-of (a ∷ []) e = (a, refl)
one-of [] e = absurd (let bad : ⊥ = cc in bad)
one-of (a ∷ b ∷ xs) e = absurd (let bad : ⊥ = cc in bad)

-- a part is made, and then this is said
said-of : (P : Atoms → List TypedExpr → TypedExpr → Type 0) (View : TypedExpr → TypedExpr → Type 0) → ((env : Atoms) (a e : TypedExpr) → P env (a ∷ []) e → View a e)
    → (w : Option Ways) (old mid new : State) (u v : Unit {0}) → makes 1 P old (Gives u) mid → sets_ways w mid (Gives v) new → Says View w old new
unfolding does
said-of P View view w old mid new u v (parts, last, e, x, first) put =
    let (o, same, second) = ways-put w v mid new put in
    let (a, is) = one-of parts last.many in
    record {
      before = a;
      last = subst (AreLast old.found 1) is last;
      part = e;
      view = view old.atoms a e (subst (λ xs. P old.atoms xs e) is x);
      found = ap (λ (s : State). s.found) second ∙ ap (λ (s : State). s.found) first;
      units = ap (λ (s : State). s.units) second ∙ ap (λ (s : State). s.units) first;
      ways = subst (λ y. SameOption SameWays w y) (sym (ap (λ (s : State). s.ways) second)) same;
      atoms = ap (λ (s : State). s.atoms) second ∙ ap (λ (s : State). s.atoms) first;
    }

pub turned : (at : Place) (old new : State) → turns at old (Gives tt) new
    → (u : UnitAtWork) × IsLast old.units u × (let w = ways_or_same old.ways u.flow in Says (Negation at) (Some (record { yes = w.no; no = w.yes })) old new)
unfolding ◌▷◌
turned at old new (w, s, seen, (u, mid, made, put)) =
    let (v, last, is, same) = ways-seen w old s seen in
    let says : Says (Negation at) (Some (record { yes = w.no; no = w.yes })) s new =
    said-of _ (Negation at) (λ env a e (t, k, view). (t, view)) (Some (record { yes = w.no; no = w.yes })) s mid new u tt made put in (
      v,
      last,
      subst (λ (y : Ways). Says (Negation at) (Some (record { yes = y.no; no = y.yes })) old new) is
          (subst (λ (x : State). Says (Negation at) (Some (record { yes = w.no; no = w.yes })) x new) same says),
    )

pub enclosed : (at : Place) (old new : State) → encloses at old (Gives tt) new → Says (Enclosure at) old.ways old new
unfolding ◌▷◌ gives_some
enclosed at old new (w, s, (is, same), (u, mid, made, put)) =
    let says : Says (Enclosure at) w s new =
    said-of _ (Enclosure at) (λ env a e (b, one, (t, k, view)). (t, subst (λ c. IsParens c t at e) (sym (cons-of a b [] [] one).0) view)) w s mid new u tt made put in
    subst (λ y. Says (Enclosure at) y old new) is (subst (λ (x : State). Says (Enclosure at) w x new) same says)

-- ---- what stands for the whole

same-or : (o p : Option Ways) (f : CheckedFlow) → SameOption SameWays o p → SameWays (ways_or_same o f) (ways_or_same p f)
same-or None None f same = record { yes = same-flow f; no = same-flow f }
same-or (Some w) (Some x) f same = same
same-or None (Some x) f same = absurd same
same-or (Some w) None f same = absurd same

module _ (env : List AtomDef) (around : Around) (live : Bool) where
  abbrev K : CheckedFlow → Flow
  K = known env around live

  -- of a part that says this where its operand says that
  pub comes-said : (View : TypedExpr → TypedExpr → Type 0) (o : Option Ways) (old k new : State) (x : ComesToFlow env around live old k) → Says View o k new → (r : TypedExpr)
      → new.found ≡ old.found ++ r ∷ []
      → ((e : TypedExpr) → View x.part e → LeavesWays env around live x.was e (ways_or_same o x.now.flow)) → AreNarrower env x.was.flow (ways_or_same o x.now.flow)
      → ((e : TypedExpr) → View x.part e → units_of e ≡ units_in (x.part ∷ [])) → ComesToFlow env around live old new
  comes-said View o old k new x s r more leaves narrower same-units =
      let (parts, found) = all-found 1 old k new (s.before ∷ []) s.part r (x.part ∷ []) x.found s.last s.found more in
      let view : View x.part s.part = subst (λ a. View a s.part) (cons-of s.before x.part [] [] parts).0 s.view in
      let same : SameWays (ways_or_same o x.now.flow) (ways_or_same new.ways x.now.flow) = same-or o new.ways x.now.flow s.ways in
      record {
        part = s.part;
        found = found;
        on = on-then old k new x.on (on-beside k new s.units);
        was = x.was;
        before = x.before;
        now = x.now;
        behind = subst (λ us. IsLast us x.now) (sym s.units) x.behind;
        leaves = λ base at-base.
            leaves-same env around live base s.part (K x.was.flow) (ways_or_same o x.now.flow) (ways_or_same new.ways x.now.flow) same (leaves s.part view base at-base);
        narrower = narrower-same env around live x.was.flow (ways_or_same o x.now.flow) (ways_or_same new.ways x.now.flow) same narrower;
        units = units-from env around live s.part (x.part ∷ []) (same-units s.part view) x.units;
      }

  module _ (flows : MadeExprsKeepFlows) where
    pub comes-turned : (at : Place) (old k new : State) → ComesToFlow env around live old k → turns at k (Gives tt) new → (r : TypedExpr) → new.found ≡ old.found ++ r ∷ []
        → ComesToFlow env around live old new
    comes-turned at old k new x met r more =
        let (u, last, s) = turned at k new met in
        let one : u ≡ x.now = last-same k.units u x.now last x.behind in
        let w : Ways = ways_or_same k.ways x.now.flow in
        let turn : Option Ways = Some (record { yes = w.no; no = w.yes }) in
        let says : Says (Negation at) turn k new =
        subst (λ (y : UnitAtWork). (let v = ways_or_same k.ways y.flow in Says (Negation at) (Some (record { yes = v.no; no = v.yes })) k new)) one s in
        comes-said (Negation at) turn old k new x says r more
        (λ e (t, view) base at-base.
        let made : MadeKeepsFlow env around base = flows env around base in
        made.negated x.part e t at (K x.was.flow) (K x.was.flow) (K w.yes) (K w.no) view (x.leaves base at-base))
        (record { yes = x.narrower.no; no = x.narrower.yes })
        (λ e (t, view). strict-units e view)

    pub comes-enclosed : (at : Place) (old k new : State) → ComesToFlow env around live old k → encloses at k (Gives tt) new → (r : TypedExpr) → new.found ≡ old.found ++ r ∷ []
        → ComesToFlow env around live old new
    comes-enclosed at old k new x met r more =
        let w : Ways = ways_or_same k.ways x.now.flow in
        comes-said (Enclosure at) k.ways old k new x (enclosed at k new met) r more
        (λ e (t, view) base at-base.
        let made : MadeKeepsFlow env around base = flows env around base in
        made.enclosed x.part e t at (K x.was.flow) (K x.was.flow) (K w.yes) (K w.no) view (x.leaves base at-base))
        x.narrower
        (λ e (t, view). parens-units e view)

-- ---- tests of variables

-- a test of the name finds this variable, and narrows it to one type where it holds, and to another where it doesn't
pub record Narrowing (q : QualifiedName) (t : Shared) (w : Option Ways) (s : State) : Type 0 where
  pub unit : UnitAtWork
  pub at_hand : IsLast s.units unit
  pub no_prefix : q.prefix ≡ None
  pub variable : Variable
  pub stands_for : find_variable unit.flow.variables q.word.name ≡ Some variable
  pub holds : Shared
  pub fails : Shared
  pub where_true : WhereTrue s.atoms (shared_now variable).value t.value holds.value
  pub where_false : WhereFalse s.atoms (shared_now variable).value t.value fails.value
  pub is : w ≡ Some (record { yes = with_type q.word.name (Some holds) unit.flow; no = with_type q.word.name (Some fails) unit.flow })

-- what a test of a name says: nothing, or what it narrows
abbrev pub SaysOf : Option QualifiedName → Shared → Option Ways → State → Type 0
SaysOf None t w s = w ≡ None
SaysOf (Some q) t w s = (w ≡ None) ⊎ Narrowing q t w s

named-so : (vs : List Variable) (q : QualifiedName) (p : Option Prefix) (v : Variable) → q.prefix ≡ p → variable_behind vs q p ≡ Some v
    → (q.prefix ≡ None) × (find_variable vs q.word.name ≡ Some v)
named-so vs q None v is e = (is, e)
named-so vs q (Some prefix) v is e = absurd (let bad : ⊥ = cc in bad)

module _ (passes : List AtomDef → Asked → TypeLimit → Type 0) where
  narrows-known : (s t : Shared) (at : Place) (old new : State) (types : Shared × Shared) → narrows_to passes s t at old (Gives types) new
      → WhereTrue old.atoms s.value t.value types.0.value × WhereFalse old.atoms s.value t.value types.1.value × (new ≡ old)
  unfolding ◌▷◌ gives_some asks where_false
  narrows-known s t at old new types (y, a, (where-yes, first), (n, b, ((where-no, atoms), over), (is, same))) =
      let second : b ≡ a = over ∙ ap (λ (xs : Atoms). record a { atoms = xs }) atoms in (
        subst (λ (p : Shared × Shared). WhereTrue old.atoms s.value t.value p.0.value) (sym is) where-yes,
        subst (λ (p : Shared × Shared). WhereFalse old.atoms s.value t.value p.1.value) (sym is)
            (subst (λ (x : State). WhereFalse x.atoms s.value t.value n.value) first where-no),
        same ∙ second ∙ first,
      )

  narrowing-known : (q : QualifiedName) (v : Variable) (t : Shared) (at : Place) (w : Option Ways) (old new : State) (u : UnitAtWork) → IsLast old.units u → q.prefix ≡ None
      → find_variable u.flow.variables q.word.name ≡ Some v → narrowed_by passes q.word.name v t at old (Gives w) new → Narrowing q t w old × (new ≡ old)
  unfolding ◌▷◌ gives_some
  narrowing-known q v t at w old new u last none e (f, a, seen, (types, b, narrows, (is, same))) =
      let (z, hand, flow, first) = flow-seen f old a seen in
      let one : z ≡ u = last-same old.units z u hand last in
      let (yes-type, no-type, second) = narrows-known (shared_now v) t at a b types narrows in
      let known-flow : f ≡ u.flow = flow ∙ ap (λ (x : UnitAtWork). x.flow) one in (
        record {
          unit = u;
          at_hand = last;
          no_prefix = none;
          variable = v;
          stands_for = e;
          holds = types.0;
          fails = types.1;
          where_true = subst (λ (x : State). WhereTrue x.atoms (shared_now v).value t.value types.0.value) first yes-type;
          where_false = subst (λ (x : State). WhereFalse x.atoms (shared_now v).value t.value types.1.value) first no-type;
          is = is ∙ ap (λ (g : CheckedFlow). Some (record { yes = with_type q.word.name (Some types.0) g; no = with_type q.word.name (Some types.1) g })) known-flow;
        },
        same ∙ second ∙ first,
      )

  says-if : (q : QualifiedName) (o : Option Variable) (t : Shared) (at : Place) (w : Option Ways) (old new : State) (u : UnitAtWork) → IsLast old.units u
      → variable_named u.flow.variables q ≡ o → ways_if passes q o t at old (Gives w) new → ((w ≡ None) ⊎ Narrowing q t w old) × (new ≡ old)
  unfolding gives_some
  says-if q None t at w old new u last e (is, same) = (inl is, same)
  says-if q (Some v) t at w old new u last e met =
      let (none, found) = named-so u.flow.variables q q.prefix v refl e in
      let (n, same) = narrowing-known q v t at w old new u last none found met in (inr n, same)

  says-known : (name : Option QualifiedName) (t : Shared) (at : Place) (w : Option Ways) (old new : State) → ways_of_test passes name t at old (Gives w) new
      → SaysOf name t w old × (new ≡ old)
  unfolding ◌▷◌ gives_some
  says-known None t at w old new (is, same) = (is, same)
  says-known (Some q) t at w old new (f, a, seen, met) =
      let (u, last, flow, first) = flow-seen f old a seen in
      let met' : ways_if passes q (variable_named u.flow.variables q) t at old (Gives w) new =
      subst (λ (x : State). ways_if passes q (variable_named u.flow.variables q) t at x (Gives w) new) first
      (subst (λ (g : CheckedFlow). ways_if passes q (variable_named g.variables q) t at a (Gives w) new) flow met) in
      says-if q (variable_named u.flow.variables q) t at w old new u last refl met'

  -- a test is met
  pub record Tested (name : Option QualifiedName) (at : Place) (old new : State) : Type 0 where
    pub type : Shared
    pub wanted : IsLast old.wants (Some type)
    pub ways : Option Ways
    pub narrows : SaysOf name type ways old
    pub says : Says (TestOf type at) ways old new

  over-wants : (name : Option QualifiedName) (t : Shared) (w : Option Ways) (s : State) (ws : List (Option Shared)) → SaysOf name t w (record s { wants = ws }) → SaysOf name t w s
  over-wants None t w s ws h = h
  over-wants (Some q) t w s ws (inl h) = inl h
  over-wants (Some q) t w s ws (inr h) =
      inr (record {
        unit = h.unit;
        at_hand = h.at_hand;
        no_prefix = h.no_prefix;
        variable = h.variable;
        stands_for = h.stands_for;
        holds = h.holds;
        fails = h.fails;
        where_true = h.where_true;
        where_false = h.where_false;
        is = h.is;
      })

  pub tested-so : (name : Option QualifiedName) (at : Place) (old new : State) → tests passes name at old (Gives tt) new → Tested name at old new
  unfolding ◌▷◌ gives_some does
  tested-so name at old new (t, a, (last, first), (u, b, second, (w, c, third, (v, d, made, put)))) =
      let (says, same) = says-known name t at w b c third in
      let dropped : b ≡ record old { wants = all_but 1 old.wants } = second ∙ ap (λ (s : State). record s { wants = all_but 1 s.wants }) first in
      let at-b : SaysOf name t w (record old { wants = all_but 1 old.wants }) = subst (λ (s : State). SaysOf name t w s) dropped says in
      let from : Says (TestOf t at) w c new = said-of (λ env parts e. (k : Shared) × OfKind kind.Truth env k.value × IsStrict (form.Is t) parts k at e) (TestOf t at) (λ env x e (k, truth, view). (k, view)) w c d new v tt made put in
      let all : c ≡ record old { wants = all_but 1 old.wants } = same ∙ dropped in
      record {
        type = t;
        wanted = last;
        ways = w;
        narrows = over-wants name t w old (all_but 1 old.wants) at-b;
        says = record {
          before = from.before;
          last = subst (λ (s : State). AreLast s.found 1 (from.before ∷ [])) all from.last;
          part = from.part;
          view = from.view;
          found = from.found ∙ ap (λ (s : State). all_but 1 s.found ++ from.part ∷ []) all;
          units = from.units ∙ ap (λ (s : State). s.units) all;
          ways = from.ways;
          atoms = from.atoms ∙ ap (λ (s : State). s.atoms) all;
        };
      }
