-- Where all types name only atoms that are there, what corresponds stays so where atoms are added.
use Rattle.std.proofs.Common.{ℕ, List, [], ◌∷◌, length, All, IfOk, IfSome, Option, None, Some, Result, Ok, Err}
use Rattle.std.specs.List.{AllZip}
use Rattle.std.proofs.lemmas.List.Elements.{All-head, All-tail}
use Rattle.bal_base.specs.declared.fault.Fault.{Fault}
use Rattle.flow_narrowing.specs.declared.flow.Flow.{Flow}
use Rattle.flow_narrowing.specs.declared.flow.Variable.{Variable}
use Rattle.flow_narrowing.specs.Flows.{IfShared, VariableBelow}
use Rattle.type_model.specs.declared.atoms.AtomDef.{AtomDef}
use Rattle.type_model.specs.declared.basic.Ty.{Ty}
use Rattle.type_model.specs.Defined.{TyBelow}
use Rattle.typed_tree.specs.declared.expr.TypedExpr.{TypedExpr}
use Rattle.typed_tree.specs.SharedTypes.{Shared}
use Rattle.check_words.specs.Sharing.{SameOption}
use Rattle.check_words.specs.Stands.{CallBelow, CalledBelow, ChoiceBelow, ConstructorBelow, FlowBelow, InitialiserBelow, MatchBelow, PartBelow, SharedBelow, SiteBelow, Stands, UnitBelow, WaysBelow}
use Rattle.check_words.specs.State.{CallAtWork, Called, OfFunction, OfLibrary, OfValue, ChoiceAtWork, ConstructorAtWork, InitialiserAtWork, MatchAtWork, Site, State, UnitAtWork, Ways}
use Rattle.check_answers.specs.TwinStates.{CallTwins, CalledTwins, ChoiceTwins, ConstructorTwins, FlowTwins, InitialiserTwins, MatchTwins, PartTwins, ResultTwins, SharedTwins, SiteTwins, StateTwins, UnitTwins, VariableTwins, WaysTwins}
use Rattle.check_answers.specs.TwinTypes.{SettledTwins, TwinTypes}

pub zip-both : {A : Type 0} (R Q : A → A → Type 0) (P S : A → Type 0) → ((x y : A) → R x y → P x → S y → Q x y)
    → (xs ys : List A) → AllZip R xs ys → All P xs → All S ys → AllZip Q xs ys
zip-both R Q P S f [] [] h p s = tt
zip-both R Q P S f (x ∷ xs) (y ∷ ys) h p s =
    (f x y h.0 (All-head P x xs p) (All-head S y ys s), zip-both R Q P S f xs ys h.1 (All-tail P x xs p) (All-tail S y ys s))
zip-both R Q P S f [] (y ∷ ys) h p s = absurd h
zip-both R Q P S f (x ∷ xs) [] h p s = absurd h

pub option-both : {A : Type 0} (R Q : A → A → Type 0) (P S : A → Type 0) → ((x y : A) → R x y → P x → S y → Q x y)
    → (o p : Option A) → SameOption R o p → IfSome o P → IfSome p S → SameOption Q o p
option-both R Q P S f None None h p s = tt
option-both R Q P S f (Some x) (Some y) h p s = f x y h p s
option-both R Q P S f None (Some y) h p s = absurd h
option-both R Q P S f (Some x) None h p s = absurd h

module _ (m n : List AtomDef) where
  abbrev D : Ty → Ty → Type 0
  D = SettledTwins m n

  abbrev W : Ty → Ty → Type 0
  W = TwinTypes m n

  abbrev a : ℕ
  a = length m

  abbrev b : ℕ
  b = length n

  settled : (s t : Ty) → W s t → TyBelow a s → TyBelow b t → D s t
  settled s t h p q = record { twins = h; first = p; second = q }

  shared-settled : (t u : Shared) → SharedTwins D W t u → SharedBelow a t → SharedBelow b u → SharedTwins D D t u
  shared-settled t u h p q = settled t.value u.value h p q

  want-settled : (t u : Option Shared) → SameOption (SharedTwins D W) t u → IfShared (TyBelow a) t → IfShared (TyBelow b) u → SameOption (SharedTwins D D) t u
  want-settled None None h p q = tt
  want-settled (Some t) (Some u) h p q = shared-settled t u h p q
  want-settled None (Some u) h p q = absurd h
  want-settled (Some t) None h p q = absurd h

  variable-settled : (v u : Variable) → VariableTwins D W v u → VariableBelow a v → VariableBelow b u → VariableTwins D D v u
  variable-settled v u h p q =
      record {
        name = h.name;
        slot = h.slot;
        declared = shared-settled v.declared u.declared h.declared p.declared q.declared;
        narrowed = want-settled v.narrowed u.narrowed h.narrowed p.narrowed q.narrowed;
        fixed = h.fixed;
        assigned = h.assigned;
        captured = h.captured;
      }

  flow-settled : (f g : Flow) → FlowTwins D W f g → FlowBelow a f → FlowBelow b g → FlowTwins D D f g
  flow-settled f g h p q = record { variables = zip-both _ _ _ _ variable-settled f.variables g.variables h.variables p q; reached = h.reached }

  ways-settled : (w x : Ways) → WaysTwins D W w x → WaysBelow a w → WaysBelow b x → WaysTwins D D w x
  ways-settled w x h p q = record { yes = flow-settled w.yes x.yes h.yes p.yes q.yes; no = flow-settled w.no x.no h.no p.no q.no }

  part-settled : (e f : TypedExpr) → PartTwins D W e f → PartBelow a e → PartBelow b f → PartTwins D D e f
  part-settled e f h p q = record { ty = settled _ _ h.ty p q; inner = h.inner }

  choice-settled : (c d : ChoiceAtWork) → ChoiceTwins D W c d → ChoiceBelow a c → ChoiceBelow b d → ChoiceTwins D D c d
  choice-settled c d h p q =
      record {
        before = flow-settled c.before d.before h.before p.before q.before;
        other = flow-settled c.other d.other h.other p.other q.other;
        first = flow-settled c.first d.first h.first p.first q.first;
      }

  match-settled : (c d : MatchAtWork) → MatchTwins D W c d → MatchBelow a c → MatchBelow b d → MatchTwins D D c d
  match-settled c d h p q =
      record {
        at = h.at;
        on = h.on;
        before = flow-settled c.before d.before h.before p.before q.before;
        left = shared-settled c.left d.left h.left p.left q.left;
        patterns = h.patterns;
        clauses = h.clauses;
        ends = zip-both _ _ _ _ flow-settled c.ends d.ends h.ends p.ends q.ends;
      }

  constructor-settled : (c d : ConstructorAtWork) → ConstructorTwins D W c d → ConstructorBelow a c → ConstructorBelow b d → ConstructorTwins D D c d
  constructor-settled c d h p q =
      record { choice = h.choice; immutable = h.immutable; keys = h.keys; types = zip-both _ _ _ _ settled c.types d.types h.types p.types q.types }

  called-settled : (c d : Called) → CalledTwins D W c d → CalledBelow a c → CalledBelow b d → CalledTwins D D c d
  called-settled (OfFunction f) (OfFunction g) h p q = h
  called-settled OfValue OfValue h p q = tt
  called-settled (OfLibrary l t) (OfLibrary k u) h p q = (h.0, want-settled t u h.1 p q)
  called-settled _ _ h p q = absurd h

  call-settled : (c d : CallAtWork) → CallTwins D W c d → CallBelow a c → CallBelow b d → CallTwins D D c d
  call-settled c d h p q = record { callee = called-settled c.callee d.callee h.callee p q; args = h.args }

  unit-settled : (u v : UnitAtWork) → UnitTwins D W u v → UnitBelow a u → UnitBelow b v → UnitTwins D D u v
  unit-settled u v h p q =
      record {
        number = h.number;
        worker = h.worker;
        slots = zip-both _ _ _ _ shared-settled u.slots v.slots h.slots p.slots q.slots;
        params = h.params;
        rest = h.rest;
        rest_member = want-settled u.rest_member v.rest_member h.rest_member p.rest_member q.rest_member;
        result = shared-settled u.result v.result h.result p.result q.result;
        arrow = h.arrow;
        future = h.future;
        captured = h.captured;
        flow = flow-settled u.flow v.flow h.flow p.flow q.flow;
      }

  result-settled : (c d : Result Shared Fault) → ResultTwins D W c d → IfOk c (SharedBelow a) → IfOk d (SharedBelow b) → ResultTwins D D c d
  result-settled (Ok t) (Ok u) h p q = shared-settled t u h p q
  result-settled (Err f) (Err g) h p q = h
  result-settled (Ok t) (Err g) h p q = absurd h
  result-settled (Err f) (Ok u) h p q = absurd h

  site-settled : (c d : Site) → SiteTwins D W c d → SiteBelow a c → SiteBelow b d → SiteTwins D D c d
  site-settled c d h p q =
      record { scope = h.scope; workers = h.workers; results = zip-both _ _ _ _ result-settled c.results d.results h.results p q; events = h.events }

  initialiser-settled : (i j : InitialiserAtWork) → InitialiserTwins D W i j → InitialiserBelow a i → InitialiserBelow b j → InitialiserTwins D D i j
  initialiser-settled i j h p q = record { unit = unit-settled i.unit j.unit h.unit p q; values = h.values }

-- what stands is settled
pub state-settled : (s t : State) → Stands s → Stands t → StateTwins (SettledTwins s.atoms t.atoms) (TwinTypes s.atoms t.atoms) s t
    → StateTwins (SettledTwins s.atoms t.atoms) (SettledTwins s.atoms t.atoms) s t
state-settled s t p q h =
    let m = s.atoms in let n = t.atoms in record {
      site = site-settled m n s.site t.site h.site p.site q.site;
      found = zip-both _ _ _ _ (part-settled m n) s.found t.found h.found p.found q.found;
      ways = option-both _ _ _ _ (ways-settled m n) s.ways t.ways h.ways p.ways q.ways;
      wants = zip-both _ _ _ _ (want-settled m n) s.wants t.wants h.wants p.wants q.wants;
      sorts = h.sorts;
      accesses = h.accesses;
      constructors = zip-both _ _ _ _ (constructor-settled m n) s.constructors t.constructors h.constructors p.constructors q.constructors;
      calls = zip-both _ _ _ _ (call-settled m n) s.calls t.calls h.calls p.calls q.calls;
      choices = zip-both _ _ _ _ (choice-settled m n) s.choices t.choices h.choices p.choices q.choices;
      matches = zip-both _ _ _ _ (match-settled m n) s.matches t.matches h.matches p.matches q.matches;
      blocks = h.blocks;
      units = zip-both _ _ _ _ (unit-settled m n) s.units t.units h.units p.units q.units;
      initialiser = option-both _ _ _ _ (initialiser-settled m n) s.initialiser t.initialiser h.initialiser p.initialiser q.initialiser;
      done = h.done;
    }
