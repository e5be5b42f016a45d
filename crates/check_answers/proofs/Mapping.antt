-- What corresponds in one way does in each wider one.
use Rattle.std.proofs.Common.{Result, Ok, Err}
use Rattle.bal_base.specs.declared.fault.Fault.{Fault}
use Rattle.flow_narrowing.specs.declared.flow.Flow.{Flow}
use Rattle.flow_narrowing.specs.declared.flow.Variable.{Variable}
use Rattle.type_model.specs.declared.basic.Ty.{Ty}
use Rattle.typed_tree.specs.declared.expr.TypedExpr.{TypedExpr}
use Rattle.typed_tree.specs.SharedTypes.{Shared}
use Rattle.check_words.specs.State.{BlockAtWork, CallAtWork, Called, OfFunction, OfLibrary, OfValue, ChoiceAtWork, ConstructorAtWork, Done, InitialiserAtWork, MatchAtWork, Site, State, UnitAtWork, Ways}
use Rattle.check_answers.specs.Pieces.{captured_pieces, clause_pieces, function_pieces, initial_pieces, initialiser_pieces, stmt_pieces, variable_pieces, worker_pieces, written}
use Rattle.check_answers.specs.TwinStates.{BlockTwins, CallTwins, CalledTwins, ChoiceTwins, ConstructorTwins, DoneTwins, FlowTwins, InitialiserTwins, MatchTwins, PartTwins, ResultTwins, SharedTwins, SiteTwins, StateTwins, UnitTwins, VariableTwins, WaysTwins}
use Rattle.check_answers.proofs.SameTrees.{pieces-map}
use Rattle.check_answers.proofs.Zips.{option-map, zip-map}

module _ (D R E Q : Ty → Ty → Type 0) (d : (s t : Ty) → D s t → E s t) (r : (s t : Ty) → R s t → Q s t) where
  shared-map : (t u : Shared) → SharedTwins D R t u → SharedTwins E Q t u
  shared-map t u h = r t.value u.value h

  pub variable-map : (v u : Variable) → VariableTwins D R v u → VariableTwins E Q v u
  variable-map v u h =
      record {
        name = h.name;
        slot = h.slot;
        declared = shared-map v.declared u.declared h.declared;
        narrowed = option-map _ _ shared-map v.narrowed u.narrowed h.narrowed;
        fixed = h.fixed;
        assigned = h.assigned;
        captured = h.captured;
      }

  pub flow-map : (f g : Flow) → FlowTwins D R f g → FlowTwins E Q f g
  flow-map f g h = record { variables = zip-map _ _ variable-map f.variables g.variables h.variables; reached = h.reached }

  ways-map : (w x : Ways) → WaysTwins D R w x → WaysTwins E Q w x
  ways-map w x h = record { yes = flow-map w.yes x.yes h.yes; no = flow-map w.no x.no h.no }

  pub part-map : (e f : TypedExpr) → PartTwins D R e f → PartTwins E Q e f
  part-map e f h = record { ty = r _ _ h.ty; inner = pieces-map D E d (written e).inner (written f).inner h.inner }

  choice-map : (c e : ChoiceAtWork) → ChoiceTwins D R c e → ChoiceTwins E Q c e
  choice-map c e h =
      record { before = flow-map c.before e.before h.before; other = flow-map c.other e.other h.other; first = flow-map c.first e.first h.first }

  pub match-map : (m n : MatchAtWork) → MatchTwins D R m n → MatchTwins E Q m n
  match-map m n h =
      record {
        at = h.at;
        on = h.on;
        before = flow-map m.before n.before h.before;
        left = shared-map m.left n.left h.left;
        patterns = h.patterns;
        clauses = zip-map _ _ (λ c e. pieces-map D E d (clause_pieces c) (clause_pieces e)) m.clauses n.clauses h.clauses;
        ends = zip-map _ _ flow-map m.ends n.ends h.ends;
      }

  constructor-map : (c e : ConstructorAtWork) → ConstructorTwins D R c e → ConstructorTwins E Q c e
  constructor-map c e h = record { choice = h.choice; immutable = h.immutable; keys = h.keys; types = zip-map _ _ r c.types e.types h.types }

  called-map : (c e : Called) → CalledTwins D R c e → CalledTwins E Q c e
  called-map (OfFunction f) (OfFunction g) h = h
  called-map OfValue OfValue h = tt
  called-map (OfLibrary l t) (OfLibrary k u) h = (h.0, option-map _ _ shared-map t u h.1)
  called-map _ _ h = absurd h

  call-map : (c e : CallAtWork) → CallTwins D R c e → CallTwins E Q c e
  call-map c e h = record { callee = called-map c.callee e.callee h.callee; args = h.args }

  block-map : (b c : BlockAtWork) → BlockTwins D b c → BlockTwins E b c
  block-map b c h = record { stmts = zip-map _ _ (λ s t. pieces-map D E d (stmt_pieces s) (stmt_pieces t)) b.stmts c.stmts h.stmts; scope = h.scope }

  pub unit-map : (u v : UnitAtWork) → UnitTwins D R u v → UnitTwins E Q u v
  unit-map u v h =
      record {
        number = h.number;
        worker = h.worker;
        slots = zip-map _ _ shared-map u.slots v.slots h.slots;
        params = h.params;
        rest = h.rest;
        rest_member = option-map _ _ shared-map u.rest_member v.rest_member h.rest_member;
        result = shared-map u.result v.result h.result;
        arrow = h.arrow;
        future = h.future;
        captured = zip-map _ _ (λ c e. pieces-map D E d (captured_pieces c) (captured_pieces e)) u.captured v.captured h.captured;
        flow = flow-map u.flow v.flow h.flow;
      }

  result-map : (a b : Result Shared Fault) → ResultTwins D R a b → ResultTwins E Q a b
  result-map (Ok t) (Ok u) h = shared-map t u h
  result-map (Err f) (Err g) h = h
  result-map (Ok t) (Err g) h = absurd h
  result-map (Err f) (Ok u) h = absurd h

  site-map : (a b : Site) → SiteTwins D R a b → SiteTwins E Q a b
  site-map a b h = record { scope = h.scope; workers = h.workers; results = zip-map _ _ result-map a.results b.results h.results; events = h.events }

  initialiser-map : (i j : InitialiserAtWork) → InitialiserTwins D R i j → InitialiserTwins E Q i j
  initialiser-map i j h =
      record { unit = unit-map i.unit j.unit h.unit; values = zip-map _ _ (λ x y. pieces-map D E d (initial_pieces x) (initial_pieces y)) i.values j.values h.values }

  done-map : (a b : Done) → DoneTwins D a b → DoneTwins E a b
  done-map a b h =
      record {
        next_unit = h.next_unit;
        functions = zip-map _ _ (λ x y. pieces-map D E d (function_pieces x) (function_pieces y)) a.functions b.functions h.functions;
        workers = zip-map _ _ (λ x y. pieces-map D E d (worker_pieces x) (worker_pieces y)) a.workers b.workers h.workers;
        variables = zip-map _ _ (λ x y. pieces-map D E d (variable_pieces x) (variable_pieces y)) a.variables b.variables h.variables;
        initialisers = zip-map _ _ (λ x y. pieces-map D E d (initialiser_pieces x) (initialiser_pieces y)) a.initialisers b.initialisers h.initialisers;
      }

  pub state-map : (s t : State) → StateTwins D R s t → StateTwins E Q s t
  state-map s t h =
      record {
        site = site-map s.site t.site h.site;
        found = zip-map _ _ part-map s.found t.found h.found;
        ways = option-map _ _ ways-map s.ways t.ways h.ways;
        wants = zip-map _ _ (option-map _ _ shared-map) s.wants t.wants h.wants;
        sorts = h.sorts;
        accesses = h.accesses;
        constructors = zip-map _ _ constructor-map s.constructors t.constructors h.constructors;
        calls = zip-map _ _ call-map s.calls t.calls h.calls;
        choices = zip-map _ _ choice-map s.choices t.choices h.choices;
        matches = zip-map _ _ match-map s.matches t.matches h.matches;
        blocks = zip-map _ _ block-map s.blocks t.blocks h.blocks;
        units = zip-map _ _ unit-map s.units t.units h.units;
        initialiser = option-map _ _ initialiser-map s.initialiser t.initialiser h.initialiser;
        done = done-map s.done t.done h.done;
      }
