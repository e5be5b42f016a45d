-- What the checkers hold, as the state that it means.
use Rattle.std.specs.Prelude.{◌≡◌, ◌++◌, List, Option, None, map, option_map}
use Rattle.std.specs.Option.{option_to_list}
use Rattle.type_model.specs.declared.atoms.AtomDef.{AtomDef}
use Rattle.descriptors.specs.declared.names.Names.{Names}
use Rattle.descriptors.specs.Steps.{AreNames}
use Rattle.check_words.specs.Stands.{Stands}
use Rattle.check_words.specs.State.{BlockAtWork, CallAtWork, Called, ChoiceAtWork, ConstructorAtWork, InitialiserAtWork, MatchAtWork, OfFunction, OfLibrary, OfValue, State, UnitAtWork}
use Rattle.check_words.specs.State.{Done as DoneWords, Site as SiteWords, Ways as WaysWords}
use Rattle.check_work.specs.declared.work.Block.{Block}
use Rattle.check_work.specs.declared.work.Call.{Call}
use Rattle.check_work.specs.declared.work.Callee.{Callee}
use Rattle.check_work.specs.declared.work.Callee.TheVariants as callee
use Rattle.check_work.specs.declared.work.Choice.{Choice}
use Rattle.check_work.specs.declared.work.Constructor.{Constructor}
use Rattle.check_work.specs.declared.work.Done.{Done}
use Rattle.check_work.specs.declared.work.Here.{Here}
use Rattle.check_work.specs.declared.work.Initials.{Initials}
use Rattle.check_work.specs.declared.work.Match.{Match}
use Rattle.check_work.specs.declared.work.Site.{Site}
use Rattle.check_work.specs.declared.work.Unit.{Unit as UnitHeld}
use Rattle.check_work.specs.declared.work.Ways.{Ways}
use Rattle.check_work.specs.declared.work.Work.{Work}
use Rattle.check_words.specs.Library.{row_of}
use Rattle.flow_narrowing.specs.declared.flow.Flow.{Flow}
use Rattle.needs.specs.Needs.{Going}

abbrev pub site_of : Site → SiteWords
site_of s = record { scope = s.scope; workers = s.workers.items; results = s.results.items; events = s.events }

abbrev pub flow_of : Here → Flow
flow_of h = record { variables = h.variables.items; reached = h.reached }

abbrev pub ways_of : Ways → WaysWords
ways_of w = record { yes = w.yes; no = w.no }

abbrev pub choice_of : Choice → ChoiceAtWork
choice_of c = record { before = c.before; other = c.other; first = c.first }

abbrev pub match_of : Match → MatchAtWork
match_of m =
    record {
      at = m.at;
      on = m.on;
      before = m.before;
      left = m.left;
      patterns = m.patterns.items;
      clauses = m.clauses.items;
      ends = m.ends.items;
    }

abbrev pub constructor_of : Constructor → ConstructorAtWork
constructor_of c = record { choice = c.choice; immutable = c.immutable; keys = c.keys.items; types = c.types.items }

abbrev pub called_of : Callee → Called
called_of (callee.Function f) = OfFunction f.now
called_of callee.Value = OfValue
called_of (callee.Library call receiver) = OfLibrary (row_of call) receiver

abbrev pub call_of : Call → CallAtWork
call_of c = record { callee = called_of c.callee; args = c.args }

abbrev pub block_of : Block → BlockAtWork
block_of b = record { stmts = b.stmts.items; scope = b.scope }

abbrev pub unit_of : UnitHeld → UnitAtWork
unit_of u =
    record {
      number = u.number;
      worker = u.worker;
      slots = u.slots.items;
      params = u.params;
      rest = u.rest;
      rest_member = u.rest_member;
      result = u.result;
      arrow = u.arrow;
      future = u.future;
      captured = u.captured.items;
      flow = flow_of u.here;
    }

-- the unit at hand is the last one
abbrev pub units_of : List UnitHeld → Option UnitHeld → List UnitAtWork
units_of around unit = map unit_of around ++ option_to_list (option_map unit_of unit)

abbrev pub initials_of : Initials → InitialiserAtWork
initials_of i = record { unit = unit_of i.unit; values = i.values.items }

abbrev pub done_of : Done → DoneWords
done_of d =
    record {
      next_unit = d.next_unit;
      functions = d.functions.items;
      workers = d.workers.items;
      variables = d.variables.items;
      initialisers = d.initialisers.items;
    }

-- over these atoms
abbrev pub state_of : List AtomDef → Work → State
state_of env w =
    record {
      atoms = env;
      site = site_of w.site;
      found = w.found.items;
      ways = option_map ways_of w.ways;
      wants = w.wants.items;
      sorts = w.sorts.items;
      accesses = w.accesses.items;
      constructors = map constructor_of w.constructors.items;
      calls = map call_of w.calls.items;
      choices = map choice_of w.choices.items;
      matches = map match_of w.matches.items;
      blocks = map block_of w.blocks.items;
      units = units_of w.around.items w.unit;
      initialiser = option_map initials_of w.initials;
      done = done_of w.done;
    }

abbrev pub going : List AtomDef → Work → Going State
going env w = (state_of env w, w.stop)

-- what holds between any two needs, as long as the work goes on: each question that a need asks may be asked
abbrev pub Holds : List AtomDef → Names → Work → Type 0
Holds env names w = w.stop ≡ None → AreNames env names × Stands (state_of env w)
