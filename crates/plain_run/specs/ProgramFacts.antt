-- What is known of the program, as the model's words.
use Rattle.std.specs.Prelude.{map, get_or, []}
use Rattle.op_model.specs.ProgramFacts as model
use Rattle.plain_run.specs.declared.facts.ProgramFacts.{ProgramFacts}
use Rattle.plain_run.specs.declared.facts.UnitFacts.{UnitFacts}
use Rattle.plain_run.specs.declared.facts.WorkerFacts.{WorkerFacts}

abbrev pub worker_facts_of : WorkerFacts → model.WorkerFacts
worker_facts_of w = record { unit = w.unit; captured = w.captured.items }

abbrev pub unit_facts_of : UnitFacts → model.UnitFacts
unit_facts_of u =
    record { params = u.params; rest = u.rest; arrow = u.arrow; future = u.future; workers = map worker_facts_of u.workers.items }

abbrev pub facts_of : ProgramFacts → model.ProgramFacts
facts_of f =
    record {
      atoms = f.atoms.now;
      units = map unit_facts_of f.units.items;
      initialisers = f.initialisers.items;
      fillers = λ a. get_or f.fillers.now a [];
    }
