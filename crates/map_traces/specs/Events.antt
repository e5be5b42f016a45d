-- What the events of a trace mean, one after another.
use Rattle.std.specs.Prelude.{List, [], ◌∷◌, map}
use Rattle.type_model.specs.declared.basic.BasicSet.TheVariants.{Never, Readonly}
use Rattle.type_model.specs.declared.basic.SemType.{SemType, Basic, Atom}
use Rattle.typed_tree.specs.declared.package.ModuleVariable.{ModuleVariable}
use Rattle.typed_tree.specs.SharedTypes.{sem_of}
use Rattle.eval_model.specs.Expressions.{error_type, nil_type}
use Rattle.map_traces.specs.Constructs.{Known}
use Rattle.map_traces.specs.declared.entry.Around.{Around}
use Rattle.map_traces.specs.declared.entry.Entry.{Entry}
use Rattle.map_traces.specs.declared.entry.Entry.TheVariants as entry
use Rattle.map_traces.specs.declared.trace.Event.{Event}
use Rattle.map_traces.specs.declared.trace.Event.TheVariants as event
use Rattle.map_traces.specs.declared.trace.Trace.{Trace}
use Rattle.map_traces.specs.Tracing.{Tracing, drops, place, push, untraced}

abbrev pub type_of : Entry → SemType
type_of (entry.Tree t) = sem_of t.now
type_of (entry.Plain t) = t.now
type_of entry.Nil = nil_type
type_of entry.Error = error_type
type_of entry.Readonly = Basic Readonly
type_of entry.Never = Basic Never
type_of (entry.Atom a) = Atom a

abbrev pub variable_types : List ModuleVariable → List SemType
variable_types vs = map (λ v. sem_of v.ty) vs

abbrev pub known_of : Around → Known
known_of a =
    record {
      plain = record { boolean = a.boolean.now; int = a.int.now; string = a.string.now };
      slots = map sem_of a.slots.now;
      variables = variable_types a.variables.now;
    }

abbrev pub traced : Event → Tracing → Tracing
traced event.Place s = place s
traced (event.Push t) s = push (type_of t) s
traced (event.Take n) s = drops n s

abbrev pub all_traced : List Event → Tracing → Tracing
all_traced [] s = s
all_traced (e ∷ es) s = all_traced es (traced e s)

-- from no operands on
abbrev pub tracing_of : Trace → Tracing
tracing_of t = all_traced t.events.items untraced
