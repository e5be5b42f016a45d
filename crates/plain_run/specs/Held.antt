-- What is held, as the model's words.
use Rattle.std.specs.Prelude.{map, option_map}
use Rattle.value_model.specs.Heap as model_heap
use Rattle.value_model.specs.Heap.{Heap as ModelHeap, Structure as ModelStructure, ErrorObject as ModelError, FunctionObject as ModelFunction, Members as ModelMembers}
use Rattle.value_model.specs.World.{World as ModelWorld}
use Rattle.op_model.specs.Common as model
use Rattle.plain_run.specs.declared.held.Members.{Members}
use Rattle.plain_run.specs.declared.held.Members.TheVariants.{Items, Entries}
use Rattle.plain_run.specs.declared.held.Structure.{Structure}
use Rattle.plain_run.specs.declared.held.ErrorObject.{ErrorObject}
use Rattle.plain_run.specs.declared.held.FunctionObject.{FunctionObject}
use Rattle.plain_run.specs.declared.held.Heap.{Heap}
use Rattle.plain_run.specs.declared.held.World.{World}
use Rattle.plain_run.specs.declared.held.Role.{Role}
use Rattle.plain_run.specs.declared.held.End.{End}
use Rattle.plain_run.specs.declared.held.End.TheVariants.{Returned, Panicked}
use Rattle.plain_run.specs.declared.held.Need.{Need}
use Rattle.plain_run.specs.declared.held.Need.TheVariants.{Message, Received, AllEnded, AnyGiven}
use Rattle.plain_run.specs.declared.held.Status.{Status}
use Rattle.plain_run.specs.declared.held.Status.TheVariants.{Active, Blocked, Ended}
use Rattle.plain_run.specs.declared.held.Strand.{Strand}
use Rattle.plain_run.specs.declared.held.Channel.{Channel}
use Rattle.plain_run.specs.declared.held.Activation.{Activation}
use Rattle.plain_run.specs.declared.held.Common.{Common}
use Rattle.plain_run.specs.declared.held.Caller.{Caller}

-- ---- the world

abbrev pub members_of : Members → ModelMembers
members_of (Items vs) = model_heap.Items vs.items
members_of (Entries es) = model_heap.Entries es

abbrev pub structure_of : Structure → ModelStructure
structure_of s = record { atom = s.atom; mutable = s.mutable; members = members_of s.members; greatest = s.greatest }

abbrev pub error_of : ErrorObject → ModelError
error_of e = record { message = e.message; cause = e.cause; detail = e.detail }

abbrev pub function_of : FunctionObject → ModelFunction
function_of f = record { unit = f.unit; captured = f.captured.items }

abbrev pub heap_of : Heap → ModelHeap
heap_of h = record { structures = map structure_of h.structures; errors = map error_of h.errors.items; functions = map function_of h.functions }

abbrev pub world_of : World → ModelWorld
world_of w = record { heap = heap_of w.heap; input = w.input.items; output = w.output.items }

-- ---- strands and workers

abbrev pub role_of : Role → model.Role
role_of r = record { activation = r.activation; worker = r.worker }

abbrev pub end_of : End → model.End
end_of (Returned v) = model.Returned v
end_of (Panicked e) = model.Panicked e

abbrev pub need_of : Need → model.Need
need_of (Message activation from to) = model.Message activation from to
need_of (Received activation from to count) = model.Received activation from to count
need_of (AllEnded ns) = model.AllEnded ns.items
need_of (AnyGiven ns) = model.AnyGiven ns.items

abbrev pub status_of : Status → model.Status
status_of Active = model.IsActive
status_of (Blocked need) = model.IsBlocked (need_of need)
status_of (Ended place end) = model.IsEnded place (end_of end)

abbrev pub strand_of : Strand → model.Strand
strand_of s = record { unit = s.unit; role = option_map role_of s.role; status = status_of s.status; taken = s.taken }

abbrev pub channel_of : Channel → model.Channel
channel_of x = record { sent = x.sent; received = x.received; queue = x.queue.items }

abbrev pub activation_of : Activation → model.Activation
activation_of a = record { unit = a.unit; strands = a.strands.items; ends = map (option_map end_of) a.ends.items; channels = map (λ xs. map channel_of xs.items) a.channels.items }

abbrev pub common_of : Common → model.Common
common_of c =
    record {
      world = world_of c.world;
      strands = map strand_of c.strands;
      activations = map activation_of c.activations.items;
      variables = c.variables.items;
      ready = c.ready.items;
      running = c.running;
      to_run = map (λ u. (u.unit, u.args.items)) c.to_run.items;
      ticks = c.ticks;
      picks = c.picks;
    }

-- the same with another world
abbrev pub with_world : Common → World → Common
with_world c w =
    record {
      world = w;
      strands = c.strands;
      activations = c.activations;
      variables = c.variables;
      ready = c.ready;
      running = c.running;
      to_run = c.to_run;
      ticks = c.ticks;
      picks = c.picks;
    }

abbrev pub caller_of : Caller → model.Caller
caller_of a = record { unit = a.unit; role = option_map role_of a.role; depth = a.depth }
