-- Events and returns of workers, as they are held by references to the tree: which of the tree's they are.
use Rattle.std.specs.Prelude.{map}
use Rattle.type_model.specs.declared.basic.SemType.{SemType}
use Rattle.operations.specs.Talk.{workers_in}
use Rattle.typed_tree.specs.declared.event.EventKind.{EventKind}
use Rattle.typed_tree.specs.declared.event.EventKind.TheVariants.{Send, Post, Done, Receive, Flush, Wait, End}
use Rattle.typed_tree.specs.SharedTypes.{sem_of}
use Rattle.worker_pairing.specs.Marks.{Member, Members, Numbered, Returning, Saying, nil_type}
use Rattle.worker_members.specs.declared.held.HeldMember.{HeldMember}
use Rattle.worker_members.specs.declared.held.HeldMembers.{HeldMembers}
use Rattle.worker_members.specs.declared.held.Returned.{Returned}
use Rattle.worker_members.specs.declared.held.Said.{Said}
use Rattle.worker_members.specs.declared.held.SaidKind.{SaidKind}
use Rattle.worker_members.specs.declared.held.SaidKind.TheVariants as said
use Rattle.worker_members.specs.declared.held.SaidType.{SaidType}
use Rattle.worker_members.specs.declared.held.SaidType.TheVariants as said_type
use Rattle.worker_members.specs.declared.text.Standing.{Standing}

abbrev pub kind_of : SaidKind → EventKind
kind_of (said.Send peer) = Send peer
kind_of (said.Post peer) = Post peer
kind_of (said.Done peer) = Done peer
kind_of (said.Receive peer) = Receive peer
kind_of (said.Flush peer) = Flush peer
kind_of (said.Wait names) = Wait (workers_in names.now)
kind_of said.End = End

abbrev pub sem_said : SaidType → SemType
sem_said said_type.Nil = nil_type
sem_said (said_type.Of type) = sem_of type.now

abbrev pub saying_held : Said → Saying
saying_held s = record { kind = kind_of s.kind; at = s.at; initial = s.initial; inner = s.inner; early = s.early; type = sem_said s.ty }

abbrev pub returning_held : Returned → Returning
returning_held r = record { before = r.before; type = sem_said r.ty; at = r.at }

abbrev pub member_held : HeldMember → Member
member_held m =
    record { sayings = map saying_held m.sayings.items; returns = map returning_held m.returns.items; result = sem_of m.result.now }

abbrev pub members_held : HeldMembers → Members
members_held ms = map member_held ms.workers.items

abbrev pub numbered_held : Standing → Numbered
numbered_held e = record { worker = e.worker; number = e.number; saying = saying_held e.said }
