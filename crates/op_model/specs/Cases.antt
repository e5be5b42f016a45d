-- Worked cases of the definitions, reasoned out by hand.
use Rattle.std.specs.Prelude.{◌≡◌, ◌++◌, ℕ, pos, negsuc, Bool, true, false, List, [], ◌∷◌, Option, Some, None, codes, length, map, replicate, slice_get}
use Rattle.bal_base.specs.declared.text.Text.{Text}
use Rattle.type_model.specs.declared.basic.SemType.{Basic, Atom}
use Rattle.type_model.specs.declared.basic.BasicSet.TheVariants.{IntRange}
use Rattle.type_model.specs.declared.basic.Ty.{Ty}
use Rattle.type_model.specs.declared.atoms.AtomDef.{AtomDef}
use Rattle.type_model.specs.declared.atoms.AtomDef.TheVariants.{List as ListAtom, Mapping as MappingAtom}
use Rattle.value_model.specs.declared.value.Value.{Value}
use Rattle.value_model.specs.declared.value.Value.TheVariants.{Nil, Bool as Truth, Int, Str, Struct, Error}
use Rattle.value_model.specs.declared.filler.Filler.{Filler}
use Rattle.value_model.specs.declared.filler.Filler.TheVariants.{Int as IntFiller, List as NewList}
use Rattle.value_model.specs.declared.panics.PanicName.TheVariants.{CyclicValue}
use Rattle.value_model.specs.Heap.{Heap, Structure, ErrorObject, Items, Entries, cells}
use Rattle.value_model.specs.Stands.{OwnTypes}
use Rattle.value_model.specs.World.{World, Came, Gave, Threw}
use Rattle.op_model.specs.Copies.{clones, freezes, reached}
use Rattle.op_model.specs.Rows.{panics}
use Rattle.op_model.specs.Stores.{item_stored, set_entry}
use Rattle.op_model.specs.Strings.{int_in, trimmed}
use Rattle.op_model.specs.Texts.{text_of}
use Rattle.op_model.specs.StructureRows.{MakesError, SetsKey}
use Rattle.op_model.specs.Equality.{AreEqual}
use Rattle.op_model.specs.Common.{Common, Channel, Status, IsActive, IsBlocked, IsEnded, Returned, AllEnded, Message, Role}
use Rattle.op_model.specs.Strands.{settled, strand_blocked, strand_ended, strand_made}
use Rattle.op_model.specs.Effects.{Gives, Waits}
use Rattle.op_model.specs.Messages.{sends, receives}
use Rattle.op_model.specs.Waits.{waits, future_target}

-- ---- worlds

abbrev pub heap_of : List Structure → List ErrorObject → Heap
heap_of ss es = record { structures = ss; errors = es; functions = [] }

abbrev pub world_of : List Structure → World
world_of ss = record { heap = heap_of ss []; input = []; output = [] }

-- a list of atom 0, and a mapping of atom 1
abbrev pub list_of : Bool → List Value → ℕ → Structure
list_of mutable vs greatest = record { atom = Some 0; mutable = mutable; members = Items vs; greatest = greatest }

abbrev pub mapping_of : Bool → List (Text × Value) → ℕ → Structure
mapping_of mutable es greatest = record { atom = Some 1; mutable = mutable; members = Entries es; greatest = greatest }

-- ---- copies

-- `[1]` is copied behind what is there
abbrev pub ClonesList : Type 0
ClonesList =
    clones (world_of (list_of true (Int (pos 1) ∷ []) 1 ∷ [])) (Struct 0)
    ≡ Gave (Struct 1 ∷ []) (world_of (list_of true (Int (pos 1) ∷ []) 1 ∷ list_of true (Int (pos 1) ∷ []) 1 ∷ []))

-- a list that stands twice in another is copied once; one that had more items counts as many as it has
abbrev pub ClonesOnce : Type 0
ClonesOnce =
    clones (world_of (list_of true [] 7 ∷ list_of true (Struct 0 ∷ Struct 0 ∷ []) 2 ∷ [])) (Struct 1)
    ≡ Gave (Struct 2 ∷ []) (world_of (list_of true [] 7 ∷ list_of true (Struct 0 ∷ Struct 0 ∷ []) 2 ∷ list_of true (Struct 3 ∷ Struct 3 ∷ []) 2 ∷ list_of true [] 0 ∷ []))

-- what is immutable is shared
abbrev pub ClonesShare : Type 0
ClonesShare =
    clones (world_of (list_of false [] 0 ∷ list_of true (Struct 0 ∷ []) 1 ∷ [])) (Struct 1)
    ≡ Gave (Struct 2 ∷ []) (world_of (list_of false [] 0 ∷ list_of true (Struct 0 ∷ []) 1 ∷ list_of true (Struct 0 ∷ []) 1 ∷ []))

-- a list that contains itself is copied to one that contains itself
abbrev pub ClonesCycle : Type 0
ClonesCycle =
    clones (world_of (list_of true (Struct 0 ∷ []) 1 ∷ [])) (Struct 0)
    ≡ Gave (Struct 1 ∷ []) (world_of (list_of true (Struct 0 ∷ []) 1 ∷ list_of true (Struct 1 ∷ []) 1 ∷ []))

-- level by level: 0 holds 1 and 2, 1 holds 4, and 2 holds 3 and 4
abbrev pub ReachesByLevels : Type 0
ReachesByLevels =
    reached (heap_of (list_of true (Struct 1 ∷ Struct 2 ∷ []) 2 ∷ list_of true (Struct 4 ∷ []) 1 ∷ list_of true (Struct 3 ∷ Struct 4 ∷ []) 2 ∷ list_of true [] 0 ∷ list_of true [] 0 ∷ []) []) (0 ∷ [])
    ≡ 0 ∷ 1 ∷ 2 ∷ 4 ∷ 3 ∷ []

-- `{"a": [1]}` is frozen: both structures are copied, and the copies are immutable
abbrev pub Freezes : Type 0
Freezes =
    freezes (world_of (list_of true (Int (pos 1) ∷ []) 1 ∷ mapping_of true ((codes "a", Struct 0) ∷ []) 1 ∷ [])) (Struct 1)
    ≡ Gave (Struct 2 ∷ []) (world_of (list_of true (Int (pos 1) ∷ []) 1 ∷ mapping_of true ((codes "a", Struct 0) ∷ []) 1 ∷ mapping_of false ((codes "a", Struct 3) ∷ []) 1 ∷ list_of false (Int (pos 1) ∷ []) 1 ∷ []))

-- what contains itself is not
abbrev pub FreezesNoCycle : Type 0
FreezesNoCycle =
    let w = world_of (list_of true (Struct 1 ∷ []) 1 ∷ list_of true (Struct 0 ∷ []) 1 ∷ []) in
    freezes w (Struct 0) ≡ panics w CyclicValue

-- ---- stores

abbrev pub int_type : Ty
int_type = record { sem = Basic (IntRange (negsuc 9223372036854775807) (pos 9223372036854775807)); lists = []; maps = [] }

-- the lists of an atom
abbrev pub type_of_atom : ℕ → Ty
type_of_atom n = record { sem = Atom n; lists = record { atom = n; immutable = false } ∷ []; maps = [] }

-- `int[]`, `[int]`, `[[int], [int]]` and lists of these
abbrev pub atoms : List AtomDef
atoms =
    ListAtom [] (Some int_type) ∷ ListAtom (int_type ∷ []) None
    ∷ ListAtom (type_of_atom 1 ∷ type_of_atom 1 ∷ []) None ∷ ListAtom [] (Some (type_of_atom 2)) ∷ []

abbrev pub own : OwnTypes
own = record { atoms = atoms; units = [] }

abbrev pub fillers : ℕ → List Filler
fillers n = by (slice_get ((IntFiller (pos 0) ∷ []) ∷ (IntFiller (pos 0) ∷ []) ∷ (NewList 1 ∷ NewList 1 ∷ []) ∷ (NewList 2 ∷ []) ∷ []) n)
  where
    by : Option (List Filler) → List Filler
    by (Some fs) = fs
    by None = []

-- `int[] a = []; a[2] = 5;` gives `[0, 0, 5]`
abbrev pub FillsWithInts : Type 0
FillsWithInts =
    item_stored own fillers (world_of (list_of true [] 0 ∷ [])) 0 (list_of true [] 0) [] 2 (Int (pos 5))
    ≡ world_of (list_of true (Int (pos 0) ∷ Int (pos 0) ∷ Int (pos 5) ∷ []) 3 ∷ [])

abbrev pub of_atom : ℕ → List Value → ℕ → Structure
of_atom atom vs greatest = record { atom = Some atom; mutable = true; members = Items vs; greatest = greatest }

-- a gap of two: first the two lists that fill it, and then the lists in these
abbrev pub FillsByLevels : Type 0
FillsByLevels =
    item_stored own fillers (world_of (of_atom 3 [] 0 ∷ of_atom 2 [] 0 ∷ [])) 0 (of_atom 3 [] 0) [] 2 (Struct 1)
    ≡ world_of (of_atom 3 (Struct 2 ∷ Struct 3 ∷ Struct 1 ∷ []) 3 ∷ of_atom 2 [] 0
    ∷ of_atom 2 (Struct 4 ∷ Struct 5 ∷ []) 2 ∷ of_atom 2 (Struct 6 ∷ Struct 7 ∷ []) 2
    ∷ of_atom 1 (Int (pos 0) ∷ []) 1 ∷ of_atom 1 (Int (pos 0) ∷ []) 1 ∷ of_atom 1 (Int (pos 0) ∷ []) 1 ∷ of_atom 1 (Int (pos 0) ∷ []) 1 ∷ [])

-- a key that is there keeps its place, and a new one comes last
abbrev pub SetsEntries : Type 0
SetsEntries =
    set_entry (set_entry ((codes "a", Int (pos 1)) ∷ (codes "b", Int (pos 2)) ∷ []) (codes "a") (Int (pos 3))) (codes "c") (Int (pos 4))
    ≡ (codes "a", Int (pos 3)) ∷ (codes "b", Int (pos 2)) ∷ (codes "c", Int (pos 4)) ∷ []

-- `int[]` and `map<int>`
abbrev pub own_maps : OwnTypes
own_maps = record { atoms = ListAtom [] (Some int_type) ∷ MappingAtom [] (Some int_type) ∷ []; units = [] }

-- `{"a": 1}`
abbrev pub one_key : Bool → Structure
one_key mutable = mapping_of mutable ((codes "a", Int (pos 1)) ∷ []) 1

-- the first error is a panic with this message, whose detail comes behind these structures
abbrev pub first_panic : List Structure → Text → Came
first_panic ss message =
    Threw (Error 0) (record { heap = heap_of (ss ++ record { atom = None; mutable = false; members = Entries []; greatest = 0 } ∷ []) (record { message = message; cause = None; detail = length ss } ∷ []); input = []; output = [] })

-- `m["b"] = 2`: the key is new and comes last
abbrev pub SetsNewKey : Type 0
SetsNewKey =
    SetsKey own_maps fillers (world_of (one_key true ∷ [])) 0 (codes "b") (Int (pos 2))
    (Gave [] (world_of (mapping_of true ((codes "a", Int (pos 1)) ∷ (codes "b", Int (pos 2)) ∷ []) 2 ∷ [])))

-- `m["a"] = 2`
abbrev pub SetsOldKey : Type 0
SetsOldKey =
    SetsKey own_maps fillers (world_of (one_key true ∷ [])) 0 (codes "a") (Int (pos 2))
    (Gave [] (world_of (mapping_of true ((codes "a", Int (pos 2)) ∷ []) 1 ∷ [])))

-- a string is none of the members that the inherent type allows
abbrev pub SetsNoString : Type 0
SetsNoString =
    SetsKey own_maps fillers (world_of (one_key true ∷ [])) 0 (codes "b") (Str (codes "x")) (first_panic (one_key true ∷ []) (codes "{ballerina}InherentTypeViolation"))

-- an immutable mapping stays as it is
abbrev pub SetsNoImmutable : Type 0
SetsNoImmutable =
    SetsKey own_maps fillers (world_of (one_key false ∷ [])) 0 (codes "b") (Int (pos 2)) (first_panic (one_key false ∷ []) (codes "{ballerina}InherentTypeViolation"))

-- seven lists of 4,194,304 items have 29,360,135 cells, and an eighth brings more than there may be
abbrev pub CountsCells : Type 0
CountsCells = cells (heap_of (replicate 7 (list_of true [] 4194304)) []) ≡ 29360135

-- ---- equality

-- `[1]` and `[1]`, `[1]` and `[2]`, `{"a": 1, "b": 2}` in both orders, and two lists that each contain themselves
abbrev pub compared : Heap
compared =
    heap_of (list_of true (Int (pos 1) ∷ []) 1 ∷ list_of true (Int (pos 1) ∷ []) 1 ∷ list_of true (Int (pos 2) ∷ []) 1
    ∷ mapping_of true ((codes "a", Int (pos 1)) ∷ (codes "b", Int (pos 2)) ∷ []) 2 ∷ mapping_of true ((codes "b", Int (pos 2)) ∷ (codes "a", Int (pos 1)) ∷ []) 2
    ∷ list_of true (Struct 5 ∷ []) 1 ∷ list_of true (Struct 6 ∷ []) 1 ∷ []) []

abbrev pub EqualLists : Type 0
EqualLists = AreEqual compared (Struct 0) (Struct 1)

abbrev pub OtherLists : Type 0
OtherLists = ¬ (AreEqual compared (Struct 0) (Struct 2))

-- the order of the keys is not seen
abbrev pub EqualMappings : Type 0
EqualMappings = AreEqual compared (Struct 3) (Struct 4)

abbrev pub EqualCycles : Type 0
EqualCycles = AreEqual compared (Struct 5) (Struct 6)

-- ---- errors

-- `error("m", code = 7)`
abbrev pub ErrorMade : Type 0
ErrorMade =
    MakesError (world_of []) (codes "m") Nil (Str (codes "code") ∷ Int (pos 7) ∷ [])
    (Gave (Error 0 ∷ []) (record { heap = heap_of (record { atom = None; mutable = false; members = Entries ((codes "code", Int (pos 7)) ∷ []); greatest = 1 } ∷ []) (record { message = codes "m"; cause = None; detail = 0 } ∷ []); input = []; output = [] }))

-- ---- texts

-- a list; a list that contains itself; and an error with a cause and a detail
abbrev pub TextOfList : Type 0
TextOfList = text_of (heap_of (list_of true (Truth true ∷ Str (codes "a\n") ∷ []) 2 ∷ []) []) (Struct 0) ≡ codes "[true,\"a\\n\"]"

abbrev pub TextOfCycle : Type 0
TextOfCycle = text_of (heap_of (list_of true (Struct 0 ∷ Nil ∷ []) 2 ∷ []) []) (Struct 0) ≡ codes "[...,null]"

abbrev pub TextOfError : Type 0
TextOfError =
    text_of (heap_of (mapping_of false [] 0 ∷ mapping_of false ((codes "k", Truth true) ∷ []) 1 ∷ []) (record { message = codes "c"; cause = None; detail = 0 } ∷ record { message = codes "m"; cause = Some 0; detail = 1 } ∷ [])) (Error 1)
    ≡ codes "error(\"m\",error(\"c\"),k=true)"

abbrev pub ParsesInts : Type 0
ParsesInts = map int_in (codes "12" ∷ codes "-7" ∷ codes "+0" ∷ codes "" ∷ codes "-" ∷ codes "1a" ∷ []) ≡ Some (pos 12) ∷ Some (negsuc 6) ∷ Some (pos 0) ∷ None ∷ None ∷ None ∷ []

abbrev pub Trims : Type 0
Trims = trimmed (codes " \ta b\n ") ≡ codes "a b"

-- ---- strands

-- three strands are made; 1 waits for 0; 0 ends, and 1 is ready behind 2
abbrev pub nothing_run : Common
nothing_run = record { world = world_of []; strands = []; activations = []; variables = []; ready = []; running = 0; to_run = []; ticks = 0; picks = 0 }

abbrev pub three_strands : Common
three_strands = strand_made 0 None (strand_made 0 None (strand_made 0 None nothing_run))

abbrev pub waits_for_first : Common
waits_for_first = strand_blocked (AllEnded (0 ∷ [])) (record three_strands { running = 1; ready = 2 ∷ [] })

abbrev pub MakesThree : Type 0
MakesThree = three_strands.ready ≡ 0 ∷ 1 ∷ 2 ∷ []

abbrev pub WakesBehind : Type 0
WakesBehind = (settled (strand_ended (Returned Nil) (record waits_for_first { running = 0 }))).ready ≡ 2 ∷ 1 ∷ []

-- ---- messages

-- a channel on which so many messages were sent and received, and these wait
abbrev pub channel_of : ℕ → ℕ → List Value → Channel
channel_of sent received queue = record { sent = sent; received = received; queue = queue }

abbrev pub worker : ℕ → Role
worker n = record { activation = 0; worker = n }

-- strand 0 is worker 0 and runs; strand 1 is worker 1, and is this; the channel from 0 to 1 is this one
abbrev pub two_workers : Status → Channel → List ℕ → Common
two_workers status channel ready =
    record nothing_run { strands = record { unit = 0; role = None; status = IsActive; taken = false } ∷ record { unit = 0; role = Some (worker 1); status = status; taken = false } ∷ []; activations = record { unit = 0; strands = 0 ∷ 1 ∷ []; ends = None ∷ None ∷ []; channels = (channel_of 0 0 [] ∷ channel ∷ []) ∷ (channel_of 0 0 [] ∷ channel_of 0 0 [] ∷ []) ∷ [] } ∷ []; ready = ready }

-- worker 1 waits for a message of worker 0
abbrev pub ReceivesLater : Type 0
ReceivesLater = receives (two_workers IsActive (channel_of 0 0 []) []) (worker 1) 0 ≡ Waits (Message 0 0 1)

-- worker 0 sends 5: nil is given, and worker 1 is woken
abbrev pub SendWakes : Type 0
SendWakes =
    sends (two_workers (IsBlocked (Message 0 0 1)) (channel_of 0 0 []) []) (worker 0) 1 (Int (pos 5)) (Nil ∷ [])
    ≡ Gives (Nil ∷ []) (two_workers IsActive (channel_of 1 0 (Int (pos 5) ∷ [])) (1 ∷ []))

-- and receives 5
abbrev pub ReceivesSent : Type 0
ReceivesSent =
    receives (two_workers IsActive (channel_of 1 0 (Int (pos 5) ∷ [])) []) (worker 1) 0
    ≡ Gives (Int (pos 5) ∷ []) (two_workers IsActive (channel_of 1 1 []) [])

-- ---- waits

-- strand 0 runs in this world, and strand 1 is this
abbrev pub with_future : World → Status → Bool → Common
with_future w status taken =
    record nothing_run { world = w; strands = record { unit = 0; role = None; status = IsActive; taken = false } ∷ record { unit = 0; role = None; status = status; taken = taken } ∷ [] }

-- a future that hasn't ended yet
abbrev pub WaitsForEnd : Type 0
WaitsForEnd = waits (with_future (world_of []) IsActive false) (future_target 1) ≡ Waits (AllEnded (1 ∷ []))

-- one that ended with 7: its result is taken
abbrev pub WaitTakes : Type 0
WaitTakes =
    waits (with_future (world_of []) (IsEnded 0 (Returned (Int (pos 7)))) false) (future_target 1)
    ≡ Gives (Int (pos 7) ∷ []) (with_future (world_of []) (IsEnded 0 (Returned (Int (pos 7)))) true)

-- the next wait is given an error
abbrev pub WaitsTwice : Type 0
WaitsTwice =
    waits (with_future (world_of []) (IsEnded 0 (Returned (Int (pos 7)))) true) (future_target 1)
    ≡ Gives (Error 0 ∷ []) (with_future (record { heap = heap_of (record { atom = None; mutable = false; members = Entries []; greatest = 0 } ∷ []) (record { message = codes "{ballerina}FutureTaken"; cause = None; detail = 0 } ∷ []); input = []; output = [] }) (IsEnded 0 (Returned (Int (pos 7)))) true)
