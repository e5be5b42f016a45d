-- The needs of operations: for each typing row its conjuncts, as tests of numbers and as needs.
use Rattle.std.specs.Prelude.{ℕ, ◌+◌, Bool, List, [], ◌∷◌, ◌==◌, Option, Some, None, option_map, length, not, slice_get}
use Rattle.type_model.specs.declared.answers.Keys.TheVariants.{AnyField, AnyIndex, Field, Results}
use Rattle.type_model.specs.declared.atoms.AtomDef.{AtomDef}
use Rattle.type_model.specs.declared.atoms.FieldDef.{FieldDef}
use Rattle.type_model.specs.declared.basic.SemType.{SemType, Atom}
use Rattle.type_model.specs.declared.basic.Ty.{Ty}
use Rattle.type_model.specs.Places.{item_type}
use Rattle.operations.specs.declared.library.LibraryCall.{LibraryCall}
use Rattle.operations.specs.declared.library.LibraryCall.TheVariants as call
use Rattle.operations.specs.declared.operation.Operation.{Operation}
use Rattle.operations.specs.declared.operation.Operation.TheVariants as op
use Rattle.operations.specs.Rows.{Signature, Surroundings}
use Rattle.code_needs.specs.Combining.{Needs, ◌&◌, absent, as_many, at_most, each, each_zip, in_pairs, need, none, nothing, of_list, of_mapping, of_some, one, one_and_more, only_if, test, three, two}
use Rattle.code_needs.specs.declared.kind.Kind.{Kind}
use Rattle.code_needs.specs.declared.kind.Kind.TheVariants.{Anydata, Booleans, Details, Errors, Functions, Futures, ImmutableData, Integers, IntegersOrErrors, Lists, Mappings, MappingsOrNils, Nils, NilsOrErrors, Sendable, Strings}
use Rattle.code_needs.specs.Needs.{Applies, Below, FitsFields, Gives, GivesFuture, Has, HasBoth, HasConstant, HasErrorsOf, HasField, HasMade, ItemHas, ItemIn, MemberHas, MemberIn, Names, Ordered, PartHas, PartIn, Within}

-- ---- what several rows share

abbrev pub within : SemType → Kind → Needs
within s kind = need (Within s kind)

-- a result is given, which has all shapes of the kind
abbrev pub has : Option SemType → Kind → Needs
has result kind = of_some result (λ r. need (Has r kind))

-- or all of a type
abbrev pub has_all : Option SemType → SemType → Needs
has_all result t = of_some result (λ r. need (Below t r))

abbrev pub on_ints : List SemType → Kind → Option SemType → Needs
on_ints operands kind result = two operands (λ a b. within a Integers & within b Integers & has result kind)

abbrev pub on_strings : List SemType → Kind → Option SemType → Needs
on_strings operands kind result = two operands (λ a b. within a Strings & within b Strings & has result kind)

abbrev pub in_order : List SemType → Option SemType → Needs
in_order operands result = two operands (λ a b. need (Ordered a b) & has result Booleans)

abbrev pub reads : Option SemType → Option SemType → Needs
reads held result = of_some held (λ t. has_all result t)

abbrev pub writes : Option SemType → List SemType → Option SemType → Needs
writes held operands result = one operands (λ v. of_some held (λ t. need (Below v t))) & absent result

abbrev pub below_each : List SemType → List SemType → Needs
below_each = each_zip (λ s t. need (Below s t))

-- what an immutable structure holds is immutable data
abbrev pub may_stand : Bool → SemType → Needs
may_stand immutable t = only_if immutable (within t ImmutableData)

abbrev pub items_fit : List SemType → ℕ → List Ty → Option Ty → Needs
items_fit [] k fixed rest = nothing
items_fit (s ∷ more) k fixed rest = of_some (item_type fixed rest k) (λ t. need (Below s t.sem)) & items_fit more (k + 1) fixed rest

-- each field that isn't optional is named
abbrev pub names_required : List FieldDef → List (SemType × SemType) → Needs
names_required fields pairs = each (λ f. only_if (not f.optional) (need (Names pairs f.name))) fields

abbrev pub what_pairs_need : List FieldDef → Option Ty → List (SemType × SemType) → Needs
what_pairs_need fields rest pairs = each (λ p. need (FitsFields fields rest p)) pairs & names_required fields pairs

-- ---- the library

-- the call makes no list
abbrev pub makes_none : Option ℕ → Needs → Needs
makes_none atom needs = absent atom & needs

-- the call makes a list of an atom without fixed places, whose rest has what `items` says
abbrev pub makes_list : List AtomDef → Option ℕ → (SemType → Needs) → Option SemType → Needs
makes_list env atom items result =
    of_some atom (λ a. of_list (slice_get env a) (λ fixed rest. none fixed & of_some rest (λ t. items t.sem)) & has_all result (Atom a))

abbrev pub part_of : Kind → List SemType → Needs
part_of whole (a ∷ from ∷ []) = within a whole & within from Integers
part_of whole (a ∷ from ∷ to ∷ []) = within a whole & within from Integers & within to Integers
part_of whole [] = None
part_of whole (a ∷ []) = None
part_of whole (a ∷ from ∷ to ∷ b ∷ more) = None

abbrev pub prompted : List SemType → Needs
prompted [] = nothing
prompted (prompt ∷ []) = nothing
prompted (prompt ∷ a ∷ more) = None

abbrev pub on_text : Option ℕ → List SemType → Kind → Option SemType → Needs
on_text atom operands kind result = one operands (λ s. within s Strings & makes_none atom (has result kind))

abbrev pub has_parts : SemType → Option SemType → Needs
has_parts l result = of_some result (λ r. need (PartIn l AnyIndex r))

abbrev pub has_members : SemType → Option SemType → Needs
has_members m result = of_some result (λ r. need (PartIn m AnyField r))

abbrev pub library_needs : List AtomDef → LibraryCall → Option ℕ → List SemType → Option SemType → Needs
library_needs env call.Println atom operands result = makes_none atom (has result Nils)
library_needs env call.Print atom operands result = makes_none atom (has result Nils)
library_needs env call.Readln atom operands result = prompted operands & makes_none atom (has result Strings)
library_needs env call.FromString atom operands result = on_text atom operands IntegersOrErrors result
library_needs env call.Abs atom operands result = one operands (λ n. within n Integers & makes_none atom (has result Integers))
library_needs env call.ToString atom operands result = one operands (λ v. makes_none atom (has result Strings))
library_needs env call.Clone atom operands result = one operands (λ v. within v Anydata & makes_none atom (has_all result v))
library_needs env call.CloneReadOnly atom operands result =
    one operands (λ v. within v Anydata & makes_none atom (has result ImmutableData))
library_needs env call.StringLength atom operands result = on_text atom operands Integers result
library_needs env call.StartsWith atom operands result =
    two operands (λ s t. within s Strings & within t Strings & makes_none atom (has result Booleans))
library_needs env call.Trim atom operands result = on_text atom operands Strings result
library_needs env call.Substring atom operands result = part_of Strings operands & makes_none atom (has result Strings)
library_needs env call.ToUpperAscii atom operands result = on_text atom operands Strings result
library_needs env call.ToLowerAscii atom operands result = on_text atom operands Strings result
library_needs env call.ToCodePointInts atom operands result =
    one operands (λ s. within s Strings & makes_list env atom (λ t. need (Has t Integers)) result)
library_needs env call.ListLength atom operands result = one operands (λ l. within l Lists & makes_none atom (has result Integers))
library_needs env call.Push atom operands result =
    one_and_more operands (λ l values. within l Lists & each (λ v. need (PartHas l AnyIndex v)) values & makes_none atom (has result Nils))
library_needs env call.Pop atom operands result = one operands (λ l. within l Lists & makes_none atom (has_parts l result))
library_needs env call.RemoveItem atom operands result =
    two operands (λ l i. within l Lists & within i Integers & makes_none atom (has_parts l result))
library_needs env call.Slice atom operands result =
    part_of Lists operands & one_and_more operands (λ l bounds. makes_list env atom (λ t. need (PartIn l AnyIndex t)) result)
library_needs env call.Reverse atom operands result =
    one operands (λ l. within l Lists & makes_list env atom (λ t. need (PartIn l AnyIndex t)) result)
library_needs env call.MappingLength atom operands result = one operands (λ m. within m Mappings & makes_none atom (has result Integers))
library_needs env call.Keys atom operands result =
    one operands (λ m. within m Mappings & makes_list env atom (λ t. need (Has t Strings)) result)
library_needs env call.HasKey atom operands result =
    two operands (λ m k. within m Mappings & within k Strings & makes_none atom (has result Booleans))
library_needs env call.Get atom operands result =
    two operands (λ m k. within m Mappings & within k Strings & makes_none atom (has_members m result))
library_needs env call.RemoveKey atom operands result =
    two operands (λ m k. within m Mappings & within k Strings & makes_none atom (has_members m result))
library_needs env call.Message atom operands result = one operands (λ e. within e Errors & makes_none atom (has result Strings))
library_needs env call.Cause atom operands result = one operands (λ e. within e Errors & makes_none atom (has result NilsOrErrors))
library_needs env call.Detail atom operands result = one operands (λ e. within e Errors & makes_none atom (has result Details))

-- ---- waits

-- what a future may give is in the type: its results, and errors
abbrev pub gives_future : SemType → Option SemType → Needs
gives_future f result = of_some result (λ r. need (PartIn f Results r) & need (Has r Errors))

-- what each name of a wait may give is in the type that is held for it, from the place k on; the futures are operands, in order
abbrev pub awaits : Surroundings → (ℕ → Option SemType) → ℕ → List (Option ℕ) → List SemType → Needs
awaits place held k [] [] = nothing
awaits place held k [] (t ∷ more) = None
awaits place held k (Some w ∷ names) operands =
    of_some (slice_get place.workers w) (λ t. has_all (held k) t) & awaits place held (k + 1) names operands
awaits place held k (None ∷ names) (t ∷ more) = within t Futures & gives_future t (held k) & awaits place held (k + 1) names more
awaits place held k (None ∷ names) [] = None

abbrev pub some_name : List (Option ℕ) → Needs
some_name [] = None
some_name (name ∷ names) = nothing

abbrev pub held_by : List FieldDef → ℕ → Option SemType
held_by fields k = option_map (λ f. f.ty.sem) (slice_get fields k)

-- ---- calls

abbrev pub calls_unit : Surroundings → ℕ → ℕ → List SemType → (Signature → Needs) → Needs
calls_unit place unit count operands f =
    as_many operands count & of_some (slice_get place.units unit) (λ u. below_each operands u.params & f u)

abbrev pub calls_value : ℕ → List SemType → (SemType → List SemType → Needs) → Needs
calls_value count operands gives =
    one_and_more operands (λ f args. as_many args count & within f Functions & need (Applies f args) & gives f args)

-- ---- the rows

module _ (env : List AtomDef) (place : Surroundings) where
  abbrev pub row_needs : Operation → List SemType → Option SemType → Needs
  row_needs (op.Const c) operands result = none operands & of_some result (λ r. need (HasConstant r c))
  row_needs (op.Load slot) operands result = none operands & reads (slice_get place.slots slot) result
  row_needs (op.Store slot) operands result = writes (slice_get place.slots slot) operands result
  row_needs op.Pop operands result = one operands (λ v. absent result)
  row_needs (op.LoadModule m) operands result = none operands & reads (slice_get place.variables m) result
  row_needs (op.StoreModule m) operands result = writes (slice_get place.variables m) operands result
  row_needs op.Tick operands result = none operands & absent result
  row_needs op.Add operands result = on_ints operands Integers result
  row_needs op.Subtract operands result = on_ints operands Integers result
  row_needs op.Multiply operands result = on_ints operands Integers result
  row_needs op.Divide operands result = on_ints operands Integers result
  row_needs op.Remainder operands result = on_ints operands Integers result
  row_needs op.Negate operands result = one operands (λ a. within a Integers & has result Integers)
  row_needs op.Concat operands result = on_strings operands Strings result
  row_needs op.Less operands result = in_order operands result
  row_needs op.LessEqual operands result = in_order operands result
  row_needs op.Not operands result = one operands (λ a. within a Booleans & has result Booleans)
  row_needs op.Equal operands result = two operands (λ a b. within a Anydata & within b Anydata & has result Booleans)
  row_needs op.Same operands result = two operands (λ a b. has result Booleans)
  row_needs (op.MakeList atom immutable count) operands result =
      as_many operands count & of_list (slice_get env atom) (λ fixed rest. at_most fixed count & items_fit operands 0 fixed rest)
      & each (may_stand immutable) operands & of_some result (λ r. need (HasMade r atom immutable))
  row_needs (op.MakeMapping atom immutable count) operands result =
      in_pairs count operands (λ pairs. each (λ p. within p.0 Strings) pairs & of_mapping (slice_get env atom) (λ fields rest. what_pairs_need fields rest pairs)
      & each (λ p. may_stand immutable p.1) pairs & of_some result (λ r. need (HasMade r atom immutable)))
  row_needs (op.MakeError count) operands result =
      one_and_more operands (λ message behind. one_and_more behind (λ cause details. in_pairs count details (λ pairs.
      within message Strings & within cause NilsOrErrors & each (λ p. within p.0 Strings & within p.1 ImmutableData) pairs
      & of_some result (λ r. need (HasErrorsOf r pairs)))))
  row_needs (op.MakeFunction unit count) operands result =
      as_many operands count & of_some (slice_get place.units unit) (λ u. below_each operands u.captured & has_all result (Atom u.arrow))
  row_needs op.GetItem operands result =
      two operands (λ l i. within l Lists & within i Integers & of_some result (λ r. need (ItemIn l i r)))
  row_needs op.GetKey operands result =
      two operands (λ m k. within m Mappings & within k Strings & of_some result (λ r. need (MemberIn m k r) & need (Has r Nils)))
  row_needs op.GetChar operands result = two operands (λ s i. within s Strings & within i Integers & has result Strings)
  row_needs (op.GetField name) operands result =
      one operands (λ m. need (HasField m name) & of_some result (λ r. need (PartIn m (Field name) r)))
  row_needs (op.GetOptional name) operands result =
      one operands (λ m. within m MappingsOrNils & of_some result (λ r. need (PartIn m (Field name) r) & need (Has r Nils)))
  row_needs op.SetItem operands result =
      three operands (λ l i v. within l Lists & within i Integers & need (ItemHas l i v)) & absent result
  row_needs op.SetKey operands result =
      three operands (λ m k v. within m Mappings & within k Strings & need (MemberHas m k v)) & absent result
  row_needs (op.Test t) operands result = one operands (λ v. has result Booleans)
  row_needs (op.Cast t) operands result = one operands (λ v. of_some result (λ r. need (HasBoth r v t)))
  row_needs (op.Call unit count) operands result = calls_unit place unit count operands (λ u. has_all result u.result)
  row_needs (op.CallValue count) operands result = calls_value count operands (λ f args. of_some result (λ r. need (Gives f args r)))
  row_needs (op.Library call atom count) operands result = as_many operands count & library_needs env call atom operands result
  row_needs op.Return operands result = one operands (λ v. need (Below v place.result)) & absent result
  row_needs op.Panic operands result = one operands (λ e. within e Errors) & absent result
  row_needs (op.Start unit count) operands result = calls_unit place unit count operands (λ u. has_all result (Atom u.future))
  row_needs (op.StartValue count) operands result =
      calls_value count operands (λ f args. of_some result (λ r. need (GivesFuture f args r)))
  row_needs op.Workers operands result = none operands & absent result
  row_needs (op.Send w) operands result = one operands (λ v. within v Sendable & has result Nils)
  row_needs (op.Post w) operands result = one operands (λ v. within v Sendable & absent result)
  row_needs (op.Done w) operands result = none operands & has result Nils
  row_needs (op.Receive w) operands result = none operands & of_some result (λ r. nothing)
  row_needs (op.Flush w) operands result = none operands & has result Nils
  row_needs (op.WaitWorker w) operands result = none operands & reads (slice_get place.workers w) result
  row_needs op.WaitFuture operands result = one operands (λ f. within f Futures & gives_future f result)
  row_needs (op.WaitAny names) operands result = some_name names & awaits place (λ k. result) 0 names operands
  row_needs (op.WaitAll atom names) operands result =
      of_mapping (slice_get env atom) (λ fields rest. test (length names == length fields) & awaits place (held_by fields) 0 names operands)
      & has_all result (Atom atom)
