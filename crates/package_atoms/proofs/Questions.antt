-- Questions over atoms take none away.
use Rattle.std.proofs.Common.{◌≡◌, ◌≤◌, ◌++◌, ◌∷◌, [], ℕ, Bool, true, false, List, Option, Result, Ok, Err, length, arith, inl, inr, length-append, ap}
use Rattle.bal_base.specs.declared.fault.Fault.{Fault}
use Rattle.bal_base.specs.declared.place.Place.{Place}
use Rattle.bal_base.specs.declared.text.Text.{Text}
use Rattle.checks.specs.Checks.{Check, Gives, Refuses, either, gives_some, refuses, ◌▷◌}
use Rattle.checks.specs.Questions.{adds, applied, below, has_some, is_below, member}
use Rattle.bal_base.specs.declared.fault.FaultCode.{FaultCode}
use Rattle.bal_tree.specs.declared.name.Word.{Word}
use Rattle.descriptors.specs.declared.names.Names.{Names}
use Rattle.descriptors.specs.declared.names.Scope.{Scope}
use Rattle.descriptors.specs.Described.{all_by, by_now, described, described_whole, fields_by, gives_named, if_by, new_atom, new_field, result_by}
use Rattle.descriptors.specs.Naming.{type_named}
use Rattle.descriptors.specs.Descriptors.{Descriptor, Descriptors, FieldDescriptors, MaybeDescriptor, absent, any_error, any_function, array, builtin, closed_record, error_with, function_from, future_of, intersection, map_of, named, no_field, no_more, open_record, optional, present, repeated, then_field, then_more, tuple, union, value}
use Rattle.type_model.specs.declared.answers.Keys.{Keys}
use Rattle.type_model.specs.declared.answers.TypeLimit.{TypeLimit}
use Rattle.type_model.specs.declared.atoms.AtomDef.{AtomDef}
use Rattle.type_model.specs.declared.basic.SemType.{SemType}
use Rattle.type_model.specs.declared.atoms.FieldDef.{FieldDef}
use Rattle.type_model.specs.declared.basic.Ty.{Ty}
use Rattle.type_model.specs.Calls.{Asked}
use Rattle.check_words.specs.declared.access.Access.{Access}
use Rattle.check_words.specs.Constructors.{names_field}
use Rattle.check_words.specs.Joins.{where_false}
use Rattle.check_words.specs.Members.{names_members}
use Rattle.check_words.specs.Words.{Atoms}
use Rattle.package_atoms.proofs.Keeping.{Grows}

as-long : (old new : Atoms) → new ≡ old → length old ≤ length new
as-long old new e = omega (arith, ap length e)

module _ {A B : Type 0} (m : Check Atoms A) (next : A → Check Atoms B) where
  grows-then : Grows m → ((a : A) → Grows (next a)) → Grows (m ▷ next)
  unfolding ◌▷◌
  grows-then f g old new (Gives b) (a, mid, x, y) = omega (arith, f old mid (Gives a) x, g a mid new (Gives b) y)
  grows-then f g old new (Refuses fault) (inl x) = f old new (Refuses fault) x
  grows-then f g old new (Refuses fault) (inr (a, mid, x, y)) = omega (arith, f old mid (Gives a) x, g a mid new (Refuses fault) y)

module _ {A : Type 0} where
  grows-some : (P : Atoms → A → Type 0) → Grows (gives_some P)
  unfolding gives_some
  grows-some P old new (Gives a) (x, e) = as-long old new e
  grows-some P old new (Refuses f) x = absurd x

  grows-refuses : (P : Atoms → Fault → Type 0) → Grows (refuses {S = Atoms} {A = A} P)
  unfolding refuses
  grows-refuses P old new (Gives a) x = absurd x
  grows-refuses P old new (Refuses f) (x, e) = as-long old new e

  grows-either : (m n : Check Atoms A) (b : Bool) → Grows m → Grows n → Grows (either b m n)
  grows-either m n true f g = f
  grows-either m n false f g = g

pub adds-grows : (P : List AtomDef → List AtomDef → Type 0) (at : Option Place) → Grows (adds P at)
unfolding adds
adds-grows P at old new (Gives first) (defs, x, number, e) = omega (arith, ap length e, length-append old defs)
adds-grows P at old new (Refuses f) (defs, x, many, fault, e) = as-long old new e

module _ (passes : List AtomDef → Asked → TypeLimit → Type 0) where
  pub below-grows : (s t : SemType) (at : Option Place) → Grows (below passes s t at)
  unfolding below
  below-grows s t at old new (Gives u) (x, e) = as-long old new e
  below-grows s t at old new (Refuses f) (x, e) = as-long old new e

  pub is-below-grows : (s t : SemType) (at : Option Place) → Grows (is_below passes s t at)
  unfolding is_below
  is-below-grows s t at old new (Gives true) (x, e) = as-long old new e
  is-below-grows s t at old new (Gives false) (x, e) = as-long old new e
  is-below-grows s t at old new (Refuses f) (x, e) = as-long old new e

  pub has-some-grows : (t : SemType) (at : Option Place) → Grows (has_some passes t at)
  unfolding has_some
  has-some-grows t at old new (Gives true) (x, e) = as-long old new e
  has-some-grows t at old new (Gives false) (x, e) = as-long old new e
  has-some-grows t at old new (Refuses f) (x, e) = as-long old new e

  pub member-grows : (t : SemType) (keys : Keys) (at : Option Place) → Grows (member passes t keys at)
  unfolding member
  member-grows t keys at old new (Gives m) (x, y, e) = as-long old new e
  member-grows t keys at old new (Refuses f) (x, e) = as-long old new e

  pub applied-grows : (f args : SemType) (at : Option Place) → Grows (applied passes f args at)
  unfolding applied
  applied-grows f args at old new (Gives r) (x, y, e) = as-long old new e
  applied-grows f args at old new (Refuses fault) (x, e) = as-long old new e

  pub names-field-grows : (name : Text) (key : SemType) → Grows (names_field passes name key)
  unfolding names_field
  names-field-grows name key old new (Gives b) (x, e) = as-long old new e
  names-field-grows name key old new (Refuses f) x = absurd x

  pub where-false-grows : (s t : Ty) (at : Place) → Grows (where_false passes s t at)
  unfolding where_false
  where-false-grows s t at old new (Gives u) (x, e) = as-long old new e
  where-false-grows s t at old new (Refuses f) (x, e) = as-long old new e

  pub names-members-grows : (a : Access) (t : SemType) (at : Place) → Grows (names_members passes a t at)
  unfolding names_members
  names-members-grows a t at old new (Gives keys) (x, e) = as-long old new e
  names-members-grows a t at old new (Refuses f) (x, e) = as-long old new e

-- ---- descriptors

made-grows : {A : Type 0} (P : List AtomDef → List AtomDef → Type 0) (at : Option Place) (Q : ℕ → Atoms → A → Type 0)
    → Grows (adds P at ▷ λ number. gives_some (Q number))
made-grows P at Q = grows-then _ _ (adds-grows P at) (λ number. grows-some (Q number))

named-grows : (r : Result Ty FaultCode) (at : Place) → Grows (gives_named {S = Atoms} r at)
named-grows (Ok t) at = grows-some _
named-grows (Err code) at = grows-refuses _

field-grows : (taken : List Text) (name : Word) (may_lack : Bool) (t : Ty) → Grows (new_field {S = Atoms} taken name may_lack t)
field-grows taken name may_lack t = grows-either _ _ _ (grows-refuses _) (grows-some _)

module _ (names : Names) (scope : Scope) where
  mutual
    described-grows : (d : Descriptor) → Grows (described names scope d)
    described-grows (builtin b) = grows-some _
    described-grows (value v) = grows-some _
    described-grows (named name) = named-grows (type_named names scope name) name.at
    described-grows (optional of) = grows-then _ _ (described-grows of) (λ t. grows-some _)
    described-grows (union left right) = grows-then _ _ (described-grows left) (λ s. grows-then _ _ (described-grows right) (λ t. grows-some _))
    described-grows (intersection left right) = grows-then _ _ (described-grows left) (λ s. grows-then _ _ (described-grows right) (λ t. grows-some _))
    described-grows (array member at) = grows-then _ _ (described-grows member) (λ t. made-grows _ _ _)
    described-grows (repeated member n at) = grows-then _ _ (described-grows member) (λ t. grows-then _ _ (grows-some _) (λ copies. made-grows _ _ _))
    described-grows (tuple members rest at) = grows-then _ _ (all-grow [] members) (λ fixed. grows-then _ _ (if-grows rest) (λ r. made-grows _ _ _))
    described-grows (map_of member at) = grows-then _ _ (described-grows member) (λ t. made-grows _ _ _)
    described-grows (closed_record fields rest at) = grows-then _ _ (fields-grow [] fields) (λ fs. grows-then _ _ (if-grows rest) (λ r. made-grows _ _ _))
    described-grows (open_record fields at) = grows-then _ _ (fields-grow [] fields) (λ fs. grows-then _ _ (grows-some _) (λ r. made-grows _ _ _))
    described-grows any_error = grows-some _
    described-grows (error_with detail at) = grows-then _ _ (described-grows detail) (λ t. made-grows _ _ _)
    described-grows (any_function isolated) = grows-some _
    described-grows (function_from isolated params rest result at) =
        grows-then _ _ (grows-then _ _ (all-grow [] params) (λ fixed. grows-then _ _ (if-grows rest) (λ r. grows-some _)))
        (λ ps. grows-then _ _ (result-grows result) (λ out. grows-then _ _ (adds-grows _ _) (λ arguments. made-grows _ _ _)))
    described-grows (future_of result at) = grows-then _ _ (described-grows result) (λ t. made-grows _ _ _)

    all-grow : (done : List Ty) (ds : Descriptors) → Grows (all_by new_atom by_now names scope done ds)
    all-grow done no_more = grows-some _
    all-grow done (then_more d ds) = grows-then _ _ (described-grows d) (λ t. all-grow (done ++ t ∷ []) ds)

    fields-grow : (done : List FieldDef) (fs : FieldDescriptors) → Grows (fields_by new_atom by_now names scope done fs)
    fields-grow done no_field = grows-some _
    fields-grow done (then_field name may_lack d fs) =
        grows-then _ _ (grows-then _ _ (described-grows d) (λ t. field-grows _ name may_lack t)) (λ field. fields-grow (done ++ field ∷ []) fs)

    if-grows : (d : MaybeDescriptor) → Grows (if_by new_atom by_now names scope d)
    if-grows absent = grows-some _
    if-grows (present d) = grows-then _ _ (described-grows d) (λ t. grows-some _)

    result-grows : (d : MaybeDescriptor) → Grows (result_by new_atom by_now names scope d)
    result-grows absent = grows-some _
    result-grows (present d) = described-grows d

  pub whole-grows : (d : Descriptor) → Grows (described_whole names scope d)
  whole-grows d = grows-then _ _ (described-grows d) (λ t. grows-some _)
