-- One table, read over different states: what one reading comes to, another one comes to as well, where its atoms and its types follow.
use Rattle.std.proofs.Common.{◌≡◌, ℕ, Bool, true, false, List, [], ◌∷◌, ◌++◌, Option, None, Some, Result, Ok, Err, inl, inr, refl, sym, subst}
use Rattle.std.specs.List.{list_any}
use Rattle.std.specs.Prelude.{⊤}
use Rattle.bal_base.specs.declared.fault.Fault.{Fault}
use Rattle.bal_base.specs.declared.fault.FaultCode.{FaultCode}
use Rattle.bal_base.specs.declared.fault.FaultCode.TheVariants.{Duplicate}
use Rattle.bal_base.specs.declared.fault.Kept.TheVariants.{Nothing}
use Rattle.bal_base.specs.declared.place.Place.{Place}
use Rattle.bal_base.specs.declared.text.Text.{Text}
use Rattle.bal_tree.specs.declared.name.Word.{Word}
use Rattle.type_model.specs.declared.atoms.AtomDef.{AtomDef}
use Rattle.type_model.specs.declared.atoms.FieldDef.{FieldDef}
use Rattle.bal_tree.specs.declared.types.BuiltinType.TheVariants.{AnyData as AnyDataWord}
use Rattle.type_model.specs.declared.atoms.AtomDef.TheVariants.{List as ListAtom, Mapping as MappingAtom, Arrow, Error as ErrorAtom, Future as FutureAtom}
use Rattle.type_model.specs.declared.basic.BasicSet.TheVariants.{ErrorAll, Nil as NilOnly}
use Rattle.type_model.specs.declared.basic.SemType.{SemType, Basic, Atom}
use Rattle.type_model.specs.declared.basic.Ty.{Ty}
use Rattle.type_model.specs.Places.{is_same_text}
use Rattle.checks.specs.Checks.{Check, Outcome, Gives, Refuses, either, gives, gives_some, refuses, ◌▷◌}
use Rattle.checks.specs.Questions.{IsFault}
use Rattle.descriptors.specs.declared.names.Names.{Names}
use Rattle.descriptors.specs.declared.names.Scope.{Scope}
use Rattle.descriptors.specs.Descriptors.{Descriptor, builtin, value, named, optional, union, intersection, array, repeated, tuple, map_of, closed_record, open_record, any_error, error_with, any_function, function_from, future_of, Descriptors, no_more, then_more, FieldDescriptors, no_field, then_field, MaybeDescriptor, absent, present, is_readonly}
use Rattle.descriptors.specs.Described.{Atoms, AreCopies, IsAnyFunction, IsBuiltin, IsIntersection, IsOptional, IsUnion, all_by, arrow_by, count_of, described_by, field_of, fields_by, gives_named, if_by, list_by, list_of, mapping_by, mapping_of, names_of, new_field, params_of, plain, plain_by, result_by, value_set}
use Rattle.descriptors.specs.Naming.{type_named}

-- the outcomes that are looked at: what is given, and what is refused only where `refusals`
abbrev pub IsSeen : {A : Type 0} → Bool → Outcome A → Type 0
IsSeen refusals (Gives a) = ⊤
IsSeen refusals (Refuses f) = refusals ≡ true

-- From related states, whatever the first comes to the second comes to, and leaves related ones, as long as the last state of the first is
-- within bounds; and what leads to such a state begins with one.
pub record Follows {S N : Type 0} (refusals : Bool) (Within : S → Type 0) (R : S → N → Type 0) {A : Type 0} (m : Check S A) (k : Check N A) : Type 0 where
  pub back : (s : S) (o : Outcome A) (t : S) → m s o t → Within t → Within s
  pub forth : (s : S) (n : N) (o : Outcome A) (t : S) → IsSeen refusals o → R s n → Within t → m s o t → (l : N) × R t l × k n o l

module _ {S N : Type 0} (refusals : Bool) (Within : S → Type 0) (R : S → N → Type 0) where
  module _ {A B : Type 0} (m : Check S A) (k : Check N A) (next : A → Check S B) (after : A → Check N B)
      (f : Follows refusals Within R m k) (g : (a : A) → Follows refusals Within R (next a) (after a)) where
    back-then : (s : S) (o : Outcome B) (t : S) → (m ▷ next) s o t → Within t → Within s
    unfolding ◌▷◌
    back-then s (Gives b) t (a, mid, h, j) w = f.back s (Gives a) mid h ((g a).back mid (Gives b) t j w)
    back-then s (Refuses e) t (inl h) w = f.back s (Refuses e) t h w
    back-then s (Refuses e) t (inr (a, mid, h, j)) w = f.back s (Gives a) mid h ((g a).back mid (Refuses e) t j w)

    forth-then : (s : S) (n : N) (o : Outcome B) (t : S) → IsSeen refusals o → R s n → Within t → (m ▷ next) s o t → (l : N) × R t l × (k ▷ after) n o l
    unfolding ◌▷◌
    forth-then s n (Gives b) t seen r w (a, mid, h, j) =
        let p = f.forth s n (Gives a) mid tt r ((g a).back mid (Gives b) t j w) h in
        let q = (g a).forth mid p.0 (Gives b) t tt p.1 w j in (q.0, q.1, (a, p.0, p.2, q.2))
    forth-then s n (Refuses e) t seen r w (inl h) = let p = f.forth s n (Refuses e) t seen r w h in (p.0, p.1, inl p.2)
    forth-then s n (Refuses e) t seen r w (inr (a, mid, h, j)) =
        let p = f.forth s n (Gives a) mid tt r ((g a).back mid (Refuses e) t j w) h in
        let q = (g a).forth mid p.0 (Refuses e) t seen p.1 w j in (q.0, q.1, inr (a, p.0, p.2, q.2))

    pub then-follows : Follows refusals Within R (m ▷ next) (k ▷ after)
    then-follows = record { back = back-then; forth = forth-then }

  -- what doesn't look at the state
  module _ {A : Type 0} (P : A → Type 0) where
    back-some : (s : S) (o : Outcome A) (t : S) → gives_some {S = S} (λ s. P) s o t → Within t → Within s
    unfolding gives_some
    back-some s (Gives a) t (h, e) w = subst Within e w
    back-some s (Refuses f) t h w = absurd h

    forth-some : (s : S) (n : N) (o : Outcome A) (t : S) → IsSeen refusals o → R s n → Within t → gives_some {S = S} (λ s. P) s o t → (l : N) × R t l × gives_some {S = N} (λ n. P) n o l
    unfolding gives_some
    forth-some s n (Gives a) t seen r w (h, e) = (n, subst (λ x. R x n) (sym e) r, (h, refl))
    forth-some s n (Refuses f) t seen r w h = absurd h

    pub some-follows : Follows refusals Within R (gives_some (λ s. P)) (gives_some (λ n. P))
    some-follows = record { back = back-some; forth = forth-some }

  module _ {A : Type 0} (P : Fault → Type 0) where
    back-refused : (s : S) (o : Outcome A) (t : S) → refuses {S = S} {A = A} (λ s. P) s o t → Within t → Within s
    unfolding refuses
    back-refused s (Gives a) t h w = absurd h
    back-refused s (Refuses f) t (h, e) w = subst Within e w

    forth-refused : (s : S) (n : N) (o : Outcome A) (t : S) → IsSeen refusals o → R s n → Within t → refuses {S = S} {A = A} (λ s. P) s o t → (l : N) × R t l × refuses {S = N} {A = A} (λ n. P) n o l
    unfolding refuses
    forth-refused s n (Gives a) t seen r w h = absurd h
    forth-refused s n (Refuses f) t seen r w (h, e) = (n, subst (λ x. R x n) (sym e) r, (h, refl))

    pub refuses-follows : Follows refusals Within R (refuses {A = A} (λ s. P)) (refuses {A = A} (λ n. P))
    refuses-follows = record { back = back-refused; forth = forth-refused }

  gives-follows : {A : Type 0} (a : A) → Follows refusals Within R (gives a) (gives a)
  gives-follows a = some-follows (λ b. b ≡ a)

  named-follows : (r : Result Ty FaultCode) (at : Place) → Follows refusals Within R (gives_named r at) (gives_named r at)
  named-follows (Ok t) at = some-follows _
  named-follows (Err code) at = refuses-follows _

  field-follows : (taken : List Text) (name : Word) (may_lack : Bool) (t : Ty) → Follows refusals Within R (new_field taken name may_lack t) (new_field taken name may_lack t)
  field-follows taken name may_lack t = go (list_any (is_same_text name.name) taken)
    where
      go : (b : Bool) → Follows refusals Within R (either b (refuses (λ s. IsFault Duplicate (Some name.at) Nothing)) (gives (field_of name may_lack t)))
          (either b (refuses (λ n. IsFault Duplicate (Some name.at) Nothing)) (gives (field_of name may_lack t)))
      go true = refuses-follows (IsFault Duplicate (Some name.at) Nothing)
      go false = gives-follows (field_of name may_lack t)

-- Two readings of the table, where the second one's atoms follow the first one's, and so does what holds over the atoms.
module _ {S N : Type 0} (refusals : Bool) (Within : S → Type 0) (R : S → N → Type 0) (atom : AtomDef → Place → Check S ℕ) (other : AtomDef → Place → Check N ℕ)
    (some : (A : Type 0) → (Atoms → A → Type 0) → Check S A) (such : (A : Type 0) → (Atoms → A → Type 0) → Check N A)
    (atoms_follow : (def : AtomDef) (at : Place) → Follows refusals Within R (atom def at) (other def at))
    (some_follow : (A : Type 0) (P : Atoms → A → Type 0) → Follows refusals Within R (some A P) (such A P))
    (names : Names) (scope : Scope) where
  list-follows : (fixed : List Ty) (rest : Option Ty) (at : Place) → Follows refusals Within R (list_by atom fixed rest at) (list_by other fixed rest at)
  list-follows fixed rest at = then-follows refusals Within R _ _ _ _ (atoms_follow (ListAtom fixed rest) at) (λ n. gives-follows refusals Within R (list_of n))

  mapping-follows : (fields : List FieldDef) (rest : Option Ty) (at : Place) → Follows refusals Within R (mapping_by atom fields rest at) (mapping_by other fields rest at)
  mapping-follows fields rest at = then-follows refusals Within R _ _ _ _ (atoms_follow (MappingAtom fields rest) at) (λ n. gives-follows refusals Within R (mapping_of n))

  plain-follows : (def : AtomDef) (at : Place) → Follows refusals Within R (plain_by atom def at) (plain_by other def at)
  plain-follows def at = then-follows refusals Within R _ _ _ _ (atoms_follow def at) (λ n. gives-follows refusals Within R (plain (Atom n)))

  pub arrow-follows : (isolated : Bool) (fixed : List Ty) (rest : Option Ty) (result : SemType) (at : Place)
      → Follows refusals Within R (arrow_by atom isolated fixed rest result at) (arrow_by other isolated fixed rest result at)
  arrow-follows isolated fixed rest result at =
      then-follows refusals Within R _ _ _ _ (atoms_follow (ListAtom fixed rest) at) (λ arguments. plain-follows (Arrow (Atom arguments) result isolated) at)

  mutual
    pub described-follows : (d : Descriptor) → Follows refusals Within R (described_by atom some names scope d) (described_by other such names scope d)
    described-follows (builtin b) = some_follow Ty (IsBuiltin b)
    described-follows (value v) = gives-follows refusals Within R (plain (Basic (value_set v)))
    described-follows (named name) = named-follows refusals Within R (type_named names scope name) name.at
    described-follows (optional of) = then-follows refusals Within R _ _ _ _ (described-follows of) (λ t. some_follow Ty (IsOptional t))
    described-follows (union left right) =
        then-follows refusals Within R _ _ _ _ (described-follows left) (λ s. then-follows refusals Within R _ _ _ _ (described-follows right) (λ t. some_follow Ty (IsUnion s t)))
    described-follows (intersection left right) =
        then-follows refusals Within R _ _ _ _ (described-follows left) (λ s. then-follows refusals Within R _ _ _ _ (described-follows right) (λ t. some_follow Ty (IsIntersection (is_readonly right) s t)))
    described-follows (array member at) = then-follows refusals Within R _ _ _ _ (described-follows member) (λ t. list-follows [] (Some t) at)
    described-follows (repeated member n at) =
        then-follows refusals Within R _ _ _ _ (described-follows member) (λ t. then-follows refusals Within R _ _ _ _ (some_follow (List Ty) (AreCopies (count_of n) t)) (λ copies. list-follows copies None at))
    described-follows (tuple members rest at) =
        then-follows refusals Within R _ _ _ _ (all-follow [] members) (λ fixed. then-follows refusals Within R _ _ _ _ (if-follows rest) (λ r. list-follows fixed r at))
    described-follows (map_of member at) = then-follows refusals Within R _ _ _ _ (described-follows member) (λ t. mapping-follows [] (Some t) at)
    described-follows (closed_record fields rest at) =
        then-follows refusals Within R _ _ _ _ (fields-follow [] fields) (λ fs. then-follows refusals Within R _ _ _ _ (if-follows rest) (λ r. mapping-follows fs r at))
    described-follows (open_record fields at) =
        then-follows refusals Within R _ _ _ _ (fields-follow [] fields) (λ fs. then-follows refusals Within R _ _ _ _ (some_follow Ty (IsBuiltin AnyDataWord)) (λ r. mapping-follows fs (Some r) at))
    described-follows any_error = gives-follows refusals Within R (plain (Basic ErrorAll))
    described-follows (error_with detail at) = then-follows refusals Within R _ _ _ _ (described-follows detail) (λ t. plain-follows (ErrorAtom t.sem) at)
    described-follows (any_function isolated) = some_follow Ty (IsAnyFunction isolated)
    described-follows (function_from isolated params rest result at) =
        then-follows refusals Within R _ _ _ _
        (then-follows refusals Within R _ _ _ _ (all-follow [] params) (λ fixed. then-follows refusals Within R _ _ _ _ (if-follows rest) (λ r. gives-follows refusals Within R (params_of fixed r))))
        (λ ps. then-follows refusals Within R _ _ _ _ (result-follows result) (λ out. arrow-follows isolated ps.0 ps.1 out.sem at))
    described-follows (future_of result at) = then-follows refusals Within R _ _ _ _ (described-follows result) (λ t. plain-follows (FutureAtom t.sem) at)

    pub all-follow : (done : List Ty) (ds : Descriptors) → Follows refusals Within R (all_by atom some names scope done ds) (all_by other such names scope done ds)
    all-follow done no_more = gives-follows refusals Within R done
    all-follow done (then_more d ds) = then-follows refusals Within R _ _ _ _ (described-follows d) (λ t. all-follow (done ++ t ∷ []) ds)

    pub fields-follow : (done : List FieldDef) (fs : FieldDescriptors) → Follows refusals Within R (fields_by atom some names scope done fs) (fields_by other such names scope done fs)
    fields-follow done no_field = gives-follows refusals Within R done
    fields-follow done (then_field name may_lack d fs) =
        then-follows refusals Within R _ _ _ _ (then-follows refusals Within R _ _ _ _ (described-follows d) (λ t. field-follows refusals Within R (names_of done) name may_lack t)) (λ field. fields-follow (done ++ field ∷ []) fs)

    pub if-follows : (m : MaybeDescriptor) → Follows refusals Within R (if_by atom some names scope m) (if_by other such names scope m)
    if-follows absent = gives-follows refusals Within R None
    if-follows (present d) = then-follows refusals Within R _ _ _ _ (described-follows d) (λ t. gives-follows refusals Within R (Some t))

    pub result-follows : (m : MaybeDescriptor) → Follows refusals Within R (result_by atom some names scope m) (result_by other such names scope m)
    result-follows absent = gives-follows refusals Within R (plain (Basic NilOnly))
    result-follows (present d) = described-follows d
