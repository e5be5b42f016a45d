-- An error of a panic is made: all that is shared stays good, and nothing else changes.
use Rattle.std.proofs.Common.{◌≡◌, ◌<◌, ◌+◌, ℕ, zero, suc, Bool, true, false, List, [], ◌∷◌, ◌++◌, Option, Some, None, inl, inr, length, map, refl, sym, ap, subst, arith, ◌^◌}
use Rattle.std.proofs.lemmas.List.{append-nil, length-append}
use Rattle.std.proofs.lemmas.List.Elements.{All-append, All-head, All-tail}
use Rattle.std.proofs.lemmas.Option.{slice_get_within}
use Rattle.std.specs.Prelude.{◌⊎◌, All, IfSome, IsFalse, IsSomeAnd, if◌then◌else◌, nat_le, slice_get}
use Rattle.std.specs.Ptr.{null_ptr}
use Rattle.bal_base.specs.Valid.{IsText, IsValid}
use Rattle.bal_base.specs.declared.shape.Shape.{Shape, Mapping', Error', end_of-Fields-items-2 as end_of-Field}
use Rattle.bal_base.specs.declared.text.Text.{Text}
use Rattle.type_model.specs.declared.atoms.AtomDef.{AtomDef}
use Rattle.type_model.specs.declared.atoms.AtomDef.TheVariants.{List as ListAtom, Mapping as MappingAtom, Arrow, Error as ErrorAtom, Future as FutureAtom}
use Rattle.type_model.specs.declared.basic.SemType.{SemType, Atom}
use Rattle.type_model.specs.declared.basic.Ty.{Ty}
use Rattle.type_model.specs.Membership.{In}
use Rattle.type_model.specs.Places.{item_type, key_type}
use Rattle.value_model.specs.declared.panics.PanicName.{PanicName}
use Rattle.value_model.specs.declared.value.Value.{Value}
use Rattle.value_model.specs.declared.value.Value.TheVariants.{Error, Struct}
use Rattle.value_model.specs.PanicName.{panic_message}
use Rattle.value_model.specs.Heap.{Entries, ErrorObject, Grows, Heap, IsClosed, IsThere, Items, Members, Stays, Structure, cells, values_of}
use Rattle.value_model.specs.Meaning.{HasShapes}
use Rattle.value_model.specs.Stands.{BelongsIf, HasShape, IsUnmarked, MembersBelong}
use Rattle.value_model.specs.Valid.{AreValidMembers}
use Rattle.value_model.specs.World.{PassesCells, Threw}
use Rattle.value_model.proofs.Stability.{HasShape-stable, stable}
use Rattle.op_model.specs.Common.{AllEnded, AnyGiven, Common, Message, Need, Received, Role}
use Rattle.op_model.specs.Effects.{lifted, with_world}
use Rattle.op_model.specs.Limits.{most_cells}
use Rattle.op_model.specs.Rows.{makes_error, new_structure, next_error, panics, size_of}
use Rattle.op_model.specs.Strands.{end_in}
use Rattle.machine_model.specs.Runs.{Running}
use Rattle.stack_code.specs.declared.code.Code.{Code}
use Rattle.stack_code.specs.Good.{IsLater, NearlyCommon, NeedIsThere, WorkerStays}
use Rattle.stack_code.specs.Tables.{IsInherent}
use Rattle.stack_code.specs.Values.{AreKeysApart, AllFit, GoodHeap, IsMade, IsMadeError, IsWithinAtom, IsWithinUnit, code_types}
use Rattle.code_keeping.specs.Rows.{EffectTyped}
use Rattle.code_keeping.proofs.Later.{activation-later, end-later, to-run-later, variables-later}
use Rattle.code_keeping.proofs.Lists.{all-at, at-some, some-to}
use Rattle.code_keeping.proofs.Serving.{all-to}
use Rattle.code_keeping.proofs.Staying.{all-later, made-later, same-calls, same-strands, stays-same, there-later}

-- ---- one more behind a list

get-front : {A : Type 0} (xs ys : List A) (n : ℕ) (x : A) → slice_get xs n ≡ Some x → slice_get (xs ++ ys) n ≡ Some x
get-front [] ys n x e = absurd (let q : ⊥ = cc in q)
get-front (z ∷ xs) ys zero x e = e
get-front (z ∷ xs) ys (suc n) x e = get-front xs ys n x e

get-last : {A : Type 0} (xs : List A) (y : A) → slice_get (xs ++ y ∷ []) (length xs) ≡ Some y
get-last [] y = refl
get-last (x ∷ xs) y = get-last xs y

-- it is one of the list, or the one behind it
abbrev IsOld : {A : Type 0} → List A → A → ℕ → A → Type 0
IsOld xs y n x = (slice_get xs n ≡ Some x) ⊎ ((n ≡ length xs) × (y ≡ x))

old-or-last : {A : Type 0} (xs : List A) (y : A) (n : ℕ) (x : A) → slice_get (xs ++ y ∷ []) n ≡ Some x → IsOld xs y n x
old-or-last [] y zero x e = inr (refl, let q : y ≡ x = cc in q)
old-or-last [] y (suc n) x e = absurd (let q : ⊥ = cc in q)
old-or-last (z ∷ xs) y zero x e = inl e
old-or-last (z ∷ xs) y (suc n) x e = by (old-or-last xs y n x e)
  where
    by : IsOld xs y n x → IsOld (z ∷ xs) y (suc n) x
    by (inl k) = inl k
    by (inr (at, is)) = inr (ap suc at, is)

below-or-last : (n k : ℕ) → n < k + 1 → (n < k) ⊎ (n ≡ k)
below-or-last zero zero l = inr refl
below-or-last zero (suc k) l = inl (omega arith)
below-or-last (suc n) zero l = absurd (omega (arith, l))
below-or-last (suc n) (suc k) l = by (below-or-last n k (omega (arith, l)))
  where
    by : (n < k) ⊎ (n ≡ k) → (suc n < suc k) ⊎ (suc n ≡ suc k)
    by (inl m) = inl (omega (arith, m))
    by (inr e) = inr (ap suc e)

pub all-one : {A : Type 0} (P : A → Type 0) (x : A) → P x → All P (x ∷ [])
all-one P x h zero d l = h
all-one P x h (suc k) d l = absurd (omega (arith, l))

all-both : {A : Type 0} (P Q : A → Type 0) (xs : List A) → All P xs → All Q xs → All (λ x. P x × Q x) xs
all-both P Q xs h k n d l = (h n d l, k n d l)

longer : {A : Type 0} (xs : List A) (y : A) → length (xs ++ y ∷ []) ≡ length xs + 1
longer xs y = length-append xs (y ∷ [])

-- ---- an immutable mapping without entries, and an error with it as its detail

abbrev pub no-fields : Shape
no-fields = Mapping' true (record { ptr = null_ptr; len = 0; cap = 0; alloc = record { memory = _ }; items = []; ok = (refl, omega arith); small = omega arith }) end_of-Field

pub no-fields-valid : IsValid no-fields
no-fields-valid = ((λ k d l. absurd (omega (arith, l))), (λ k d l. absurd (omega (arith, l))), (λ t k d l. absurd (omega (arith, l))), tt)

abbrev pub plain-error : Shape
plain-error = Error' (record { ptr = null_ptr; alloc = record { memory = _ }; value = tt }) no-fields

-- ---- the heap with one error more

module _ (code : Code) (c : Common) (message : Text) (valid : IsText message) (good : GoodHeap code c) where
  abbrev h : Heap
  h = c.world.heap

  abbrev d : Common
  d = with_world c (makes_error c.world message None [])

  abbrev k : Heap
  k = d.world.heap

  abbrev detail : Structure
  detail = new_structure None false (Entries [])

  abbrev error : ErrorObject
  error = record { message = message; cause = None; detail = length h.structures }

  grows : Grows h k
  grows =
      record {
        structures = λ n s e. at-some (Stays s) (slice_get k.structures n) s (get-front h.structures (detail ∷ []) n s e) (stays-same s);
        errors = (error ∷ [], refl);
        functions = ([], sym (append-nil h.functions));
      }

  abbrev There : Value → Type 0
  There v = IsThere k v

  still : (v : Value) → IsThere h v → There v
  still = there-later h k grows

  closed : IsClosed h → IsClosed k
  closed was =
      record {
        members = All-append (λ s. All There (values_of s.members)) h.structures (detail ∷ []) (all-to (λ s. All (IsThere h) (values_of s.members)) (λ s. All There (values_of s.members)) (λ s m. all-to (IsThere h) There still (values_of s.members) m) h.structures was.members) (all-one (λ s. All There (values_of s.members)) detail (λ n v l. absurd (omega (arith, l))));
        details = All-append (λ e. e.detail < length k.structures) h.errors (error ∷ []) (all-to (λ e. e.detail < length h.structures) (λ e. e.detail < length k.structures) (λ e l. let m = longer h.structures detail in omega (arith, l, m)) h.errors was.details) (all-one (λ e. e.detail < length k.structures) error (let m = longer h.structures detail in omega (arith, m)));
        causes = All-append (λ e. IfSome e.cause (λ n. n < length k.errors)) h.errors (error ∷ []) (all-to (λ e. IfSome e.cause (λ n. n < length h.errors)) (λ e. IfSome e.cause (λ n. n < length k.errors)) (λ e l. cause-so e.cause l) h.errors was.causes) (all-one (λ e. IfSome e.cause (λ n. n < length k.errors)) error tt);
        captured = all-to (λ f. All (IsThere h) f.captured) (λ f. All There f.captured) (λ f m. all-to (IsThere h) There still f.captured m) h.functions was.captured;
      }
    where
      cause-so : (o : Option ℕ) → IfSome o (λ n. n < length h.errors) → IfSome o (λ n. n < length k.errors)
      cause-so None l = tt
      cause-so (Some n) l = let m = longer h.errors error in omega (arith, l, m)

  pub later : (q : Option Role) → IsLater q c d
  later q = record { heap = grows; closed = closed; strands = same-strands c; calls = same-calls c; worker = stay q }
    where
      stay : (q : Option Role) → WorkerStays q c d
      stay (Some r) = ((λ w. (refl, refl)), refl)
      stay None = tt

  -- ---- what members belong to

  belongs-if : (v : Value) (t : Option Ty) → IsThere h v → BelongsIf (code_types code) h v t → BelongsIf (code_types code) k v t
  belongs-if v t there b = some-to (λ u. _) (λ u. _) t (λ u m. (stable (code_types code) h k good.closed grows v there u.sem).0 m) b

  values-there : {A : Type 0} (f : A → Value) (xs : List A) → All (IsThere h) (map f xs) → All (λ x. IsThere h (f x)) xs
  values-there f [] m n x l = absurd (omega (arith, l))
  values-there f (x ∷ xs) m zero z l = All-head (IsThere h) (f x) (map f xs) m
  values-there f (x ∷ xs) m (suc n) z l = values-there f xs (All-tail (IsThere h) (f x) (map f xs) m) n z (omega (arith, l))

  members-so : (m : Members) (a : AtomDef) → All (IsThere h) (values_of m) → MembersBelong (code_types code) h m a → MembersBelong (code_types code) k m a
  members-so (Items vs) (ListAtom fixed rest) there (long, each) = (long, λ i v e. belongs-if v (item_type fixed rest i) (all-at (IsThere h) vs i v there e) (each i v e))
  members-so (Entries es) (MappingAtom fields rest) there (named, each) = (
    named,
    all-to (λ e. IsThere h e.1 × BelongsIf (code_types code) h e.1 (key_type fields rest e.0)) (λ e. BelongsIf (code_types code) k e.1 (key_type fields rest e.0)) (λ e m. belongs-if e.1 (key_type fields rest e.0) m.0 m.1) es
        (all-both (λ e. IsThere h e.1) (λ e. BelongsIf (code_types code) h e.1 (key_type fields rest e.0)) es (values-there (λ e. e.1) es there) each),
  )
  members-so (Items vs) (MappingAtom fields rest) there b = absurd b
  members-so (Items vs) (Arrow args outcome alone) there b = absurd b
  members-so (Items vs) (ErrorAtom t) there b = absurd b
  members-so (Items vs) (FutureAtom t) there b = absurd b
  members-so (Entries es) (ListAtom fixed rest) there b = absurd b
  members-so (Entries es) (Arrow args outcome alone) there b = absurd b
  members-so (Entries es) (ErrorAtom t) there b = absurd b
  members-so (Entries es) (FutureAtom t) there b = absurd b

  within-so : (s : Structure) → All (IsThere h) (values_of s.members) → IsWithinAtom code c s → IsWithinAtom code d s
  within-so s there w = λ mutable. some-to (λ a. IsInherent code a × ((x : Shape) × IsValid x × IsUnmarked x × In code.atoms x (Atom a)) × IsSomeAnd (slice_get code.atoms a) (MembersBelong (code_types code) h s.members)) _ s.atom (λ a (known, shape, belong). (known, shape, some-to _ _ (slice_get code.atoms a) (λ x m. members-so s.members x there m) belong)) (w mutable)

  -- ---- shapes

  detail-stands : HasShape k no-fields (Struct (length h.structures))
  detail-stands = (refl, at-some _ (slice_get k.structures (length h.structures)) detail (get-last h.structures detail) (refl, (refl, tt)))

  shapes-so : HasShapes k
  shapes-so = (structure, error-shape)
    where
      structure : (n : ℕ) (s : Structure) → slice_get k.structures n ≡ Some s → IsFalse s.mutable → (x : Shape) × IsValid x × HasShape k x (Struct n)
      structure n s e frozen = by (old-or-last h.structures detail n s e)
        where
          by : IsOld h.structures detail n s → (x : Shape) × IsValid x × HasShape k x (Struct n)
          by (inl old) = let (x, ok, stands) = good.immutable.0 n s old frozen in (x, ok, (HasShape-stable h k good.closed grows x (Struct n) (slice_get_within h.structures n s old)).0 stands)
          by (inr (at, is)) = (no-fields, no-fields-valid, subst (λ m. HasShape k no-fields (Struct m)) (sym at) detail-stands)

      error-shape : (n : ℕ) → n < length k.errors → (x : Shape) × IsValid x × HasShape k x (Error n)
      error-shape n l = by (below-or-last n (length h.errors) (let m = longer h.errors error in omega (arith, l, m)))
        where
          by : (n < length h.errors) ⊎ (n ≡ length h.errors) → (x : Shape) × IsValid x × HasShape k x (Error n)
          by (inl old) = let (x, ok, stands) = good.immutable.1 n old in (x, ok, (HasShape-stable h k good.closed grows x (Error n) old).0 stands)
          by (inr at) = (plain-error, (refl, no-fields-valid), subst (λ m. HasShape k plain-error (Error m)) (sym at) (at-some _ (slice_get k.errors (length h.errors)) error (get-last h.errors error) detail-stands))

  -- ---- the whole

  pub heap-so : GoodHeap code d
  heap-so =
      record {
        mutable = All-append (IsWithinAtom code d) h.structures (detail ∷ []) (all-to (λ s. All (IsThere h) (values_of s.members) × IsWithinAtom code c s) (IsWithinAtom code d) (λ s m. within-so s m.0 m.1) h.structures (all-both (λ s. All (IsThere h) (values_of s.members)) (IsWithinAtom code c) h.structures good.closed.members good.mutable)) (all-one (IsWithinAtom code d) detail (λ m. absurd (let q : ⊥ = cc in q)));
        immutable = shapes-so;
        members = All-append (λ s. All (IsMade code d) (values_of s.members)) h.structures (detail ∷ []) (all-to (λ s. All (IsMade code c) (values_of s.members)) (λ s. All (IsMade code d) (values_of s.members)) (λ s m. all-to (IsMade code c) (IsMade code d) (made-later code None c d (later None)) (values_of s.members) m) h.structures good.members) (all-one (λ s. All (IsMade code d) (values_of s.members)) detail (λ n v l. absurd (omega (arith, l))));
        functions = all-to (IsWithinUnit code c) (IsWithinUnit code d) (λ f m. (m.0, some-to (λ u. AllFit code c f.captured u.captured) (λ u. AllFit code d f.captured u.captured) (slice_get code.units f.unit) (λ u b. all-later code None c d (later None) f.captured u.captured b) m.1)) h.functions good.functions;
        valid = record {
          members = All-append (λ s. AreValidMembers s.members) h.structures (detail ∷ []) good.valid.members (all-one (λ s. AreValidMembers s.members) detail (λ n e l. absurd (omega (arith, l))));
          messages = All-append (λ e. IsText e.message) h.errors (error ∷ []) good.valid.messages (all-one (λ e. IsText e.message) error valid);
          captured = good.valid.captured;
        };
        closed = closed good.closed;
        short = All-append (λ s. size_of s.members < 2 ^ 63) h.structures (detail ∷ []) good.short (all-one (λ s. size_of s.members < 2 ^ 63) detail (omega arith));
        apart = All-append (λ s. AreKeysApart s.members) h.structures (detail ∷ []) good.apart (all-one (λ s. AreKeysApart s.members) detail tt);
      }

  pub error-made : IsMadeError code d (Error (length h.errors))
  error-made = (refl, (let m = longer h.errors error in omega (arith, m), tt, tt))

module _ (code : Code) (c : Common) (message : Text) (valid : IsText message) (good : NearlyCommon code c Running) where
  abbrev now : Common
  now = with_world c (makes_error c.world message None [])

  abbrev l : IsLater None c now
  l = later code c message valid good.heap None

  need-so : (need : Need) → NeedIsThere code c need → NeedIsThere code now need
  need-so (Message a from to) m = m
  need-so (Received a from to count) m = m
  need-so (AllEnded ns) m = m
  need-so (AnyGiven ns) m = m

  nearly-so : NearlyCommon code now Running
  nearly-so =
      record {
        heap = heap-so code c message valid good.heap;
        variables = variables-later code c now l c.variables code.variables good.variables;
        strands = λ n s e. let fits = good.strands n s e in record { end = end-later code c now l n s.unit (end_in s.status) fits.end; need = λ need m. need-so need (fits.need need m); before = fits.before; taken = fits.taken };
        activations = λ a x e. activation-later code c now l a x (good.activations a x e);
        to_run = to-run-later code c now l c.to_run good.to_run;
        ready = record { active = good.ready.active; once = good.ready.once; known = good.ready.known; running = good.ready.running; there = good.ready.there };
        main = good.main;
      }

-- so a panic of the language comes to what is typed
pub panic-typed : (code : Code) (c : Common) (result : Option SemType) (name : PanicName) → IsText (panic_message name) → NearlyCommon code c Running → EffectTyped code c result (lifted c (panics c.world name))
panic-typed code c result name valid good = by (nat_le (cells (makes_error c.world (panic_message name) None []).heap) most_cells)
  where
    by : (b : Bool) → EffectTyped code c result (lifted c (if b then Threw (Error (next_error c.world)) (makes_error c.world (panic_message name) None []) else PassesCells))
    by true = (nearly-so code c (panic_message name) valid good, (refl, refl), later code c (panic_message name) valid good.heap, error-made code c (panic_message name) valid good.heap)
    by false = tt
