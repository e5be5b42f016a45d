-- A heap that grows: what is new in it is good, and so is all that is shared.
use Rattle.std.proofs.Common.{◌≡◌, ◌<◌, ◌≤◌, ◌+◌, ◌∙◌, ℕ, zero, suc, Bool, true, false, List, [], ◌∷◌, ◌++◌, Option, Some, None, inl, inr, length, map, refl, sym, ap, subst, arith, ◌^◌}
use Rattle.std.proofs.lemmas.Bool.{leb-true}
use Rattle.std.proofs.lemmas.List.Elements.{All-head, All-tail}
use Rattle.std.proofs.lemmas.Option.{slice_get_within}
use Rattle.std.specs.Prelude.{◌⊎◌, All, IfSome, IsFalse, IsSomeAnd, IsTrue, get_or, if◌then◌else◌, nat_le, option_to_list, slice_get}
use Rattle.std.specs.List.{AllZip}
use Rattle.bal_base.specs.Valid.{IsText, IsValid}
use Rattle.bal_base.specs.declared.shape.Shape.{Shape}
use Rattle.bal_base.specs.declared.text.Text.{Text}
use Rattle.type_model.specs.declared.atoms.AtomDef.{AtomDef}
use Rattle.type_model.specs.declared.atoms.AtomDef.TheVariants.{List as ListAtom, Mapping as MappingAtom, Arrow, Error as ErrorAtom, Future as FutureAtom}
use Rattle.type_model.specs.declared.basic.SemType.{SemType, Atom}
use Rattle.type_model.specs.declared.basic.Ty.{Ty}
use Rattle.type_model.specs.Membership.{In}
use Rattle.type_model.specs.Places.{item_type, key_type}
use Rattle.operations.specs.Rows.{ResultHas}
use Rattle.value_model.specs.declared.value.Value.{Value}
use Rattle.value_model.specs.declared.value.Value.TheVariants.{Nil, Bool as Truth, Int, Str, Struct, Error, Function, Future}
use Rattle.value_model.specs.Heap.{Begins, Entries, ErrorObject, FunctionObject, Grows, Heap, IsClosed, IsThere, Items, Members, Stays, Structure, cells, values_of}
use Rattle.value_model.specs.Meaning.{HasShapes}
use Rattle.value_model.specs.Stands.{Belongs, BelongsIf, HasShape, IsUnmarked, MembersBelong, Stands}
use Rattle.value_model.specs.Valid.{AreValidMembers, IsValidValue}
use Rattle.value_model.specs.World.{Came, Gave, PassesCells, Threw, World}
use Rattle.value_model.proofs.Stability.{HasShape-stable, stable}
use Rattle.op_model.specs.Common.{AllEnded, AnyGiven, Common, Message, Need, Received, Role}
use Rattle.op_model.specs.Effects.{lifted, with_world}
use Rattle.op_model.specs.Limits.{most_cells}
use Rattle.op_model.specs.Rows.{within, size_of}
use Rattle.op_model.specs.Strands.{end_in, met}
use Rattle.machine_model.specs.Runs.{Phase, Running}
use Rattle.stack_code.specs.declared.code.Code.{Code}
use Rattle.stack_code.specs.Good.{GoodCommon, IsLater, NearlyCommon, NeedIsThere, RunsOne, WorkerStays}
use Rattle.stack_code.specs.Tables.{IsCallable, IsInherent, UnitAt}
use Rattle.stack_code.specs.Values.{AreKeysApart, AllFit, Fits, GoodHeap, IsMade, IsOfStrand, IsWithinAtom, IsWithinUnit, code_types}
use Rattle.code_keeping.specs.Rows.{EffectTyped}
use Rattle.code_keeping.proofs.Changing.{or-there}
use Rattle.code_keeping.proofs.Later.{activation-later, end-later, to-run-later, variables-later}
use Rattle.code_keeping.proofs.Lists.{all-at, at-some, some-there, some-to, there}
use Rattle.code_keeping.proofs.Serving.{all-to, all-zipped}
use Rattle.code_keeping.proofs.Staying.{all-later, made-later, same-calls, same-strands, stays-same, there-later}

-- ---- lists

pub all-from : {A : Type 0} (P : A → Type 0) (xs : List A) → ((n : ℕ) (x : A) → slice_get xs n ≡ Some x → P x) → All P xs
all-from P xs h k d l = let (x, e) = there xs k l in subst P (sym (or-there xs k x d e)) (h k x e)

pub get-front : {A : Type 0} (xs ys : List A) (n : ℕ) (x : A) → slice_get xs n ≡ Some x → slice_get (xs ++ ys) n ≡ Some x
get-front [] ys n x e = absurd (let q : ⊥ = cc in q)
get-front (z ∷ xs) ys zero x e = e
get-front (z ∷ xs) ys (suc n) x e = get-front xs ys n x e

pub get-behind : {A : Type 0} (xs ys : List A) (n : ℕ) (x : A) → slice_get ys n ≡ Some x → slice_get (xs ++ ys) (length xs + n) ≡ Some x
get-behind [] ys n x e = subst (λ k. slice_get ys k ≡ Some x) (omega arith) e
get-behind (z ∷ xs) ys n x e = let k : suc (length xs + n) ≡ length (z ∷ xs) + n = omega arith in subst (λ j. slice_get (z ∷ xs ++ ys) j ≡ Some x) k (get-behind xs ys n x e)

pub get-last : {A : Type 0} (xs : List A) (y : A) → slice_get (xs ++ y ∷ []) (length xs) ≡ Some y
get-last [] y = refl
get-last (x ∷ xs) y = get-last xs y

-- it stands in the front, or so many places behind it
abbrev pub IsIn : {A : Type 0} → List A → List A → ℕ → A → Type 0
IsIn xs ys n x = (slice_get xs n ≡ Some x) ⊎ ((m : ℕ) × (n ≡ length xs + m) × (slice_get ys m ≡ Some x))

pub front-or-behind : {A : Type 0} (xs ys : List A) (n : ℕ) (x : A) → slice_get (xs ++ ys) n ≡ Some x → IsIn xs ys n x
front-or-behind [] ys n x e = inr (n, omega arith, e)
front-or-behind (z ∷ xs) ys zero x e = inl e
front-or-behind (z ∷ xs) ys (suc n) x e = by (front-or-behind xs ys n x e)
  where
    by : IsIn xs ys n x → IsIn (z ∷ xs) ys (suc n) x
    by (inl k) = inl k
    by (inr (m, at, is)) = inr (m, omega (arith, at), is)

all-both : {A : Type 0} (P Q : A → Type 0) (xs : List A) → All P xs → All Q xs → All (λ x. P x × Q x) xs
all-both P Q xs h k n d l = (h n d l, k n d l)

-- ---- a heap that grows

module _ (code : Code) (c : Common) (w : World) (good : GoodHeap code c) (grows : Grows c.world.heap w.heap) where
  abbrev old : Heap
  old = c.world.heap

  abbrev new : Heap
  new = w.heap

  abbrev d : Common
  d = with_world c w

  -- a structure, an error and a function that are new are good there
  pub record IsNewStructure (n : ℕ) (s : Structure) : Type 0 where
    pub mutable : IsWithinAtom code d s
    pub frozen : IsFalse s.mutable → (x : Shape) × IsValid x × HasShape new x (Struct n)
    pub made : All (IsMade code d) (values_of s.members)
    pub valid : AreValidMembers s.members
    pub short : size_of s.members < 2 ^ 63
    pub apart : AreKeysApart s.members

  pub record IsNewError (n : ℕ) (e : ErrorObject) : Type 0 where
    pub message : IsText e.message
    pub detail : e.detail < length new.structures
    pub cause : IfSome e.cause (λ m. m < length new.errors)
    pub shape : (x : Shape) × IsValid x × HasShape new x (Error n)

  -- each is as it was, or is new
  pub record IsGrown : Type 0 where
    pub structures : (n : ℕ) (s : Structure) → slice_get new.structures n ≡ Some s → (slice_get old.structures n ≡ Some s) ⊎ IsNewStructure n s
    pub errors : (n : ℕ) (e : ErrorObject) → slice_get new.errors n ≡ Some e → (slice_get old.errors n ≡ Some e) ⊎ IsNewError n e
    pub functions : (n : ℕ) (f : FunctionObject) → slice_get new.functions n ≡ Some f → (slice_get old.functions n ≡ Some f) ⊎ IsWithinUnit code c f

  still : (v : Value) → IsThere old v → IsThere new v
  still = there-later old new grows

  -- what was made before is made there, and belongs where it did
  of-strand : (v : Value) → IsOfStrand code c v → IsOfStrand code d v
  of-strand Nil m = m
  of-strand (Truth b) m = m
  of-strand (Int i) m = m
  of-strand (Str s) m = m
  of-strand (Struct n) m = m
  of-strand (Error n) m = m
  of-strand (Function n) m = m
  of-strand (Future n unit) m = m

  pub made-there : (v : Value) → IsMade code c v → IsMade code d v
  made-there v (there, valid, strand) = (still v there, valid, of-strand v strand)

  pub belongs-there : (v : Value) (t : SemType) → IsThere old v → Belongs (code_types code) old v t → Belongs (code_types code) new v t
  belongs-there v t there b = (stable (code_types code) old new good.closed grows v there t).0 b

  all-still : (vs : List Value) → All (IsThere old) vs → All (IsThere new) vs
  all-still vs h = all-to (IsThere old) (IsThere new) still vs h

  -- ---- what members belong to

  belongs-if : (v : Value) (t : Option Ty) → IsThere old v → BelongsIf (code_types code) old v t → BelongsIf (code_types code) new v t
  belongs-if v t there b = some-to (λ u. _) (λ u. _) t (λ u m. (stable (code_types code) old new good.closed grows v there u.sem).0 m) b

  values-there : {A : Type 0} (f : A → Value) (xs : List A) → All (IsThere old) (map f xs) → All (λ x. IsThere old (f x)) xs
  values-there f [] m n x l = absurd (omega (arith, l))
  values-there f (x ∷ xs) m zero z l = All-head (IsThere old) (f x) (map f xs) m
  values-there f (x ∷ xs) m (suc n) z l = values-there f xs (All-tail (IsThere old) (f x) (map f xs) m) n z (omega (arith, l))

  members-so : (m : Members) (a : AtomDef) → All (IsThere old) (values_of m) → MembersBelong (code_types code) old m a → MembersBelong (code_types code) new m a
  members-so (Items vs) (ListAtom fixed rest) there (long, each) = (long, λ i v e. belongs-if v (item_type fixed rest i) (all-at (IsThere old) vs i v there e) (each i v e))
  members-so (Entries es) (MappingAtom fields rest) there (named, each) = (
    named,
    all-to (λ e. IsThere old e.1 × BelongsIf (code_types code) old e.1 (key_type fields rest e.0)) (λ e. BelongsIf (code_types code) new e.1 (key_type fields rest e.0)) (λ e m. belongs-if e.1 (key_type fields rest e.0) m.0 m.1) es
        (all-both (λ e. IsThere old e.1) (λ e. BelongsIf (code_types code) old e.1 (key_type fields rest e.0)) es (values-there (λ e. e.1) es there) each),
  )
  members-so (Items vs) (MappingAtom fields rest) there b = absurd b
  members-so (Items vs) (Arrow args outcome alone) there b = absurd b
  members-so (Items vs) (ErrorAtom t) there b = absurd b
  members-so (Items vs) (FutureAtom t) there b = absurd b
  members-so (Entries es) (ListAtom fixed rest) there b = absurd b
  members-so (Entries es) (Arrow args outcome alone) there b = absurd b
  members-so (Entries es) (ErrorAtom t) there b = absurd b
  members-so (Entries es) (FutureAtom t) there b = absurd b

  -- the members of a structure that are as they were belong where they did
  pub within-so : (s : Structure) → All (IsThere old) (values_of s.members) → IsWithinAtom code c s → IsWithinAtom code d s
  within-so s there w = λ mutable. some-to (λ a. IsInherent code a × ((x : Shape) × IsValid x × IsUnmarked x × In code.atoms x (Atom a)) × IsSomeAnd (slice_get code.atoms a) (MembersBelong (code_types code) old s.members)) _ s.atom (λ a (known, shape, belong). (known, shape, some-to _ _ (slice_get code.atoms a) (λ x m. members-so s.members x there m) belong)) (w mutable)

  -- ---- the whole

  module _ (grown : IsGrown) where
    closed : IsClosed new
    closed =
        record {
          members = all-from (λ s. All (IsThere new) (values_of s.members)) new.structures (λ n s e. of-structure n s (grown.structures n s e));
          details = all-from (λ e. e.detail < length new.structures) new.errors (λ n e is. detail-of n e (grown.errors n e is));
          causes = all-from (λ e. IfSome e.cause (λ n. n < length new.errors)) new.errors (λ n e is. cause-of n e (grown.errors n e is));
          captured = all-from (λ f. All (IsThere new) f.captured) new.functions (λ n f e. of-function n f (grown.functions n f e));
        }
      where
        of-structure : (n : ℕ) (s : Structure) → (slice_get old.structures n ≡ Some s) ⊎ IsNewStructure n s → All (IsThere new) (values_of s.members)
        of-structure n s (inl e) = all-still (values_of s.members) (all-at (λ s. All (IsThere old) (values_of s.members)) old.structures n s good.closed.members e)
        of-structure n s (inr is) = all-to (IsMade code d) (IsThere new) (λ v m. m.0) (values_of s.members) is.made

        detail-of : (n : ℕ) (e : ErrorObject) → (slice_get old.errors n ≡ Some e) ⊎ IsNewError n e → e.detail < length new.structures
        detail-of n e (inl is) = still (Struct e.detail) (all-at (λ e. e.detail < length old.structures) old.errors n e good.closed.details is)
        detail-of n e (inr is) = is.detail

        cause-so : (o : Option ℕ) → IfSome o (λ n. n < length old.errors) → IfSome o (λ n. n < length new.errors)
        cause-so None l = tt
        cause-so (Some m) l = still (Error m) l

        cause-of : (n : ℕ) (e : ErrorObject) → (slice_get old.errors n ≡ Some e) ⊎ IsNewError n e → IfSome e.cause (λ n. n < length new.errors)
        cause-of n e (inl is) = cause-so e.cause (all-at (λ e. IfSome e.cause (λ n. n < length old.errors)) old.errors n e good.closed.causes is)
        cause-of n e (inr is) = is.cause

        captured-there : (f : FunctionObject) → IsWithinUnit code c f → All (IsThere new) f.captured
        captured-there f (callable, fit) = let (u, e, h) = some-there (λ u. AllFit code c f.captured u.captured) (slice_get code.units f.unit) fit in all-zipped (Fits code c) (IsThere new) (λ v t k. still v k.1.0) f.captured u.captured h

        of-function : (n : ℕ) (f : FunctionObject) → (slice_get old.functions n ≡ Some f) ⊎ IsWithinUnit code c f → All (IsThere new) f.captured
        of-function n f (inl e) = all-still f.captured (all-at (λ f. All (IsThere old) f.captured) old.functions n f good.closed.captured e)
        of-function n f (inr is) = captured-there f is

    pub later : (q : Option Role) → IsLater q c d
    later q = record { heap = grows; closed = λ h. closed; strands = same-strands c; calls = same-calls c; worker = stay q }
      where
        stay : (q : Option Role) → WorkerStays q c d
        stay (Some r) = ((λ w. (refl, refl)), refl)
        stay None = tt

    shapes-so : HasShapes new
    shapes-so = ((λ n s e frozen. structure n s e (grown.structures n s e) frozen), (λ n l. let (e, is) = there new.errors n l in error-shape n e (grown.errors n e is)))
      where
        structure : (n : ℕ) (s : Structure) → slice_get new.structures n ≡ Some s → (slice_get old.structures n ≡ Some s) ⊎ IsNewStructure n s → IsFalse s.mutable → (x : Shape) × IsValid x × HasShape new x (Struct n)
        structure n s e (inl was) frozen = let (x, ok, stands) = good.immutable.0 n s was frozen in (x, ok, (HasShape-stable old new good.closed grows x (Struct n) (slice_get_within old.structures n s was)).0 stands)
        structure n s e (inr is) frozen = is.frozen frozen

        error-shape : (n : ℕ) (e : ErrorObject) → (slice_get old.errors n ≡ Some e) ⊎ IsNewError n e → (x : Shape) × IsValid x × HasShape new x (Error n)
        error-shape n e (inl was) = let l = slice_get_within old.errors n e was in let (x, ok, stands) = good.immutable.1 n l in (x, ok, (HasShape-stable old new good.closed grows x (Error n) l).0 stands)
        error-shape n e (inr is) = is.shape

    pub heap-so : GoodHeap code d
    heap-so =
        record {
          mutable = all-from (IsWithinAtom code d) new.structures (λ n s e. mutable-of n s (grown.structures n s e));
          immutable = shapes-so;
          members = all-from (λ s. All (IsMade code d) (values_of s.members)) new.structures (λ n s e. made-of n s (grown.structures n s e));
          functions = all-from (IsWithinUnit code d) new.functions (λ n f e. function-of f (within-old n f (grown.functions n f e)));
          valid = record {
            members = all-from (λ s. AreValidMembers s.members) new.structures (λ n s e. valid-of n s (grown.structures n s e));
            messages = all-from (λ e. IsText e.message) new.errors (λ n e is. message-of n e (grown.errors n e is));
            captured = all-from (λ f. All IsValidValue f.captured) new.functions (λ n f e. captured-of f (within-old n f (grown.functions n f e)));
          };
          closed = closed;
          short = all-from (λ s. size_of s.members < 2 ^ 63) new.structures (λ n s e. short-of n s (grown.structures n s e));
          apart = all-from (λ s. AreKeysApart s.members) new.structures (λ n s e. apart-of n s (grown.structures n s e));
        }
      where
        mutable-of : (n : ℕ) (s : Structure) → (slice_get old.structures n ≡ Some s) ⊎ IsNewStructure n s → IsWithinAtom code d s
        mutable-of n s (inl e) = within-so s (all-at (λ s. All (IsThere old) (values_of s.members)) old.structures n s good.closed.members e) (all-at (IsWithinAtom code c) old.structures n s good.mutable e)
        mutable-of n s (inr is) = is.mutable

        made-of : (n : ℕ) (s : Structure) → (slice_get old.structures n ≡ Some s) ⊎ IsNewStructure n s → All (IsMade code d) (values_of s.members)
        made-of n s (inl e) = all-to (IsMade code c) (IsMade code d) (made-later code None c d (later None)) (values_of s.members) (all-at (λ s. All (IsMade code c) (values_of s.members)) old.structures n s good.members e)
        made-of n s (inr is) = is.made

        valid-of : (n : ℕ) (s : Structure) → (slice_get old.structures n ≡ Some s) ⊎ IsNewStructure n s → AreValidMembers s.members
        valid-of n s (inl e) = all-at (λ s. AreValidMembers s.members) old.structures n s good.valid.members e
        valid-of n s (inr is) = is.valid

        short-of : (n : ℕ) (s : Structure) → (slice_get old.structures n ≡ Some s) ⊎ IsNewStructure n s → size_of s.members < 2 ^ 63
        short-of n s (inl e) = all-at (λ s. size_of s.members < 2 ^ 63) old.structures n s good.short e
        short-of n s (inr is) = is.short

        apart-of : (n : ℕ) (s : Structure) → (slice_get old.structures n ≡ Some s) ⊎ IsNewStructure n s → AreKeysApart s.members
        apart-of n s (inl e) = all-at (λ s. AreKeysApart s.members) old.structures n s good.apart e
        apart-of n s (inr is) = is.apart

        message-of : (n : ℕ) (e : ErrorObject) → (slice_get old.errors n ≡ Some e) ⊎ IsNewError n e → IsText e.message
        message-of n e (inl is) = all-at (λ e. IsText e.message) old.errors n e good.valid.messages is
        message-of n e (inr is) = is.message

        within-old : (n : ℕ) (f : FunctionObject) → (slice_get old.functions n ≡ Some f) ⊎ IsWithinUnit code c f → IsWithinUnit code c f
        within-old n f (inl e) = all-at (IsWithinUnit code c) old.functions n f good.functions e
        within-old n f (inr is) = is

        function-of : (f : FunctionObject) → IsWithinUnit code c f → IsWithinUnit code d f
        function-of f m = (m.0, some-to (λ u. AllFit code c f.captured u.captured) (λ u. AllFit code d f.captured u.captured) (slice_get code.units f.unit) (λ u b. all-later code None c d (later None) f.captured u.captured b) m.1)

        captured-of : (f : FunctionObject) → IsWithinUnit code c f → All IsValidValue f.captured
        captured-of f (callable, fit) = let (u, e, h) = some-there (λ u. AllFit code c f.captured u.captured) (slice_get code.units f.unit) fit in all-zipped (Fits code c) IsValidValue (λ v t k. k.1.1) f.captured u.captured h

-- ---- all that is shared, over such a heap

module _ (code : Code) (c : Common) (w : World) where
  abbrev after : Common
  after = with_world c w

  need-so : (need : Need) → NeedIsThere code c need → NeedIsThere code after need
  need-so (Message a from to) m = m
  need-so (Received a from to count) m = m
  need-so (AllEnded ns) m = m
  need-so (AnyGiven ns) m = m

  met-so : (need : Need) → met after need ≡ met c need
  met-so (Message a from to) = refl
  met-so (Received a from to count) = refl
  met-so (AllEnded ns) = refl
  met-so (AnyGiven ns) = refl

  running-so : (phase : Phase) → RunsOne code c phase → RunsOne code after phase
  running-so phase h = h

  pub nearly-so : (phase : Phase) → IsLater None c after → GoodHeap code after → NearlyCommon code c phase → NearlyCommon code after phase
  nearly-so phase l heap good =
      record {
        heap = heap;
        variables = variables-later code c after l c.variables code.variables good.variables;
        strands = λ n s e. let fits = good.strands n s e in record { end = end-later code c after l n s.unit (end_in s.status) fits.end; need = λ need m. need-so need (fits.need need m); before = fits.before; taken = fits.taken };
        activations = λ a x e. activation-later code c after l a x (good.activations a x e);
        to_run = to-run-later code c after l c.to_run good.to_run;
        ready = record { active = good.ready.active; once = good.ready.once; known = good.ready.known; running = running-so phase good.ready.running; there = good.ready.there };
        main = good.main;
      }

  pub good-so : (phase : Phase) → IsLater None c after → GoodHeap code after → GoodCommon code c phase → GoodCommon code after phase
  good-so phase l heap good = record { nearly = nearly-so phase l heap good.nearly; settled = λ k s e need is m. good.settled k s e need is (subst IsTrue (met-so need) m) }

-- ---- what comes of it

-- where the heap would have too many cells nothing is asked
pub within-gave : (code : Code) (c : Common) (result : Option SemType) (vs : List Value) (w : World) → (cells w.heap ≤ most_cells → EffectTyped code c result (lifted c (Gave vs w))) → EffectTyped code c result (lifted c (within (Gave vs w)))
within-gave code c result vs w h = by (nat_le (cells w.heap) most_cells) refl
  where
    by : (b : Bool) → nat_le (cells w.heap) most_cells ≡ b → EffectTyped code c result (lifted c (if b then Gave vs w else PassesCells))
    by true e = h (leb-true (cells w.heap) most_cells e)
    by false e = tt

-- one value whose shapes the result has
pub one-given : (code : Code) (d : Common) (result : Option SemType) (P : Shape → Type 0) (v : Value) → ResultHas code.atoms result P → IsClosed d.world.heap → IsMade code d v → ((x : Shape) → IsValid x → Stands (code_types code) d.world.heap v x → P x) → AllFit code d (v ∷ []) (option_to_list result)
one-given code d (Some r) P v has all-closed made stands = ((all-closed, made, (λ x valid s. has x valid (stands x valid s))), tt)
one-given code d None P v has all-closed made stands = absurd has

pub gave-typed : (code : Code) (c : Common) (result : Option SemType) (vs : List Value) (w : World) → GoodCommon code c Running → (good : GoodHeap code c) (grows : Grows c.world.heap w.heap) → IsGrown code c w good grows →
    AllFit code (with_world c w) vs (option_to_list result) → EffectTyped code c result (lifted c (Gave vs w))
gave-typed code c result vs w all good grows grown fit =
    (good-so code c w Running (later code c w good grows grown None) (heap-so code c w good grows grown) all, (refl, refl), (λ q. later code c w good grows grown q), fit)
