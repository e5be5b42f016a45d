-- What copies that can't change are made of: anydata, mutable structures among values, and a copy for each.
use Rattle.std.proofs.Common.{◌≡◌, ◌∙◌, ℕ, zero, suc, Bool, true, false, List, [], ◌∷◌, Option, Some, None, length, map, refl, sym, ap, subst, arith}
use Rattle.std.proofs.lemmas.List.Elements.{All-cons, All-head, All-nil, All-tail}
use Rattle.std.proofs.lemmas.Option.{slice_get_within}
use Rattle.std.specs.List.{cons_option}
use Rattle.std.specs.Prelude.{All, IsTrue, filter_map, if◌then◌else◌, option_map, slice_get}
use Rattle.bal_base.specs.declared.shape.Shape.{Shape, Nil as NilShape, Bool as BoolShape, Int as IntShape, Str as StrShape, List', Mapping', Error', Function as FunctionShape, Future', Row_of-Shape, end_of-Shape, more_of-Shape, items-the_row-Shape as shapes_in, Row_of-Fields-items-2 as Row_of-Field, end_of-Fields-items-2 as end_of-Field, more_of-Fields-items-2 as more_of-Field, items-the_row-Fields-items-2 as fields_in}
use Rattle.bal_base.specs.declared.text.Text.{Text}
use Rattle.bal_base.specs.Valid.{IsFrozen, IsValid}
use Rattle.type_model.specs.declared.answers.Keys.TheVariants.{AnyField, AnyIndex}
use Rattle.type_model.specs.declared.basic.SemType.{Atom}
use Rattle.type_model.specs.Anydata.{AreAnydata, IsAnydata, MembersAreAnydata}
use Rattle.type_model.specs.Membership.{In}
use Rattle.type_model.specs.Parts.{StandsIn}
use Rattle.operations.specs.Rows.{IsWithin}
use Rattle.value_model.specs.declared.value.Value.{Value}
use Rattle.value_model.specs.declared.value.Value.TheVariants.{Nil, Bool as Truth, Int, Str, Struct, Error, Function, Future}
use Rattle.value_model.specs.Heap.{Heap, Structure, values_of}
use Rattle.value_model.specs.Stands.{HasShape, IsUnmarked}
use Rattle.op_model.specs.Copies.{copied_structure, mutable_members, mutable_number, mutable_numbers}
use Rattle.machine_model.proofs.Once.{some-same}
use Rattle.stack_code.specs.declared.code.Code.{Code}
use Rattle.code_keeping.specs.Kinds.{Errors, Functions, Futures, kind_of}
use Rattle.code_keeping.proofs.Lists.{at-some, some-there, there}
use Rattle.code_keeping_sends.proofs.Copying.{IsMutableAt}
use Rattle.code_keeping_fillers.proofs.Fillers.{of-contained}
use Rattle.code_keeping_fillers.proofs.Walks.{IsAmong}

-- ---- anydata all through

row-data : (n : _) (row : Row_of-Shape n) → AreAnydata row → All IsAnydata (shapes_in n row)
row-data n end_of-Shape h = All-nil IsAnydata
row-data n (more_of-Shape x xs) h = All-cons IsAnydata x (shapes_in _ xs) h.0 (row-data _ xs h.1)

fields-data : (n : _) (row : Row_of-Field n) → MembersAreAnydata row → All IsAnydata (map (λ f. f.1) (fields_in n row))
fields-data n end_of-Field h = All-nil IsAnydata
fields-data n (more_of-Field key x xs) h = All-cons IsAnydata x (map (λ f. f.1) (fields_in _ xs)) h.0 (fields-data _ xs h.1)

pub item-data : (w x : Shape) → IsAnydata w → StandsIn AnyIndex w x → IsAnydata x
item-data (List' mark _ items) x h inside = of-contained IsAnydata (shapes_in _ items) x inside (row-data _ items h)
item-data NilShape x h inside = absurd inside
item-data (BoolShape b) x h inside = absurd inside
item-data (IntShape i) x h inside = absurd inside
item-data (StrShape t) x h inside = absurd inside
item-data (Mapping' mark _ fields) x h inside = absurd inside
item-data (Error' _ detail) x h inside = absurd inside
item-data (FunctionShape isolated graph) x h inside = absurd inside
item-data (Future' _ results) x h inside = absurd inside

pub member-data : (w x : Shape) → IsAnydata w → StandsIn AnyField w x → IsAnydata x
member-data (Mapping' mark _ fields) x h inside = of-contained IsAnydata (map (λ f. f.1) (fields_in _ fields)) x inside (fields-data _ fields h)
member-data NilShape x h inside = absurd inside
member-data (BoolShape b) x h inside = absurd inside
member-data (IntShape i) x h inside = absurd inside
member-data (StrShape t) x h inside = absurd inside
member-data (List' mark _ items) x h inside = absurd inside
member-data (Error' _ detail) x h inside = absurd inside
member-data (FunctionShape isolated graph) x h inside = absurd inside
member-data (Future' _ results) x h inside = absurd inside

pub no-error : (x : Shape) → IsAnydata x → kind_of x ≡ Errors → ⊥
no-error NilShape h e = let q : ⊥ = cc in q
no-error (BoolShape b) h e = let q : ⊥ = cc in q
no-error (IntShape i) h e = let q : ⊥ = cc in q
no-error (StrShape t) h e = let q : ⊥ = cc in q
no-error (List' mark _ items) h e = let q : ⊥ = cc in q
no-error (Mapping' mark _ fields) h e = let q : ⊥ = cc in q
no-error (Error' _ detail) h e = h
no-error (FunctionShape isolated graph) h e = h
no-error (Future' _ results) h e = h

pub no-function : (x : Shape) → IsAnydata x → kind_of x ≡ Functions → ⊥
no-function NilShape h e = let q : ⊥ = cc in q
no-function (BoolShape b) h e = let q : ⊥ = cc in q
no-function (IntShape i) h e = let q : ⊥ = cc in q
no-function (StrShape t) h e = let q : ⊥ = cc in q
no-function (List' mark _ items) h e = let q : ⊥ = cc in q
no-function (Mapping' mark _ fields) h e = let q : ⊥ = cc in q
no-function (Error' _ detail) h e = h
no-function (FunctionShape isolated graph) h e = h
no-function (Future' _ results) h e = h

pub no-future : (x : Shape) → IsAnydata x → kind_of x ≡ Futures → ⊥
no-future NilShape h e = let q : ⊥ = cc in q
no-future (BoolShape b) h e = let q : ⊥ = cc in q
no-future (IntShape i) h e = let q : ⊥ = cc in q
no-future (StrShape t) h e = let q : ⊥ = cc in q
no-future (List' mark _ items) h e = let q : ⊥ = cc in q
no-future (Mapping' mark _ fields) h e = let q : ⊥ = cc in q
no-future (Error' _ detail) h e = h
no-future (FunctionShape isolated graph) h e = h
no-future (Future' _ results) h e = h

-- what an immutable structure has is immutable data
pub struct-frozen : (h : Heap) (n : ℕ) (x : Shape) → HasShape h x (Struct n) → IsFrozen x
struct-frozen h n (List' mark _ items) has = has.0
struct-frozen h n (Mapping' mark _ fields) has = has.0
struct-frozen h n NilShape has = tt
struct-frozen h n (BoolShape b) has = tt
struct-frozen h n (IntShape i) has = tt
struct-frozen h n (StrShape t) has = tt
struct-frozen h n (Error' _ detail) has = has
struct-frozen h n (FunctionShape isolated graph) has = has
struct-frozen h n (Future' _ results) has = has

-- a shape of an atom is anydata where its unmarked shapes are
pub atom-data : (code : Code) (a : ℕ) → ((x : Shape) → IsValid x → IsUnmarked x → In code.atoms x (Atom a) → IsAnydata x) → IsWithin code.atoms IsAnydata (Atom a)
atom-data code a h (List' mark s items) (valid, inside) = h (List' false s items) ((λ f. absurd (let q : ⊥ = cc in q)), valid.1) refl inside
atom-data code a h (Mapping' mark s fields) (valid, inside) = h (Mapping' false s fields) (valid.0, valid.1, (λ f. absurd (let q : ⊥ = cc in q)), valid.3) refl inside
atom-data code a h NilShape (valid, inside) = tt
atom-data code a h (BoolShape b) (valid, inside) = tt
atom-data code a h (IntShape i) (valid, inside) = tt
atom-data code a h (StrShape t) (valid, inside) = tt
atom-data code a h (Error' box detail) (valid, inside) = h (Error' box detail) valid tt inside
atom-data code a h (FunctionShape isolated graph) (valid, inside) = h (FunctionShape isolated graph) valid tt inside
atom-data code a h (Future' s results) (valid, inside) = h (Future' s results) valid tt inside

-- ---- mutable structures among values

module _ (h : Heap) where
  abbrev number_in : ℕ → Option Structure → Option ℕ
  number_in m (Some s) = if s.mutable then Some m else None
  number_in m None = None

  abbrev pub numbers_in : Option Structure → List ℕ
  numbers_in (Some s) = mutable_numbers h (values_of s.members)
  numbers_in None = []

  pub number-is : (n : ℕ) (s : Structure) → slice_get h.structures n ≡ Some s → IsTrue s.mutable → mutable_number h (Struct n) ≡ Some n
  number-is n s e is = ap (number_in n) e ∙ ap (λ b. if b then Some n else None) is

  number-mutable : (v : Value) (n : ℕ) → mutable_number h v ≡ Some n → IsMutableAt h n
  number-mutable (Struct m) n e = by (slice_get h.structures m) refl e
    where
      at : (s : Structure) → slice_get h.structures m ≡ Some s → (b : Bool) → s.mutable ≡ b → number_in m (Some s) ≡ Some n → IsMutableAt h n
      at s es true em e =
          let same : m ≡ n = some-same m n (sym (ap (λ b. if b then Some m else None) em) ∙ e) in
          subst (IsMutableAt h) same (at-some (λ s. IsTrue s.mutable) (slice_get h.structures m) s es em)
      at s es false em e = absurd (let k : None ≡ Some n = sym (ap (λ b. if b then Some m else None) em) ∙ e in let q : ⊥ = cc in q)

      by : (o : Option Structure) → slice_get h.structures m ≡ o → number_in m o ≡ Some n → IsMutableAt h n
      by (Some s) es e = at s es s.mutable refl e
      by None es e = absurd (let q : ⊥ = cc in q)
  number-mutable Nil n e = absurd (let q : ⊥ = cc in q)
  number-mutable (Truth b) n e = absurd (let q : ⊥ = cc in q)
  number-mutable (Int i) n e = absurd (let q : ⊥ = cc in q)
  number-mutable (Str t) n e = absurd (let q : ⊥ = cc in q)
  number-mutable (Error m) n e = absurd (let q : ⊥ = cc in q)
  number-mutable (Function m) n e = absurd (let q : ⊥ = cc in q)
  number-mutable (Future strand unit) n e = absurd (let q : ⊥ = cc in q)

  number-of : (v : Value) (n : ℕ) → mutable_number h v ≡ Some n → v ≡ Struct n
  number-of (Struct m) n e = by (slice_get h.structures m) e
    where
      at : (b : Bool) → (if b then Some m else None) ≡ Some n → Struct m ≡ Struct n
      at true e = ap (λ k. Struct k) (some-same m n e)
      at false e = absurd (let q : ⊥ = cc in q)

      by : (o : Option Structure) → number_in m o ≡ Some n → Struct m ≡ Struct n
      by (Some s) e = at s.mutable e
      by None e = absurd (let q : ⊥ = cc in q)
  number-of Nil n e = absurd (let q : ⊥ = cc in q)
  number-of (Truth b) n e = absurd (let q : ⊥ = cc in q)
  number-of (Int i) n e = absurd (let q : ⊥ = cc in q)
  number-of (Str t) n e = absurd (let q : ⊥ = cc in q)
  number-of (Error m) n e = absurd (let q : ⊥ = cc in q)
  number-of (Function m) n e = absurd (let q : ⊥ = cc in q)
  number-of (Future strand unit) n e = absurd (let q : ⊥ = cc in q)

  pub number-from : (vs : List Value) (i n : ℕ) → slice_get (mutable_numbers h vs) i ≡ Some n → (k : ℕ) × (slice_get vs k ≡ Some (Struct n))
  number-from [] i n e = absurd (let q : ⊥ = cc in q)
  number-from (v ∷ vs) i n e = by (mutable_number h v) refl i e (λ j e. number-from vs j n e)
    where
      by : (o : Option ℕ) → mutable_number h v ≡ o → (i : ℕ) → slice_get (cons_option o (mutable_numbers h vs)) i ≡ Some n → ((j : ℕ) → slice_get (mutable_numbers h vs) j ≡ Some n → (k : ℕ) × (slice_get vs k ≡ Some (Struct n))) → (k : ℕ) × (slice_get (v ∷ vs) k ≡ Some (Struct n))
      by (Some m) is zero e more = (0, ap (λ z. Some z) (number-of v n (is ∙ e)))
      by (Some m) is (suc i) e more = let (k, at) = more i e in (suc k, at)
      by None is i e more = let (k, at) = more i e in (suc k, at)

  pub found-mutable : (vs : List Value) (i n : ℕ) → slice_get (mutable_numbers h vs) i ≡ Some n → IsMutableAt h n
  found-mutable [] i n e = absurd (let q : ⊥ = cc in q)
  found-mutable (v ∷ vs) i n e = by (mutable_number h v) refl i e (λ j e. found-mutable vs j n e)
    where
      by : (o : Option ℕ) → mutable_number h v ≡ o → (i : ℕ) → slice_get (cons_option o (mutable_numbers h vs)) i ≡ Some n → ((j : ℕ) → slice_get (mutable_numbers h vs) j ≡ Some n → IsMutableAt h n) → IsMutableAt h n
      by (Some m) is zero e more = number-mutable v n (is ∙ e)
      by (Some m) is (suc i) e more = more i e
      by None is i e more = more i e

  pub among-numbers : (vs : List Value) (i n : ℕ) (v : Value) → slice_get vs i ≡ Some v → mutable_number h v ≡ Some n → IsAmong (mutable_numbers h vs) n
  among-numbers [] i n v e is = absurd (let q : ⊥ = cc in q)
  among-numbers (w ∷ vs) zero n v e is = subst (λ o. IsAmong (cons_option o (mutable_numbers h vs)) n) (sym (subst (λ z. mutable_number h z ≡ Some n) (sym (some-same w v e)) is)) (0, refl)
  among-numbers (w ∷ vs) (suc i) n v e is = by (mutable_number h w) (among-numbers vs i n v e is)
    where
      by : (o : Option ℕ) → IsAmong (mutable_numbers h vs) n → IsAmong (cons_option o (mutable_numbers h vs)) n
      by (Some m) (k, at) = (suc k, at)
      by None among = among

  pub kids-mutable : (j n : ℕ) → IsAmong (mutable_members h j) n → IsMutableAt h n
  kids-mutable j n (i, e) = by (slice_get h.structures j) e
    where
      by : (o : Option Structure) → slice_get (numbers_in o) i ≡ Some n → IsMutableAt h n
      by (Some s) e = found-mutable (values_of s.members) i n e
      by None e = absurd (let q : ⊥ = cc in q)

  pub among-kids : (j n i : ℕ) (s : Structure) (v : Value) → slice_get h.structures j ≡ Some s → slice_get (values_of s.members) i ≡ Some v → mutable_number h v ≡ Some n → IsAmong (mutable_members h j) n
  among-kids j n i s v es ev is = subst (λ o. IsAmong (numbers_in o) n) (sym es) (among-numbers (values_of s.members) i n v ev is)

-- ---- the copies, one for each

module _ (first : ℕ) (all : List ℕ) (h : Heap) where
  abbrev copy : Structure → Structure
  copy s = copied_structure first all false s

  abbrev copies : List ℕ → List Structure
  copies ns = filter_map (λ n. option_map copy (slice_get h.structures n)) ns

  one-copy : (n : ℕ) (s : Structure) (ns : List ℕ) → slice_get h.structures n ≡ Some s → copies (n ∷ ns) ≡ copy s ∷ copies ns
  one-copy n s ns e = ap (λ o. cons_option (option_map copy o) (copies ns)) e

  as-many : (ns : List ℕ) → All (IsMutableAt h) ns → length (copies ns) ≡ length ns
  as-many [] ok = refl
  as-many (n ∷ ns) ok =
      let (s, es, mutable) = some-there (λ s. IsTrue s.mutable) (slice_get h.structures n) (All-head (IsMutableAt h) n ns ok) in
      ap length (one-copy n s ns es) ∙ ap suc (as-many ns (All-tail (IsMutableAt h) n ns ok))

  -- each that is copied has its copy
  pub copy-there : (ns : List ℕ) → All (IsMutableAt h) ns → (j n : ℕ) → slice_get ns j ≡ Some n → (s : Structure) × (slice_get h.structures n ≡ Some s) × IsTrue s.mutable × (slice_get (copies ns) j ≡ Some (copy s))
  copy-there [] ok j n e = absurd (let q : ⊥ = cc in q)
  copy-there (m ∷ ns) ok j n e =
      let (s, es, mutable) = some-there (λ s. IsTrue s.mutable) (slice_get h.structures m) (All-head (IsMutableAt h) m ns ok) in
      by s es mutable j e (λ j e. copy-there ns (All-tail (IsMutableAt h) m ns ok) j n e)
    where
      by : (s : Structure) → slice_get h.structures m ≡ Some s → IsTrue s.mutable → (j : ℕ) → slice_get (m ∷ ns) j ≡ Some n →
          ((j : ℕ) → slice_get ns j ≡ Some n → (s : Structure) × (slice_get h.structures n ≡ Some s) × IsTrue s.mutable × (slice_get (copies ns) j ≡ Some (copy s))) →
          (s : Structure) × (slice_get h.structures n ≡ Some s) × IsTrue s.mutable × (slice_get (copies (m ∷ ns)) j ≡ Some (copy s))
      by s es mutable zero e more = (s, ap (λ k. slice_get h.structures k) (sym (some-same m n e)) ∙ es, mutable, ap (λ l. slice_get l 0) (one-copy m s ns es))
      by s es mutable (suc j) e more =
          let (t, et, mt, at) = more j e in
          (t, et, mt, ap (λ l. slice_get l (suc j)) (one-copy m s ns es) ∙ at)

  -- and each copy is one of them
  pub copied-from : (ns : List ℕ) → All (IsMutableAt h) ns → (j : ℕ) (x : Structure) → slice_get (copies ns) j ≡ Some x → (n : ℕ) × (slice_get ns j ≡ Some n) × ((s : Structure) × (slice_get h.structures n ≡ Some s) × IsTrue s.mutable × (copy s ≡ x))
  copied-from ns ok j x e =
      let l = slice_get_within (copies ns) j x e in
      let long = as-many ns ok in
      let (n, en) = there ns j (omega (arith, l, long)) in
      let (s, es, mutable, at) = copy-there ns ok j n en in
      (n, en, (s, es, mutable, some-same (copy s) x (sym at ∙ e)))
