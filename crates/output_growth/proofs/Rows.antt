-- The rows of operations leave what was written.
use Rattle.std.proofs.Common.{◌≡◌, ◌++◌, ℕ, ℤ, List, [], ◌∷◌, Option, Some, None, sym, subst, ap, ◌∙◌, ⊎_elim}
use Rattle.std.specs.Prelude.{◌≤◌, Bool, IsSomeAnd, int_div, int_rem, length, nat_le, not, pos, slice_get}
use Rattle.std.proofs.lemmas.List.{append-nil, append_assoc}
use Rattle.bal_base.specs.Valid.{IsInt}
use Rattle.bal_base.specs.declared.text.Text.{Text}
use Rattle.bal_io.specs.Content.{IsPrefixOf}
use Rattle.type_model.specs.declared.basic.SemType.{SemType}
use Rattle.value_model.specs.declared.filler.Filler.{Filler}
use Rattle.value_model.specs.declared.panics.PanicName.{PanicName}
use Rattle.value_model.specs.declared.panics.PanicName.TheVariants.{DivisionByZero, IndexOutOfRange, InherentTypeViolation, NoFillerValue, NumberOverflow, TooLong, TypeCastError}
use Rattle.value_model.specs.declared.value.Value.{Value}
use Rattle.value_model.specs.declared.value.Value.TheVariants.{Error, Function, Int, Nil, Str, Struct}
use Rattle.value_model.specs.Heap.{Entries, Items, Members, Structure, cells, entry_at}
use Rattle.value_model.specs.PanicName.{panic_message}
use Rattle.value_model.specs.Stands.{Belongs, OwnTypes}
use Rattle.value_model.specs.World.{Came, Gave, PassesCells, Threw, World}
use Rattle.op_model.specs.Limits.{most_cells, most_code_points, most_items}
use Rattle.op_model.specs.Operands.{cause_of, pairs_of}
use Rattle.op_model.specs.Rows.{Else, GivesInt, GivesList, GivesText, HasEntries, HasItems, ListAt, MappingAt, Tells, Unless, Where, found, gives, gives_error, gives_nothing, gives_structure, makes, makes_error, new_structure, next_error, next_structure, panics, place_of, with_heap, within}
use Rattle.op_model.specs.Stores.{StoresAt, StoresKey, entries_from, item_stored, set_entry, stored}
use Rattle.op_model.specs.StructureRows.{MakesError, MakesMapping, ReadsField, ReadsItem, ReadsKey, ReadsOptional, SetsItem, SetsKey, at_place, makes_function, or_nil}
use Rattle.op_model.specs.ValueRows.{Casts, Compare, Divides, Remains}
use Rattle.machine_model.proofs.Shapes.{in-if, in-some}
use Rattle.output_growth.specs.Growth.{CameBegins}

-- ---- first parts

pub all-of : (o : List ℕ) → IsPrefixOf o o
all-of o = ([], append-nil o)

pub with-more : (o all more : List ℕ) → IsPrefixOf o all → IsPrefixOf o (all ++ more)
with-more o all more (rest, e) = (rest ++ more, sym (append_assoc o rest more) ∙ ap (λ l. l ++ more) e)

pub and-then : (o mid all : List ℕ) → IsPrefixOf o mid → IsPrefixOf mid all → IsPrefixOf o all
and-then o mid all p (rest, e) = subst (IsPrefixOf o) e (with-more o mid rest p)

-- ---- which row decides

abbrev pub Begins : List ℕ → (Came → Type 0) → Type 0
Begins o P = (came : Came) → P came → CameBegins o came

module _ (o : List ℕ) where
  pub else-begins : (x : Came) → CameBegins o x → Begins o (Else x)
  else-begins x h came e = subst (CameBegins o) (sym e) h

  pub where-begins : (P : Type 0) (x : Came) (behind : Came → Type 0) → CameBegins o x → Begins o behind → Begins o (Where P x behind)
  where-begins P x behind h more came k = ⊎_elim (λ u. subst (CameBegins o) (sym u.1) h) (λ u. more came u.1) k

  pub unless-begins : (P : Type 0) (x : Came) (behind : Came → Type 0) → CameBegins o x → Begins o behind → Begins o (Unless P x behind)
  unless-begins P x behind h more came k = ⊎_elim (λ u. more came u.1) (λ u. subst (CameBegins o) (sym u.1) h) k

  pub some-begins : {X : Type 0} (at : Option X) (P : X → Came → Type 0) → ((x : X) → Begins o (P x)) → Begins o (λ came. IsSomeAnd at (λ x. P x came))
  some-begins at P h came k = in-some at k (λ x is p. h x came p)

  items-begin : (m : Members) (P : List Value → Came → Type 0) → ((vs : List Value) → Begins o (P vs)) → Begins o (λ came. HasItems (λ vs. P vs came) m)
  items-begin (Items vs) P h came k = h vs came k
  items-begin (Entries es) P h came k = absurd k

  entries-begin : (m : Members) (P : List (Text × Value) → Came → Type 0) → ((es : List (Text × Value)) → Begins o (P es)) → Begins o (λ came. HasEntries (λ es. P es came) m)
  entries-begin (Items vs) P h came k = absurd k
  entries-begin (Entries es) P h came k = h es came k

  pub list-begins : (w : World) (n : ℕ) (P : Structure → List Value → Came → Type 0) → ((s : Structure) (vs : List Value) → Begins o (P s vs)) → Begins o (λ came. ListAt w n (λ s vs. P s vs came))
  list-begins w n P h = some-begins (slice_get w.heap.structures n) (λ s came. HasItems (λ vs. P s vs came) s.members) (λ s. items-begin s.members (P s) (h s))

  pub mapping-begins : (w : World) (n : ℕ) (P : Structure → List (Text × Value) → Came → Type 0) → ((s : Structure) (es : List (Text × Value)) → Begins o (P s es)) → Begins o (λ came. MappingAt w n (λ s es. P s es came))
  mapping-begins w n P h = some-begins (slice_get w.heap.structures n) (λ s came. HasEntries (λ es. P s es came) s.members) (λ s. entries-begin s.members (P s) (h s))

  -- ---- what comes

  pub within-begins : (came : Came) → CameBegins o came → CameBegins o (within came)
  within-begins (Gave vs w) h = in-if (nat_le (cells w.heap) most_cells) (CameBegins o) (Gave vs w) PassesCells (λ b. h) (λ b. tt)
  within-begins (Threw e w) h = in-if (nat_le (cells w.heap) most_cells) (CameBegins o) (Threw e w) PassesCells (λ b. h) (λ b. tt)
  within-begins PassesCells h = tt

  -- ---- the rows that many operations share, in a world whose output begins so

  module _ (w : World) (h : IsPrefixOf o w.output) where
    pub panic-begins : (name : PanicName) → CameBegins o (panics w name)
    panic-begins name = within-begins (Threw (Error (next_error w)) (makes_error w (panic_message name) None [])) h

    pub error-begins : (t : Text) → CameBegins o (gives_error w t)
    error-begins t = within-begins (gives (makes_error w t None []) (Error (next_error w))) h

    pub structure-begins : (s : Structure) → CameBegins o (gives_structure w s)
    structure-begins s = within-begins (gives (makes w (s ∷ [])) (Struct (next_structure w))) h

    pub function-begins : (unit : ℕ) (vs : List Value) → CameBegins o (makes_function w unit vs)
    function-begins unit vs =
        within-begins (gives (with_heap w (record { structures = w.heap.structures; errors = w.heap.errors; functions = w.heap.functions ++ record { unit = unit; captured = vs } ∷ [] })) (Function (length w.heap.functions))) h

    pub found-begins : (name : PanicName) (v : Option Value) → CameBegins o (found w name v)
    found-begins name (Some v) = h
    found-begins name None = panic-begins name

    -- what is given is given in this world
    pub given-begins : (v : Value) → Begins o (Else (gives w v))
    given-begins v = else-begins (gives w v) h

    pub int-begins : (n : ℤ) → Begins o (GivesInt w n)
    int-begins n = unless-begins (IsInt n) (panics w NumberOverflow) (Else (gives w (Int n))) (panic-begins NumberOverflow) (given-begins (Int n))

    pub text-begins : (t : Text) → Begins o (GivesText w t)
    text-begins t = unless-begins (length t ≤ most_code_points) (panics w TooLong) (Else (gives w (Str t))) (panic-begins TooLong) (given-begins (Str t))

    pub new-list-begins : (atom : ℕ) (vs : List Value) → Begins o (GivesList w atom vs)
    new-list-begins atom vs =
        let s = new_structure (Some atom) Bool.true (Items vs) in
        unless-begins (length vs ≤ most_items) (panics w TooLong) (Else (gives_structure w s)) (panic-begins TooLong) (else-begins (gives_structure w s) (structure-begins s))

    pub tells-begins : (P : Type 0) → Begins o (Tells w P)
    tells-begins P came (b, p, e) = subst (CameBegins o) (sym e) h

    -- ---- values

    pub divides-begins : (x y : ℤ) → Begins o (Divides w x y)
    divides-begins x y = where-begins (y ≡ pos 0) (panics w DivisionByZero) (GivesInt w (int_div x y)) (panic-begins DivisionByZero) (int-begins (int_div x y))

    pub remains-begins : (x y : ℤ) → Begins o (Remains w x y)
    remains-begins x y = where-begins (y ≡ pos 0) (panics w DivisionByZero) (Else (gives w (Int (int_rem x y)))) (panic-begins DivisionByZero) (given-begins (Int (int_rem x y)))

    pub compare-begins : (P : ℤ → ℤ → Type 0) (Q : Text → Text → Type 0) (a b : Value) → Begins o (Compare P Q a b w)
    compare-begins P Q (Int x) (Int y) came k = tells-begins (P x y) came k
    compare-begins P Q (Str s) (Str t) came k = tells-begins (Q s t) came k
    compare-begins P Q _ _ came k = absurd k

    pub casts-begins : (own : OwnTypes) (t : SemType) (v : Value) → Begins o (Casts own t v w)
    casts-begins own t v = unless-begins (Belongs own w.heap v t) (panics w TypeCastError) (Else (gives w v)) (panic-begins TypeCastError) (given-begins v)

    -- ---- structures

    pub mapping-made-begins : (atom : ℕ) (immutable : Bool) (vs : List Value) → Begins o (MakesMapping w atom immutable vs)
    mapping-made-begins atom immutable vs came k =
        in-some (pairs_of vs) k (λ ps is e. subst (CameBegins o) (sym e) (structure-begins (new_structure (Some atom) (not immutable) (Entries (entries_from [] ps)))))

    pub error-made-begins : (message : Text) (cause : Value) (vs : List Value) → Begins o (MakesError w message cause vs)
    error-made-begins message cause vs came k =
        in-some (cause_of cause) k (λ n is k. in-some (pairs_of vs) k (λ ps there e. subst (CameBegins o) (sym e) (within-begins (gives (makes_error w message n (entries_from [] ps)) (Error (next_error w))) h)))

    pub item-read-begins : (n : ℕ) (i : ℤ) → Begins o (ReadsItem w n i)
    item-read-begins n i =
        list-begins w n (λ s vs. Else (found w IndexOutOfRange (at_place vs i))) (λ s vs. else-begins (found w IndexOutOfRange (at_place vs i)) (found-begins IndexOutOfRange (at_place vs i)))

    pub key-read-begins : (n : ℕ) (key : Text) → Begins o (ReadsKey w n key)
    key-read-begins n key = mapping-begins w n (λ s es. Else (gives w (or_nil (entry_at es key)))) (λ s es. given-begins (or_nil (entry_at es key)))

    pub field-read-begins : (n : ℕ) (key : Text) → Begins o (ReadsField w n key)
    field-read-begins n key =
        mapping-begins w n (λ s es came. IsSomeAnd (entry_at es key) (λ v. came ≡ gives w v)) (λ s es came k. in-some (entry_at es key) k (λ v is e. subst (CameBegins o) (sym e) h))

    pub optional-read-begins : (v : Value) (key : Text) → Begins o (ReadsOptional w v key)
    optional-read-begins Nil key came k = subst (CameBegins o) (sym k) h
    optional-read-begins (Struct n) key came k = key-read-begins n key came k
    optional-read-begins _ key came k = absurd k

    -- ---- stores

    pub stores-begin : (own : OwnTypes) (fillers : ℕ → List Filler) (n : ℕ) (s : Structure) (vs : List Value) (place : Option ℕ) (v : Value) → Begins o (StoresAt own fillers w n s vs place v)
    stores-begin own fillers n s vs None v = else-begins (panics w IndexOutOfRange) (panic-begins IndexOutOfRange)
    stores-begin own fillers n s vs (Some k) v =
        unless-begins _ _ _ (panic-begins InherentTypeViolation) (unless-begins _ _ _ (panic-begins InherentTypeViolation) (unless-begins _ _ _ (panic-begins TooLong) (unless-begins _ _ _ (panic-begins NoFillerValue)
        (else-begins (within (gives_nothing (item_stored own fillers w n s vs k v))) (within-begins (gives_nothing (item_stored own fillers w n s vs k v)) h)))))

    pub key-stores-begin : (own : OwnTypes) (fillers : ℕ → List Filler) (n : ℕ) (s : Structure) (es : List (Text × Value)) (key : Text) (v : Value) → Begins o (StoresKey own fillers w n s es key v)
    key-stores-begin own fillers n s es key v =
        unless-begins _ _ _ (panic-begins InherentTypeViolation) (unless-begins _ _ _ (panic-begins InherentTypeViolation)
        (else-begins (within (gives_nothing (stored w n s (Entries (set_entry es key v)) []))) (within-begins (gives_nothing (stored w n s (Entries (set_entry es key v)) [])) h)))

    pub item-set-begins : (own : OwnTypes) (fillers : ℕ → List Filler) (n : ℕ) (i : ℤ) (v : Value) → Begins o (SetsItem own fillers w n i v)
    item-set-begins own fillers n i v = list-begins w n (λ s vs. StoresAt own fillers w n s vs (place_of i) v) (λ s vs. stores-begin own fillers n s vs (place_of i) v)

    pub key-set-begins : (own : OwnTypes) (fillers : ℕ → List Filler) (n : ℕ) (key : Text) (v : Value) → Begins o (SetsKey own fillers w n key v)
    key-set-begins own fillers n key v = mapping-begins w n (λ s es. StoresKey own fillers w n s es key v) (λ s es. key-stores-begin own fillers n s es key v)
