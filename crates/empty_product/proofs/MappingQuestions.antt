-- What is asked at keys by mapping atoms, and which of these are out of play.
use Rattle.std.proofs.Common.{◌≡◌, ◌≢◌, ◌↔◌, ◌⊎◌, ⊎_elim, inl, inr, ℕ, ◌+◌, ◌<◌, not, List, [], ◌∷◌, ◌++◌, map, take, length, get_or, All, Contains, Bool, true, false, IsTrue, IfSome, Option, Some, None, slice_get, option_and_then, refl, sym, ap, subst, ◌∙◌, arith}
use Rattle.std.specs.List.{Any, AllPairs}
use Rattle.std.specs.Prelude.{if◌then◌else◌}
use Rattle.std.proofs.lemmas.Bool.{false≢true}
use Rattle.std.proofs.lemmas.List.{take_more}
use Rattle.std.proofs.lemmas.List.Elements.{All-nil, All-push, All-weaker, All-contains, Contains-append_left, Contains-push, Contains-push_cases, Contains-get_or, All-contains_itself}
use Rattle.bal_base.specs.declared.text.Text.{Text}
use Rattle.type_model.specs.declared.basic.Ty.{Ty}
use Rattle.type_model.specs.declared.atoms.FieldDef.{FieldDef}
use Rattle.type_model.specs.declared.atoms.AtomDef.{AtomDef}
use Rattle.type_model.specs.declared.atoms.AtomDef.TheVariants.{List as ListAtom, Mapping as MappingAtom, Arrow, Error as ErrorAtom, Future as FutureAtom}
use Rattle.type_model.specs.Defined.{IsEnv, DefBelow, TyBelow, IsDefined}
use Rattle.type_model.specs.Places.{HasDistinctFields, key_type}
use Rattle.type_diagrams.specs.Atoms.{parts_of, mapping_parts}
use Rattle.type_diagrams.specs.Conditions.{Condition, IsNothing, and_of, asks}
use Rattle.type_diagrams.specs.Members.{ArePlainlyApart, IsMappingOutOfPlay, Requires, member_of, asked, type_asked}
use Rattle.type_diagrams.specs.Tables.{Table, IsDiagram, condition}
use Rattle.type_diagrams.specs.Whole.{Keeps, Gives}
use Rattle.type_diagrams.proofs.Shapes.{gives-keeps}
use Rattle.empty_product.specs.declared.mapping_atoms.KeyBase.{KeyBase}
use Rattle.empty_product.specs.Keys.{Names, AreInOrder, HasAdded, HasNamedKeys}
use Rattle.empty_product.specs.KeyBases.{IsBase, AreBases, IsApartAt, IsApartBy, fields_in, fields_of}
use Rattle.empty_product.specs.Play.{AreInPlay}
use Rattle.empty_product.proofs.Nothing.{asks_one_before, common-Gives, is-nothing, nothing-along}
use Rattle.empty_product.proofs.AtomFields.{IsNamed, IsNeeded, field_of, field_of-Some, field_of-None, key_type-found, key_type-none, Requires-fields, Names-fields, Requires-Names}
use Rattle.empty_product.proofs.Zipped.{none_some, some_same, All-slice_get, AllPairs-at, Contains-at, Any-none, Any-of, Any-is, Any-more, Any-first, Any-later, Any-weaker}

-- ---- the definition of a mapping atom

parts-def : (o : Option AtomDef) (d : List FieldDef × Option Ty) → option_and_then mapping_parts o ≡ Some d → (def : AtomDef) × (o ≡ Some def) × (mapping_parts def ≡ Some d)
parts-def None d h = absurd (none_some h)
parts-def (Some def) d h = (def, refl, h)

distinct-parts : (def : AtomDef) (d : List FieldDef × Option Ty) → mapping_parts def ≡ Some d → HasDistinctFields def → AllPairs (λ f g. f.name ≢ g.name) d.0
distinct-parts (MappingAtom fields rest) d h distinct = subst (λ e. AllPairs (λ f g. f.name ≢ g.name) e.0) (some_same h) distinct
distinct-parts (ListAtom fixed rest) d h distinct = absurd (none_some h)
distinct-parts (Arrow args outcome alone) d h distinct = absurd (none_some h)
distinct-parts (ErrorAtom detail) d h distinct = absurd (none_some h)
distinct-parts (FutureAtom outcome) d h distinct = absurd (none_some h)

defined-parts : (n : ℕ) (def : AtomDef) (d : List FieldDef × Option Ty) → mapping_parts def ≡ Some d → DefBelow n def → All (λ f. TyBelow n f.ty) d.0 × IfSome d.1 (TyBelow n)
defined-parts n (MappingAtom fields rest) d h below = subst (λ e. All (λ f. TyBelow n f.ty) e.0 × IfSome e.1 (TyBelow n)) (some_same h) below
defined-parts n (ListAtom fixed rest) d h below = absurd (none_some h)
defined-parts n (Arrow args outcome alone) d h below = absurd (none_some h)
defined-parts n (ErrorAtom detail) d h below = absurd (none_some h)
defined-parts n (FutureAtom outcome) d h below = absurd (none_some h)

module _ (env : List AtomDef) (a : ℕ) (fields : List FieldDef) (rest : Option Ty) (is : parts_of mapping_parts env a ≡ Some (fields, rest)) where
  pub fields-are : fields_of env a ≡ fields
  fields-are = ap fields_in is

  module _ (is_env : IsEnv env) where
    distinct_fields : AllPairs (λ f g. f.name ≢ g.name) fields
    distinct_fields = let p = parts-def (slice_get env a) (fields, rest) is in distinct-parts p.0 (fields, rest) p.2 (All-slice_get HasDistinctFields env a p.0 is_env.distinct p.1)

    defined_fields : All (λ f. TyBelow (length env) f.ty) fields × IfSome rest (TyBelow (length env))
    defined_fields = let p = parts-def (slice_get env a) (fields, rest) is in defined-parts (length env) p.0 (fields, rest) p.2 (All-slice_get (DefBelow (length env)) env a p.0 is_env.closed p.1)

-- two fields of one name are one
one-field : (fields : List FieldDef) → AllPairs (λ f g. f.name ≢ g.name) fields → (f g : FieldDef) → Contains fields f → Contains fields g → f.name ≡ g.name → f ≡ g
one-field fields distinct f g c d same =
    let p = Contains-at fields f c in
    let q = Contains-at fields g d in
    ⊎_elim
    (λ (l : p.0 < q.0). absurd (AllPairs-at (λ f g. f.name ≢ g.name) fields distinct p.0 q.0 f g l p.1 q.1 same))
    (⊎_elim
    (λ (e : p.0 ≡ q.0). some_same (sym p.1 ∙ ap (slice_get fields) e ∙ q.1))
    (λ (l : q.0 < p.0). absurd (AllPairs-at (λ f g. f.name ≢ g.name) fields distinct q.0 p.0 g f l q.1 p.1 (sym same))))
    (tri p.0 q.0)
  where
    tri : (i j : ℕ) → (i < j) ⊎ ((i ≡ j) ⊎ (j < i))
    tri i j = grind arith

-- the type of a field, or the rest's
abbrev pub type_of : Option Ty → Option FieldDef → Option Ty
type_of rest (Some f) = Some f.ty
type_of rest None = rest

-- ---- whether a key is required

module _ (env : List AtomDef) (a : ℕ) (key : Text) (fields : List FieldDef) (rest : Option Ty) where
  pub required-Some : IsEnv env → (f : FieldDef) → parts_of mapping_parts env a ≡ Some (fields, rest) → Some f ≡ field_of fields key → IsTrue (not f.optional) ↔ Requires env key a
  required-Some is_env f is found =
      let has = field_of-Some fields key f (sym found) in
      let e = Requires-fields env key a in (
        λ free. e.1 (subst (Any (IsNeeded key)) (sym (fields-are env a fields rest is)) (Any-of (IsNeeded key) fields f has.0 (has.1, free-of f.optional free))),
        λ r. let n = Any-is (IsNeeded key) fields (subst (Any (IsNeeded key)) (fields-are env a fields rest is) (e.0 r)) in
            let same = one-field fields (distinct_fields env a fields rest is is_env) f n.0 has.0 n.1 (has.1 ∙ sym n.2.0) in
            of-free f.optional (ap (λ (x : FieldDef). x.optional) same ∙ n.2.1),
      )
    where
      free-of : (b : Bool) → IsTrue (not b) → b ≡ false
      free-of true h = absurd (false≢true h)
      free-of false h = refl

      of-free : (b : Bool) → b ≡ false → IsTrue (not b)
      of-free true h = absurd (false≢true (sym h))
      of-free false h = refl

  pub required-None : parts_of mapping_parts env a ≡ Some (fields, rest) → None ≡ field_of fields key → IsTrue false ↔ Requires env key a
  required-None is found = (
    λ h. absurd (false≢true h),
    λ r. absurd (field_of-None fields key (sym found) (Any-weaker (IsNeeded key) (IsNamed key) (λ f n. n.0) fields (subst (Any (IsNeeded key)) (fields-are env a fields rest is) ((Requires-fields env key a).0 r)))),
  )

  pub rest-defined : (o : Option Ty) → IfSome o (TyBelow (length env)) → IfSome o (λ u. IsDefined env u.sem)
  rest-defined None h = tt
  rest-defined (Some u) h = h.0

-- ---- out of play

module _ (env : List AtomDef) (wanted : List ℕ) (a : ℕ) where
  abbrev IsOut : Type 0
  IsOut = IsMappingOutOfPlay env wanted a

  pub own-out : Any (IsApartBy env wanted a) (fields_of env a) → IsOut
  own-out h =
      let n = Any-is (IsApartBy env wanted a) (fields_of env a) h in
      let f = n.0 in
      (f.name, Any-first (Requires env f.name) a wanted ((Requires-fields env f.name a).1 (Any-of (IsNeeded f.name) (fields_of env a) f n.1 (refl, n.2.0))), n.2.1)

  module _ (table : Table) (bases : List KeyBase) (are : AreBases env table wanted bases) where
    apart-base : (b : KeyBase) → IsBase env table wanted b → IsNothing (and_of (member_of env b.key a) (condition table b.question)) ↔ ArePlainlyApart (map (member_of env b.key) (a ∷ wanted))
    apart-base b is =
        nothing-along (and_of (member_of env b.key a) (condition table b.question)) (asks (map (member_of env b.key) (a ∷ wanted)) [])
        (asks_one_before (member_of env b.key a) (condition table b.question) (map (member_of env b.key) wanted) is.question.condition)

    pub named-out : Any (IsApartAt env table a) bases → IsOut
    named-out h =
        let n = Any-is (IsApartAt env table a) bases h in
        let b = n.0 in
        let is = All-contains (IsBase env table wanted) bases b are.each n.1 in
        (b.key, Any-later (Requires env b.key) a wanted (is.required.0 n.2.0), (apart-base b is).0 n.2.1)

    pub out-somewhere : IsOut → Any (IsApartAt env table a) bases ⊎ Any (IsApartBy env wanted a) (fields_of env a)
    out-somewhere (key, required, apart) =
        ⊎_elim
        (λ (r : Requires env key a).
        let n = Any-is (IsNeeded key) (fields_of env a) ((Requires-fields env key a).0 r) in
        inr (Any-of (IsApartBy env wanted a) (fields_of env a) n.0 n.1 (n.2.1, subst (λ k. ArePlainlyApart (map (member_of env k) (a ∷ wanted))) (sym n.2.0) apart)))
        (λ (r : Any (Requires env key) wanted).
        let n = Any-is (λ b. b.key ≡ key) bases (are.all key r) in
        let b = n.0 in
        let is = All-contains (IsBase env table wanted) bases b are.each n.1 in
        inl (Any-of (IsApartAt env table a) bases b n.1 (
          is.required.1 (subst (λ k. Any (Requires env k) wanted) (sym n.2) r),
          (apart-base b is).1 (subst (λ k. ArePlainlyApart (map (member_of env k) (a ∷ wanted))) (sym n.2) apart),
        )))
        (Any-more (Requires env key) a wanted required)

-- ---- tables that grow

pub IsBase-keeps : (env : List AtomDef) (old new : Table) (wanted : List ℕ) → Keeps old new → (b : KeyBase) → IsBase env old wanted b → IsBase env new wanted b
IsBase-keeps env old new wanted keeps b is =
    record { question = gives-keeps old new (asks (map (member_of env b.key) wanted) []) b.question keeps is.question; required = is.required }

pub AreBases-keeps : (env : List AtomDef) (old new : Table) (wanted : List ℕ) (bases : List KeyBase) → Keeps old new → AreBases env old wanted bases → AreBases env new wanted bases
AreBases-keeps env old new wanted bases keeps are =
    record { each = All-weaker (IsBase env old wanted) (IsBase env new wanted) (IsBase-keeps env old new wanted keeps) bases are.each; all = are.all }

-- ---- loops

-- bases at some of the keys
pub record AreBasesAt (env : List AtomDef) (table : Table) (wanted : List ℕ) (keys : List Text) (bases : List KeyBase) : Type 0 where
  pub each : All (IsBase env table wanted) bases
  pub all : All (λ key. Any (λ (b : KeyBase). b.key ≡ key) bases) keys

module _ (env : List AtomDef) (wanted : List ℕ) (keys : List Text) (bases : List KeyBase) where
  pub more-bases : (old new : Table) → Keeps old new → (i : ℕ) (key : Text) (b : KeyBase) → i < length keys → key ≡ get_or keys i key → b.key ≡ key → IsBase env new wanted b → AreBasesAt env old wanted (take i keys) bases → AreBasesAt env new wanted (take (i + 1) keys) (bases ++ b ∷ [])
  more-bases old new keeps i key b lt is same is_base are = record {
    each = All-push (IsBase env new wanted) bases b (All-weaker (IsBase env old wanted) (IsBase env new wanted) (IsBase-keeps env old new wanted keeps) bases are.each) is_base;
    all = subst (All HasBase) (sym (take_more keys i key lt)) (All-push HasBase (take i keys) (get_or keys i key) (All-weaker _ HasBase (λ k h. left k h) (take i keys) are.all) here);
  }
    where
      HasBase : Text → Type 0
      HasBase k = Any (λ (c : KeyBase). c.key ≡ k) (bases ++ b ∷ [])

      left : (k : Text) → Any (λ (c : KeyBase). c.key ≡ k) bases → Any (λ (c : KeyBase). c.key ≡ k) (bases ++ b ∷ [])
      left k h = let n = Any-is (λ (c : KeyBase). c.key ≡ k) bases h in Any-of (λ (c : KeyBase). c.key ≡ k) (bases ++ b ∷ []) n.0 (Contains-append_left bases (b ∷ []) n.0 n.1) n.2

      here : Any (λ (c : KeyBase). c.key ≡ get_or keys i key) (bases ++ b ∷ [])
      here = Any-of (λ (c : KeyBase). c.key ≡ get_or keys i key) (bases ++ b ∷ []) b (Contains-push bases b) (same ∙ is)

  pub all-bases : (table : Table) → HasNamedKeys env wanted keys → AreBasesAt env table wanted keys bases → AreBases env table wanted bases
  all-bases table named are = record {
    each = are.each;
    all = λ key r. let n = Any-is (Requires env key) wanted r in All-contains (λ k. Any (λ (b : KeyBase). b.key ≡ k) bases) keys key are.all (named.all n.0 key n.1 (Requires-Names env key n.0 n.2));
  }

pub no-bases : (env : List AtomDef) (table : Table) (wanted : List ℕ) → AreBasesAt env table wanted [] []
no-bases env table wanted = record { each = All-nil _; all = All-nil _ }

-- atoms in play, one by one
module _ (IsOut : ℕ → Type 0) (atoms : List ℕ) (i : ℕ) (lt : i < length atoms) (playing : List ℕ) (are : AreInPlay IsOut (take i atoms) playing) where
  abbrev StaysIn : List ℕ → ℕ → Type 0
  StaysIn xs a = Contains xs a × (¬ IsOut a)

  among_more : All (StaysIn (take (i + 1) atoms)) playing
  among_more = All-weaker (StaysIn (take i atoms)) (StaysIn (take (i + 1) atoms)) (λ a h. (subst (λ xs. Contains xs a) (sym (take_more atoms i 0 lt)) (Contains-append_left (take i atoms) (get_or atoms i 0 ∷ []) a h.0), h.1)) playing are.among

  pub one-out : IsOut (get_or atoms i 0) → AreInPlay IsOut (take (i + 1) atoms) playing
  one-out out = record {
    among = among_more;
    others = subst (All (λ a. IsOut a ⊎ Contains playing a)) (sym (take_more atoms i 0 lt)) (All-push (λ a. IsOut a ⊎ Contains playing a) (take i atoms) (get_or atoms i 0) are.others (inl out));
  }

  pub one-playing : ¬ IsOut (get_or atoms i 0) → AreInPlay IsOut (take (i + 1) atoms) (playing ++ get_or atoms i 0 ∷ [])
  one-playing free = record {
    among = All-push (λ a. Contains (take (i + 1) atoms) a × (¬ IsOut a)) playing (get_or atoms i 0) among_more
        (subst (λ xs. Contains xs (get_or atoms i 0)) (sym (take_more atoms i 0 lt)) (Contains-push (take i atoms) (get_or atoms i 0)), free);
    others = subst (All Of) (sym (take_more atoms i 0 lt))
        (All-push Of (take i atoms) (get_or atoms i 0)
        (All-weaker (λ a. IsOut a ⊎ Contains playing a) Of (λ a h. ⊎_elim (λ (o : IsOut a). inl o) (λ (c : Contains playing a). inr (Contains-append_left playing (get_or atoms i 0 ∷ []) a c)) h) (take i atoms) are.others)
        (inr (Contains-push playing (get_or atoms i 0))));
  }
    where
      Of : ℕ → Type 0
      Of a = IsOut a ⊎ Contains (playing ++ get_or atoms i 0 ∷ []) a

pub none-playing : (P : ℕ → Type 0) → AreInPlay P [] []
none-playing P = record { among = All-nil _; others = All-nil _ }

-- ---- keys that fields name

module _ {X : Type 0} (IsMore : X → Text → Type 0) (xs : List X) where
  abbrev Of : List X → Text → Type 0
  Of ys key = Any (λ x. IsMore x key) ys

  any-append : (x : X) (key : Text) → Of xs key → Of (xs ++ x ∷ []) key
  any-append x key h = let n = Any-is (λ y. IsMore y key) xs h in Any-of (λ y. IsMore y key) (xs ++ x ∷ []) n.0 (Contains-append_left xs (x ∷ []) n.0 n.1) n.2

  pub more-added : (x : X) (old mid new : List Text) → HasAdded (Of xs) old mid → HasAdded (IsMore x) mid new → HasAdded (Of (xs ++ x ∷ [])) old new
  more-added x old mid new h k = record {
    among = All-weaker (λ key. Contains mid key ⊎ IsMore x key) After
        (λ key. ⊎_elim
        (λ (c : Contains mid key). ⊎_elim (λ (o : Contains old key). inl o) (λ (m : Of xs key). inr (any-append x key m)) (All-contains (λ l. Contains old l ⊎ Of xs l) mid key h.among c))
        (λ (m : IsMore x key). inr (Any-of (λ y. IsMore y key) (xs ++ x ∷ []) x (Contains-push xs x) m)))
        new k.among;
    kept = All-weaker (Contains mid) (Contains new) (λ key c. All-contains (Contains new) mid key k.kept c) old h.kept;
    added = λ key a. let n = Any-is (λ y. IsMore y key) (xs ++ x ∷ []) a in
        ⊎_elim
        (λ (c : Contains xs n.0). All-contains (Contains new) mid key k.kept (h.added key (Any-of (λ y. IsMore y key) xs n.0 c n.2)))
        (λ (e : x ≡ n.0). k.added key (subst (λ y. IsMore y key) (sym e) n.2))
        (Contains-push_cases xs x n.0 n.1);
  }
    where
      After : Text → Type 0
      After key = Contains old key ⊎ Of (xs ++ x ∷ []) key

pub none-added : {X : Type 0} (IsMore : X → Text → Type 0) (keys : List Text) → HasAdded (λ key. Any (λ x. IsMore x key) []) keys keys
none-added IsMore keys = record {
  among = All-weaker (Contains keys) (λ key. Contains keys key ⊎ Any (λ x. IsMore x key) []) (λ key c. inl c) keys (All-contains_itself keys);
  kept = All-contains_itself keys;
  added = λ key h. absurd (Any-none (λ x. IsMore x key) h);
}

-- what the fields of an atom add is what it names
pub atom-added : (env : List AtomDef) (a : ℕ) (fields : List FieldDef) (rest : Option Ty) → parts_of mapping_parts env a ≡ Some (fields, rest) → (old new : List Text) → HasAdded (λ key. Any (IsNamed key) fields) old new → HasAdded (Names env a) old new
atom-added env a fields rest is old new added = record {
  among = All-weaker (λ key. Contains old key ⊎ Any (IsNamed key) fields) (λ key. Contains old key ⊎ Names env a key) (λ key. ⊎_elim (λ (c : Contains old key). inl c) (λ (n : Any (IsNamed key) fields). inr ((Names-fields env key a).1 (subst (Any (IsNamed key)) (sym (fields-are env a fields rest is)) n)))) new added.among;
  kept = added.kept;
  added = λ key n. added.added key (subst (Any (IsNamed key)) (fields-are env a fields rest is) ((Names-fields env key a).0 n));
}

-- whether what is asked at a key and a base have no shape in common
pub apart-made : (old mid new : Table) (asked q n : ℕ) (c : Condition) (b : Bool) → Keeps old mid → IsDiagram old q → Gives mid c asked → Gives new (and_of (condition mid asked) (condition mid q)) n
    → IsTrue b ↔ IsNothing (condition new n) → IsTrue b ↔ IsNothing (and_of c (condition old q))
apart-made old mid new asked q n c b begun is made both told = is-nothing new (and_of c (condition old q)) n b (common-Gives old mid new c asked q n is begun made both) told

-- a name that is added, from either side
pub same-added : (name : Text) (old new : List Text) → HasAdded (λ k. k ≡ name) old new → HasAdded (λ k. name ≡ k) old new
same-added name old new h = record {
  among = All-weaker (λ k. Contains old k ⊎ (k ≡ name)) (λ k. Contains old k ⊎ (name ≡ k)) (λ k. ⊎_elim (λ (c : Contains old k). inl c) (λ (e : k ≡ name). inr (sym e))) new h.among;
  kept = h.kept;
  added = λ k e. h.added k (sym e);
}

-- one more key among them
pub also-named : {IsMore : Text → Type 0} (env : List AtomDef) (atoms : List ℕ) (old new : List Text) → HasNamedKeys env atoms old → AreInOrder new → HasAdded IsMore old new → HasNamedKeys env atoms new
also-named env atoms old new named ordered added = record {
  ordered = ordered;
  all = λ b key c n. All-contains (Contains new) old key added.kept (named.all b key c n);
}

-- the keys of one more atom
pub more-named : (env : List AtomDef) (atoms : List ℕ) (a : ℕ) (mid new : List Text) → HasNamedKeys env atoms mid → AreInOrder new → HasAdded (Names env a) mid new → HasNamedKeys env (atoms ++ a ∷ []) new
more-named env atoms a mid new named ordered added = record {
  ordered = ordered;
  all = λ b key c n. ⊎_elim
      (λ (old : Contains atoms b). All-contains (Contains new) mid key added.kept (named.all b key old n))
      (λ (e : a ≡ b). added.added key (subst (λ d. Names env d key) (sym e) n))
      (Contains-push_cases atoms a b c);
}

-- what the type at a key asks, by the field of the name or by the rest
pub key-asked : (env : List AtomDef) (a : ℕ) (key : Text) (fields : List FieldDef) (rest : Option Ty) (o : Option FieldDef) → parts_of mapping_parts env a ≡ Some (fields, rest) → o ≡ field_of fields key
    → type_asked env (type_of rest o) ≡ member_of env key a
key-asked env a key fields rest o is found = ap (type_asked env) (same o found) ∙ sym (ap (asked (λ d. type_asked env (key_type d.0 d.1 key))) is)
  where
    same : (o : Option FieldDef) → o ≡ field_of fields key → type_of rest o ≡ key_type fields rest key
    same (Some f) h = sym (key_type-found fields rest key f (sym h))
    same None h = sym (key_type-none fields rest key (sym h))

pub key-defined : (env : List AtomDef) (a : ℕ) (key : Text) (fields : List FieldDef) (rest : Option Ty) → IsEnv env → (o : Option FieldDef) → parts_of mapping_parts env a ≡ Some (fields, rest) → o ≡ field_of fields key
    → IfSome (type_of rest o) (λ t. IsDefined env t.sem)
key-defined env a key fields rest is_env o is found = by o found (defined_fields env a fields rest is is_env)
  where
    by : (o : Option FieldDef) → o ≡ field_of fields key → All (λ f. TyBelow (length env) f.ty) fields × IfSome rest (TyBelow (length env)) → IfSome (type_of rest o) (λ t. IsDefined env t.sem)
    by (Some f) h d = (All-contains (λ f. TyBelow (length env) f.ty) fields f d.0 (field_of-Some fields key f (sym h)).0).0
    by None h d = rest-defined env a key fields rest rest d.1

-- none of the first so many, and one more
module _ {X : Type 0} (P : X → Type 0) (xs : List X) (i : ℕ) (x : X) (lt : i < length xs) (is : x ≡ get_or xs i x) where
  pub none-more : ¬ Any P (take i xs) → ¬ P x → ¬ Any P (take (i + 1) xs)
  none-more none out h =
      let n = Any-is P (take (i + 1) xs) h in
      ⊎_elim
      (λ (c : Contains (take i xs) n.0). none (Any-of P (take i xs) n.0 c n.2))
      (λ (e : get_or xs i x ≡ n.0). out (subst P (sym (is ∙ e)) n.2))
      (Contains-push_cases (take i xs) (get_or xs i x) n.0 (subst (λ ys. Contains ys n.0) (take_more xs i x lt) n.1))

  pub some-more : P x → Any P xs
  some-more h = Any-of P xs x (subst (Contains xs) (sym is) (Contains-get_or xs i x lt)) h

-- whether an atom is apart at a base is the same in a table that has grown
pub apart-keeps : (env : List AtomDef) (old new : Table) (a : ℕ) (b : KeyBase) → Keeps old new → IsDiagram old b.question → IsApartAt env new a b ↔ IsApartAt env old a b
apart-keeps env old new a b keeps is = (
  λ h. subst (λ c. IsTrue b.required × IsNothing (and_of (member_of env b.key a) c)) (keeps.conditions b.question is) h,
  λ h. subst (λ c. IsTrue b.required × IsNothing (and_of (member_of env b.key a) c)) (sym (keeps.conditions b.question is)) h,
)

pub item-All : {X : Type 0} (P : X → Type 0) (xs : List X) (i : ℕ) (x : X) → i < length xs → x ≡ get_or xs i x → All P xs → P x
item-All P xs i x lt is all = All-contains P xs x all (subst (Contains xs) (sym is) (Contains-get_or xs i x lt))

pub one-by-one : (P : ℕ → Type 0) (atoms : List ℕ) (i : ℕ) → i < length atoms → (playing : List ℕ) → AreInPlay P (take i atoms) playing → (out : Bool) → IsTrue out ↔ P (get_or atoms i 0)
    → AreInPlay P (take (i + 1) atoms) (if out then playing else (playing ++ get_or atoms i 0 ∷ []))
one-by-one P atoms i lt playing are true e = one-out P atoms i lt playing are (e.0 refl)
one-by-one P atoms i lt playing are false e = one-playing P atoms i lt playing are (λ p. false≢true (e.1 p))
