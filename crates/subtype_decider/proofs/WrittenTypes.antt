-- Types that are written from diagrams hold where the diagrams do.
use Rattle.std.proofs.Common.{◌≡◌, ◌≢◌, ◌⊎◌, ⊎_elim, inl, inr, ℕ, ◌+◌, ◌-◌, ◌<◌, ◌≤◌, ◌==◌, List, length, get_or, Bool, true, false, not, ◌&&◌, ◌||◌, if◌then◌else◌, Option, Some, None, slice_get, refl, sym, subst, ◌∙◌, ap, arith}
use Rattle.std.proofs.Math.Bool.{or-false}
use Rattle.std.proofs.lemmas.Option.{slice_get-get_or}
use Rattle.std.proofs.lemmas.Bool.{false≢true, eqb-true, ne_eqb, false_from_ne_true, cases_eq}
use Rattle.bal_base.specs.declared.shape.Shape.{Shape, Nil, Bool as BoolShape, Int, Str, List', Mapping', Error', Function, Future'}
use Rattle.bal_base.specs.Valid.{IsValid}
use Rattle.type_model.specs.declared.basic.BasicSet.{BasicSet}
use Rattle.type_model.specs.declared.basic.SemType.{SemType, Basic}
use Rattle.type_model.specs.declared.atoms.AtomDef.{AtomDef}
use Rattle.type_model.specs.Membership.{In}
use Rattle.type_diagrams.specs.declared.kind.Kind.{Kind}
use Rattle.type_diagrams.specs.declared.kind.Kind.TheVariants.{List as Lists, Mapping as Mappings, Error as Errors, Function as Functions, Future as Futures}
use Rattle.type_diagrams.specs.declared.node.Node.{Node}
use Rattle.type_diagrams.specs.Kinds.{IsSimple, IsOfKind, IsMarked, Says, the_mark}
use Rattle.type_diagrams.specs.Trees.{By, eval}
use Rattle.type_diagrams.specs.Conditions.{Condition, AreOne, LooksAtKinds, IsLiteralOf, truth, has_simple, has_kind, kind_place, kind_of_def, is_def_of, condition_of}
use Rattle.type_diagrams.specs.Tables.{AreNodes, IsBelow, DependBelow, tree_of}
use Rattle.type_diagrams.specs.Decisions.{IsNumber, value_of}
use Rattle.type_diagrams.specs.Whole.{IsMetWhere}
use Rattle.type_diagrams.specs.Written.{simple_alone}
use Rattle.type_diagrams.proofs.Combined.{by_kinds}
use Rattle.type_diagrams.proofs.Meeting.{In-condition}
use Rattle.type_diagrams.proofs.Splits.{node_at-read, tree}
use Rattle.subtype_decider.specs.Writing.{AddsKind, IsBoth, IsDecisionType, IsEither, IsKindType, IsLiteralType, NeedsAtom, PassesOver, all_of, assigns, marked_of}

-- ---- decisions

-- what a node comes to
abbrev pub IsNode : List Node → ℕ → ℕ → ℕ → ℕ → Type 0
IsNode nodes n on y z = tree_of nodes n ≡ By on (tree_of nodes y) (tree_of nodes z)

-- the atoms on which nodes decide are below each bound of all nodes
abbrev pub IsNamed : List Node → ℕ → Type 0
IsNamed nodes on = (n : ℕ) → DependBelow n nodes → IsBelow n on

-- the node that is read at the place of a number
pub read : (nodes : List Node) (n : ℕ) (d : Node) → AreNodes nodes → 1 < n → IsNumber nodes n → IsNode nodes n (get_or nodes (n - 2) d).on (get_or nodes (n - 2) d).yes (get_or nodes (n - 2) d).no × IsNamed nodes (get_or nodes (n - 2) d).on
read nodes n d are big is = (
  tree nodes are n (get_or nodes (n - 2) d) (node_at-read nodes nodes n d big is refl),
  λ m depend. depend (n - 2) (get_or nodes (n - 2) d) (slice_get-get_or nodes (n - 2) d (omega (arith, big, is))),
)

module _ (kind : Kind) (nodes : List Node) (n on y z : ℕ) (node : IsNode nodes n on y z) (named : IsNamed nodes on) where
  -- an assignment as the type sees it
  abbrev seen : (BasicSet → Bool) → (ℕ → Bool) → ℕ → Bool
  seen basic atom = assigns (basic (marked_of kind)) atom

  value : (v : ℕ → Bool) → value_of nodes n v ≡ (if v on then value_of nodes y v else value_of nodes z v)
  value v = ap (λ t. eval t v) node

  pub holding-IsDecisionType : (t : SemType) → y ≡ 1 → z ≡ 0 → IsLiteralType kind on true t → IsDecisionType kind nodes n t
  holding-IsDecisionType t e f l = record {
    holds = λ basic atom h. let v = seen basic atom in l.holds basic atom ∙ form (v on) ∙ sym (value v ∙ (λ i. if v on then value_of nodes (e i) v else value_of nodes (f i) v));
    names = λ m d. l.names m (named m d);
  }
    where
      form : (b : Bool) → b ≡ (if b then true else false)
      form true = refl
      form false = refl

  pub failing-IsDecisionType : (t : SemType) → y ≡ 0 → z ≡ 1 → IsLiteralType kind on false t → IsDecisionType kind nodes n t
  failing-IsDecisionType t e f l = record {
    holds = λ basic atom h. let v = seen basic atom in l.holds basic atom ∙ form (v on) ∙ sym (value v ∙ (λ i. if v on then value_of nodes (e i) v else value_of nodes (f i) v));
    names = λ m d. l.names m (named m d);
  }
    where
      form : (b : Bool) → not b ≡ (if b then false else true)
      form true = refl
      form false = refl

  module _ (literal rest t : SemType) where
    pub true_or-IsDecisionType : y ≡ 1 → IsLiteralType kind on true literal → IsDecisionType kind nodes z rest → IsEither literal rest t → IsDecisionType kind nodes n t
    true_or-IsDecisionType e l r made = record {
      holds = λ basic atom h. let v = seen basic atom in
          made.holds basic atom h ∙ (λ i. l.holds basic atom i || r.holds basic atom h i) ∙ form (v on) (value_of nodes z v) ∙ sym (value v ∙ (λ i. if v on then value_of nodes (e i) v else value_of nodes z v));
      names = λ m d. made.names m (l.names m (named m d)) (r.names m d);
    }
      where
        form : (b r : Bool) → (b || r) ≡ (if b then true else r)
        form true r = refl
        form false r = refl

    pub or_true-IsDecisionType : z ≡ 1 → IsLiteralType kind on false literal → IsDecisionType kind nodes y rest → IsEither literal rest t → IsDecisionType kind nodes n t
    or_true-IsDecisionType e l r made = record {
      holds = λ basic atom h. let v = seen basic atom in
          made.holds basic atom h ∙ (λ i. l.holds basic atom i || r.holds basic atom h i) ∙ form (v on) (value_of nodes y v) ∙ sym (value v ∙ (λ i. if v on then value_of nodes y v else value_of nodes (e i) v));
      names = λ m d. made.names m (l.names m (named m d)) (r.names m d);
    }
      where
        form : (b r : Bool) → (not b || r) ≡ (if b then r else true)
        form true r = refl
        form false r = refl

    pub or_false-IsDecisionType : z ≡ 0 → IsLiteralType kind on true literal → IsDecisionType kind nodes y rest → IsBoth literal rest t → IsDecisionType kind nodes n t
    or_false-IsDecisionType e l r made = record {
      holds = λ basic atom h. let v = seen basic atom in
          made.holds basic atom ∙ (λ i. l.holds basic atom i && r.holds basic atom h i) ∙ form (v on) (value_of nodes y v) ∙ sym (value v ∙ (λ i. if v on then value_of nodes y v else value_of nodes (e i) v));
      names = λ m d. made.names m (l.names m (named m d)) (r.names m d);
    }
      where
        form : (b r : Bool) → (b && r) ≡ (if b then r else false)
        form true r = refl
        form false r = refl

    pub false_or-IsDecisionType : y ≡ 0 → IsLiteralType kind on false literal → IsDecisionType kind nodes z rest → IsBoth literal rest t → IsDecisionType kind nodes n t
    false_or-IsDecisionType e l r made = record {
      holds = λ basic atom h. let v = seen basic atom in
          made.holds basic atom ∙ (λ i. l.holds basic atom i && r.holds basic atom h i) ∙ form (v on) (value_of nodes z v) ∙ sym (value v ∙ (λ i. if v on then value_of nodes (e i) v else value_of nodes z v));
      names = λ m d. made.names m (l.names m (named m d)) (r.names m d);
    }
      where
        form : (b r : Bool) → (not b && r) ≡ (if b then false else r)
        form true r = refl
        form false r = refl

  pub both-IsDecisionType : (with_literal first holding without_literal last failing t : SemType) → IsLiteralType kind on true with_literal → IsDecisionType kind nodes y first → IsBoth with_literal first holding
      → IsLiteralType kind on false without_literal → IsDecisionType kind nodes z last → IsBoth without_literal last failing → IsEither holding failing t → IsDecisionType kind nodes n t
  both-IsDecisionType with_literal first holding without_literal last failing t l p q m r s made = record {
    holds = λ basic atom h. let v = seen basic atom in
        made.holds basic atom h
        ∙ (λ i. (q.holds basic atom ∙ (λ j. l.holds basic atom j && p.holds basic atom h j)) i || (s.holds basic atom ∙ (λ j. m.holds basic atom j && r.holds basic atom h j)) i)
        ∙ form (v on) (value_of nodes y v) (value_of nodes z v) ∙ sym (value v);
    names = λ k d. made.names k (q.names k (l.names k (named k d)) (p.names k d)) (s.names k (m.names k (named k d)) (r.names k d));
  }
    where
      form : (b c d : Bool) → ((b && c) || (not b && d)) ≡ (if b then c else d)
      form true c d = or-false c
      form false c d = refl

-- ---- whether an atom is needed

module _ (nodes : List Node) (n on y z : ℕ) (node : IsNode nodes n on y z) where
  pub atom-NeedsAtom : on ≢ the_mark → NeedsAtom nodes z → NeedsAtom nodes n
  atom-NeedsAtom ne none mark =
      let v = assigns mark (λ a. false) in
      ap (λ t. eval t v) node ∙ (λ i. if (if ne_eqb on the_mark ne i then mark else false) then value_of nodes y v else value_of nodes z v) ∙ none mark

  pub any-NeedsAtom : NeedsAtom nodes y → NeedsAtom nodes z → NeedsAtom nodes n
  any-NeedsAtom some none mark =
      let v = assigns mark (λ a. false) in
      ap (λ t. eval t v) node ∙ (λ i. if v on then some mark i else none mark i) ∙ same (v on)
    where
      same : (b : Bool) → (if b then false else false) ≡ false
      same true = refl
      same false = refl

-- ---- the shapes of a kind

has_all : (kind : Kind) (mark : Bool) → has_kind kind mark (all_of kind) ≡ true
has_all kind mark = by_kinds (λ k. has_kind k mark (all_of k) ≡ true) refl refl refl refl refl kind

module _ (kind : Kind) (nodes : List Node) (n : ℕ) where
  pub all-IsKindType : (b : BasicSet) → n ≡ 1 → b ≡ all_of kind → IsKindType kind nodes n (Basic b)
  all-IsKindType b e is = record {
    holds = λ mark atom. ap (has_kind kind mark) is ∙ has_all kind mark ∙ sym (ap (λ m. value_of nodes m (assigns (has_kind kind mark (marked_of kind)) atom)) e);
    elsewhere = λ basic atom h off pass. ap basic is ∙ off;
    names = λ m d. tt;
  }

  pub atom-IsKindType : (t : SemType) → NeedsAtom nodes n → IsDecisionType kind nodes n t → IsKindType kind nodes n t
  atom-IsKindType t needs d = record {
    holds = λ mark atom. d.holds (has_kind kind mark) atom refl;
    elsewhere = λ basic atom h off pass. d.holds basic atom h ∙ pass (basic (marked_of kind)) ∙ needs (basic (marked_of kind));
    names = d.names;
  }

  pub both-IsKindType : (b : BasicSet) (s t : SemType) → b ≡ all_of kind → IsDecisionType kind nodes n s → IsBoth (Basic b) s t → IsKindType kind nodes n t
  both-IsKindType b s t is d made = record {
    holds = λ mark atom. made.holds (has_kind kind mark) atom ∙ (λ i. (ap (has_kind kind mark) is ∙ has_all kind mark) i && d.holds (has_kind kind mark) atom refl i);
    elsewhere = λ basic atom h off pass. made.holds basic atom ∙ (λ i. (ap basic is ∙ off) i && truth basic atom s);
    names = λ m h. made.names m tt (d.names m h);
  }

  pub none-AddsKind : (t : SemType) → n ≡ 0 → AddsKind kind nodes n t t
  none-AddsKind t e = record {
    holds = λ mark atom. sym (or-false (truth (has_kind kind mark) atom t)) ∙ sym (ap (λ m. truth (has_kind kind mark) atom t || value_of nodes m (assigns (has_kind kind mark (marked_of kind)) atom)) e);
    elsewhere = λ basic atom h off pass. refl;
    names = λ m d h. h;
  }

  pub either-AddsKind : (old part new : SemType) → IsKindType kind nodes n part → IsEither old part new → AddsKind kind nodes n old new
  either-AddsKind old part new p made = record {
    holds = λ mark atom. made.holds (has_kind kind mark) atom refl ∙ (λ i. truth (has_kind kind mark) atom old || p.holds mark atom i);
    elsewhere = λ basic atom h off pass. made.holds basic atom h ∙ (λ i. truth basic atom old || p.elsewhere basic atom h off pass i) ∙ or-false (truth basic atom old);
    names = λ m d h. made.names m h (p.names m d);
  }

-- ---- all kinds

kind_at : ℕ → Kind
kind_at n = if n == 0 then Lists else if n == 1 then Mappings else if n == 2 then Errors else if n == 3 then Functions else Futures

same_kind : (j k : Kind) → kind_place j ≡ kind_place k → j ≡ k
unfolding kind_at
same_kind j k e = sym (back j) ∙ ap kind_at e ∙ back k
  where
    back : (i : Kind) → kind_at (kind_place i) ≡ i
    back = by_kinds (λ i. kind_at (kind_place i) ≡ i) refl refl refl refl refl

-- the shapes of another kind
other_all : (j k : Kind) (mark : Bool) → kind_place j ≢ kind_place k → has_kind j mark (all_of k) ≡ false
other_all j k mark ne =
    by_kinds (λ i. kind_place j ≢ kind_place i → has_kind j mark (all_of i) ≡ false) (λ n. ne_eqb (kind_place j) 0 n) (λ n. ne_eqb (kind_place j) 1 n) (λ n. ne_eqb (kind_place j) 2 n) (λ n. ne_eqb (kind_place j) 3 n) (λ n. ne_eqb (kind_place j) 4 n) k ne

simple_all : (k : Kind) (x : Shape) → has_simple x (all_of k) ≡ false
simple_all k x = by_kinds (λ i. has_simple x (all_of i) ≡ false) refl refl refl refl refl k

module _ (env : List AtomDef) where
  -- the atoms of a kind that hold
  abbrev atoms_of : Kind → (ℕ → Bool) → ℕ → Bool
  atoms_of k v a = is_def_of k (slice_get env a) && v a

  -- an assignment, as a type of the kind sees it
  abbrev seen_by : Kind → (ℕ → Bool) → ℕ → Bool
  seen_by k v = assigns (has_kind k (v the_mark) (marked_of k)) (atoms_of k v)

  other_def : (j k : Kind) (o : Option AtomDef) → kind_place j ≢ kind_place k → is_def_of k o ≡ true → is_def_of j o ≡ false
  other_def j k None ne e = refl
  other_def j k (Some d) ne e =
      let at = eqb-true (kind_place k) (kind_place (kind_of_def d)) e in
      ne_eqb (kind_place j) (kind_place (kind_of_def d)) (λ same. ne (same ∙ sym at))

  -- atoms of another kind are passed over
  passes : (c : Condition) (looks : LooksAtKinds env c) (nodes : List Node) (j k : Kind) (n : ℕ) (v : ℕ → Bool) → kind_place j ≢ kind_place k
      → ((w : ℕ → Bool) → value_of nodes n w ≡ c.by_kind k w) → PassesOver nodes (atoms_of j v) n
  passes c looks nodes j k n v ne value mark =
      value (assigns mark (atoms_of j v)) ∙ looks k (assigns mark (atoms_of j v)) (assigns mark (λ a. false)) agree ∙ sym (value (assigns mark (λ a. false)))
    where
      agree : (l : ℕ) → IsLiteralOf env k l → assigns mark (atoms_of j v) l ≡ assigns mark (λ a. false) l
      agree l is = by (l == the_mark) refl
        where
          by : (b : Bool) → l == the_mark ≡ b → (if b then mark else (is_def_of j (slice_get env l) && v l)) ≡ (if b then mark else false)
          by true e = refl
          by false e = λ i. other_def j k (slice_get env l) ne (is (λ same. false≢true (sym e ∙ (ap (λ m. m == the_mark) same)))) i && v l

  -- the type has the simple shapes, and those of the first kinds
  pub record HasKinds (c : Condition) (done : ℕ) (t : SemType) : Type 0 where
    pub simple : (x : Shape) → IsSimple x → IsValid x → truth (has_simple x) (λ a. false) t ≡ c.simple x
    pub by_kind : (k : Kind) (v : ℕ → Bool) → kind_place k < done → truth (has_kind k (v the_mark)) (atoms_of k v) t ≡ c.by_kind k (seen_by k v)
    pub to_do : (k : Kind) (v : ℕ → Bool) → done ≤ kind_place k → truth (has_kind k (v the_mark)) (atoms_of k v) t ≡ false

  pub no_kinds : (c : Condition) (t : SemType) → AreOne (condition_of env t) (simple_alone c) → HasKinds c 0 t
  no_kinds c t one = record {
    simple = one.simple;
    by_kind = λ k v lt. absurd (omega (arith, lt));
    to_do = λ k v le. one.by_kind k v;
  }

  pub one_kind : (c : Condition) (nodes : List Node) (kind : Kind) (done n : ℕ) (old new : SemType) → LooksAtKinds env c → ((w : ℕ → Bool) → value_of nodes n w ≡ c.by_kind kind w) → kind_place kind ≡ done
      → HasKinds c done old → AddsKind kind nodes n old new → HasKinds c (done + 1) new
  one_kind c nodes kind done n old new looks value place h adds = record {
    simple = λ x s v. adds.elsewhere (has_simple x) (λ a. false) refl (simple_all kind x) (λ mark. refl) ∙ h.simple x s v;
    by_kind = λ k v lt. ⊎_elim
        (λ (same : kind_place k ≡ kind_place kind). own k v (same_kind k kind same))
        (λ (ne : kind_place k ≢ kind_place kind). other k v ne ∙ h.by_kind k v (omega (arith, lt, ne, place)))
        (cases_eq (kind_place k) (kind_place kind));
    to_do = λ k v le. other k v (λ same. omega (arith, le, same, place)) ∙ h.to_do k v (omega (arith, le));
  }
    where
      other : (k : Kind) (v : ℕ → Bool) → kind_place k ≢ kind_place kind → truth (has_kind k (v the_mark)) (atoms_of k v) new ≡ truth (has_kind k (v the_mark)) (atoms_of k v) old
      other k v ne = adds.elsewhere (has_kind k (v the_mark)) (atoms_of k v) refl (other_all k kind (v the_mark) ne) (passes c looks nodes k kind n v ne value)

      own : (k : Kind) (v : ℕ → Bool) → k ≡ kind → truth (has_kind k (v the_mark)) (atoms_of k v) new ≡ c.by_kind k (seen_by k v)
      own k v same =
          subst (λ j. truth (has_kind j (v the_mark)) (atoms_of j v) new ≡ c.by_kind j (seen_by j v)) (sym same)
          (adds.holds (v the_mark) (atoms_of kind v) ∙ (λ i. h.to_do kind v (omega (arith, place)) i || value (seen_by kind v) i))

  -- ---- the shapes

  -- only lists and mappings are marked
  unmarked : (x : Shape) → IsMarked x → IsOfKind Lists x ⊎ IsOfKind Mappings x
  unmarked (List' mark _ items) m = inl refl
  unmarked (Mapping' mark _ fields) m = inr refl
  unmarked Nil m = absurd m
  unmarked (BoolShape b) m = absurd m
  unmarked (Int i) m = absurd m
  unmarked (Str t) m = absurd m
  unmarked (Error' _ detail) m = absurd m
  unmarked (Function isolated graph) m = absurd m
  unmarked (Future' _ results) m = absurd m

  module _ (x : Shape) (v : ℕ → Bool) (says : Says env x v) where
    off : ¬ IsMarked x → false ≡ v the_mark
    off none = sym (false_from_ne_true (v the_mark) (λ e. none ((says the_mark).0 e)))

    apart : (k : Kind) → IsOfKind k x → (Some Lists ≡ Some k → ⊥) → (Some Mappings ≡ Some k → ⊥) → false ≡ v the_mark
    apart k is l m = off (λ marked. ⊎_elim (λ (e : IsOfKind Lists x). l (sym e ∙ is)) (λ (e : IsOfKind Mappings x). m (sym e ∙ is)) (unmarked x marked))

    mark_seen : (k : Kind) → IsOfKind k x → has_kind k (v the_mark) (marked_of k) ≡ v the_mark
    mark_seen Lists is = refl
    mark_seen Mappings is = refl
    mark_seen Errors is = apart Errors is (λ e. cc) (λ e. cc)
    mark_seen Functions is = apart Functions is (λ e. cc) (λ e. cc)
    mark_seen Futures is = apart Futures is (λ e. cc) (λ e. cc)

    seen_as : (k : Kind) → IsOfKind k x → (l : ℕ) → IsLiteralOf env k l → seen_by k v l ≡ v l
    seen_as k is l literal = by (l == the_mark) refl
      where
        by : (b : Bool) → l == the_mark ≡ b → (if b then has_kind k (v the_mark) (marked_of k) else atoms_of k v l) ≡ v l
        by true e = mark_seen k is ∙ ap v (sym (eqb-true l the_mark e))
        by false e = λ i. literal (λ same. false≢true (sym e ∙ (ap (λ m. m == the_mark) same))) i && v l

  pub kinds-IsMetWhere : (c : Condition) (t : SemType) → length env ≤ the_mark → LooksAtKinds env c → HasKinds c 5 t → IsMetWhere env c (λ x. In env x t)
  kinds-IsMetWhere c t small looks h x valid = (
    λ m. (In-condition env small x t).1 (record {
      simple = λ is. h.simple x is valid ∙ m.simple is;
      by_kind = λ k v is says. same k v is says ∙ m.by_kind k v is says;
    }),
    λ i. let m = (In-condition env small x t).0 i in
        record {
          simple = λ is. sym (h.simple x is valid) ∙ m.simple is;
          by_kind = λ k v is says. sym (same k v is says) ∙ m.by_kind k v is says;
        },
  )
    where
      five : (k : Kind) → kind_place k < 5
      five = by_kinds (λ k. kind_place k < 5) (omega arith) (omega arith) (omega arith) (omega arith) (omega arith)

      same : (k : Kind) (v : ℕ → Bool) → IsOfKind k x → Says env x v → (condition_of env t).by_kind k v ≡ c.by_kind k v
      same k v is says = h.by_kind k v (five k) ∙ looks k (seen_by k v) v (seen_as x v says k is)
