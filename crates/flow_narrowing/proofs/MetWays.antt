-- Where two ways meet that began at one place.
use Rattle.std.proofs.Common.{◌≡◌, ◌<◌, ◌≤◌, ◌+◌, ◌||◌, ◌==◌, if◌then◌else◌, ℕ, zero, suc, Bool, true, false, List, [], ◌∷◌, ◌++◌, Option, Some, None, IsSomeAnd, IfSome, Result, Ok, Err, IfOk, OnOk, All, length, slice_get, take, ⊎_elim, inl, refl, sym, subst, ap, ◌∙◌, arith}
use Rattle.std.specs.Prelude.{⊤}
use Rattle.std.proofs.lemmas.Bool.{and_parts, eq-eqb, eqb-true}
use Rattle.std.proofs.lemmas.List.{take_all}
use Rattle.std.proofs.lemmas.Option.{get_or_from_slice_get, slice_get_within}
use Rattle.std.proofs.lemmas.List.Sums.{AllPass-from_list_all}
use Rattle.std.proofs.lemmas.List.Elements.{All-cons, All-get_or, All-head, All-more, All-nil, All-tail, All-weaker}
use Rattle.bal_base.specs.declared.stop.Memory.{Memory as NoMemory}
use Rattle.type_model.specs.declared.atoms.AtomDef.{AtomDef}
use Rattle.type_model.specs.declared.basic.Choice.{Choice}
use Rattle.type_model.specs.declared.basic.Ty.{Ty}
use Rattle.typed_tree.specs.SharedTypes.{Shared}
use Rattle.descriptors.specs.Described.{IsUnion, is_chosen, with_choice, with_choices}
use Rattle.type_model.specs.Defined.{TyBelow}
use Rattle.type_model.specs.SameType.{IsSameType}
use Rattle.type_model.proofs.SameTypes.{In-same}
use Rattle.flow_narrowing.specs.declared.changes.Change.{Change}
use Rattle.flow_narrowing.specs.declared.changes.End.{End}
use Rattle.flow_narrowing.specs.declared.flow.Joins.{Joins}
use Rattle.flow_narrowing.specs.declared.flow.Joins.TheVariants.{First, Second, Both}
use Rattle.flow_narrowing.specs.declared.flow.Variable.{Variable}
use Rattle.flow_narrowing.specs.Changes.{is_told, put, told, undone, with_narrowed}
use Rattle.flow_narrowing.specs.Flows.{AreJoined, AreSame, IfShared, IsJoin, IsJoined, NarrowedTo, UnionOf, VariableBelow, VariablesBelow, joins, now, or_declared}
use Rattle.flow_narrowing.specs.inner.Alike.{are_chosen, has_choices}
use Rattle.flow_narrowing.specs.Meetings.{ChangeBelow, ChangeJoined, TypeJoined, flow_at}
use Rattle.flow_narrowing.proofs.Undoing.{length-undone}

-- ---- one variable behind changes

some-same : {X : Type 0} (a b : X) → Some a ≡ Some b → a ≡ b
some-same a b e = cc

put-same : (vs : List Variable) (i : ℕ) (t : Option Shared) (v : Variable) → slice_get vs i ≡ Some v → slice_get (put vs i t) i ≡ Some (with_narrowed v t)
put-same [] i t v e = absurd (cc)
put-same (w ∷ vs) zero t v e = ap (λ x. Some (with_narrowed x t)) (some-same w v e)
put-same (w ∷ vs) (suc i) t v e = put-same vs i t v e

put-other : (vs : List Variable) (k i : ℕ) (t : Option Shared) (v : Variable) → (¬ k ≡ i) → slice_get vs i ≡ Some v → slice_get (put vs k t) i ≡ Some v
put-other [] k i t v n e = absurd (cc)
put-other (w ∷ vs) zero zero t v n e = absurd (n refl)
put-other (w ∷ vs) zero (suc i) t v n e = e
put-other (w ∷ vs) (suc k) zero t v n e = e
put-other (w ∷ vs) (suc k) (suc i) t v n e = put-other vs k i t v (λ q. n (ap suc q)) e

not-same : (a b : ℕ) → (a == b) ≡ false → ¬ a ≡ b
not-same a b e q = let is : (a == b) ≡ true = eq-eqb a b q in let no : true ≡ false = sym is ∙ e in absurd (cc)

put-by : (b : Bool) (vs : List Variable) (c : Change) (i : ℕ) (v : Variable) (t : Option Shared) → (c.index == i) ≡ b → slice_get vs i ≡ Some (with_narrowed v t)
    → slice_get (put vs c.index c.was) i ≡ Some (with_narrowed v (if b then c.was else t))
put-by true vs c i v t e h =
    let at : c.index ≡ i = eqb-true c.index i e in
    ap (λ k. slice_get (put vs k c.was) i) at ∙ put-same vs i c.was (with_narrowed v t) h
put-by false vs c i v t e h = put-other vs c.index i c.was (with_narrowed v t) (not-same c.index i e) h

at-undone : (cs : List Change) (vs : List Variable) (i : ℕ) (v : Variable) → slice_get vs i ≡ Some v → slice_get (undone cs vs) i ≡ Some (with_narrowed v (told cs i v.narrowed))
at-undone [] vs i v e = e
at-undone (c ∷ cs) vs i v e = put-by (c.index == i) (undone cs vs) c i v (told cs i v.narrowed) refl (at-undone cs vs i v e)

there : (vs : List Variable) (i : ℕ) → i < length vs → (v : Variable) × (slice_get vs i ≡ Some v)
there [] i lt = absurd (omega (arith, lt))
there (v ∷ vs) zero lt = (v, refl)
there (v ∷ vs) (suc i) lt = there vs i (omega (arith, lt))

-- ---- what changes tell

has-by : (P : Option Shared → Type 0) (b : Bool) (c : Change) (i : ℕ) (u : Option Shared) → (c.index == i) ≡ b → (c.index ≡ i → P c.was) → ((c.index == i) ≡ false → P u) → P (if b then c.was else u)
has-by P true c i u e h k = h (eqb-true c.index i e)
has-by P false c i u e h k = k e

told-has : (P : Option Shared → Type 0) (cs : List Change) (i : ℕ) (t : Option Shared) → All (λ c. c.index ≡ i → P c.was) cs → (is_told cs i ≡ false → P t) → P (told cs i t)
told-has P [] i t h k = k refl
told-has P (c ∷ cs) i t h k =
    has-by P (c.index == i) c i (told cs i t) refl (All-head (λ d. d.index ≡ i → P d.was) c cs h)
    (λ e. told-has P cs i t (All-tail (λ d. d.index ≡ i → P d.was) c cs h) (λ n. k (ap (λ b. b || is_told cs i) e ∙ n)))

neither : (a b : Bool) → (a || b) ≡ false → (a ≡ false) × (b ≡ false)
neither true b e = absurd (cc)
neither false b e = (refl, e)

told-not : (cs : List Change) (i : ℕ) (t : Option Shared) → is_told cs i ≡ false → told cs i t ≡ t
told-not [] i t n = refl
told-not (c ∷ cs) i t n =
    let no = neither (c.index == i) (is_told cs i) n in
    ap (λ b. if b then c.was else told cs i t) no.0 ∙ told-not cs i t no.1

abbrev pub Covers : List Change → List Change → Type 0
Covers js cs = All (λ c. is_told js c.index ≡ true) cs

not-here : (js : List Change) (c : Change) (i : ℕ) (b : Bool) → (c.index == i) ≡ b → is_told js c.index ≡ true → is_told js i ≡ false → b ≡ false
not-here js c i true e h n =
    let at : is_told js i ≡ true = subst (λ k. is_told js k ≡ true) (eqb-true c.index i e) h in sym at ∙ n
not-here js c i false e h n = refl

not-covered : (js cs : List Change) (i : ℕ) → Covers js cs → is_told js i ≡ false → is_told cs i ≡ false
not-covered js [] i h n = refl
not-covered js (c ∷ cs) i h n =
    ap (λ b. b || is_told cs i) (not-here js c i (c.index == i) refl (All-head (λ d. is_told js d.index ≡ true) c cs h) n)
    ∙ not-covered js cs i (All-tail (λ d. is_told js d.index ≡ true) c cs h) n

-- ---- the union of a type and itself

with_choices-there : (cs ds : List Choice) → All (λ d. is_chosen cs d ≡ true) ds → with_choices cs ds ≡ cs
with_choices-there cs [] h = refl
with_choices-there cs (d ∷ ds) h =
    let one : with_choice cs d ≡ cs = ap (λ b. if b then cs else cs ++ d ∷ []) (All-head (λ x. is_chosen cs x ≡ true) d ds h) in
    ap (λ x. with_choices x ds) one ∙ with_choices-there cs ds (All-tail (λ x. is_chosen cs x ≡ true) d ds h)

or-right : (b c : Bool) → c ≡ true → (b || c) ≡ true
or-right true c e = refl
or-right false c e = e

all-chosen : (xs : List Choice) → All (λ d. is_chosen xs d ≡ true) xs
all-chosen [] = All-nil (λ d. is_chosen [] d ≡ true)
all-chosen (x ∷ xs) =
    All-cons (λ d. is_chosen (x ∷ xs) d ≡ true) x xs (ap (λ b. b || is_chosen xs x) (eq-eqb x.atom x.atom refl))
    (All-weaker (λ d. is_chosen xs d ≡ true) (λ d. is_chosen (x ∷ xs) d ≡ true) (λ d h. or-right (x.atom == d.atom) (is_chosen xs d) h) xs (all-chosen xs))

with_choices-same : (xs : List Choice) → with_choices xs xs ≡ xs
with_choices-same xs = with_choices-there xs xs (all-chosen xs)

union-same : (env : List AtomDef) (t : Ty) → IsUnion t t env t
union-same env t = record {
  shapes = λ x valid. (λ h. inl h, ⊎_elim (λ h. h) (λ h. h));
  lists = sym (with_choices-same t.lists);
  maps = sym (with_choices-same t.maps);
}

-- the union of a type and one that is written alike and has no choices of its own
pub union-alike : (env : List AtomDef) (s t : Ty) → IsSameType s.sem t.sem → has_choices s t ≡ true → IsUnion s t env s
union-alike env s t same has =
    let both = and_parts (are_chosen s.lists t.lists) (are_chosen s.maps t.maps) has in record {
      shapes = λ x valid. (λ h. inl h, ⊎_elim (λ h. h) (λ h. (In-same env x s.sem t.sem same).1 h));
      lists = sym (with_choices-there s.lists t.lists (AllPass-from_list_all (is_chosen s.lists) t.lists both.0));
      maps = sym (with_choices-there s.maps t.maps (AllPass-from_list_all (is_chosen s.maps) t.maps both.1));
    }

-- a variable that neither way changed
unchanged : (env : List AtomDef) (o : Option Shared) (d : Shared) → UnionOf env (or_declared o d) (or_declared o d) o o o
unchanged env None d = refl
unchanged env (Some t) d = union-same env t.value

same-type : (o : Option Shared) → AreSame o o
same-type None = tt
same-type (Some t) = refl

-- ---- all variables

module _ (env : List AtomDef) (vs : List Variable) (first second : List Change) where
  -- what is known of one of them
  one-joined : (which : Joins) (v : Variable) (s t u : Option Shared) → NarrowedTo env which (with_narrowed v s) (with_narrowed v t) u
      → IsJoined env which (with_narrowed v s) (with_narrowed v t) (with_narrowed v u)
  one-joined which v s t u n = record {
    same = record { name = refl; slot = refl; declared = refl; fixed = refl; assigned = refl; captured = refl };
    narrowed = n;
  }

  pub are-joined : (which : Joins) (cs : List Change)
      → ((i : ℕ) (v : Variable) → slice_get vs i ≡ Some v
      → NarrowedTo env which (with_narrowed v (told first i v.narrowed)) (with_narrowed v (told second i v.narrowed)) (told cs i v.narrowed))
      → AreJoined env which (length (undone first vs)) (undone first vs) (undone second vs) (undone cs vs)
  are-joined which cs h = record {
    length = length-undone cs vs ∙ sym (length-undone first vs);
    each = λ i a b lt at_a at_b.
        let here = there vs i (omega (arith, lt, length-undone first vs)) in
        let v : Variable = here.0 in
        let is_a : with_narrowed v (told first i v.narrowed) ≡ a = some-same _ a (sym (at-undone first vs i v here.1) ∙ at_a) in
        let is_b : with_narrowed v (told second i v.narrowed) ≡ b = some-same _ b (sym (at-undone second vs i v here.1) ∙ at_b) in
        subst (λ o. IsSomeAnd o (IsJoined env which a b)) (sym (at-undone cs vs i v here.1))
        (subst (λ x. IsJoined env which x b (with_narrowed v (told cs i v.narrowed))) is_a
        (subst (λ y. IsJoined env which (with_narrowed v (told first i v.narrowed)) y (with_narrowed v (told cs i v.narrowed))) is_b
        (one-joined which v (told first i v.narrowed) (told second i v.narrowed) (told cs i v.narrowed) (h i v here.1))));
  }

  pub first-alone : AreJoined env First (length (undone first vs)) (undone first vs) (undone second vs) (undone first vs)
  first-alone = are-joined First first (λ i v e. same-type (told first i v.narrowed))

  pub second-alone : AreJoined env Second (length (undone first vs)) (undone first vs) (undone second vs) (undone second vs)
  second-alone = are-joined Second second (λ i v e. same-type (told second i v.narrowed))

  module _ (cs : List Change) (joined : All (ChangeJoined env vs first second) cs) (of_first : Covers cs first) (of_second : Covers cs second) where
    type-joined : (i : ℕ) (v : Variable) → slice_get vs i ≡ Some v → TypeJoined env first second i v (told cs i v.narrowed)
    type-joined i v e =
        told-has (TypeJoined env first second i v) cs i v.narrowed
        (All-weaker (ChangeJoined env vs first second) (λ c. c.index ≡ i → TypeJoined env first second i v c.was)
        (λ c h at. let here : slice_get vs i ≡ Some v = e in
        subst (λ o. IfSome o (λ w. TypeJoined env first second i w c.was)) here
        (subst (λ k. IfSome (slice_get vs k) (λ w. TypeJoined env first second k w c.was)) at h)) cs joined)
        (λ n. stays (told first i v.narrowed) (told second i v.narrowed)
        (told-not first i v.narrowed (not-covered cs first i of_first n)) (told-not second i v.narrowed (not-covered cs second i of_second n)))
      where
        stays : (s t : Option Shared) → s ≡ v.narrowed → t ≡ v.narrowed → UnionOf env (or_declared s v.declared) (or_declared t v.declared) s t v.narrowed
        stays s t f g =
            subst (λ s. UnionOf env (or_declared s v.declared) (or_declared t v.declared) s t v.narrowed) (sym f)
            (subst (λ t. UnionOf env (or_declared v.narrowed v.declared) (or_declared t v.declared) v.narrowed t v.narrowed) (sym g) (unchanged env v.narrowed v.declared))

    pub both-joined : AreJoined env Both (length (undone first vs)) (undone first vs) (undone second vs) (undone cs vs)
    both-joined = are-joined Both cs type-joined

-- ---- the flows to which two ends lead

reached-first : (a b : Bool) → joins a b ≡ First → a ≡ (a || b)
reached-first true b e = refl
reached-first false true e = absurd (cc)
reached-first false false e = refl

reached-second : (a b : Bool) → joins a b ≡ Second → b ≡ (a || b)
reached-second true true e = absurd (cc)
reached-second true false e = absurd (cc)
reached-second false b e = refl

reached-both : (a b : Bool) → joins a b ≡ Both → a ≡ (a || b)
reached-both true b e = refl
reached-both false true e = absurd (cc)
reached-both false false e = refl

joined-by : (env : List AtomDef) (which : Joins) (vs ws : List Variable) (first second : End) (reached : Bool) → joins first.reached second.reached ≡ which
    → AreJoined env which (length (undone first.changes.items vs)) (undone first.changes.items vs) (undone second.changes.items vs) ws
    → reached ≡ (first.reached || second.reached) → IsJoin env (flow_at vs first) (flow_at vs second) (record { variables = ws; reached = reached })
joined-by env which vs ws first second reached e j r = record {
  as_many = length-undone second.changes.items vs ∙ sym (length-undone first.changes.items vs);
  variables = subst (λ w. AreJoined env w (length (undone first.changes.items vs)) (undone first.changes.items vs) (undone second.changes.items vs) ws) (sym e) j;
  reached = r;
}

pub meets-first : (env : List AtomDef) (vs ws : List Variable) (first second : End) (reached : Bool) → joins first.reached second.reached ≡ First
    → ws ≡ undone first.changes.items vs → reached ≡ first.reached → IsJoin env (flow_at vs first) (flow_at vs second) (record { variables = ws; reached = reached })
meets-first env vs ws first second reached e is r =
    joined-by env First vs ws first second reached e
    (subst (AreJoined env First (length (undone first.changes.items vs)) (undone first.changes.items vs) (undone second.changes.items vs)) (sym is)
    (first-alone env vs first.changes.items second.changes.items))
    (r ∙ reached-first first.reached second.reached e)

pub meets-second : (env : List AtomDef) (vs ws : List Variable) (first second : End) (reached : Bool) → joins first.reached second.reached ≡ Second
    → ws ≡ undone second.changes.items vs → reached ≡ second.reached → IsJoin env (flow_at vs first) (flow_at vs second) (record { variables = ws; reached = reached })
meets-second env vs ws first second reached e is r =
    joined-by env Second vs ws first second reached e
    (subst (AreJoined env Second (length (undone first.changes.items vs)) (undone first.changes.items vs) (undone second.changes.items vs)) (sym is)
    (second-alone env vs first.changes.items second.changes.items))
    (r ∙ reached-second first.reached second.reached e)

pub meets-both : (env : List AtomDef) (vs ws : List Variable) (first second : End) (reached : Bool) (cs : List Change) → joins first.reached second.reached ≡ Both
    → All (ChangeJoined env vs first.changes.items second.changes.items) cs → Covers cs first.changes.items → Covers cs second.changes.items
    → ws ≡ undone cs vs → reached ≡ first.reached → IsJoin env (flow_at vs first) (flow_at vs second) (record { variables = ws; reached = reached })
meets-both env vs ws first second reached cs e joined of_first of_second is r =
    joined-by env Both vs ws first second reached e
    (subst (AreJoined env Both (length (undone first.changes.items vs)) (undone first.changes.items vs) (undone second.changes.items vs)) (sym is)
    (both-joined env vs first.changes.items second.changes.items cs joined of_first of_second))
    (r ∙ reached-both first.reached second.reached e)

pub on-both : {E : Type 0} (r : Result ⊤ E) (P Q R : Type 0) → (P → Q → R) → OnOk r P → OnOk r Q → OnOk r R
on-both (Ok u) P Q R f p q = f p q
on-both (Err e) P Q R f p q = tt

-- ---- what is told below

or_declared-below : (n : ℕ) (o : Option Shared) (d : Shared) → IfShared (TyBelow n) o → TyBelow n d.value → TyBelow n (or_declared o d)
or_declared-below n None d h k = k
or_declared-below n (Some t) d h k = h

pub now-below : (n : ℕ) (v : Variable) → VariableBelow n v → TyBelow n (now v)
now-below n v h = or_declared-below n v.narrowed v.declared h.narrowed h.declared

pub told-below : (n : ℕ) (cs : List Change) (vs : List Variable) (i : ℕ) (v : Variable) → VariablesBelow n (undone cs vs) → slice_get vs i ≡ Some v
    → TyBelow n (or_declared (told cs i v.narrowed) v.declared)
told-below n cs vs i v h e =
    let at : slice_get (undone cs vs) i ≡ Some (with_narrowed v (told cs i v.narrowed)) = at-undone cs vs i v e in
    let d : Variable = with_narrowed v (told cs i v.narrowed) in
    let inside : i < length (undone cs vs) = slice_get_within (undone cs vs) i d at in
    now-below n d (subst (VariableBelow n) (get_or_from_slice_get (undone cs vs) i d d at) (All-get_or (VariableBelow n) (undone cs vs) i d inside h))

-- ---- changes that are joined one after another

pub covers-more : (old new cs : List Change) (k : ℕ) (c : Change) → ((i : ℕ) → is_told old i ≡ true → is_told new i ≡ true) → is_told new c.index ≡ true
    → slice_get cs k ≡ Some c → Covers old (take k cs) → Covers new (take (k + 1) cs)
covers-more old new cs k c kept here e h =
    All-more (λ d. is_told new d.index ≡ true) cs k c (slice_get_within cs k c e)
    (All-weaker (λ d. is_told old d.index ≡ true) (λ d. is_told new d.index ≡ true) (λ d t. kept d.index t) (take k cs) h)
    (subst (λ d. is_told new d.index ≡ true) (sym (get_or_from_slice_get cs k c c e)) here)

pub covers-kept : (old new cs : List Change) → ((i : ℕ) → is_told old i ≡ true → is_told new i ≡ true) → Covers old cs → Covers new cs
covers-kept old new cs kept h = All-weaker (λ d. is_told old d.index ≡ true) (λ d. is_told new d.index ≡ true) (λ d t. kept d.index t) cs h

pub covers-all : (js cs : List Change) (k : ℕ) → length cs ≤ k → Covers js (take k cs) → Covers js cs
covers-all js cs k le h = subst (Covers js) (take_all k cs le) h

-- ---- the type of one variable

pub below-at : (n : ℕ) (cs ds : List Change) (vs : List Variable) (i : ℕ) (v : Variable) (x : Ty) (o : Option Shared) → VariablesBelow n (undone cs vs) → slice_get vs i ≡ Some v
    → ds ≡ cs → o ≡ told ds i v.narrowed → x ≡ or_declared o v.declared → TyBelow n x
below-at n cs ds vs i v x o h e f g is =
    subst (TyBelow n) (sym (is ∙ ap (λ p. or_declared p v.declared) (g ∙ ap (λ l. told l i v.narrowed) f))) (told-below n cs vs i v h e)

pub type-at : (env : List AtomDef) (vs : List Variable) (first second ds es : List Change) (i : ℕ) (v : Variable) (x y : Ty) (o p : Option Shared) (r : Result (Option Shared) NoMemory)
    → slice_get vs i ≡ Some v → ds ≡ first → es ≡ second → o ≡ told ds i v.narrowed → p ≡ told es i v.narrowed → x ≡ or_declared o v.declared → y ≡ or_declared p v.declared
    → IfOk r (UnionOf env x y o p) → IfOk r (λ u. IfSome (slice_get vs i) (λ w. TypeJoined env first second i w u))
type-at env vs first second ds es i v x y o p (Ok u) there d1 d2 e1 e2 is_x is_y h =
    let f1 : o ≡ told first i v.narrowed = e1 ∙ ap (λ l. told l i v.narrowed) d1 in
    let f2 : p ≡ told second i v.narrowed = e2 ∙ ap (λ l. told l i v.narrowed) d2 in
    let h1 : UnionOf env (or_declared o v.declared) y o p u = subst (λ x. UnionOf env x y o p u) is_x h in
    let h2 : UnionOf env (or_declared o v.declared) (or_declared p v.declared) o p u = subst (λ y. UnionOf env (or_declared o v.declared) y o p u) is_y h1 in
    let h3 : UnionOf env (or_declared (told first i v.narrowed) v.declared) (or_declared p v.declared) (told first i v.narrowed) p u =
    subst (λ o. UnionOf env (or_declared o v.declared) (or_declared p v.declared) o p u) f1 h2 in
    let h4 : TypeJoined env first second i v u =
    subst (λ p. UnionOf env (or_declared (told first i v.narrowed) v.declared) (or_declared p v.declared) (told first i v.narrowed) p u) f2 h3 in
    subst (λ s. IfSome s (λ w. TypeJoined env first second i w u)) (sym there) h4
type-at env vs first second ds es i v x y o p (Err stop) there d1 d2 e1 e2 is_x is_y h = tt

pub none-there : (P : Variable → Type 0) (o : Option Variable) → o ≡ None → IfSome o P
none-there P o e = subst (λ s. IfSome s P) (sym e) tt

-- ---- one step of a loop over changes

pub one-met : (env env2 env3 : List AtomDef) (vs : List Variable) (first second old new cs : List Change) (k : ℕ) (c : Change) → env2 ≡ env → env3 ≡ env2
    → All (ChangeJoined env2 vs first second) new → ((i : ℕ) → is_told old i ≡ true → is_told new i ≡ true) → is_told new c.index ≡ true → slice_get cs k ≡ Some c
    → Covers old (take k cs) → (env3 ≡ env) × All (ChangeJoined env vs first second) new × Covers new (take (k + 1) cs)
one-met env env2 env3 vs first second old new cs k c e f joined kept here at h =
    (f ∙ e, subst (λ m. All (ChangeJoined m vs first second) new) e joined, covers-more old new cs k c kept here at h)

-- ---- what is joined names atoms that are there

pub joined-below : (n : ℕ) (vs : List Variable) (first cs : List Change) → VariablesBelow n (undone first vs) → All (ChangeBelow n) cs → Covers cs first
    → VariablesBelow n (undone cs vs)
joined-below n vs first cs h below of_first = λ i d lt.
    let here = there vs i (omega (arith, lt, length-undone cs vs)) in
    let v : Variable = here.0 in
    let was : Variable = with_narrowed v (told first i v.narrowed) in
    let now : Variable = with_narrowed v (told cs i v.narrowed) in
    let at : slice_get (undone first vs) i ≡ Some was = at-undone first vs i v here.1 in
    let fine : VariableBelow n was =
    subst (VariableBelow n) (get_or_from_slice_get (undone first vs) i was was at)
    (All-get_or (VariableBelow n) (undone first vs) i was (slice_get_within (undone first vs) i was at) h) in
    let narrowed : IfShared (TyBelow n) (told cs i v.narrowed) =
    told-has (IfShared (TyBelow n)) cs i v.narrowed (All-weaker (ChangeBelow n) (λ c. c.index ≡ i → IfShared (TyBelow n) c.was) (λ c k at. k) cs below)
    (λ no. subst (IfShared (TyBelow n)) (told-not first i v.narrowed (not-covered cs first i of_first no)) fine.narrowed) in
    subst (VariableBelow n) (sym (get_or_from_slice_get (undone cs vs) i now d (at-undone cs vs i v here.1))) (record { declared = fine.declared; narrowed = narrowed })
