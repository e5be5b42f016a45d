-- Details of pairs are the mappings of one atom that fit none of others.
use Rattle.std.proofs.Common.{◌≡◌, ◌≢◌, ◌<◌, ◌+◌, ◌↔◌, ◌⊎◌, ◌∙◌, ℕ, zero, suc, Bool, true, false, not, List, [], ◌∷◌, Option, Some, None, All, Any, IsTrue, if◌then◌else◌, inl, inr, ap, arith, filter, get_or, length, refl, subst, sym}
use Rattle.std.specs.Prelude.{option_to_list}
use Rattle.std.specs.List.{AllZip, list_any}
use Rattle.std.proofs.lemmas.Bool.{false≢true, or_parts}
use Rattle.std.proofs.lemmas.List.Elements.{All-cons, All-head, All-nil, All-tail}
use Rattle.std.proofs.lemmas.List.Folds.{Any-from_list_any, list_any-from_Any}
use Rattle.std.specs.Cmp.Lexicographic.{bytes_decides}
use Rattle.bal_base.specs.declared.shape.Shape.{Shape, Nil, Bool as BoolShape, Int, Str, List', Mapping', Error', Function, Future', items-the_row-Fields-items-2 as fields_in}
use Rattle.bal_base.specs.declared.text.Text.{Text}
use Rattle.operations.specs.Kinds.{IsErrorOf}
use Rattle.operations.specs.Structures.{IsDetailOf}
use Rattle.type_model.specs.declared.atoms.AtomDef.{AtomDef}
use Rattle.type_model.specs.declared.atoms.AtomDef.TheVariants.{Error as ErrorAtom, Mapping as MappingAtom}
use Rattle.type_model.specs.declared.basic.BasicSet.{BasicSet}
use Rattle.type_model.specs.declared.basic.BasicSet.TheVariants as set
use Rattle.type_model.specs.declared.basic.SemType.{SemType, Basic, Atom, Or', And', Not'}
use Rattle.type_model.specs.Membership.{Fits, In}
use Rattle.type_model.specs.Places.{HasKey}
use Rattle.type_model.proofs.Laws.{In-Atom}
use Rattle.pair_questions.specs.declared.pair.Pair.{Pair}
use Rattle.pair_questions.specs.inner.Strings.{text_of_set, texts_of, type_has}
use Rattle.pair_questions.specs.Pairs.{pair_of, pairs_of}
use Rattle.pair_questions.proofs.KeyTexts.{IsApart, among-or-apart, type-other, type-so}
use Rattle.detail_questions.specs.Details.{is_open, no_text}
use Rattle.detail_questions.specs.inner.Cells.{AnyBelow, IsLackingAt, IsTable, IsValueAt, ValuesBelow, always_lacks, is_only, is_required, is_that_text, may_lack, only_text}
use Rattle.detail_questions.specs.inner.Group.{IsDetailType, IsLack}
use Rattle.detail_questions.specs.inner.Names.{with_keys}
use Rattle.detail_questions.proofs.Groups.{New, detail-shapes, error-there}
use Rattle.detail_questions.proofs.Named.{names-apart}
use Rattle.detail_questions.proofs.TableAtoms.{HasCell, HasName, IsMappingOf, table-fits}

abbrev Members : Type 0
Members = List (Text × Shape)

-- ---- keys that are written as a single string

some-none : {X : Type 0} (x : X) → ¬ (None ≡ Some x)
some-none x e = let q : ⊥ = cc in q

set-only : (b : BasicSet) (u x : Text) → text_of_set b ≡ Some u → (env : List AtomDef) → In env (Str x) (Basic b) ↔ (x ≡ u)
set-only (set.StringOne own) u x e env = let same : own ≡ u = cc in ((λ i. i ∙ same), (λ i. i ∙ sym same))
set-only b u x e env = absurd (some-none u e)

only-in : (env : List AtomDef) (t : SemType) (u x : Text) → only_text t ≡ Some u → In env (Str x) t ↔ (x ≡ u)
only-in env (Basic b) u x e = set-only b u x e env
only-in env (Atom n) u x e = absurd (some-none u e)
only-in env (Or' _ s _ t) u x e = absurd (some-none u e)
only-in env (And' _ s _ t) u x e = absurd (some-none u e)
only-in env (Not' _ t) u x e = absurd (some-none u e)

only-texts : (t : SemType) (u : Text) → only_text t ≡ Some u → texts_of t ≡ u ∷ []
only-texts (Basic b) u e = ap option_to_list e
only-texts (Atom n) u e = absurd (some-none u e)
only-texts (Or' _ s _ t) u e = absurd (some-none u e)
only-texts (And' _ s _ t) u e = absurd (some-none u e)
only-texts (Not' _ t) u e = absurd (some-none u e)

-- a key is written so, or not
only-or-open : (o : Option Text) → ((u : Text) × (o ≡ Some u)) ⊎ (no_text o ≡ true)
only-or-open (Some u) = inl (u, refl)
only-or-open None = inr refl

open-none : (o : Option Text) (u : Text) → no_text o ≡ true → o ≡ Some u → ⊥
open-none (Some v) u e is = false≢true e
open-none None u e is = some-none u is

module _ (env : List AtomDef) where
  -- ---- the first half: each member is of some pair

  abbrev OfPair : Text × Shape → SemType × SemType → Type 0
  OfPair m p = In env (Str m.0) p.0 × In env m.1 p.1

  of-pairs : (m : Text × Shape) (ps : List Pair) → IsValueAt ps env (Some m.0) m.1 → Any (OfPair m) (pairs_of ps)
  of-pairs m [] (k, p, lt, is, h) = absurd (omega (arith, lt))
  of-pairs m (q ∷ ps) (zero, p, lt, is, h) = (zero, pair_of p, omega arith, ap pair_of is, ((type-so env m.0 p.key.now).0 h.0, h.1))
  of-pairs m (q ∷ ps) (suc k, p, lt, is, h) = let (i, r, l, e, o) = of-pairs m ps (k, p, omega (arith, lt), is, h) in (suc i, r, omega (arith, l), e, o)

  pairs-of : (m : Text × Shape) (ps : List Pair) → Any (OfPair m) (pairs_of ps) → IsValueAt ps env (Some m.0) m.1
  pairs-of m [] (k, r, lt, is, h) = absurd (omega (arith, lt))
  pairs-of m (q ∷ ps) (zero, r, lt, is, h) = let own = subst (OfPair m) (sym is) h in (zero, q, omega arith, refl, ((type-so env m.0 q.key.now).1 own.0, own.1))
  pairs-of m (q ∷ ps) (suc k, r, lt, is, h) = let (i, p, l, e, o) = pairs-of m ps (k, r, omega (arith, lt), is, h) in (suc i, p, omega (arith, l), e, o)

  -- ---- the second half: each pair has a key there

  abbrev HasKeyOf : Members → SemType → Type 0
  HasKeyOf members key = Any (λ (m : Text × Shape). In env (Str m.0) key) members

  abbrev EachThere : Members → List Pair → Type 0
  EachThere members ps = All (λ (p : Pair). HasKeyOf members p.key.now) ps

  -- the same of pairs as needs have them
  to-pairs : (members : Members) (ps : List Pair) → EachThere members ps → All (λ (p : SemType × SemType). HasKeyOf members p.0) (pairs_of ps)
  to-pairs members [] h = All-nil (λ (p : SemType × SemType). HasKeyOf members p.0)
  to-pairs members (q ∷ ps) h =
      All-cons (λ (p : SemType × SemType). HasKeyOf members p.0) (pair_of q) (pairs_of ps) (All-head (λ (p : Pair). HasKeyOf members p.key.now) q ps h)
      (to-pairs members ps (All-tail (λ (p : Pair). HasKeyOf members p.key.now) q ps h))

  from-pairs : (members : Members) (ps : List Pair) → All (λ (p : SemType × SemType). HasKeyOf members p.0) (pairs_of ps) → EachThere members ps
  from-pairs members [] h = All-nil (λ (p : Pair). HasKeyOf members p.key.now)
  from-pairs members (q ∷ ps) h =
      All-cons (λ (p : Pair). HasKeyOf members p.key.now) q ps (All-head (λ (p : SemType × SemType). HasKeyOf members p.0) (pair_of q) (pairs_of ps) h)
      (from-pairs members ps (All-tail (λ (p : SemType × SemType). HasKeyOf members p.0) (pair_of q) (pairs_of ps) h))

  -- a key that is written as a single string is there, or isn't
  key-there : (members : Members) (key : SemType) (u : Text) → only_text key ≡ Some u → HasKey members u → HasKeyOf members key
  key-there members key u e (k, m, lt, is, same) = (k, m, lt, is, (only-in env key u m.0 e).1 same)

  there-key : (members : Members) (key : SemType) (u : Text) → only_text key ≡ Some u → HasKeyOf members key → HasKey members u
  there-key members key u e (k, m, lt, is, i) = (k, m, lt, is, (only-in env key u m.0 e).0 i)

  -- ---- pairs with open keys, and the others

  abbrev opens : List Pair → List Pair
  opens ps = filter (λ (p : Pair). is_open p.key.now) ps

  all-opens : (P : Pair → Type 0) (ps : List Pair) → All P ps → All P (opens ps)
  all-opens P [] h = All-nil P
  all-opens P (q ∷ ps) h = by (is_open q.key.now) (all-opens P ps (All-tail P q ps h))
    where
      by : (b : Bool) → All P (opens ps) → All P (if b then q ∷ opens ps else opens ps)
      by true rest = All-cons P q (opens ps) (All-head P q ps h) rest
      by false rest = rest

  abbrev ClosedThere : Members → List Pair → Type 0
  ClosedThere members ps = All (λ (p : Pair). (u : Text) → only_text p.key.now ≡ Some u → HasKey members u) ps

  from-opens : (members : Members) (ps : List Pair) → EachThere members (opens ps) → ClosedThere members ps → EachThere members ps
  from-opens members [] h closed = All-nil (λ (p : Pair). HasKeyOf members p.key.now)
  from-opens members (q ∷ ps) h closed =
      All-cons (λ (p : Pair). HasKeyOf members p.key.now) q ps (own (only-or-open (only_text q.key.now))) (from-opens members ps (rest (is_open q.key.now) h) (All-tail (λ (p : Pair). (u : Text) → only_text p.key.now ≡ Some u → HasKey members u) q ps closed))
    where
      rest : (b : Bool) → EachThere members (if b then q ∷ opens ps else opens ps) → EachThere members (opens ps)
      rest true k = All-tail (λ (p : Pair). HasKeyOf members p.key.now) q (opens ps) k
      rest false k = k

      own : ((u : Text) × (only_text q.key.now ≡ Some u)) ⊎ (is_open q.key.now ≡ true) → HasKeyOf members q.key.now
      own (inl (u, e)) = key-there members q.key.now u e (All-head (λ (p : Pair). (v : Text) → only_text p.key.now ≡ Some v → HasKey members v) q ps closed u e)
      own (inr e) = All-head (λ (p : Pair). HasKeyOf members p.key.now) q (opens ps) (subst (λ (b : Bool). EachThere members (if b then q ∷ opens ps else opens ps)) e h)

  -- ---- names that have to be there

  is-that : (o : Option Text) (u name : Text) → o ≡ Some u → u ≡ name → is_that_text o name ≡ true
  is-that o u name e same = subst (λ (p : Option Text). is_that_text p name ≡ true) (sym e) ((bytes_decides u name).1 same)

  that-is : (o : Option Text) (name : Text) → is_that_text o name ≡ true → o ≡ Some name
  that-is (Some u) name e = ap (λ (t : Text). Some t) ((bytes_decides u name).0 e)
  that-is None name e = absurd (false≢true e)

  not-lacked : (b : Bool) → b ≡ true → ¬ (IsTrue (not b))
  not-lacked true e n = false≢true n
  not-lacked false e n = false≢true e

  -- a name among those that are noted
  noted : (ps : List Pair) (k : ℕ) (p : Pair) → k < length ps → (u : Text) → only_text (get_or ps k p).key.now ≡ Some u → Any (λ (s : Text). s ≡ u) (with_keys ps)
  noted ps k p lt u e = by (among-or-apart (with_keys ps) u)
    where
      by : Any (λ (s : Text). s ≡ u) (with_keys ps) ⊎ IsApart u (with_keys ps) → Any (λ (s : Text). s ≡ u) (with_keys ps)
      by (inl h) = h
      by (inr apart) =
          let own : IsApart u (u ∷ []) = subst (IsApart u) (only-texts (get_or ps k p).key.now u e) (names-apart ps u apart k p lt) in
          absurd (All-head (λ (s : Text). s ≢ u) u [] own refl)

  own-there : {X : Type 0} (xs : List X) (i : ℕ) (d : X) → i < length xs → get_or xs i (get_or xs i d) ≡ get_or xs i d
  own-there [] i d lt = absurd (omega (arith, lt))
  own-there (x ∷ xs) zero d lt = refl
  own-there (x ∷ xs) (suc i) d lt = own-there xs i d (omega (arith, lt))

  abbrev NamesThere : Members → List Pair → Type 0
  NamesThere members ps = All (HasName (may_lack ps) members) (with_keys ps)

  names-to-closed : (members : Members) (ps : List Pair) → NamesThere members ps → ClosedThere members ps
  names-to-closed members ps there k p lt u e = by (noted ps k p lt u e)
    where
      required : is_required ps u ≡ true
      required = list_any-from_Any (λ (q : Pair). is_only q.key.now u) ps (k, get_or ps k p, lt, own-there ps k p lt, is-that (only_text (get_or ps k p).key.now) u u e refl)

      of-name : HasName (may_lack ps) members u → HasKey members u
      of-name (inl lacked) = absurd (not-lacked (is_required ps u) required lacked)
      of-name (inr h) = h

      by : Any (λ (s : Text). s ≡ u) (with_keys ps) → HasKey members u
      by (i, s, l, is, same) = of-name (subst (HasName (may_lack ps) members) (is ∙ same) (there i s l))

  required-there : (members : Members) (ps : List Pair) → ClosedThere members ps → (name : Text) → is_required ps name ≡ true → HasKey members name
  required-there members ps closed name e =
      let (k, p, l, is, only) = Any-from_list_any (λ (q : Pair). is_only q.key.now name) ps e in
      let own = subst (λ (q : Pair). (u : Text) → only_text q.key.now ≡ Some u → HasKey members u) is (closed k p l) in own name (that-is (only_text p.key.now) name only)

  closed-to-names : (members : Members) (ps : List Pair) → ClosedThere members ps → NamesThere members ps
  closed-to-names members ps closed i n lt = by (is_required ps (get_or (with_keys ps) i n)) refl
    where
      by : (b : Bool) → is_required ps (get_or (with_keys ps) i n) ≡ b → HasName (may_lack ps) members (get_or (with_keys ps) i n)
      by false e = inl (ap not e)
      by true e = inr (required-there members ps closed (get_or (with_keys ps) i n) e)

  -- ---- the atoms

  abbrev Covers : List Text → Pair → Type 0
  Covers names p = (x : Text) → IsApart x names → IsApart x (texts_of p.key.now)

  all-covered : (ps : List Pair) → All (Covers (with_keys ps)) ps
  all-covered ps k p lt u apart = names-apart ps u apart k p lt

  value-on : (ps : List Pair) (x : Text) (y : Shape) (o q : Option Text) → All (λ (p : Pair). type_has p.key.now o ≡ type_has p.key.now q) ps → IsValueAt ps env o y → IsValueAt ps env q y
  value-on ps x y o q same (k, p, lt, is, (e, v)) = let own = subst (λ (r : Pair). type_has r.key.now o ≡ type_has r.key.now q) is (same k p lt) in (k, p, lt, is, (sym own ∙ e, v))

  values-alike : (ps : List Pair) (x : Text) → IsApart x (with_keys ps) → (y : Shape) → IsValueAt ps env None y ↔ IsValueAt ps env (Some x) y
  values-alike ps x apart y = (
    value-on ps x y None (Some x) (λ k p lt. sym (type-other x (get_or ps k p).key.now (names-apart ps x apart k p lt))),
    value-on ps x y (Some x) None (λ k p lt. type-other x (get_or ps k p).key.now (names-apart ps x apart k p lt)),
  )

  lacking-alike : (names : List Text) (p : Pair) → Covers names p → (x : Text) → IsApart x names → (y : Shape) → IsLackingAt p.key.now env None y ↔ IsLackingAt p.key.now env (Some x) y
  lacking-alike names p covers x apart y = let e = type-other x p.key.now (covers x apart) in ((λ n. e ∙ n), (λ n. sym e ∙ n))

  module _ (x : Shape) (Own : Members) (of_own : IsMappingOf x Own) where
    abbrev LacksAll : SemType → Type 0
    LacksAll key = All (λ (m : Text × Shape). type_has key (Some m.0) ≡ false) Own

    none-false : (key : SemType) (ms : Members) → list_any (λ (m : Text × Shape). type_has key (Some m.0)) ms ≡ false → All (λ (m : Text × Shape). type_has key (Some m.0) ≡ false) ms
    none-false key [] e = All-nil (λ (m : Text × Shape). type_has key (Some m.0) ≡ false)
    none-false key (m ∷ ms) e =
        let parts = or_parts (type_has key (Some m.0)) (list_any (λ (k : Text × Shape). type_has key (Some k.0)) ms) e in
        All-cons (λ (k : Text × Shape). type_has key (Some k.0) ≡ false) m ms parts.0 (none-false key ms parts.1)

    some-key : (key : SemType) → (¬ (LacksAll key)) → HasKeyOf Own key
    some-key key not_all = by (list_any (λ (m : Text × Shape). type_has key (Some m.0)) Own) refl
      where
        by : (b : Bool) → list_any (λ (m : Text × Shape). type_has key (Some m.0)) Own ≡ b → HasKeyOf Own key
        by true e = let (k, m, lt, is, h) = Any-from_list_any (λ (m : Text × Shape). type_has key (Some m.0)) Own e in (k, m, lt, is, (type-so env m.0 key).0 h)
        by false e = absurd (not_all (none-false key Own e))

    key-some : (key : SemType) → HasKeyOf Own key → ¬ (LacksAll key)
    key-some key (k, m, lt, is, i) all = false≢true (sym (subst (λ (r : Text × Shape). type_has key (Some r.0) ≡ false) is (all k m lt)) ∙ (type-so env m.0 key).1 i)

    always : (names : List Text) → All (HasName always_lacks Own) names
    always names k t lt = inl refl

    lack-fits : (names : List Text) (p : Pair) → Covers names p → (d : AtomDef) → IsLack names p d → Fits env x d ↔ LacksAll p.key.now
    lack-fits names p covers d is =
        let fits = table-fits (IsLackingAt p.key.now) AnyBelow always_lacks env names (lacking-alike names p covers) d is x Own of_own in
        ((λ h. (fits.0 h).1), (λ h. fits.1 (always names, h)))

    lacks-say : (names : List Text) (ps : List Pair) (ds : List AtomDef) → AllZip (IsLack names) ps ds → All (Covers names) ps → All (λ (d : AtomDef). ¬ (Fits env x d)) ds → EachThere Own ps
    lacks-say names [] [] z covers h = All-nil (λ (p : Pair). HasKeyOf Own p.key.now)
    lacks-say names [] (d ∷ ds) z covers h = absurd z
    lacks-say names (p ∷ ps) [] z covers h = absurd z
    lacks-say names (p ∷ ps) (d ∷ ds) z covers h =
        let fits = lack-fits names p (All-head (Covers names) p ps covers) d z.0 in
        let out : ¬ (Fits env x d) = All-head (λ (e : AtomDef). ¬ (Fits env x e)) d ds h in
        All-cons (λ (q : Pair). HasKeyOf Own q.key.now) p ps (some-key p.key.now (λ all. out (fits.1 all)))
        (lacks-say names ps ds z.1 (All-tail (Covers names) p ps covers) (All-tail (λ (e : AtomDef). ¬ (Fits env x e)) d ds h))

    say-lacks : (names : List Text) (ps : List Pair) (ds : List AtomDef) → AllZip (IsLack names) ps ds → All (Covers names) ps → EachThere Own ps → All (λ (d : AtomDef). ¬ (Fits env x d)) ds
    say-lacks names [] [] z covers h = All-nil (λ (d : AtomDef). ¬ (Fits env x d))
    say-lacks names [] (d ∷ ds) z covers h = absurd z
    say-lacks names (p ∷ ps) [] z covers h = absurd z
    say-lacks names (p ∷ ps) (d ∷ ds) z covers h =
        let fits = lack-fits names p (All-head (Covers names) p ps covers) d z.0 in
        let there = All-head (λ (q : Pair). HasKeyOf Own q.key.now) p ps h in
        All-cons (λ (e : AtomDef). ¬ (Fits env x e)) d ds (λ k. key-some p.key.now there (fits.0 k))
        (say-lacks names ps ds z.1 (All-tail (Covers names) p ps covers) (All-tail (λ (q : Pair). HasKeyOf Own q.key.now) p ps h))

    -- ---- both halves

    module _ (ps : List Pair) (details : AtomDef) (lacking : List AtomDef) (of_details : IsTable (IsValueAt ps) (ValuesBelow ps) (may_lack ps) (with_keys ps) details) (of_lacking : AllZip (IsLack (with_keys ps)) (opens ps) lacking) where
      abbrev AllIn : Type 0
      AllIn = Fits env x details × All (λ (d : AtomDef). ¬ (Fits env x d)) lacking

      covered : All (Covers (with_keys ps)) (opens ps)
      covered = all-opens (Covers (with_keys ps)) ps (all-covered ps)

      details-fit : Fits env x details ↔ (NamesThere Own ps × All (HasCell (IsValueAt ps) env) Own)
      details-fit = table-fits (IsValueAt ps) (ValuesBelow ps) (may_lack ps) env (with_keys ps) (values-alike ps) details of_details x Own of_own

      pub are-details : AllIn ↔ IsDetailOf env (pairs_of ps) Own
      are-details = (
        (λ h.
            let fits = details-fit.0 h.0 in
            let open_there = lacks-say (with_keys ps) (opens ps) lacking of_lacking covered h.1 in
            ((λ k m lt. of-pairs (get_or Own k m) ps (fits.1 k m lt)), to-pairs Own ps (from-opens Own ps open_there (names-to-closed Own ps fits.0)))),
        (λ h.
            let there = from-pairs Own ps h.1 in
            let closed : ClosedThere Own ps = λ k p lt u e. there-key Own (get_or ps k p).key.now u e (there k p lt) in (
              details-fit.1 (closed-to-names Own ps closed, (λ k m lt. pairs-of (get_or Own k m) ps (h.0 k m lt))),
              say-lacks (with_keys ps) (opens ps) lacking of_lacking covered (all-opens (λ (p : Pair). HasKeyOf Own p.key.now) ps there),
            )),
      )

-- ---- errors with such details

module _ (old : List AtomDef) (ps : List Pair) (details : AtomDef) (lacking : List AtomDef) (detail : SemType) (of_details : IsTable (IsValueAt ps) (ValuesBelow ps) (may_lack ps) (with_keys ps) details)
    (of_lacking : AllZip (IsLack (with_keys ps)) (filter (λ (p : Pair). is_open p.key.now) ps) lacking) (of_detail : IsDetailType (length old) (length lacking) detail) where
  abbrev Env : List AtomDef
  Env = New old details lacking detail

  abbrev HasDetail : Shape → Type 0
  HasDetail x = IsErrorOf (IsDetailOf Env (pairs_of ps)) x

  -- whatever else isn't a mapping is no detail
  no-detail : (x : Shape) → (Fits Env x details → ⊥) → ¬ (In Env x detail)
  no-detail x n i = n ((detail-shapes old details lacking detail of_detail x).0 i).0

  no-table : (x : Shape) → ((fields : _) (rest : _) → Fits Env x (MappingAtom fields rest) → ⊥) → Fits Env x details → ⊥
  no-table x n h = by of_details
    where
      by : IsTable (IsValueAt ps) (ValuesBelow ps) (may_lack ps) (with_keys ps) details → ⊥
      by (fields, rest, zipped, of_rest, is) = n fields (Some rest) (subst (Fits Env x) is h)

  of-errors : (x : Shape) → Fits Env x (ErrorAtom detail) ↔ HasDetail x
  of-errors (Error' _ (Mapping' mark k row)) =
      let shapes = detail-shapes old details lacking detail of_detail (Mapping' mark k row) in
      let are = are-details Env (Mapping' mark k row) (fields_in _ row) refl ps details lacking of_details of_lacking in
      ((λ h. are.0 (shapes.0 h)), (λ h. shapes.1 (are.1 h)))
  of-errors (Error' _ Nil) = ((λ h. no-detail Nil (no-table Nil (λ f r k. k)) h), (λ h. absurd h))
  of-errors (Error' _ (BoolShape b)) = ((λ h. no-detail (BoolShape b) (no-table (BoolShape b) (λ f r k. k)) h), (λ h. absurd h))
  of-errors (Error' _ (Int i)) = ((λ h. no-detail (Int i) (no-table (Int i) (λ f r k. k)) h), (λ h. absurd h))
  of-errors (Error' _ (Str t)) = ((λ h. no-detail (Str t) (no-table (Str t) (λ f r k. k)) h), (λ h. absurd h))
  of-errors (Error' _ (List' mark k items)) = ((λ h. no-detail (List' mark k items) (no-table (List' mark k items) (λ f r k. k)) h), (λ h. absurd h))
  of-errors (Error' _ (Error' a d)) = ((λ h. no-detail (Error' a d) (no-table (Error' a d) (λ f r k. k)) h), (λ h. absurd h))
  of-errors (Error' _ (Function isolated graph)) = ((λ h. no-detail (Function isolated graph) (no-table (Function isolated graph) (λ f r k. k)) h), (λ h. absurd h))
  of-errors (Error' _ (Future' k results)) = ((λ h. no-detail (Future' k results) (no-table (Future' k results) (λ f r k. k)) h), (λ h. absurd h))
  of-errors Nil = ((λ h. h), (λ h. h))
  of-errors (BoolShape b) = ((λ h. h), (λ h. h))
  of-errors (Int i) = ((λ h. h), (λ h. h))
  of-errors (Str t) = ((λ h. h), (λ h. h))
  of-errors (List' mark _ items) = ((λ h. h), (λ h. h))
  of-errors (Mapping' mark _ fields) = ((λ h. h), (λ h. h))
  of-errors (Function isolated graph) = ((λ h. h), (λ h. h))
  of-errors (Future' _ results) = ((λ h. h), (λ h. h))

  pub errors-in : (x : Shape) → In Env x (Atom (length old + (length lacking + 1))) ↔ HasDetail x
  errors-in x =
      let atom = In-Atom Env x (length old + (length lacking + 1)) (ErrorAtom detail) (error-there old details lacking detail) in
      let of = of-errors x in ((λ i. of.0 (atom.0 i)), (λ h. atom.1 (of.1 h)))
