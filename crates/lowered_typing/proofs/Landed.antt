-- Code that has what is made for units lands well.
use Rattle.std.proofs.Common.{◌≡◌, ◌≢◌, ◌∙◌, ◌≤◌, ◌<◌, ◌+◌, ◌-◌, ◌++◌, ◌⊎◌, ℕ, zero, suc, List, [], ◌∷◌, length, Some, inl, inr, refl, sym, subst, ap, arith, replicate}
use Rattle.std.proofs.lemmas.Option.{slice_get_within}
use Rattle.std.specs.Prelude.{IsSomeAnd, slice_get}
use Rattle.operations.specs.declared.operation.Operation.{Operation}
use Rattle.operations.specs.declared.operation.Operation.TheVariants.{Tick}
use Rattle.typed_tree.specs.Units.{UnitBody}
use Rattle.stack_code.specs.declared.code.Code.{Code}
use Rattle.stack_code.specs.declared.code.Unit.{Unit as CodeUnit}
use Rattle.stack_code.specs.Commands.{Command, Do, GoTo, GoToIfNot, OpenTrap, CloseTrap, command_at}
use Rattle.stack_code.specs.Flow.{IsInTrap, LandsAt}
use Rattle.stack_code.specs.Places.{IsIn, Station, traps_at, traps_behind, traps_from, traps_then}
use Rattle.lower_model.specs.Laying.{Agrees, StandsFor}
use Rattle.lower_model.specs.Lowered.{IsSameOperation, same, test, cast}
use Rattle.lower_model.specs.Making.{Making, place_of, placed, unit_made, units_made, unmade}
use Rattle.lowered_typing.specs.Landing.{AllLandWell, CommandLands, LandsWell, UnitsLandWell}
use Rattle.lowered_typing.proofs.Naming.{many-wants}
use Rattle.lowered_typing.proofs.Nesting.{IsAhead, IsNested, Names, Traps, ahead-at, all-names-at, before-end, before-next, nested-at, traps_before, traps_past}
use Rattle.lowered_typing.proofs.Tidy.{Tidied, keeps-steps, long-news, none}
use Rattle.lowered_typing.proofs.Units.{unit-ends, unit-tidy, units-tidy, within}

same-tick : {op also : Operation} → IsSameOperation op also → op ≡ Tick → also ≡ Tick
same-tick same e = e
same-tick (test x) e = absurd (let bad : ⊥ = cc in bad)
same-tick (cast x) e = absurd (let bad : ⊥ = cc in bad)

pub get-behind : {X : Type 0} (xs ys : List X) (k : ℕ) → slice_get (xs ++ ys) (length xs + k) ≡ slice_get ys k
get-behind [] ys k = ap (slice_get ys) (let q : 0 + k ≡ k = omega arith in q)
get-behind (x ∷ xs) ys k = ap (slice_get (x ∷ (xs ++ ys))) (let q : length (x ∷ xs) + k ≡ suc (length xs + k) = omega arith in q) ∙ get-behind xs ys k

pub there-is : {X : Type 0} (xs : List X) (k : ℕ) → k < length xs → (x : X) × (slice_get xs k ≡ Some x)
there-is [] k lt = absurd (omega (arith, lt))
there-is (x ∷ xs) zero lt = (x, refl)
there-is (x ∷ xs) (suc k) lt = there-is xs k (omega (arith, lt))

pub some-same : {X : Type 0} (a b : X) → Some a ≡ Some b → a ≡ b
some-same a b e = cc

-- a unit in a code that has all that is made
module _ (code : Code) (m n whole : Making) (old wants : List Traps) (a : Tidied none none m n old wants [] []) (agrees : Agrees code (place_of whole) whole)
    (kept : (q : ℕ) (c : Command) → slice_get n.steps q ≡ Some c → slice_get whole.steps q ≡ Some c) (labels : (l : ℕ) → l < length n.labels → slice_get whole.labels l ≡ slice_get n.labels l)
    (inside : (l to : ℕ) → length m.labels ≤ l → slice_get n.labels l ≡ Some (Some to) → to < length n.steps) where
  abbrev first : ℕ
  first = length m.steps

  abbrev before : ℕ → Traps
  before k = traps_before first a.news [] k

  long : length n.steps ≡ first + length a.news
  long = long-news none none m n old wants [] [] a

  stands : (k : ℕ) (c : Command) → slice_get a.news k ≡ Some c → StandsFor code (place_of whole) (first + k) c
  stands k c e = agrees.steps (first + k) c (kept (first + k) c (ap (λ cs. slice_get cs (first + k)) a.steps ∙ get-behind m.steps a.news k ∙ e))

  -- a label that a command names has a place in the unit
  pub has-place : (k l : ℕ) → (length m.labels ≤ l) ⊎ none l → slice_get wants l ≡ Some (before k) → (to : ℕ) × (slice_get n.labels l ≡ Some (Some to)) × (l < length n.labels) × (to < length n.steps) × (length m.labels ≤ l)
  has-place k l (inr never) want = absurd never
  has-place k l (inl own) want = by (a.placed l own few)
    where
      few : l < length n.labels
      few = let w = slice_get_within wants l (before k) want in omega (arith, w, a.many)

      by : ((to : ℕ) × (slice_get n.labels l ≡ Some (Some to))) ⊎ none l → (to : ℕ) × (slice_get n.labels l ≡ Some (Some to)) × (l < length n.labels) × (to < length n.steps) × (length m.labels ≤ l)
      by (inr never) = absurd never
      by (inl (to, e)) = (to, e, few, inside l to own e, own)

  -- of each label that the k-th command names
  pub names-placed : (k : ℕ) (c : Command) → slice_get a.news k ≡ Some c → Names (λ l. (to : ℕ) × (slice_get n.labels l ≡ Some (Some to)) × (l < length n.labels) × (to < length n.steps) × (length m.labels ≤ l)) c
  names-placed k c e = by c (nested-at wants first a.news [] [] k c a.nested e) (all-names-at (λ l. (length m.labels ≤ l) ⊎ none l) a.news k c a.names e)
    where
      by : (c : Command) → IsNested wants c (before k) → Names (λ l. (length m.labels ≤ l) ⊎ none l) c → Names (λ l. (to : ℕ) × (slice_get n.labels l ≡ Some (Some to)) × (l < length n.labels) × (to < length n.steps) × (length m.labels ≤ l)) c
      by (Do op) nested own = tt
      by (GoTo l) nested own = has-place k l own nested
      by (GoToIfNot l) nested own = has-place k l own nested
      by (OpenTrap l) nested own = has-place k l own nested
      by CloseTrap nested own = tt

  -- ---- traps

  past : (p q : ℕ) (c : Command) (ts : Traps) → StandsFor code (place_of whole) p c → IsNested wants c ts → traps_behind q (command_at code p) ts ≡ Some (traps_past q c ts)
  past p q (Do op) ts (also, is, alike) nested = ap (λ o. traps_behind q o ts) is
  past p q (GoTo l) ts is nested = ap (λ o. traps_behind q o ts) is
  past p q (GoToIfNot l) ts is nested = ap (λ o. traps_behind q o ts) is
  past p q (OpenTrap l) ts is nested = ap (λ o. traps_behind q o ts) is
  past p q CloseTrap [] is nested = absurd nested
  past p q CloseTrap (t ∷ ts) is nested = ap (λ o. traps_behind q o (t ∷ ts)) is

  open-at : (k : ℕ) → k ≤ length a.news → traps_from code first k ≡ Some (before k)
  open-at zero le = refl
  open-at (suc k) le =
      let (c, e) = there-is a.news k (omega (arith, le)) in
      ap (traps_then (first + k) (command_at code (first + k))) (open-at k (omega (arith, le)))
      ∙ past (first + k) (first + k) c (before k) (stands k c e) (nested-at wants first a.news [] [] k c a.nested e)
      ∙ ap Some (sym (before-next first a.news [] k c e))

  -- ---- the unit

  module _ (u : CodeUnit) (begins : u.first ≡ first) (ends : u.end ≡ length n.steps) where
    traps-at : (k : ℕ) → k ≤ length a.news → traps_at code u (first + k) ≡ Some (before k)
    traps-at k le =
        ap (λ f. traps_from code f ((first + k) - f)) begins ∙ ap (traps_from code first) (let e : (first + k) - first ≡ k = omega arith in e) ∙ open-at k le

    ticks : (to : ℕ) → slice_get n.steps to ≡ Some (Do Tick) → command_at code to ≡ Some (Do Tick)
    ticks to e = by (agrees.steps to (Do Tick) (kept to (Do Tick) e))
      where
        by : StandsFor code (place_of whole) to (Do Tick) → command_at code to ≡ Some (Do Tick)
        by (also, is, alike) = is ∙ ap (λ op. Some (Do op)) (same-tick alike refl)

    lands : (station : Station) (k l : ℕ) → k < length a.news → (length m.labels ≤ l) ⊎ none l → slice_get wants l ≡ Some (before k) → IsAhead n (first + k) l → LandsAt code u station (first + k) (place_of whole l)
    lands station k l lt named want ahead =
        let (to, e, few, ends-behind, own) = has-place k l named want in
        subst (LandsAt code u station (first + k)) (sym (ap placed (labels l few ∙ e))) (so to (a.lands l to own e) ends-behind (ahead to e))
      where
        forward : (to : ℕ) → to ≤ first + k → ((first + k) < to) ⊎ (slice_get n.steps to ≡ Some (Do Tick)) → command_at code to ≡ Some (Do Tick)
        forward to back (inl on) = absurd (omega (arith, back, on))
        forward to back (inr tick) = ticks to tick

        so : (to : ℕ) → ((j : ℕ) × (to ≡ first + j) × (j ≤ length a.news) × (slice_get wants l ≡ Some (before j))) → to < length n.steps → ((first + k) < to) ⊎ (slice_get n.steps to ≡ Some (Do Tick)) → LandsAt code u station (first + k) to
        so to (j, is, le, w) before-last way = (
          (omega (arith, is, begins), omega (arith, before-last, ends)),
          λ back. forward to back way,
          ap (traps_at code u) is ∙ traps-at j le ∙ sym w ∙ want ∙ sym (traps-at k (omega (arith, lt))),
        )

    closes : (station : Station) (k : ℕ) → k < length a.news → IsNested wants CloseTrap (before k) → IsInTrap code u station (first + k)
    closes station k lt nested = subst (λ o. IsSomeAnd o (λ ts. ts ≢ [])) (sym (traps-at k (omega (arith, lt)))) (some (before k) nested)
      where
        some : (ts : Traps) → IsNested wants CloseTrap ts → ts ≢ []
        some [] h = absurd h
        some (t ∷ ts) h = λ e. let bad : ⊥ = cc in bad

    at-place : (station : Station) (k : ℕ) (c d : Command) → k < length a.news → slice_get a.news k ≡ Some c → command_at code (first + k) ≡ Some d → CommandLands code u station (first + k) d
    at-place station k c d lt e at =
        by c (stands k c e) (nested-at wants first a.news [] [] k c a.nested e) (ahead-at n first a.news k c a.ahead e) (all-names-at (λ l. (length m.labels ≤ l) ⊎ none l) a.news k c a.names e)
      where
        so : (x : Command) → command_at code (first + k) ≡ Some x → CommandLands code u station (first + k) x → CommandLands code u station (first + k) d
        so x is h = subst (CommandLands code u station (first + k)) (some-same x d (sym is ∙ at)) h

        by : (c : Command) → StandsFor code (place_of whole) (first + k) c → IsNested wants c (before k) → Names (IsAhead n (first + k)) c → Names (λ l. (length m.labels ≤ l) ⊎ none l) c → CommandLands code u station (first + k) d
        by (Do op) (also, is, alike) nested ahead own = so (Do also) is tt
        by (GoTo l) is nested ahead own = so (GoTo (place_of whole l)) is (lands station k l lt own nested ahead)
        by (GoToIfNot l) is nested ahead own = so (GoToIfNot (place_of whole l)) is (lands station k l lt own nested ahead)
        by (OpenTrap l) is nested ahead own = so (OpenTrap (place_of whole l)) is (lands station k l lt own nested ahead)
        by CloseTrap is nested ahead own = so CloseTrap is (closes station k lt nested)

    pub lands-well : LandsWell code u
    lands-well =
        record {
          places = λ station p c within at. place station p c within at;
          closed =
              ap (traps_at code u) (ends ∙ long) ∙ traps-at (length a.news) (omega arith) ∙ ap Some (before-end wants first a.news [] [] a.nested);
        }
      where
        place : (station : Station) (p : ℕ) (c : Command) → IsIn u p → command_at code p ≡ Some c → CommandLands code u station p c
        place station p c (ge, lt) at =
            let k : ℕ = p - first in
            let is : first + k ≡ p = omega (arith, ge, begins) in
            let few : k < length a.news = omega (arith, ge, lt, begins, ends, long) in
            let (d, e) = there-is a.news k few in
            subst (λ q. CommandLands code u station q c) is (at-place station k d c few e (ap (command_at code) is ∙ at))

all-land : (code : Code) (whole : Making) → Agrees code (place_of whole) whole → (bodies : List UnitBody) (m : Making) → units_made bodies m ≡ whole → AllLandWell code bodies m
all-land code whole agrees [] m is = tt
all-land code whole agrees (b ∷ bs) m is = (
  λ u begins ends.
      let n : Making = unit_made b m in
      let old : List Traps = replicate (length m.labels) [] in
      let many : length m.labels ≡ length old = sym (many-wants (length m.labels) []) in
      let (wants, a) = unit-tidy b m old [] many (λ l c. absurd c) in
      let (more, r) = units-tidy bs n wants [] a.many (λ l c. absurd c) in
      lands-well code m n whole old wants a agrees
      (λ q c e. subst (λ w. slice_get w.steps q ≡ Some c) is (keeps-steps none none n (units_made bs n) wants more [] [] r q c e))
      (λ l lt. subst (λ w. slice_get w.labels l ≡ slice_get n.labels l) is (r.keeps l lt))
      (within (unit_made b) (unit-ends b) m old many) u begins ends,
  all-land code whole agrees bs (unit_made b m) is,
)

pub units-land-well : UnitsLandWell
units-land-well code bodies agrees = all-land code (units_made bodies unmade) agrees bodies unmade refl
