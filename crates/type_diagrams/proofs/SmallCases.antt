-- What the definitions of member questions come to on small paths: records that a tag tells apart, lists
-- without a common length, marked lists, futures, errors and functions. They are there to be read beside
-- the definitions.
use Rattle.std.proofs.Common.{◌≡◌, ◌≢◌, ◌⊎◌, inl, inr, ℕ, zero, suc, ◌<◌, pos, List, [], ◌∷◌, map, get_or, Bool, true, false, ◌&&◌, Some, None, refl, subst, lit<, arith}
use Rattle.std.specs.List.{All, Contains}
use Rattle.std.specs.Ordering.{int_cmp, is_le}
use Rattle.std.proofs.lemmas.Bool.{false≢true, cases_order}
use Rattle.std.proofs.lemmas.Int.{ints}
use Rattle.std.proofs.lemmas.List.Elements.{All-nil}
use Rattle.bal_base.specs.declared.text.Text.{Text}
use Rattle.bal_base.specs.declared.shape.Shape.{Shape, Nil, Bool as BoolShape, Int, Str, List', Mapping', Error', Function, Future'}
use Rattle.bal_base.specs.Valid.{IsValid}
use Rattle.type_model.specs.declared.basic.BasicSet.TheVariants.{IntRange, StringAll, ListAll, MappingAll, Readonly}
use Rattle.type_model.specs.declared.basic.SemType.{SemType, Basic}
use Rattle.type_model.specs.declared.basic.Ty.{Ty}
use Rattle.type_model.specs.declared.atoms.AtomDef.{AtomDef}
use Rattle.type_model.specs.declared.atoms.AtomDef.TheVariants.{List as ListAtom, Mapping as MappingAtom, Arrow, Error as ErrorAtom, Future as FutureAtom}
use Rattle.type_diagrams.specs.declared.kind.Kind.TheVariants.{List as Lists, Mapping as Mappings, Error as Errors, Function as Functions, Future as Futures}
use Rattle.type_diagrams.specs.declared.path.Path.{Path}
use Rattle.type_diagrams.specs.Kinds.{IsSimple, the_mark}
use Rattle.type_diagrams.specs.Conditions.{Condition, AreOne, condition_of, frozen, asks}
use Rattle.type_diagrams.specs.Members.{member_of, AllowsLength, ArePlainlyApart, IsListOutOfPlay, IsMappingOutOfPlay}
use Rattle.type_diagrams.specs.Questions.{IsMemberQuestion, wanted_parts}
use Rattle.type_diagrams.proofs.SimpleLaws.{le_true}

abbrev plain : SemType → Ty
plain t = record { sem = t; lists = []; maps = [] }

abbrev only : ℕ → SemType
only n = Basic (IntRange (pos n) (pos n))

-- ---- record {| 0 tag; |} without record {| 1 tag; |}

abbrev tag : Text
tag = 116 ∷ []

abbrev tagged : ℕ → AtomDef
tagged n = MappingAtom (record { name = tag; ty = plain (only n); optional = false } ∷ []) None

abbrev records : List AtomDef
records = tagged 0 ∷ tagged 1 ∷ []

abbrev wants_first : Path
wants_first = record { pos = 0 ∷ []; neg = 1 ∷ [] }

apart : ArePlainlyApart (map (member_of records tag) (1 ∷ 0 ∷ []))
apart = record { simple = simple; by_kind = λ k v. refl }
  where
    to_false : (b : Bool) → (b ≡ true → ⊥) → b ≡ false
    to_false true f = absurd (f refl)
    to_false false f = refl

    parts : (a b : Bool) → (a && b) ≡ true → (a ≡ true) × (b ≡ true)
    parts true b e = (refl, e)
    parts false b e = absurd (false≢true e)

    simple : (x : Shape) → IsSimple x → IsValid x → (asks (map (member_of records tag) (1 ∷ 0 ∷ [])) []).simple x ≡ false
    simple Nil is v = refl
    simple (BoolShape b) is v = refl
    simple (Int i) is v = to_false _ (λ e.
        let one = parts _ _ (parts _ _ e).0 in
        let first = parts (is_le (int_cmp (pos 1) i)) (is_le (int_cmp i (pos 1))) one.0 in
        let second = parts (is_le (int_cmp (pos 0) i)) (is_le (int_cmp i (pos 0))) (parts _ _ one.1).0 in
        omega (arith, ints, (le_true (pos 1) i).1 first.0, (le_true i (pos 0)).1 second.1))
    simple (Str t) is v = refl
    simple (List' mark _ items) is v = refl
    simple (Mapping' mark _ fields) is v = refl
    simple (Error' _ detail) is v = refl
    simple (Function isolated graph) is v = refl
    simple (Future' _ results) is v = refl

-- the unwanted record is out of play
out_of_play : IsMappingOutOfPlay records (0 ∷ []) 1
out_of_play = (tag, (0, 1, lit< tt, refl, (0, record { name = tag; ty = plain (only 1); optional = false }, lit< tt, refl, (refl, refl))), apart)

-- so no member question leaves anything out
nothing_left_out : (d : Condition) → IsMemberQuestion records Mappings wants_first d → (key : Text) × AreOne d (asks (map (member_of records key) (0 ∷ [])) [])
nothing_left_out d (key, q) =
    (key, subst (λ left. AreOne d (asks (wanted_parts (member_of records key) wants_first) (map (member_of records key) left))) (none q.avoided q.unwanted) q.question)
  where
    among : (a k : ℕ) → k < 1 → get_or (1 ∷ []) k a ≡ a → 1 ≡ a
    among a zero lt e = e
    among a (suc k) lt e = absurd (omega (arith, lt))

    none : (left : List ℕ) → All (λ a. Contains (1 ∷ []) a × ¬ IsMappingOutOfPlay records (0 ∷ []) a) left → left ≡ []
    none [] h = refl
    none (a ∷ left) h =
        let first = h zero a (omega arith) in
        absurd (first.1 (subst (IsMappingOutOfPlay records (0 ∷ [])) (among a first.0.0 first.0.1 first.0.2) out_of_play))

-- ---- [0] without [0, 0], which has no list of its length

abbrev pairs : List AtomDef
pairs = ListAtom (plain (only 0) ∷ []) None ∷ ListAtom (plain (only 0) ∷ plain (only 0) ∷ []) None ∷ []

no_common_length : IsListOutOfPlay pairs (0 ∷ []) 1
no_common_length = inl (λ n all. two n (all 0 1 (lit< tt)) (all 1 1 (lit< tt)))
  where
    two : (n : ℕ) → AllowsLength pairs n 1 → AllowsLength pairs n 0 → ⊥
    two n long short = by (cases_order n 1)
      where
        by : (n ≡ 1) ⊎ ((n < 1) ⊎ (1 < n)) → ⊥
        by (inl e) = omega (arith, e, long.0)
        by (inr (inl lt)) = omega (arith, lt, short.0)
        by (inr (inr gt)) = false≢true (short.1 gt)

-- ---- marked lists of ints: what stands in them is asked to be frozen as well

abbrev lists : List AtomDef
lists = ListAtom [] (Some (plain (Basic StringAll))) ∷ []

abbrev marked : Path
marked = record { pos = the_mark ∷ 0 ∷ []; neg = [] }

frozen_is_wanted : IsMemberQuestion lists Lists marked (asks (condition_of lists (Basic StringAll) ∷ frozen ∷ []) [])
frozen_is_wanted = (0, record { avoided = []; unwanted = All-nil _; apart = All-nil _; question = record { simple = λ x is v. refl; by_kind = λ k v. refl } })

-- ---- future<int> without future<string>: the results of the one without those of the other

abbrev futures : List AtomDef
futures = FutureAtom (only 0) ∷ FutureAtom (Basic StringAll) ∷ []

results_apart : IsMemberQuestion futures Futures (record { pos = 0 ∷ []; neg = 1 ∷ [] }) (asks (condition_of futures (only 0) ∷ []) (condition_of futures (Basic StringAll) ∷ []))
results_apart = (1, (0, lit< tt, refl), record { simple = λ x is v. refl; by_kind = λ k v. refl })

-- ---- error<A> without error<B>: the details of the one that are marked mappings and none of the other's

abbrev errors : List AtomDef
errors = ErrorAtom (Basic MappingAll) ∷ ErrorAtom (Basic Readonly) ∷ []

details_apart : IsMemberQuestion errors Errors (record { pos = 0 ∷ []; neg = 1 ∷ [] }) (asks (condition_of errors (Basic MappingAll) ∷ condition_of errors (Basic MappingAll) ∷ condition_of errors (Basic Readonly) ∷ []) (condition_of errors (Basic Readonly) ∷ []))
details_apart = record { simple = λ x is v. refl; by_kind = λ k v. refl }

-- ---- functions from lists to 0 that are none from lists to strings: arguments that the one does not take,
-- or a result of the one that the other does not have

abbrev arrows : List AtomDef
arrows = Arrow (Basic ListAll) (only 0) false ∷ Arrow (Basic ListAll) (Basic StringAll) false ∷ []

abbrev one_arrow : Path
one_arrow = record { pos = 0 ∷ []; neg = 1 ∷ [] }

arguments_apart : IsMemberQuestion arrows Functions one_arrow (asks (condition_of arrows (Basic ListAll) ∷ condition_of arrows (Basic ListAll) ∷ []) (condition_of arrows (Basic Readonly) ∷ condition_of arrows (Basic ListAll) ∷ []))
arguments_apart = (1, (0, lit< tt, refl), ((λ a. true), inl (record { simple = λ x is v. refl; by_kind = λ k v. refl })))

results_left : IsMemberQuestion arrows Functions one_arrow (asks (condition_of arrows (only 0) ∷ []) (condition_of arrows (Basic StringAll) ∷ []))
results_left = (1, (0, lit< tt, refl), ((λ a. false), inr (some, record { simple = λ x is v. refl; by_kind = λ k v. refl })))
  where
    some : one_arrow.pos ≢ []
    some e = cc
