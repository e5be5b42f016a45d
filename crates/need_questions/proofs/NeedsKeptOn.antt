-- Questions one after another, over atoms that are added on the way.
use Rattle.std.proofs.Common.{◌≡◌, ◌<◌, ◌+◌, ℕ, zero, suc, List, [], ◌∷◌, Option, Some, None, All, IfSome, Result, Ok, Err, IsErr, IsErrAnd, arith, get_or, length, refl, slice_get, subst, sym, take}
use Rattle.std.proofs.lemmas.List.Elements.{All-cons, All-head, All-more, All-nil, All-tail}
use Rattle.std.proofs.lemmas.Option.{get_or_from_slice_get, slice_get_within}
use Rattle.bal_base.specs.declared.shape.Shape.{Shape}
use Rattle.bal_base.specs.declared.stop.Stop.{Stop}
use Rattle.bal_base.specs.declared.stop.Stop.TheVariants.{Fault, Memory}
use Rattle.bal_base.specs.Stops.{IfFault}
use Rattle.type_model.specs.declared.answers.Answer.{Answer}
use Rattle.type_model.specs.declared.answers.Answer.TheVariants.{Yes, No}
use Rattle.type_model.specs.declared.atoms.AtomDef.{AtomDef}
use Rattle.type_model.specs.declared.basic.SemType.{SemType, Atom}
use Rattle.type_model.specs.declared.answers.TypeLimit.{TypeLimit}
use Rattle.type_model.specs.Calls.{Asked, KeepsTypes}
use Rattle.type_model.specs.Defined.{IsDefined}
use Rattle.type_model.specs.Inclusion.{HasExactly}
use Rattle.code_needs.specs.Needs.{Applies, FitsFields, Gives, GivesFuture, HasErrorsOf, HasField, IsMet, Names, Need}
use Rattle.code_verifier.specs.declared.kind_types.KnownTypes.{KnownTypes}
use Rattle.code_verifier.specs.declared.questions.OfKinds.TheVariants as kinds
use Rattle.code_verifier.specs.declared.questions.OfMembers.TheVariants as members
use Rattle.code_verifier.specs.declared.questions.OfParts.TheVariants as parts
use Rattle.code_verifier.specs.declared.questions.OfTypes.TheVariants as types
use Rattle.code_verifier.specs.declared.questions.Question.{Question}
use Rattle.code_verifier.specs.declared.questions.Question.TheVariants as plain
use Rattle.code_verifier.specs.KindSets.{AreKnown}
use Rattle.code_verifier.specs.Questions.{IsAskable, need_of}
use Rattle.pair_questions.specs.declared.pair.Pair.{Pair}
use Rattle.type_model.specs.declared.basic.Ty.{Ty}
use Rattle.pair_questions.specs.declared.members.Members.{Members}
use Rattle.pair_questions.specs.Fitting.{AreMembers}
use Rattle.pair_questions.specs.Pairs.{KeyDefined, pair_of, pairs_of}
use Rattle.atom_questions.specs.declared.limits.QuestionLimit.{QuestionLimit}
use Rattle.atom_questions.specs.Kept.{NeedDefined}
use Rattle.atom_questions.proofs.NeedsKept.{answers-kept}
use Rattle.detail_questions.specs.Details.{PairDefined}
use Rattle.need_questions.specs.declared.question.NeedQuestion.{NeedQuestion}
use Rattle.need_questions.specs.declared.question.NeedQuestion.TheVariants as asked
use Rattle.need_questions.specs.NeedStops.{FirstStops, NeedStops}
use Rattle.need_questions.specs.NeedsAsked.{AnswersNeeds, AreAnswered, IsAskableNeed, NeedsMet, needs_of}

-- ---- lists

all-first : {X : Type 0} (P : X → Type 0) (xs : List X) (k : ℕ) → All P xs → All P (take k xs)
all-first P xs zero h = All-nil P
all-first P [] (suc k) h = All-nil P
all-first P (x ∷ xs) (suc k) h = All-cons P x (take k xs) (All-head P x xs h) (all-first P xs k (All-tail P x xs h))

get-there : {X : Type 0} (xs : List X) (i : ℕ) (d : X) → i < length xs → slice_get xs i ≡ Some (get_or xs i d)
get-there [] i d lt = absurd (omega (arith, lt))
get-there (x ∷ xs) zero d lt = refl
get-there (x ∷ xs) (suc i) d lt = get-there xs i d (omega (arith, lt))

-- ---- what may be asked speaks of atoms that are there

module _ (env : List AtomDef) where
  plain-defined : (q : Question) → IsAskable env q → NeedDefined env (need_of q)
  plain-defined (plain.Types (types.Below s t)) d = d
  plain-defined (plain.Types (types.HasConstant t value)) d = d
  plain-defined (plain.Types (types.HasBoth r s t)) d = d
  plain-defined (plain.Types (types.HasMade t atom immutable)) d = (d.1, d.0)
  plain-defined (plain.Kinds (kinds.Within s kind)) d = d
  plain-defined (plain.Kinds (kinds.Has t kind)) d = d
  plain-defined (plain.Kinds (kinds.Ordered a b)) d = d
  plain-defined (plain.Parts (parts.PartIn whole keys t)) d = d
  plain-defined (plain.Parts (parts.PartHas whole keys v)) d = d
  plain-defined (plain.Members (members.ItemIn l i t)) d = d
  plain-defined (plain.Members (members.ItemHas l i v)) d = d
  plain-defined (plain.Members (members.MemberIn m k t)) d = d
  plain-defined (plain.Members (members.MemberHas m k v)) d = d

  pairs-defined : (ps : List Pair) → All (KeyDefined env) ps → All (λ p. IsDefined env p.0) (pairs_of ps)
  pairs-defined [] d = All-nil (λ p. IsDefined env p.0)
  pairs-defined (p ∷ ps) d = All-cons (λ r. IsDefined env r.0) (pair_of p) (pairs_of ps) (All-head (KeyDefined env) p ps d) (pairs-defined ps (All-tail (KeyDefined env) p ps d))

  both-defined : (ps : List Pair) → All (PairDefined env) ps → All (λ p. IsDefined env p.0 × IsDefined env p.1) (pairs_of ps)
  both-defined [] d = All-nil (λ p. IsDefined env p.0 × IsDefined env p.1)
  both-defined (p ∷ ps) d =
      All-cons (λ r. IsDefined env r.0 × IsDefined env r.1) (pair_of p) (pairs_of ps) (All-head (PairDefined env) p ps d) (both-defined ps (All-tail (PairDefined env) p ps d))

  one : (need : Need) → NeedDefined env need → All (NeedDefined env) (need ∷ [])
  one need d = All-cons (NeedDefined env) need [] d (All-nil (NeedDefined env))

  defined : (q : NeedQuestion) → IsAskableNeed env q → All (NeedDefined env) (needs_of q)
  defined (asked.Plain q) d = one (need_of q) (plain-defined q d)
  defined (asked.HasField m name) d = one (HasField m.now name.now) d
  defined (asked.FitsFields members pair) d = one (FitsFields members.fields.now members.rest.now (pair_of pair)) (d.0.0, d.0.1, d.1.2, d.1.1)
  defined (asked.Names pairs name) d = one (Names (pairs_of pairs.now) name.now) (pairs-defined pairs.now d)
  defined (asked.HasErrorsOf r pairs) d = one (HasErrorsOf r.now (pairs_of pairs.now)) (d.0, both-defined pairs.now d.1)
  defined (asked.Gives f args r) d =
      All-cons (NeedDefined env) (Applies f.now args.now) (Gives f.now args.now r.now ∷ []) (d.0, d.2) (one (Gives f.now args.now r.now) (d.0, d.1, d.2))
  defined (asked.GivesFuture f args r) d =
      All-cons (NeedDefined env) (Applies f.now args.now) (GivesFuture f.now args.now r.now ∷ []) (d.0, d.2) (one (GivesFuture f.now args.now r.now) (d.0, d.1, d.2))

-- ---- where types are kept

module _ (env new : List AtomDef) (keeps : KeepsTypes env new) where
  plain-kept : (q : Question) → IsAskable env q → IsAskable new q
  plain-kept (plain.Types (types.Below s t)) d = (keeps.defined s.now d.0, keeps.defined t.now d.1)
  plain-kept (plain.Types (types.HasConstant t value)) d = keeps.defined t.now d
  plain-kept (plain.Types (types.HasBoth r s t)) d = (keeps.defined r.now d.0, keeps.defined s.now d.1, keeps.defined t.now d.2)
  plain-kept (plain.Types (types.HasMade t atom immutable)) d = (keeps.defined (Atom atom) d.0, keeps.defined t.now d.1)
  plain-kept (plain.Kinds (kinds.Within s kind)) d = keeps.defined s.now d
  plain-kept (plain.Kinds (kinds.Has t kind)) d = keeps.defined t.now d
  plain-kept (plain.Kinds (kinds.Ordered a b)) d = (keeps.defined a.now d.0, keeps.defined b.now d.1)
  plain-kept (plain.Parts (parts.PartIn whole keys t)) d = (keeps.defined whole.now d.0, keeps.defined t.now d.1)
  plain-kept (plain.Parts (parts.PartHas whole keys v)) d = (keeps.defined whole.now d.0, keeps.defined v.now d.1)
  plain-kept (plain.Members (members.ItemIn l i t)) d = (keeps.defined l.now d.0, keeps.defined i.now d.1, keeps.defined t.now d.2)
  plain-kept (plain.Members (members.ItemHas l i v)) d = (keeps.defined l.now d.0, keeps.defined i.now d.1, keeps.defined v.now d.2)
  plain-kept (plain.Members (members.MemberIn m k t)) d = (keeps.defined m.now d.0, keeps.defined k.now d.1, keeps.defined t.now d.2)
  plain-kept (plain.Members (members.MemberHas m k v)) d = (keeps.defined m.now d.0, keeps.defined k.now d.1, keeps.defined v.now d.2)

  all-kept : (ts : List SemType) → All (IsDefined env) ts → All (IsDefined new) ts
  all-kept ts d k t lt = keeps.defined (get_or ts k t) (d k t lt)

  rest-kept : (rest : Option Ty) → IfSome rest (λ t. IsDefined env t.sem) → IfSome rest (λ t. IsDefined new t.sem)
  rest-kept (Some t) d = keeps.defined t.sem d
  rest-kept None d = tt

  members-kept : (members : Members) → AreMembers env members → AreMembers new members
  members-kept members d = (d.0, (λ k f lt. keeps.defined (get_or members.fields.now k f).ty.sem (d.1 k f lt)), rest-kept members.rest.now d.2)

  askable-kept : (q : NeedQuestion) → IsAskableNeed env q → IsAskableNeed new q
  askable-kept (asked.Plain q) d = plain-kept q d
  askable-kept (asked.HasField m name) d = keeps.defined m.now d
  askable-kept (asked.FitsFields members pair) d = ((keeps.defined pair.key.now d.0.0, keeps.defined pair.value.now d.0.1), members-kept members d.1)
  askable-kept (asked.Names pairs name) d = λ k p lt. keeps.defined (get_or pairs.now k p).key.now (d k p lt)
  askable-kept (asked.HasErrorsOf r pairs) d = (keeps.defined r.now d.0, (λ k p lt. (keeps.defined (get_or pairs.now k p).key.now (d.1 k p lt).0, keeps.defined (get_or pairs.now k p).value.now (d.1 k p lt).1)))
  askable-kept (asked.Gives f args r) d = (keeps.defined f.now d.0, keeps.defined r.now d.1, all-kept args.now d.2)
  askable-kept (asked.GivesFuture f args r) d = (keeps.defined f.now d.0, keeps.defined r.now d.1, all-kept args.now d.2)

  pub all-askable : (qs : List NeedQuestion) → All (IsAskableNeed env) qs → All (IsAskableNeed new) qs
  all-askable qs d k q lt = askable-kept (get_or qs k q) (d k q lt)

  exactly-kept : (t : SemType) (P : Shape → Type 0) → IsDefined env t → HasExactly env t P → HasExactly new t P
  exactly-kept t P d h x v = let same = keeps.shapes t d x in ((λ i. (h x v).0 (same.1 i)), (λ p. same.0 ((h x v).1 p)))

  pub known-kept : (known : KnownTypes) → AreKnown env known → AreKnown new known
  known-kept known h = record {
    anydata = exactly-kept known.anydata _ h.anydata_defined h.anydata;
    anydata_defined = keeps.defined known.anydata h.anydata_defined;
    sendable = exactly-kept known.sendable _ h.sendable_defined h.sendable;
    sendable_defined = keeps.defined known.sendable h.sendable_defined;
  }

  -- ---- what is said of needs over the new atoms is so over the older ones

  all-back : (needs : List Need) → All (NeedDefined env) needs → All (IsMet new) needs → All (IsMet env) needs
  all-back needs d h k need lt = (answers-kept env new keeps (get_or needs k need) (d k need lt) Yes).1 (h k need lt)

  at : (needs : List Need) (k : ℕ) (need : Need) → slice_get needs k ≡ Some need → All (NeedDefined env) needs → NeedDefined env need
  at needs k need there d = subst (NeedDefined env) (get_or_from_slice_get needs k need need there) (d k need (slice_get_within needs k need there))

  first-back : (needs : List Need) (k : ℕ) → All (NeedDefined env) needs → All (IsMet new) (take k needs) → All (IsMet env) (take k needs)
  first-back needs k d h = all-back (take k needs) (all-first (NeedDefined env) needs k d) h

  answers-back : (needs : List Need) → All (NeedDefined env) needs → (a : Answer) → AnswersNeeds new needs a → AnswersNeeds env needs a
  answers-back needs d Yes h = all-back needs d h
  answers-back needs d (No x) (k, need, there, before, against, unmet) =
      let back = (answers-kept env new keeps need (at needs k need there d) (No x)).1 (against, unmet) in (k, need, there, first-back needs k d before, back.0, back.1)

  pub need-back : (q : NeedQuestion) → IsAskableNeed env q → (a : Answer) → AnswersNeeds new (needs_of q) a → AnswersNeeds env (needs_of q) a
  need-back q d a h = answers-back (needs_of q) (defined env q d) a h

-- ---- one question more

module _ (old : List AtomDef) (qs : List NeedQuestion) (i : ℕ) (q : NeedQuestion) (lt : i < length qs) (is : q ≡ get_or qs i q) where
  pub all-met-more : All (NeedsMet old) (take i qs) → (a : Answer) → a ≡ Yes → AnswersNeeds old (needs_of q) a → All (NeedsMet old) (take (i + 1) qs)
  all-met-more before a e h =
      All-more (NeedsMet old) qs i q lt before (subst (λ (p : NeedQuestion). NeedsMet old p) is (subst (λ (b : Answer). AnswersNeeds old (needs_of q) b) e h))

  there : slice_get qs i ≡ Some q
  there = subst (λ (p : NeedQuestion). slice_get qs i ≡ Some p) (sym is) (get-there qs i q lt)

  pub one-unmet : (x : Shape) → All (NeedsMet old) (take i qs) → (a : Answer) → a ≡ No x → AnswersNeeds old (needs_of q) a → AreAnswered old qs (Some x)
  one-unmet x before a e h = (i, q, there, before, subst (λ (b : Answer). AnswersNeeds old (needs_of q) b) e h)

  -- where it stops
  pub first-stops : (passes : List AtomDef → Asked → TypeLimit → Type 0) (known : KnownTypes) (env : List AtomDef) → KeepsTypes old env → All (NeedsMet old) (take i qs)
      → (A B : Type 0) (stop : Stop QuestionLimit) (r : Result B (Stop QuestionLimit)) → IsErr r × IsErrAnd r (λ e. e ≡ stop) → IfFault {T = A} (Err stop) (NeedStops passes known env q) → IfFault r (FirstStops passes known old qs)
  first-stops passes known env keeps before A B stop (Ok b) h k = tt
  first-stops passes known env keeps before A B stop (Err s) h k = subst (λ (e : Stop QuestionLimit). IfFault {T = B} (Err e) (FirstStops passes known old qs)) (sym h.1) (on stop k)
    where
      on : (e : Stop QuestionLimit) → IfFault {T = A} (Err e) (NeedStops passes known env q) → IfFault {T = B} (Err e) (FirstStops passes known old qs)
      on Memory k = tt
      on (Fault l) k = (i, q, there, before, (env, keeps, k))
