-- Questions may be asked where their needs may be asked about.
use Rattle.std.proofs.Common.{List, [], ◌∷◌, ◌++◌, All}
use Rattle.std.specs.List.{flat_map}
use Rattle.std.proofs.lemmas.List.Elements.{All-cons, All-head, All-nil, All-tail}
use Rattle.type_model.specs.declared.atoms.AtomDef.{AtomDef}
use Rattle.type_model.specs.Defined.{IsDefined}
use Rattle.code_needs.specs.Needs.{Applies, FitsFields, Gives, GivesFuture, HasErrorsOf, HasField, Names, Need}
use Rattle.code_verifier.specs.declared.questions.OfKinds.TheVariants as kinds
use Rattle.code_verifier.specs.declared.questions.OfMembers.TheVariants as members
use Rattle.code_verifier.specs.declared.questions.OfParts.TheVariants as parts
use Rattle.code_verifier.specs.declared.questions.OfTypes.TheVariants as types
use Rattle.code_verifier.specs.declared.questions.Question.{Question}
use Rattle.code_verifier.specs.declared.questions.Question.TheVariants as plain
use Rattle.code_verifier.specs.Questions.{IsAskable, need_of}
use Rattle.pair_questions.specs.declared.pair.Pair.{Pair}
use Rattle.pair_questions.specs.Pairs.{KeyDefined, pair_of, pairs_of}
use Rattle.atom_questions.specs.Kept.{NeedDefined}
use Rattle.detail_questions.specs.Details.{PairDefined}
use Rattle.need_questions.specs.declared.question.NeedQuestion.{NeedQuestion}
use Rattle.need_questions.specs.declared.question.NeedQuestion.TheVariants as asked
use Rattle.need_questions.specs.NeedsAsked.{IsAskableNeed, needs_of}
use Rattle.needs_of_commands.specs.Askable.{MayBeAsked}
use Rattle.needs_of_commands.specs.Laws.{QuestionsMayBeAsked}

-- ---- lists

all-front : {A : Type 0} (P : A → Type 0) (xs ys : List A) → All P (xs ++ ys) → All P xs
all-front P [] ys h = All-nil P
all-front P (x ∷ xs) ys h = All-cons P x xs (All-head P x (xs ++ ys) h) (all-front P xs ys (All-tail P x (xs ++ ys) h))

all-back : {A : Type 0} (P : A → Type 0) (xs ys : List A) → All P (xs ++ ys) → All P ys
all-back P [] ys h = h
all-back P (x ∷ xs) ys h = all-back P xs ys (All-tail P x (xs ++ ys) h)

module _ (env : List AtomDef) where
  -- ---- one question

  plain-asked : (q : Question) → NeedDefined env (need_of q) → IsAskable env q
  plain-asked (plain.Types (types.Below s t)) d = d
  plain-asked (plain.Types (types.HasConstant t value)) d = d
  plain-asked (plain.Types (types.HasBoth r s t)) d = d
  plain-asked (plain.Types (types.HasMade t atom immutable)) d = (d.1, d.0)
  plain-asked (plain.Kinds (kinds.Within s kind)) d = d
  plain-asked (plain.Kinds (kinds.Has t kind)) d = d
  plain-asked (plain.Kinds (kinds.Ordered a b)) d = d
  plain-asked (plain.Parts (parts.PartIn whole keys t)) d = d
  plain-asked (plain.Parts (parts.PartHas whole keys v)) d = d
  plain-asked (plain.Members (members.ItemIn l i t)) d = d
  plain-asked (plain.Members (members.ItemHas l i v)) d = d
  plain-asked (plain.Members (members.MemberIn m k t)) d = d
  plain-asked (plain.Members (members.MemberHas m k v)) d = d

  keys-asked : (ps : List Pair) → All (λ p. IsDefined env p.0) (pairs_of ps) → All (KeyDefined env) ps
  keys-asked [] d = All-nil (KeyDefined env)
  keys-asked (p ∷ ps) d =
      All-cons (KeyDefined env) p ps (All-head (λ r. IsDefined env r.0) (pair_of p) (pairs_of ps) d) (keys-asked ps (All-tail (λ r. IsDefined env r.0) (pair_of p) (pairs_of ps) d))

  pairs-asked : (ps : List Pair) → All (λ p. IsDefined env p.0 × IsDefined env p.1) (pairs_of ps) → All (PairDefined env) ps
  pairs-asked [] d = All-nil (PairDefined env)
  pairs-asked (p ∷ ps) d =
      All-cons (PairDefined env) p ps (All-head (λ r. IsDefined env r.0 × IsDefined env r.1) (pair_of p) (pairs_of ps) d)
      (pairs-asked ps (All-tail (λ r. IsDefined env r.0 × IsDefined env r.1) (pair_of p) (pairs_of ps) d))

  only : (need : Need) → All (MayBeAsked env) (need ∷ []) → MayBeAsked env need
  only need h = All-head (MayBeAsked env) need [] h

  second : (first need : Need) → All (MayBeAsked env) (first ∷ need ∷ []) → MayBeAsked env need
  second first need h = All-head (MayBeAsked env) need [] (All-tail (MayBeAsked env) first (need ∷ []) h)

  one-asked : (q : NeedQuestion) → All (MayBeAsked env) (needs_of q) → IsAskableNeed env q
  one-asked (asked.Plain q) h = plain-asked q (only (need_of q) h).0
  one-asked (asked.HasField m name) h = (only (HasField m.now name.now) h).0
  one-asked (asked.FitsFields members pair) h =
      let (d, own) = only (FitsFields members.fields.now members.rest.now (pair_of pair)) h in
      ((d.0, d.1), (own, d.3, d.2))
  one-asked (asked.Names pairs name) h = keys-asked pairs.now (only (Names (pairs_of pairs.now) name.now) h).0
  one-asked (asked.HasErrorsOf r pairs) h =
      let d = (only (HasErrorsOf r.now (pairs_of pairs.now)) h).0 in
      (d.0, pairs-asked pairs.now d.1)
  one-asked (asked.Gives f args r) h = (second (Applies f.now args.now) (Gives f.now args.now r.now) h).0
  one-asked (asked.GivesFuture f args r) h = (second (Applies f.now args.now) (GivesFuture f.now args.now r.now) h).0

-- ---- all of them

pub questions-asked : QuestionsMayBeAsked
questions-asked env [] h = All-nil (IsAskableNeed env)
questions-asked env (q ∷ qs) h =
    All-cons (IsAskableNeed env) q qs (one-asked env q (all-front (MayBeAsked env) (needs_of q) (flat_map needs_of qs) h))
    (questions-asked env qs (all-back (MayBeAsked env) (needs_of q) (flat_map needs_of qs) h))
