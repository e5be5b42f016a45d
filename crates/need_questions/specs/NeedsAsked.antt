-- Which needs a question asks of, and what comes of one and of several.
use Rattle.std.specs.Prelude.{◌≡◌, ℕ, List, [], ◌∷◌, Option, Some, None, All, slice_get, take}
use Rattle.bal_base.specs.declared.shape.Shape.{Shape}
use Rattle.type_model.specs.declared.answers.Answer.{Answer}
use Rattle.type_model.specs.declared.answers.Answer.TheVariants.{Yes, No}
use Rattle.type_model.specs.declared.atoms.AtomDef.{AtomDef}
use Rattle.type_model.specs.Defined.{IsDefined}
use Rattle.code_needs.specs.Needs.{Applies, FitsFields, Gives, GivesFuture, HasErrorsOf, HasField, IsMet, Names, Need}
use Rattle.code_verifier.specs.Asked.{IsAgainst}
use Rattle.code_verifier.specs.Questions.{IsAskable, need_of}
use Rattle.pair_questions.specs.Fitting.{AreMembers}
use Rattle.pair_questions.specs.Pairs.{KeyDefined, pair_of, pairs_of}
use Rattle.detail_questions.specs.Details.{PairDefined}
use Rattle.need_questions.specs.declared.question.NeedQuestion.{NeedQuestion}
use Rattle.need_questions.specs.declared.question.NeedQuestion.TheVariants as asked

-- the needs, in order; a call needs that it never fails before what it gives is asked about
abbrev pub needs_of : NeedQuestion → List Need
needs_of (asked.Plain q) = need_of q ∷ []
needs_of (asked.HasField m name) = HasField m.now name.now ∷ []
needs_of (asked.FitsFields members pair) = FitsFields members.fields.now members.rest.now (pair_of pair) ∷ []
needs_of (asked.Names pairs name) = Names (pairs_of pairs.now) name.now ∷ []
needs_of (asked.HasErrorsOf r pairs) = HasErrorsOf r.now (pairs_of pairs.now) ∷ []
needs_of (asked.Gives f args r) = Applies f.now args.now ∷ Gives f.now args.now r.now ∷ []
needs_of (asked.GivesFuture f args r) = Applies f.now args.now ∷ GivesFuture f.now args.now r.now ∷ []

module _ (env : List AtomDef) where
  -- its types name atoms that are there, and fields have names of their own
  abbrev pub IsAskableNeed : NeedQuestion → Type 0
  IsAskableNeed (asked.Plain q) = IsAskable env q
  IsAskableNeed (asked.HasField m name) = IsDefined env m.now
  IsAskableNeed (asked.FitsFields members pair) = (IsDefined env pair.key.now × IsDefined env pair.value.now) × AreMembers env members
  IsAskableNeed (asked.Names pairs name) = All (KeyDefined env) pairs.now
  IsAskableNeed (asked.HasErrorsOf r pairs) = IsDefined env r.now × All (PairDefined env) pairs.now
  IsAskableNeed (asked.Gives f args r) = IsDefined env f.now × IsDefined env r.now × All (IsDefined env) args.now
  IsAskableNeed (asked.GivesFuture f args r) = IsDefined env f.now × IsDefined env r.now × All (IsDefined env) args.now

  -- all needs are met; or all before one are and this one isn't, as the shape shows
  abbrev pub AnswersNeeds : List Need → Answer → Type 0
  AnswersNeeds needs Yes = All (IsMet env) needs
  AnswersNeeds needs (No x) =
      (k : ℕ) × (need : Need) × (slice_get needs k ≡ Some need) × All (IsMet env) (take k needs) × IsAgainst env need x × (¬ (IsMet env need))

  abbrev pub NeedsMet : NeedQuestion → Type 0
  NeedsMet q = All (IsMet env) (needs_of q)

  -- the needs of all questions are met; or those of all before one are, and the shape is an answer to this one
  abbrev pub AreAnswered : List NeedQuestion → Option Shape → Type 0
  AreAnswered qs None = All NeedsMet qs
  AreAnswered qs (Some x) =
      (k : ℕ) × (q : NeedQuestion) × (slice_get qs k ≡ Some q) × All NeedsMet (take k qs) × AnswersNeeds (needs_of q) (No x)
