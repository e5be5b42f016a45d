-- Pairs of functions, arrow by arrow.
use Rattle.std.proofs.Common.{◌≡◌, ◌⊎◌, ⊎_elim, inl, inr, ℕ, List, [], ◌∷◌, map, All, Contains, Bool, false, Option, Some, None, IsSomeAnd, IfSome, refl, sym, subst, ◌∙◌, arith}
use Rattle.std.proofs.lemmas.Bool.{false≢true}
use Rattle.std.proofs.lemmas.List.Elements.{All-nil, All-cons, All-head, All-tail, All-weaker, All-contains, Contains-append_left, Contains-append_right}
use Rattle.bal_base.specs.declared.shape.Shape.{Shape, List as ListOf}
use Rattle.bal_base.specs.declared.shape.Shapes.{Shapes}
use Rattle.bal_base.specs.declared.shape.Case.{Case}
use Rattle.bal_base.specs.Valid.{IsValid, CaseIsValid}
use Rattle.bal_base.proofs.Rows.{IsValid-List}
use Rattle.type_model.specs.declared.atoms.AtomDef.{AtomDef}
use Rattle.type_model.specs.Application.{arguments_of as list_of}
use Rattle.type_diagrams.specs.Conditions.{Condition, AreOne, Meets, IsShapeOf, and_of, without}
use Rattle.type_diagrams.specs.Kept.{IsUnknown, IsHeldEmpty}
use Rattle.type_diagrams.specs.Members.{arguments_of, outcome_of}
use Rattle.type_diagrams.specs.Tables.{Table, IsDiagram, condition}
use Rattle.type_diagrams.specs.Turns.{IsSound}
use Rattle.type_diagrams.specs.Whole.{Keeps}
use Rattle.type_diagrams.proofs.Meeting.{Meets-and, Meets-without, Meets-same}
use Rattle.type_diagrams.proofs.Shapes.{one-further}
use Rattle.empty_arrow.specs.declared.pairs.Found.{Found}
use Rattle.empty_arrow.specs.declared.pairs.Found.TheVariants.{Pair, Empty, Ask}
use Rattle.empty_arrow.specs.Pairs.{AreArguments, FitsArrow, IsAnswer, IsPair, HasHeldPart, AsksArguments, AsksResults, TellsPair}
use Rattle.type_diagrams.proofs.Asking.{one_back, asks_along, asks_wanted_along, asks_itself, asks_first_unwanted, asks_first_wanted, Meets-decided}

-- the arguments of a valid pair are a valid list
pub valid-arguments : (c : Case) → CaseIsValid c → IsValid (list_of c)
valid-arguments c valid = (IsValid-List false c.args).1 (λ m. absurd (false≢true m), valid.0)

module _ (env : List AtomDef) where
  -- ---- questions that are told of already

  pub asked-itself : (args : Condition) (arrows : List ℕ) → AsksArguments env args arrows args
  asked-itself args arrows = record { left = []; among = All-nil _; asked = asks_itself args }

  module _ (table : Table) (kept : List (ℕ × Option Shape)) (arrows : List ℕ) where
    pub held-arguments : (q : ℕ) (results : Condition) (may_fail : Bool) → IsHeldEmpty kept q → TellsPair env table kept (condition table q) results may_fail arrows Empty
    held-arguments q results may_fail held c pair = record {
      question = q;
      held = held;
      part = list_of c;
      stands = inl refl;
      inside = (valid-arguments c pair.valid, pair.arguments);
    }

    pub held-result : (q : ℕ) (args : Condition) (may_fail : Bool) → may_fail ≡ false → IsHeldEmpty kept q → TellsPair env table kept args (condition table q) may_fail arrows Empty
    held-result q args may_fail sure held c pair = by c.result refl pair.answer pair.valid.1
      where
        by : (o : Option Shape) → c.result ≡ o → IsAnswer env may_fail (condition table q) o → IfSome o IsValid → HasHeldPart env table kept c
        by None is answer valid = absurd (false≢true (sym sure ∙ answer))
        by (Some x) is answer valid = record { question = q; held = held; part = x; stands = inr is; inside = (valid, answer) }

    pub ask-arguments : (q : ℕ) (results : Condition) (may_fail : Bool) → IsUnknown kept q → IsDiagram table q → TellsPair env table kept (condition table q) results may_fail arrows (Ask q)
    ask-arguments q results may_fail unknown is = (unknown, is, inl (asked-itself (condition table q) arrows))

    pub ask-result : (q : ℕ) (args : Condition) (may_fail : Bool) → may_fail ≡ false → IsUnknown kept q → IsDiagram table q → TellsPair env table kept args (condition table q) may_fail arrows (Ask q)
    ask-result q args may_fail sure unknown is =
        (unknown, is, inr (record { taken = []; among = All-nil _; some = λ may. absurd (false≢true (sym sure ∙ may)); asked = asks_itself (condition table q) }))

  -- ---- conditions that count as the same ones

  pair-same : (args args' results results' : Condition) (may_fail : Bool) (arrows : List ℕ) → AreOne args args' → AreOne results results' → (c : Case) → IsPair env args results may_fail arrows c → IsPair env args' results' may_fail arrows c
  pair-same args args' results results' may_fail arrows e f c pair = record {
    valid = pair.valid;
    arguments = (Meets-same env args args' (list_of c) (valid-arguments c pair.valid) e).0 pair.arguments;
    answer = by c.result pair.answer pair.valid.1;
    fits = pair.fits;
  }
    where
      by : (o : Option Shape) → IsAnswer env may_fail results o → IfSome o IsValid → IsAnswer env may_fail results' o
      by None answer valid = answer
      by (Some x) answer valid = (Meets-same env results results' x valid f).0 answer

  -- ---- one arrow more

  further : (first : ℕ) (rest xs : List ℕ) → All (Contains rest) xs → All (Contains (first ∷ rest)) xs
  further first rest xs h = All-weaker (Contains rest) (Contains (first ∷ rest)) (λ x among. Contains-append_right (first ∷ []) rest x among) xs h

  here : (first : ℕ) (rest : List ℕ) → Contains (first ∷ rest) first
  here first rest = Contains-append_left (first ∷ []) rest first (Contains-one first)
    where
      Contains-one : (x : ℕ) → Contains (x ∷ []) x
      Contains-one x = (0, omega arith, refl)

  module _ (first : ℕ) (rest : List ℕ) (args : Condition) where
    -- a question about arguments that the arrow doesn't take, and one about the same arguments
    pub further-asked : (left : Condition) → AreOne left (without args (arguments_of env first)) → (d : Condition) → AsksArguments env left rest d → AsksArguments env args (first ∷ rest) d
    further-asked left is d a = record {
      left = first ∷ a.left;
      among = All-cons (Contains (first ∷ rest)) first a.left (here first rest) (further first rest a.left a.among);
      asked = one-further _ _ _ a.asked (asks_first_unwanted left args (arguments_of env first) (map (arguments_of env) a.left) is);
    }

    pub same-asked : (d : Condition) → AsksArguments env args rest d → AsksArguments env args (first ∷ rest) d
    same-asked d a = record { left = a.left; among = further first rest a.left a.among; asked = a.asked }

  module _ (first : ℕ) (rest : List ℕ) (args results : Condition) (may_fail : Bool) where
    -- a pair with arguments that the arrow doesn't take
    pair-left : (left : Condition) → AreOne left (without args (arguments_of env first)) → (c : Case) → IsPair env left results may_fail rest c → IsPair env args results may_fail (first ∷ rest) c
    pair-left left is c pair =
        let valid = valid-arguments c pair.valid in
        let m = (Meets-without env args (arguments_of env first) (list_of c)).0 ((Meets-same env left (without args (arguments_of env first)) (list_of c) valid is).0 pair.arguments) in record {
          valid = pair.valid;
          arguments = m.0;
          answer = pair.answer;
          fits = All-cons (FitsArrow env c) first rest (λ takes. absurd (m.1 takes)) pair.fits;
        }

    -- and one with a result that it gives
    pair-taken : (taken : Condition) → AreOne taken (and_of results (outcome_of env first)) → (c : Case) → IsPair env args taken false rest c → IsPair env args results may_fail (first ∷ rest) c
    pair-taken taken is c pair = by c.result refl pair.answer pair.valid.1
      where
        by : (o : Option Shape) → c.result ≡ o → IsAnswer env false taken o → IfSome o IsValid → IsPair env args results may_fail (first ∷ rest) c
        by None same answer valid = absurd (false≢true answer)
        by (Some x) same answer valid =
            let m = (Meets-and env results (outcome_of env first) x).0 ((Meets-same env taken (and_of results (outcome_of env first)) x valid is).0 answer) in record {
              valid = pair.valid;
              arguments = pair.arguments;
              answer = subst (IsAnswer env may_fail results) (sym same) m.0;
              fits = All-cons (FitsArrow env c) first rest (λ takes. subst (λ o. IsSomeAnd o (Meets env (outcome_of env first))) (sym same) m.1) pair.fits;
            }

    -- a pair that all these arrows allow is one or the other
    pair-cases : (left taken : Condition) → AreOne left (without args (arguments_of env first)) → AreOne taken (and_of results (outcome_of env first)) → (c : Case) → IsPair env args results may_fail (first ∷ rest) c
        → IsPair env left results may_fail rest c ⊎ IsPair env args taken false rest c
    pair-cases left taken is_left is_taken c pair =
        ⊎_elim (λ (takes : Meets env (arguments_of env first) (list_of c)). inr (record { valid = pair.valid; arguments = pair.arguments; answer = gives c.result refl pair.answer pair.valid.1 (All-head (FitsArrow env c) first rest pair.fits takes); fits = All-tail (FitsArrow env c) first rest pair.fits }))
        (λ (n : ¬ Meets env (arguments_of env first) (list_of c)). inl (record { valid = pair.valid; arguments = outside n; answer = pair.answer; fits = All-tail (FitsArrow env c) first rest pair.fits }))
        (Meets-decided env (arguments_of env first) (list_of c))
      where
        outside : ¬ Meets env (arguments_of env first) (list_of c) → Meets env left (list_of c)
        outside n = (Meets-same env left (without args (arguments_of env first)) (list_of c) (valid-arguments c pair.valid) is_left).1 ((Meets-without env args (arguments_of env first) (list_of c)).1 (pair.arguments, n))

        gives : (o : Option Shape) → c.result ≡ o → IsAnswer env may_fail results o → IfSome o IsValid → IsSomeAnd c.result (Meets env (outcome_of env first)) → IsAnswer env false taken c.result
        gives None same answer valid given = absurd (subst (λ o. IsSomeAnd o (Meets env (outcome_of env first))) same given)
        gives (Some x) same answer valid given =
            let m = subst (λ o. IsSomeAnd o (Meets env (outcome_of env first))) same given in
            subst (IsAnswer env false taken) (sym same) ((Meets-same env taken (and_of results (outcome_of env first)) x valid is_taken).1 ((Meets-and env results (outcome_of env first) x).1 (answer, m)))

    module _ (table : Table) (kept : List (ℕ × Option Shape)) where
      pub tells-left-pair : (left : Condition) → AreOne left (without args (arguments_of env first)) → (c : Case) → TellsPair env table kept left results may_fail rest (Pair c) → TellsPair env table kept args results may_fail (first ∷ rest) (Pair c)
      tells-left-pair left is c pair = pair-left left is c pair

      pub tells-left-ask : (left : Condition) → AreOne left (without args (arguments_of env first)) → (q : ℕ) → TellsPair env table kept left results may_fail rest (Ask q) → TellsPair env table kept args results may_fail (first ∷ rest) (Ask q)
      tells-left-ask left is q h = (
        h.0,
        h.1,
        ⊎_elim
            (λ (a : AsksArguments env left rest (condition table q)). inl (further-asked first rest args left is (condition table q) a))
            (λ (r : AsksResults env results may_fail rest (condition table q)). inr (record { taken = r.taken; among = further first rest r.taken r.among; some = r.some; asked = r.asked }))
            h.2,
      )

      pub tells-taken-pair : (taken : Condition) → AreOne taken (and_of results (outcome_of env first)) → (c : Case) → TellsPair env table kept args taken false rest (Pair c) → TellsPair env table kept args results may_fail (first ∷ rest) (Pair c)
      tells-taken-pair taken is c pair = pair-taken taken is c pair

      pub tells-taken-ask : (taken : Condition) → AreOne taken (and_of results (outcome_of env first)) → (q : ℕ) → TellsPair env table kept args taken false rest (Ask q) → TellsPair env table kept args results may_fail (first ∷ rest) (Ask q)
      tells-taken-ask taken is q h = (
        h.0,
        h.1,
        ⊎_elim
            (λ (a : AsksArguments env args rest (condition table q)). inl (same-asked first rest args (condition table q) a))
            (λ (r : AsksResults env taken false rest (condition table q)). inr (record {
              taken = first ∷ r.taken;
              among = All-cons (Contains (first ∷ rest)) first r.taken (here first rest) (further first rest r.taken r.among);
              some = λ may same. cc;
              asked = one-further _ _ _ r.asked (asks_first_wanted taken results (outcome_of env first) (map (outcome_of env) r.taken) is);
            }))
            h.2,
      )

      -- where neither has a pair, there is none
      pub tells-none : (mid : Table) (left taken : Condition) → AreOne left (without args (arguments_of env first)) → AreOne taken (and_of results (outcome_of env first)) → All (IsSound env mid) kept → Keeps mid table
          → TellsPair env mid kept left results may_fail rest Empty → TellsPair env table kept args taken false rest Empty → TellsPair env table kept args results may_fail (first ∷ rest) Empty
      tells-none mid left taken is_left is_taken sound keeps none_left none_taken c pair =
          ⊎_elim (λ (l : IsPair env left results may_fail rest c). held-keeps (none_left c l)) (λ (t : IsPair env args taken false rest c). none_taken c t) (pair-cases left taken is_left is_taken c pair)
        where
          held-keeps : HasHeldPart env mid kept c → HasHeldPart env table kept c
          held-keeps h = record {
            question = h.question;
            held = h.held;
            part = h.part;
            stands = h.stands;
            inside = subst (λ d. IsShapeOf env d h.part) (sym (keeps.conditions h.question (All-contains (IsSound env mid) kept (h.question, None) sound h.held))) h.inside;
          }

  -- arguments without some are arguments
  pub fewer-arguments : (args left d : Condition) → AreOne left (without args d) → AreArguments env args → AreArguments env left
  fewer-arguments args left d is are x h = are x (h.0, ((Meets-without env args d x).0 ((Meets-same env left (without args d) x h.0 is).0 h.1)).0)

  -- kept shapes make a pair
  pub pair-of : (args results : Condition) (may_fail : Bool) (items : Shapes) → IsShapeOf env args (ListOf false items) → (answer : Option Shape) → IsAnswer env may_fail results answer → IfSome answer IsValid → IsPair env args results may_fail [] (record { args = items; result = answer })
  pair-of args results may_fail items is answer meets valid = record {
    valid = (((IsValid-List false items).0 is.0).1, valid);
    arguments = is.1;
    answer = meets;
    fits = All-nil _;
  }

  -- the same is told where the conditions count as the same ones
  pub tells-same : (table : Table) (kept : List (ℕ × Option Shape)) (args args' results results' : Condition) (may_fail : Bool) (arrows : List ℕ) → AreOne args args' → AreOne results results'
      → (found : Found) → TellsPair env table kept args results may_fail arrows found → TellsPair env table kept args' results' may_fail arrows found
  tells-same table kept args args' results results' may_fail arrows e f (Pair c) pair = pair-same args args' results results' may_fail arrows e f c pair
  tells-same table kept args args' results results' may_fail arrows e f Empty none = λ c pair. none c (pair-same args' args results' results may_fail arrows (one_back args args' e) (one_back results results' f) c pair)
  tells-same table kept args args' results results' may_fail arrows e f (Ask q) h = (
    h.0,
    h.1,
    ⊎_elim
        (λ (a : AsksArguments env args arrows (condition table q)). inl (record { left = a.left; among = a.among; asked = one-further _ _ _ a.asked (asks_along args args' (map (arguments_of env) a.left) e) }))
        (λ (r : AsksResults env results may_fail arrows (condition table q)). inr (record { taken = r.taken; among = r.among; some = r.some; asked = one-further _ _ _ r.asked (asks_wanted_along results results' (map (outcome_of env) r.taken) f) }))
        h.2,
  )
