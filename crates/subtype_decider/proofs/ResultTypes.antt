-- Types of results that are put together.
use Rattle.std.proofs.Common.{◌≡◌, ◌↔◌, ◌⊎◌, ⊎_elim, inl, inr, ℕ, ◌+◌, ◌<◌, ◌≤◌, List, [], ◌∷◌, ◌++◌, take, length, get_or, All, Any, Box, Global, sym, subst}
use Rattle.std.proofs.lemmas.List.{take_more}
use Rattle.std.proofs.lemmas.List.Elements.{All-nil, All-cons, All-head, All-tail, All-push}
use Rattle.bal_base.specs.declared.shape.Shape.{Shape}
use Rattle.type_model.specs.declared.basic.SemType.{SemType, Basic, And, Or}
use Rattle.type_model.specs.declared.basic.BasicSet.TheVariants.{Never}
use Rattle.type_model.specs.declared.atoms.AtomDef.{AtomDef}
use Rattle.type_model.specs.Defined.{IsDefined}
use Rattle.type_model.specs.Membership.{In}
use Rattle.type_model.specs.SameType.{IsSameType}
use Rattle.type_model.proofs.SameTypes.{NamesBelow-same, In-same}
use Rattle.type_diagrams.specs.Kinds.{the_mark}
use Rattle.type_diagrams.specs.Conditions.{Meets, condition_of}
use Rattle.type_diagrams.specs.Members.{outcome_of}
use Rattle.type_diagrams.proofs.Elements.{All-parts}
use Rattle.type_diagrams.proofs.Meeting.{In-condition}
use Rattle.empty_arrow.specs.Giving.{IsBoth, IsEither, IsInOne, IsMeeting}
use Rattle.empty_arrow.proofs.Giving.{no_types}
use Rattle.empty_arrow.proofs.SomeOf.{Any-here, Any-later, Any-cases, Any-left, Any-right, Any-append_cases}

module _ (env : List AtomDef) where
  -- ---- two types in boxes

  module _ (s t : SemType) (a b : Box SemType Global) (left : a.value ≡ s) where
    pub and-IsBoth : (u : SemType) → b.value ≡ u → IsSameType t u → IsBoth env s t (And a b)
    and-IsBoth u right same = record {
      defined = λ d e. (subst (IsDefined env) (sym left) d, subst (IsDefined env) (sym right) (NamesBelow-same (length env) t u same e));
      shapes = λ x. let o = In-same env x t u same in (
        λ i. (subst (In env x) left i.0, o.1 (subst (In env x) right i.1)),
        λ h. (subst (In env x) (sym left) h.0, subst (In env x) (sym right) (o.0 h.1)),
      );
    }

    pub or-IsEither : b.value ≡ t → IsEither env (s ∷ t ∷ []) (Or a b)
    or-IsEither right =
        let Is : Shape → SemType → Type 0 = λ x u. In env x u in record {
          defined = λ d. (subst (IsDefined env) (sym left) (All-head (IsDefined env) s (t ∷ []) d), subst (IsDefined env) (sym right) (All-head (IsDefined env) t [] (All-tail (IsDefined env) s (t ∷ []) d)));
          shapes = λ x. (
            λ i. ⊎_elim (λ (l : In env x a.value). Any-here (Is x) s (t ∷ []) (subst (In env x) left l)) (λ (r : In env x b.value). Any-later (Is x) s (t ∷ []) (Any-here (Is x) t [] (subst (In env x) right r))) i,
            λ n. ⊎_elim (λ (l : In env x s). inl (subst (In env x) (sym left) l)) (λ (r : Any (Is x) (t ∷ [])). inr (subst (In env x) (sym right) (only-In t x r))) (Any-cases (Is x) s (t ∷ []) n),
          );
        }
      where
        only-In : (u : SemType) (x : Shape) → IsInOne env (u ∷ []) x → In env x u
        only-In u x n = ⊎_elim (λ (h : In env x u). h) (λ (r : Any (λ (v : SemType). In env x v) []). absurd (no_types env x r)) (Any-cases (λ (v : SemType). In env x v) u [] n)

  -- ---- the outcomes of arrows

  module _ (small : length env ≤ the_mark) where
    outcome-In : (a : ℕ) (out : SemType) → outcome_of env a ≡ condition_of env out → (x : Shape) → In env x out ↔ Meets env (outcome_of env a) x
    outcome-In a out is x =
        let c = In-condition env small x out in
        (λ i. subst (λ d. Meets env d x) (sym is) (c.0 i), λ h. c.1 (subst (λ d. Meets env d x) is h))

    pub one-IsMeeting : (a : ℕ) (out t : SemType) → outcome_of env a ≡ condition_of env out → IsDefined env out → IsSameType out t → IsMeeting env (a ∷ []) t
    one-IsMeeting a out t is defined same = record {
      defined = NamesBelow-same (length env) out t same defined;
      shapes = λ x.
          let o = outcome-In a out is x in
          let s = In-same env x out t same in
          let Gives : ℕ → Type 0 = λ b. Meets env (outcome_of env b) x in
          (λ i. All-cons Gives a [] (o.0 (s.1 i)) (All-nil Gives), λ h. s.0 (o.1 (All-head Gives a [] h)));
    }

    pub more-IsMeeting : (first i : ℕ) (others : List ℕ) (t out r : SemType) → i < length others → IsMeeting env (first ∷ take i others) t → outcome_of env (get_or others i 0) ≡ condition_of env out → IsDefined env out → IsBoth env t out r → IsMeeting env (first ∷ take (i + 1) others) r
    more-IsMeeting first i others t out r lt is asks defined both =
        let a = get_or others i 0 in
        subst (λ xs. IsMeeting env (first ∷ xs) r) (sym (take_more others i 0 lt)) (record {
          defined = both.defined is.defined defined;
          shapes = λ x.
              let o = outcome-In a out asks x in
              let b = both.shapes x in
              let Gives : ℕ → Type 0 = λ c. Meets env (outcome_of env c) x in (
                λ both_in. let p = b.0 both_in in All-push Gives (first ∷ take i others) a ((is.shapes x).0 p.0) (o.0 p.1),
                λ h. let p = All-parts Gives (first ∷ take i others) (a ∷ []) h in b.1 ((is.shapes x).1 p.0, o.1 (All-head Gives a [] p.1)),
              );
        })

  -- ---- one type of several

  pub none-IsEither : IsEither env [] (Basic Never)
  none-IsEither = record { defined = λ d. tt; shapes = λ x. (λ i. absurd i, λ n. absurd (no_types env x n)) }

  -- what is in one of them all is in one of those that are left, or in the union
  pub record IsJoined (all left : List SemType) (union : SemType) : Type 0 where
    pub defined : All (IsDefined env) all → All (IsDefined env) left × IsDefined env union
    pub shapes : (x : Shape) → IsInOne env all x ↔ (IsInOne env left x ⊎ In env x union)

  parts : (left : List SemType) (t : SemType) (x : Shape) → IsInOne env (left ++ t ∷ []) x ↔ (IsInOne env left x ⊎ In env x t)
  parts left t x =
      let Is : SemType → Type 0 = λ u. In env x u in (
        λ n. ⊎_elim (λ (l : Any Is left). inl l) (λ (r : Any Is (t ∷ [])). inr (only r)) (Any-append_cases Is left (t ∷ []) n),
        λ h. ⊎_elim (λ (l : Any Is left). Any-left Is left (t ∷ []) l) (λ (r : In env x t). Any-right Is left (t ∷ []) (Any-here Is t [] r)) h,
      )
    where
      only : IsInOne env (t ∷ []) x → In env x t
      only n = ⊎_elim (λ (h : In env x t). h) (λ (r : Any (λ (v : SemType). In env x v) []). absurd (no_types env x r)) (Any-cases (λ (v : SemType). In env x v) t [] n)

  pub first-IsJoined : (all left : List SemType) (t : SemType) → all ≡ left ++ t ∷ [] → IsJoined all left t
  first-IsJoined all left t is = subst (λ ts. IsJoined ts left t) (sym is) (record {
    defined = λ d. let p = All-parts (IsDefined env) left (t ∷ []) d in (p.0, All-head (IsDefined env) t [] p.1);
    shapes = parts left t;
  })

  pub more-IsJoined : (all left rest : List SemType) (t u r : SemType) → IsJoined all left u → left ≡ rest ++ t ∷ [] → IsEither env (t ∷ u ∷ []) r → IsJoined all rest r
  more-IsJoined all left rest t u r j is either = record {
    defined = λ d.
        let p = j.defined d in
        let q = All-parts (IsDefined env) rest (t ∷ []) (subst (All (IsDefined env)) is p.0) in
        (q.0, either.defined (All-cons (IsDefined env) t (u ∷ []) (All-head (IsDefined env) t [] q.1) (All-cons (IsDefined env) u [] p.1 (All-nil (IsDefined env)))));
    shapes = λ x.
        let Is : SemType → Type 0 = λ v. In env x v in
        let left_parts = subst (λ ts. IsInOne env ts x ↔ (IsInOne env rest x ⊎ In env x t)) (sym is) (parts rest t x) in
        let in_t : In env x t → In env x r = λ h. (either.shapes x).1 (Any-here Is t (u ∷ []) h) in
        let in_u : In env x u → In env x r = λ h. (either.shapes x).1 (Any-later Is t (u ∷ []) (Any-here Is u [] h)) in (
          λ n. ⊎_elim (λ (l : IsInOne env left x). ⊎_elim (λ (a : IsInOne env rest x). inl a) (λ (b : In env x t). inr (in_t b)) (left_parts.0 l)) (λ (h : In env x u). inr (in_u h)) ((j.shapes x).0 n),
          λ h. (j.shapes x).1 (⊎_elim
              (λ (a : IsInOne env rest x). inl (left_parts.1 (inl a)))
              (λ (b : In env x r). ⊎_elim (λ (c : In env x t). inl (left_parts.1 (inr c))) (λ (c : Any Is (u ∷ [])). inr (only x c)) (Any-cases Is t (u ∷ []) ((either.shapes x).0 b)))
              h),
        );
  }
    where
      only : (x : Shape) → IsInOne env (u ∷ []) x → In env x u
      only x n = ⊎_elim (λ (h : In env x u). h) (λ (r : Any (λ (v : SemType). In env x v) []). absurd (no_types env x r)) (Any-cases (λ (v : SemType). In env x v) u [] n)

  pub all-IsEither : (all left : List SemType) (u : SemType) → left ≡ [] → IsJoined all left u → IsEither env all u
  all-IsEither all left u none j = record {
    defined = λ d. (j.defined d).1;
    shapes = λ x. (
      λ i. (j.shapes x).1 (inr i),
      λ n. ⊎_elim (λ (l : IsInOne env left x). absurd (no_types env x (subst (λ ts. IsInOne env ts x) none l))) (λ (h : In env x u). h) ((j.shapes x).0 n),
    );
  }
