-- The way of a merge through two rising lists.
use Rattle.std.proofs.Common.{◌≡◌, List, [], ◌∷◌, ◌++◌, Bool, true, false, not, ◌||◌, if◌then◌else◌, ◌⊎◌, ⊎_elim, inl, inr, refl, sym, subst, ◌∙◌, ap, append_assoc}
use Rattle.std.proofs.lemmas.Bool.{false≢true}
use Rattle.std.specs.Cmp.{IsTotalOrder}
use Rattle.std.specs.declared.cmp.Ordering.{Ordering}
use Rattle.std.specs.declared.cmp.Ordering.TheVariants.{Less, Greater}
use Rattle.type_diagrams.specs.declared.merge.Rule.{Rule}
use Rattle.type_diagrams.specs.Operations.{meaning}
use Rattle.type_diagrams.specs.Sets.{Each, answer_for, covers, IsBelowAll, Rises}
use Rattle.type_diagrams.specs.Merges.{first_answer, turns_over, IsOneOf, IsNext, IsMerged}
use Rattle.type_diagrams.proofs.Places.{Each-push, Each-map, with_if, turned_if, answer-off, answer-on, answer-push, below_through, covers-behind, before-covered, Greater-apart}

-- ---- lists with one more

pub IsOneOf-before : {X : Type 0} (xs ys : List X) (y : X) → IsOneOf xs y → IsOneOf (xs ++ ys) y
IsOneOf-before [] ys y h = absurd h
IsOneOf-before (x ∷ xs) ys y h = ⊎_elim (λ (e : x ≡ y). inl e) (λ (k : IsOneOf xs y). inr (IsOneOf-before xs ys y k)) h

pub IsOneOf-last : {X : Type 0} (xs ys : List X) (y : X) → IsOneOf (xs ++ y ∷ ys) y
IsOneOf-last [] ys y = inl refl
IsOneOf-last (x ∷ xs) ys y = inr (IsOneOf-last xs ys y)

IsOneOf-push : {X : Type 0} (xs : List X) (p y : X) → IsOneOf (xs ++ p ∷ []) y → IsOneOf xs y ⊎ (p ≡ y)
IsOneOf-push [] p y h = ⊎_elim (λ (e : p ≡ y). inr e) (λ (k : ⊥). absurd k) h
IsOneOf-push (x ∷ xs) p y h =
    ⊎_elim (λ (e : x ≡ y). inl (inl e)) (λ (k : IsOneOf (xs ++ p ∷ []) y). ⊎_elim (λ (l : IsOneOf xs y). inl (inr l)) (λ (e : p ≡ y). inr e) (IsOneOf-push xs p y k)) h

pub Each-IsOneOf : {X : Type 0} (P : X → Type 0) (xs : List X) (y : X) → Each P xs → IsOneOf xs y → P y
Each-IsOneOf P [] y h k = absurd k
Each-IsOneOf P (x ∷ xs) y h k = ⊎_elim (λ (e : x ≡ y). subst P e h.0) (λ (l : IsOneOf xs y). Each-IsOneOf P xs y h.1 l) k

pub IsOneOf-Each : {X : Type 0} (P : X → Type 0) (xs : List X) → ((y : X) → IsOneOf xs y → P y) → Each P xs
IsOneOf-Each P [] f = tt
IsOneOf-Each P (x ∷ xs) f = (f x (inl refl), IsOneOf-Each P xs (λ y k. f y (inr k)))

or_cases : (a b : Bool) → (a || b) ≡ true → (a ≡ true) ⊎ (b ≡ true)
or_cases true b e = inl refl
or_cases false b e = inr e

module _ {X : Type 0} (cmp : X → X → Ordering) where
  IsBelowAll-push : (x : X) (ys : List X) (p : X) → IsBelowAll cmp x ys → cmp x p ≡ Less → IsBelowAll cmp x (ys ++ p ∷ [])
  IsBelowAll-push x [] p h lt = (lt, tt)
  IsBelowAll-push x (y ∷ ys) p h lt = (h.0, IsBelowAll-push x ys p h.1 lt)

  Rises-push : (xs : List X) (p : X) → Rises cmp xs → Each (λ a. cmp a p ≡ Less) xs → Rises cmp (xs ++ p ∷ [])
  Rises-push [] p h k = (tt, tt)
  Rises-push (x ∷ xs) p h k = (IsBelowAll-push x xs p h.0 k.0, Rises-push xs p h.1 k.1)

  -- below all that two lists have
  abbrev BelowBoth : List X → List X → X → Type 0
  BelowBoth left right a = IsBelowAll cmp a left × IsBelowAll cmp a right

  -- the rest of a list behind a place, where the place is in it
  below_rest : (b : Bool) (p a : X) (rest : List X) → IsBelowAll cmp a (if b then p ∷ rest else rest) → IsBelowAll cmp a rest
  below_rest true p a rest h = h.1
  below_rest false p a rest h = h

  rises_rest : (b : Bool) (p : X) (rest : List X) → Rises cmp (if b then p ∷ rest else rest) → Rises cmp rest
  rises_rest true p rest h = h.1
  rises_rest false p rest h = h

  place_in : (b : Bool) (p a : X) (rest : List X) → b ≡ true → IsBelowAll cmp a (if b then p ∷ rest else rest) → cmp a p ≡ Less
  place_in true p a rest e h = h.0
  place_in false p a rest e h = absurd (false≢true e)

  module _ (left right : List X) (p : X) (bl br : Bool) (left_rest right_rest : List X) (n : IsNext cmp left right p bl br left_rest right_rest) where
    before_place : (a : X) → BelowBoth left right a → cmp a p ≡ Less
    before_place a h =
        ⊎_elim
        (λ (e : bl ≡ true). place_in bl p a left_rest e (subst (IsBelowAll cmp a) n.of_left h.0))
        (λ (e : br ≡ true). place_in br p a right_rest e (subst (IsBelowAll cmp a) n.of_right h.1))
        (or_cases bl br n.some)

    before_rest : (a : X) → BelowBoth left right a → BelowBoth left_rest right_rest a
    before_rest a h =
        (below_rest bl p a left_rest (subst (IsBelowAll cmp a) n.of_left h.0), below_rest br p a right_rest (subst (IsBelowAll cmp a) n.of_right h.1))

-- ---- the way

pub record Merging {X : Type 0} (cmp : X → X → Ordering) (start : Rule) (all_left all_right : List X) (now : Rule) (places left right : List X) : Type 0 where
  pub seen : List X
  pub met : List X
  pub of_left : all_left ≡ seen ++ left
  pub of_right : all_right ≡ met ++ right
  pub operation : now.operation ≡ start.operation
  pub lasting : now.lasting ≡ start.lasting
  pub answers : (x : X) → answer_for (covers start.lasting cmp) (first_answer start) places x ≡ meaning start.operation (answer_for (covers start.lasting cmp) start.left seen x) (answer_for (covers start.lasting cmp) start.right met x)
  pub left_is : (x : X) → Each (λ a. cmp a x ≡ Less) seen → answer_for (covers start.lasting cmp) start.left seen x ≡ now.left
  pub right_is : (x : X) → Each (λ a. cmp a x ≡ Less) met → answer_for (covers start.lasting cmp) start.right met x ≡ now.right
  pub seen_before : Each (BelowBoth cmp left right) seen
  pub met_before : Each (BelowBoth cmp left right) met
  pub places_before : Each (BelowBoth cmp left right) places
  pub rises : Rises cmp places
  pub left_rises : Rises cmp left
  pub right_rises : Rises cmp right
  pub from : (p : X) → IsOneOf places p → IsOneOf seen p ⊎ IsOneOf met p

module _ {X : Type 0} (cmp : X → X → Ordering) (total : IsTotalOrder cmp) (start : Rule) (all_left all_right : List X) where
  pub merging-start : Rises cmp all_left → Rises cmp all_right → Merging cmp start all_left all_right start [] all_left all_right
  merging-start l r = record {
    seen = [];
    met = [];
    of_left = refl;
    of_right = refl;
    operation = refl;
    lasting = refl;
    answers = λ x. refl;
    left_is = λ x h. refl;
    right_is = λ x h. refl;
    seen_before = tt;
    met_before = tt;
    places_before = tt;
    rises = tt;
    left_rises = l;
    right_rises = r;
    from = λ p h. absurd h;
  }

  append_nil : (xs : List X) → xs ++ [] ≡ xs
  append_nil [] = refl
  append_nil (x ∷ xs) = ap (λ ys. x ∷ ys) (append_nil xs)

  pub merging-end : (now : Rule) (places left right : List X) → left ≡ [] → right ≡ [] → Merging cmp start all_left all_right now places left right → IsMerged cmp start all_left all_right places
  merging-end now places left right el er m =
      let seen : m.seen ≡ all_left = sym (append_nil m.seen) ∙ ap (λ l. m.seen ++ l) (sym el) ∙ sym m.of_left in
      let met : m.met ≡ all_right = sym (append_nil m.met) ∙ ap (λ l. m.met ++ l) (sym er) ∙ sym m.of_right in
      record {
        rises = m.rises;
        from = λ p h. subst (λ l. IsOneOf l p ⊎ IsOneOf all_right p) seen (subst (λ l. IsOneOf m.seen p ⊎ IsOneOf l p) met (m.from p h));
        answers = λ x. m.answers x ∙ (λ i. meaning start.operation (answer_for (covers start.lasting cmp) start.left (seen i) x) (answer_for (covers start.lasting cmp) start.right (met i) x));
      }

  -- one more place
  abbrev pub turned : Rule → Bool → Bool → Rule
  turned r bl br = record r { left = turned_if bl r.left; right = turned_if br r.right }

  abbrev pub behind : Rule → Rule → Rule
  behind r s = if r.lasting then s else r

  module _ (now : Rule) (places left right : List X) (m : Merging cmp start all_left all_right now places left right)
      (p : X) (bl br : Bool) (left_rest right_rest : List X) (n : IsNext cmp left right p bl br left_rest right_rest) where
    abbrev test : X → X → Bool
    test = covers start.lasting cmp

    abbrev place_before : (a : X) → BelowBoth cmp left right a → cmp a p ≡ Less
    place_before = before_place cmp left right p bl br left_rest right_rest n

    abbrev rest_before : (a : X) → BelowBoth cmp left right a → BelowBoth cmp left_rest right_rest a
    rest_before = before_rest cmp left right p bl br left_rest right_rest n

    abbrev keep : Bool
    keep = turns_over now (turned now bl br)

    -- all that was before are before what the place covers
    covered : (xs : List X) (x : X) → Each (BelowBoth cmp left right) xs → test p x ≡ true → Each (λ a. cmp a x ≡ Less) xs
    covered xs x h c = Each-map (BelowBoth cmp left right) (λ a. cmp a x ≡ Less) xs (λ a b. before-covered cmp total start.lasting a p x (place_before a b) c) h

    kept : (o : Bool) (f : Bool) → turned_if (if o then not f else f) o ≡ f
    kept true true = refl
    kept true false = refl
    kept false true = refl
    kept false false = refl

    first_is : (r : Rule) → r.operation ≡ start.operation → first_answer r ≡ meaning start.operation r.left r.right
    first_is r e = ap (λ o. meaning o r.left r.right) e

    answers_at : (x : X) (c : Bool) → test p x ≡ c → answer_for test (first_answer start) (with_if keep places p) x ≡ meaning start.operation (answer_for test start.left (with_if bl m.seen p) x) (answer_for test start.right (with_if br m.met p) x)
    answers_at x false c =
        answer-off test keep (first_answer start) places p x c
        ∙ m.answers x
        ∙ (λ i. meaning start.operation (sym (answer-off test bl start.left m.seen p x c) i) (sym (answer-off test br start.right m.met p x c) i))
    answers_at x true c =
        let left_now = m.left_is x (covered m.seen x m.seen_before c) in
        let right_now = m.right_is x (covered m.met x m.met_before c) in
        let before : answer_for test (first_answer start) places x ≡ first_answer now =
        m.answers x ∙ (λ i. meaning start.operation (left_now i) (right_now i)) ∙ sym (first_is now m.operation) in
        answer-on test keep (first_answer start) places p x c
        ∙ ap (turned_if keep) before
        ∙ kept (first_answer now) (first_answer (turned now bl br))
        ∙ first_is (turned now bl br) m.operation
        ∙ (λ i. meaning start.operation (turned_if bl (sym left_now i)) (turned_if br (sym right_now i)))
        ∙ (λ i. meaning start.operation (sym (answer-on test bl start.left m.seen p x c) i) (sym (answer-on test br start.right m.met p x c) i))

    -- what a rule is behind the place
    operation_behind : (l : Bool) → (if l then turned now bl br else now).operation ≡ now.operation
    operation_behind true = refl
    operation_behind false = refl

    lasting_behind : (l : Bool) → (if l then turned now bl br else now).lasting ≡ now.lasting
    lasting_behind true = refl
    lasting_behind false = refl

    left_behind : (l : Bool) → (if l then turned_if bl now.left else now.left) ≡ (if l then turned now bl br else now).left
    left_behind true = refl
    left_behind false = refl

    right_behind : (l : Bool) → (if l then turned_if br now.right else now.right) ≡ (if l then turned now bl br else now).right
    right_behind true = refl
    right_behind false = refl

    moved : (b : Bool) (seen rest : List X) → seen ++ (if b then p ∷ rest else rest) ≡ with_if b seen p ++ rest
    moved true seen rest = sym (append_assoc seen (p ∷ []) rest)
    moved false seen rest = refl

    split_last : (P : X → Type 0) (xs : List X) (y : X) → Each P (xs ++ y ∷ []) → Each P xs × P y
    split_last P [] y h = (tt, h.0)
    split_last P (x ∷ xs) y h = let r = split_last P xs y h.1 in ((h.0, r.0), r.1)

    answer_behind : (b : Bool) (first current : Bool) (seen : List X) → ((x : X) → Each (λ a. cmp a x ≡ Less) seen → answer_for test first seen x ≡ current)
        → (x : X) → Each (λ a. cmp a x ≡ Less) (with_if b seen p) → answer_for test first (with_if b seen p) x ≡ (if now.lasting then turned_if b current else current)
    answer_behind true first current seen is x h =
        let e = split_last (λ a. cmp a x ≡ Less) seen p h in
        answer-push test first seen p x ∙ (λ i. turned_if ((covers-behind cmp total start.lasting p x e.1 ∙ sym m.lasting) i) (is x e.0 i))
    answer_behind false first current seen is x h = is x h ∙ same now.lasting
      where
        same : (l : Bool) → current ≡ (if l then current else current)
        same true = refl
        same false = refl

    each_rest : (b : Bool) (xs : List X) → Each (BelowBoth cmp left right) xs → Each (BelowBoth cmp left_rest right_rest) (with_if b xs p)
    each_rest true xs h =
        Each-push (BelowBoth cmp left_rest right_rest) xs p (Each-map (BelowBoth cmp left right) (BelowBoth cmp left_rest right_rest) xs rest_before h) (n.below_left, n.below_right)
    each_rest false xs h = Each-map (BelowBoth cmp left right) (BelowBoth cmp left_rest right_rest) xs rest_before h

    rises_more : (b : Bool) → Rises cmp (with_if b places p)
    rises_more true = Rises-push cmp places p m.rises (Each-map (BelowBoth cmp left right) (λ a. cmp a p ≡ Less) places place_before m.places_before)
    rises_more false = m.rises

    kept_in : (b : Bool) (xs : List X) (y : X) → IsOneOf xs y → IsOneOf (with_if b xs p) y
    kept_in true xs y h = IsOneOf-before xs (p ∷ []) y h
    kept_in false xs y h = h

    last_in : (b : Bool) (xs : List X) → b ≡ true → IsOneOf (with_if b xs p) p
    last_in true xs e = IsOneOf-last xs [] p
    last_in false xs e = absurd (false≢true e)

    abbrev FromBoth : X → Type 0
    FromBoth y = IsOneOf (with_if bl m.seen p) y ⊎ IsOneOf (with_if br m.met p) y

    place_from : FromBoth p
    place_from =
        ⊎_elim (λ (e : bl ≡ true). inl (last_in bl m.seen e)) (λ (e : br ≡ true). inr (last_in br m.met e)) (or_cases bl br n.some)

    old_from : (y : X) → IsOneOf places y → FromBoth y
    old_from y h =
        ⊎_elim (λ (k : IsOneOf m.seen y). inl (kept_in bl m.seen y k)) (λ (k : IsOneOf m.met y). inr (kept_in br m.met y k)) (m.from y h)

    from_more : (b : Bool) (y : X) → IsOneOf (with_if b places p) y → FromBoth y
    from_more true y h =
        ⊎_elim (λ (k : IsOneOf places y). old_from y k) (λ (e : p ≡ y). subst FromBoth e place_from) (IsOneOf-push places p y h)
    from_more false y h = old_from y h

    pub merging-step : Merging cmp start all_left all_right (behind now (turned now bl br)) (with_if keep places p) left_rest right_rest
    merging-step = record {
      seen = with_if bl m.seen p;
      met = with_if br m.met p;
      of_left = m.of_left ∙ ap (λ l. m.seen ++ l) n.of_left ∙ moved bl m.seen left_rest;
      of_right = m.of_right ∙ ap (λ l. m.met ++ l) n.of_right ∙ moved br m.met right_rest;
      operation = operation_behind now.lasting ∙ m.operation;
      lasting = lasting_behind now.lasting ∙ m.lasting;
      answers = λ x. answers_at x (test p x) refl;
      left_is = λ x h. answer_behind bl start.left now.left m.seen m.left_is x h ∙ left_behind now.lasting;
      right_is = λ x h. answer_behind br start.right now.right m.met m.right_is x h ∙ right_behind now.lasting;
      seen_before = each_rest bl m.seen m.seen_before;
      met_before = each_rest br m.met m.met_before;
      places_before = each_rest keep places m.places_before;
      rises = rises_more keep;
      left_rises = rises_rest cmp bl p left_rest (subst (Rises cmp) n.of_left m.left_rises);
      right_rises = rises_rest cmp br p right_rest (subst (Rises cmp) n.of_right m.right_rises);
      from = from_more keep;
    }

  -- the same, where the rule and the places are got by equations
  pub merging-made : (now : Rule) (places left right : List X) (p : X) (t u : Rule) (keep : Bool) (rule : Rule) (more : List X)
      → u ≡ t → keep ≡ turns_over now u → more ≡ (if keep then places ++ p ∷ [] else places) → rule ≡ (if now.lasting then u else now)
      → Merging cmp start all_left all_right (behind now t) (with_if (turns_over now t) places p) left right → Merging cmp start all_left all_right rule more left right
  merging-made now places left right p t u keep rule more is kept is_more is_rule m =
      let rule_is : rule ≡ behind now t = is_rule ∙ ap (λ r. if now.lasting then r else now) is in
      let keep_is : keep ≡ turns_over now t = kept ∙ ap (turns_over now) is in
      let more_is : more ≡ with_if (turns_over now t) places p = is_more ∙ ap (λ b. if b then places ++ p ∷ [] else places) keep_is in
      subst (λ r. Merging cmp start all_left all_right r more left right) (sym rule_is) (subst (λ l. Merging cmp start all_left all_right (behind now t) l left right) (sym more_is) m)

-- ---- the next place

module _ {X : Type 0} (cmp : X → X → Ordering) (total : IsTotalOrder cmp) (left right : List X) (p q : X) (ps qs : List X)
    (el : left ≡ p ∷ ps) (er : right ≡ q ∷ qs) (rl : Rises cmp left) (rr : Rises cmp right) where
  pub next-Less : cmp p q ≡ Less → IsNext cmp left right p true false ps right
  next-Less lt =
      let r = subst (Rises cmp) er rr in
      record {
        of_left = el;
        of_right = refl;
        some = refl;
        below_left = (subst (Rises cmp) el rl).0;
        below_right = subst (IsBelowAll cmp p) (sym er) (lt, below_through cmp total p q qs lt r.0);
      }

  pub next-Greater : cmp p q ≡ Greater → IsNext cmp left right q false true left qs
  next-Greater gt =
      let lt = Greater-apart cmp total p q gt in
      let l = subst (Rises cmp) el rl in
      record {
        of_left = refl;
        of_right = er;
        some = refl;
        below_left = subst (IsBelowAll cmp q) (sym el) (lt, below_through cmp total q p ps lt l.0);
        below_right = (subst (Rises cmp) er rr).0;
      }
