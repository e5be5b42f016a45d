-- Trees that group to the left, as a first operand and operators with the operands behind them, one by one.
use Rattle.std.proofs.Common.{◌≡◌, List, [], ◌∷◌, ◌++◌, refl, sym, ap, ◌∙◌, subst}
use Rattle.bal_base.specs.declared.place.Place.{Place}
use Rattle.bal_tree.specs.Pieces.{Pieces, ◌&◌, starts}
use Rattle.bal_tree.specs.Spells.{onto}
use Rattle.token_steps.specs.Tokens.{Kinds}
use Rattle.parse_stmt.proofs.Alike.{Alike, Same}

-- an operator with what stands behind it, and the place of the whole
pub record Step (X : Type 0) : Type 0 where
  pub at : Place
  pub is : X

-- `B` are first operands, `X` what stands behind them
module _ {B X : Type 0} (pb : B → Pieces) (px : X → Pieces) where
  abbrev pub spun : Pieces → List (Step X) → Pieces
  spun p [] = p
  spun p (s ∷ ss) = spun (starts s.at & p & px s.is) ss

  abbrev pub after : List (Step X) → Kinds → Kinds
  after [] ks = ks
  after (s ∷ ss) ks = onto (px s.is) (after ss ks)

  pub onto-spun : (p : Pieces) (ss : List (Step X)) (ks : Kinds) → onto (spun p ss) ks ≡ onto p (after ss ks)
  onto-spun p [] ks = refl
  onto-spun p (s ∷ ss) ks = onto-spun (starts s.at & p & px s.is) ss ks

  pub spun-more : (p : Pieces) (ss : List (Step X)) (s : Step X) → spun p (ss ++ s ∷ []) ≡ (starts s.at & spun p ss & px s.is)
  spun-more p [] s = refl
  spun-more p (r ∷ ss) s = spun-more (starts r.at & p & px r.is) ss s

  -- what may stand behind each of them: `A` says so of a first operand, `D` of a further one
  module _ (A : B → Kinds → Type 0) (D : X → Kinds → Type 0) where
    abbrev pub AllGood : List (Step X) → Kinds → Type 0
    AllGood [] ks = Unit {0}
    AllGood (s ∷ ss) ks = D s.is (after ss ks) × AllGood ss ks

    pub good-more : (ss : List (Step X)) (s : Step X) (ks : Kinds) → AllGood ss (onto (px s.is) ks) → D s.is ks → AllGood (ss ++ s ∷ []) ks
    good-more [] s ks g d = (d, tt)
    good-more (r ∷ ss) s ks g d = (subst (D r.is) (sym (after-more ss)) g.0, good-more ss s ks g.1 d)
      where
        after-more : (rs : List (Step X)) → after (rs ++ s ∷ []) ks ≡ after rs (onto (px s.is) ks)
        after-more [] = refl
        after-more (q ∷ rs) = ap (onto (px q.is)) (after-more rs)

    pub after-more : (rs : List (Step X)) (s : Step X) (ks : Kinds) → after (rs ++ s ∷ []) ks ≡ after rs (onto (px s.is) ks)
    after-more [] s ks = refl
    after-more (q ∷ rs) s ks = ap (onto (px q.is)) (after-more rs s ks)

    -- pieces that are so put together; `E` says what may stand behind the whole
    pub record Spine (p : Pieces) (E : Kinds → Type 0) : Type 0 where
      pub base : B
      pub steps : List (Step X)
      pub written : p ≡ spun (pb base) steps
      pub first : (ks : Kinds) → E ks → A base (after steps ks)
      pub good : (ks : Kinds) → E ks → AllGood steps ks

    pub one-spine : (b : B) (E : Kinds → Type 0) → ((ks : Kinds) → E ks → A b ks) → Spine (pb b) E
    one-spine b E h = record { base = b; steps = []; written = refl; first = h; good = λ ks e. tt }

    pub more-spine : (p : Pieces) (E F : Kinds → Type 0) (s : Step X) → Spine p E → ((ks : Kinds) → F ks → E (onto (px s.is) ks)) → ((ks : Kinds) → F ks → D s.is ks) → Spine (starts s.at & p & px s.is) F
    more-spine p E F s sp here last = record {
      base = sp.base;
      steps = sp.steps ++ s ∷ [];
      written = ap (λ q. starts s.at & q & px s.is) sp.written ∙ sym (spun-more (pb sp.base) sp.steps s);
      first = λ ks f. subst (A sp.base) (sym (after-more sp.steps s ks)) (sp.first (onto (px s.is) ks) (here ks f));
      good = λ ks f. good-more sp.steps s ks (sp.good (onto (px s.is) ks) (here ks f)) (last ks f);
    }

-- ---- two of them

module _ {B X C Y : Type 0} (pb : B → Pieces) (px : X → Pieces) (pc : C → Pieces) (py : Y → Pieces) where
  abbrev AllAlike : List (Step X) → List (Step Y) → Type 0
  AllAlike [] [] = Unit {0}
  AllAlike (s ∷ ss) (r ∷ rs) = Alike (px s.is) (py r.is) × AllAlike ss rs
  AllAlike ss rs = ⊥

  spun-alike : (p q : Pieces) (ss : List (Step X)) (rs : List (Step Y)) → Alike p q → AllAlike ss rs → Alike (spun pb px p ss) (spun pc py q rs)
  spun-alike p q [] [] a all = a
  spun-alike p q (s ∷ ss) (r ∷ rs) a all = spun-alike (starts s.at & p & px s.is) (starts r.at & q & py r.is) ss rs (tt, (a, all.0)) all.1
  spun-alike p q [] (r ∷ rs) a all = absurd all
  spun-alike p q (s ∷ ss) [] a all = absurd all

  module _ (A : B → Kinds → Type 0) (D : X → Kinds → Type 0) (A2 : C → Kinds → Type 0) (D2 : Y → Kinds → Type 0) (Stop : Kinds → Type 0)
      (no-x : (x : X) (zs : Kinds) → Stop (onto (px x) zs) → ⊥) (no-y : (y : Y) (zs : Kinds) → Stop (onto (py y) zs) → ⊥)
      (bases : (b : B) (c : C) (zs ws : Kinds) → A b zs → A2 c ws → onto (pb b) zs ≡ onto (pc c) ws → Same (pb b) (pc c) zs ws)
      (operands : (x : X) (y : Y) (zs ws : Kinds) → D x zs → D2 y ws → onto (px x) zs ≡ onto (py y) ws → Same (px x) (py y) zs ws) where
    steps-same : (ss : List (Step X)) (rs : List (Step Y)) (ks ls : Kinds) → AllGood pb px A D ss ks → AllGood pc py A2 D2 rs ls → Stop ks → Stop ls → after pb px ss ks ≡ after pc py rs ls → AllAlike ss rs × (ks ≡ ls)
    steps-same [] [] ks ls g h k l e = (tt, e)
    steps-same [] (r ∷ rs) ks ls g h k l e = absurd (no-y r.is (after pc py rs ls) (subst Stop e k))
    steps-same (s ∷ ss) [] ks ls g h k l e = absurd (no-x s.is (after pb px ss ks) (subst Stop (sym e) l))
    steps-same (s ∷ ss) (r ∷ rs) ks ls g h k l e =
        let a = operands s.is r.is (after pb px ss ks) (after pc py rs ls) g.0 h.0 e in
        let more = steps-same ss rs ks ls g.1 h.1 k l a.1 in
        ((a.0, more.0), more.1)

    pub spines-same : (p q : Pieces) (E F : Kinds → Type 0) → Spine pb px A D p E → Spine pc py A2 D2 q F → (ks ls : Kinds) → E ks → F ls → Stop ks → Stop ls → onto p ks ≡ onto q ls → Same p q ks ls
    spines-same p q E F sp sq ks ls x y k l e =
        let here : onto (pb sp.base) (after pb px sp.steps ks) ≡ onto (pc sq.base) (after pc py sq.steps ls) =
        sym (ap (λ r. onto r ks) sp.written ∙ onto-spun pb px (pb sp.base) sp.steps ks) ∙ e ∙ ap (λ r. onto r ls) sq.written ∙ onto-spun pc py (pc sq.base) sq.steps ls in
        let b = bases sp.base sq.base (after pb px sp.steps ks) (after pc py sq.steps ls) (sp.first ks x) (sq.first ls y) here in
        let s = steps-same sp.steps sq.steps ks ls (sp.good ks x) (sq.good ls y) k l b.1 in
        (subst (λ r. Alike r q) (sym sp.written) (subst (λ r. Alike (spun pb px (pb sp.base) sp.steps) r) (sym sq.written) (spun-alike (pb sp.base) (pc sq.base) sp.steps sq.steps b.0 s.0)), s.1)
