-- The first number at which a test passes, in a list that gets one more member.
use Rattle.std.proofs.Common.{◌≡◌, ◌==◌, ◌&&◌, ℕ, ◌+◌, ◌<◌, Bool, true, false, List, [], ◌∷◌, ◌++◌, length, get_or, take, refl, sym, ap, ◌∙◌, arith, Option, None, Some, cond}
use Rattle.std.specs.List.{position_from}
use Rattle.std.specs.Option.{option_or, is_none}
use Rattle.std.specs.Cmp.Lexicographic.{bytes_decides}
use Rattle.std.proofs.lemmas.Bool.Decides.{same_from_decides, Decides-eqb}
use Rattle.std.proofs.lemmas.Bool.{false≢true}
use Rattle.std.proofs.lemmas.List.{length-take}
use Rattle.bal_base.specs.declared.text.Name.{Name}
use Rattle.type_model.specs.Places.{is_same_text}
use Rattle.name_resolution.specs.declared.outlines.Outline.{Outline}
use Rattle.name_resolution.specs.Resolved.{defines, first_defined}
use Rattle.name_resolution.proofs.MentionLoops.{same_text-sym}
use Rattle.graphs.proofs.Rows.{take-more}

position-push : {X : Type 0} (test : X → Bool) (first : ℕ) (xs : List X) (x : X)
    → position_from test first (xs ++ x ∷ []) ≡ option_or (position_from test first xs) (cond (test x) (Some (first + length xs)) None)
position-push test first [] x = ap (λ n. cond (test x) (Some n) None) (omega arith)
position-push test first (y ∷ ys) x = by (test y) (position-push test (first + 1) ys x)
  where
    by : (b : Bool) → position_from test (first + 1) (ys ++ x ∷ []) ≡ option_or (position_from test (first + 1) ys) (cond (test x) (Some (first + 1 + length ys)) None)
        → cond b (Some first) (position_from test (first + 1) (ys ++ x ∷ []))
        ≡ option_or (cond b (Some first) (position_from test (first + 1) ys)) (cond (test x) (Some (first + length (y ∷ ys))) None)
    by true rest = refl
    by false rest = rest ∙ ap (λ n. option_or (position_from test (first + 1) ys) (cond (test x) (Some n) None)) (omega arith)

pub defined-more : (outlines : List Outline) (i : ℕ) (d : Outline) (before now : ℕ → Name → Option ℕ) → i < length outlines → d ≡ get_or outlines i d
    → ((m : ℕ) (name : Name) → before m name ≡ first_defined (take i outlines) m name)
    → ((m : ℕ) (name : Name) → now m name ≡ option_or (before m name) (cond (defines m name d) (Some i) None))
    → (m : ℕ) (name : Name) → now m name ≡ first_defined (take (i + 1) outlines) m name
defined-more outlines i d before now lt is known next m name =
    next m name ∙ ap (λ o. option_or o (cond (defines m name d) (Some i) None)) (known m name)
    ∙ sym (ap (position_from (defines m name) 0) (take-more outlines i d lt is) ∙ position-push (defines m name) 0 (take i outlines) d
    ∙ ap (λ n. option_or (first_defined (take i outlines) m name) (cond (defines m name d) (Some n) None)) (grind (arith, length-take, lt)))

-- ---- one key more

same_number-sym : (m n : ℕ) → (m == n) ≡ (n == m)
same_number-sym m n = let d = Decides-eqb m n in let e = Decides-eqb n m in
    same_from_decides (m == n) (n == m) d ((λ h. sym (e.0 h)), (λ p. e.1 (sym p)))

or-none : (o : Option ℕ) → o ≡ option_or o None
or-none None = refl
or-none (Some n) = refl

is_it : (a b : Bool) → (a && b) ≡ true → (a ≡ true) × (b ≡ true)
is_it true true h = (refl, refl)
is_it true false h = absurd (false≢true h)
is_it false b h = absurd (false≢true h)

-- a name that isn't there yet gets a number
pub noted : (d : Outline) (n : ℕ) (before now : ℕ → Name → Option ℕ) → before d.«module» d.name ≡ None
    → ((m : ℕ) (name : Name) → now m name ≡ cond ((d.«module» == m) && is_same_text d.name name) (Some n) (before m name))
    → (m : ℕ) (name : Name) → now m name ≡ option_or (before m name) (cond (defines m name d) (Some n) None)
noted d n before now absent next m name =
    next m name ∙ ap (λ b. cond b (Some n) (before m name)) (ap (λ b. b && is_same_text d.name name) (same_number-sym d.«module» m) ∙ ap (λ b. (m == d.«module») && b) (same_text-sym d.name name))
    ∙ by (defines m name d) refl
  where
    there : (m ≡ d.«module») → (name ≡ d.name) → before m name ≡ None
    there p q = ap (λ k. before k name) p ∙ ap (before d.«module») q ∙ absent

    by : (b : Bool) → defines m name d ≡ b → cond b (Some n) (before m name) ≡ option_or (before m name) (cond b (Some n) None)
    by true h = let both = is_it (m == d.«module») (is_same_text name d.name) h in
        sym (ap (λ o. option_or o (Some n)) (there ((Decides-eqb m d.«module»).0 both.0) ((bytes_decides name d.name).0 both.1)))
    by false h = or-none (before m name)

-- one that is there keeps it
pub stays : (d : Outline) (n k : ℕ) (before : ℕ → Name → Option ℕ) → before d.«module» d.name ≡ Some k
    → (m : ℕ) (name : Name) → before m name ≡ option_or (before m name) (cond (defines m name d) (Some n) None)
stays d n k before present m name = by (defines m name d) refl
  where
    there : (m ≡ d.«module») → (name ≡ d.name) → before m name ≡ Some k
    there p q = ap (λ j. before j name) p ∙ ap (before d.«module») q ∙ present

    by : (b : Bool) → defines m name d ≡ b → before m name ≡ option_or (before m name) (cond b (Some n) None)
    by true h = let both = is_it (m == d.«module») (is_same_text name d.name) h in
        let here = there ((Decides-eqb m d.«module»).0 both.0) ((bytes_decides name d.name).0 both.1) in
        here ∙ sym (ap (λ o. option_or o (Some n)) here)
    by false h = or-none (before m name)

pub is_absent : (o : Option ℕ) → is_none o ≡ true → o ≡ None
is_absent None h = refl
is_absent (Some n) h = absurd (false≢true h)
