-- A text from its first character on that is no blank.
use Rattle.std.proofs.Common.{◌≡◌, ◌∙◌, ◌+◌, ℕ, suc, Bool, true, false, List, [], ◌∷◌, Some, None, cond, drop, position, not, refl, sym, ap, subst, arith}
use Rattle.std.specs.Prelude.{if◌then◌else◌}
use Rattle.std.specs.List.{position_or_len}
use Rattle.std.proofs.lemmas.List.{drop_all}
use Rattle.bal_io.proofs.Lines.{position_none, position_some}
use Rattle.op_model.specs.Strings.{is_blank, without_front}

abbrev is_kept : ℕ → Bool
is_kept c = not (is_blank c)

one-more : (k c : ℕ) (cs : List ℕ) → drop k cs ≡ without_front cs → (b : Bool) → drop (cond (not (not b)) (1 + k) 0) (c ∷ cs) ≡ (if b then without_front cs else c ∷ cs)
one-more k c cs h true = let one : suc k ≡ 1 + k = omega arith in subst (λ n. drop n (c ∷ cs) ≡ without_front cs) one h
one-more k c cs h false = refl

front-drop : (cs : List ℕ) → drop (position_or_len is_kept cs) cs ≡ without_front cs
front-drop [] = refl
front-drop (c ∷ cs) = one-more (position_or_len is_kept cs) c cs (front-drop cs) (is_blank c)

pub front-at : (cs : List ℕ) (i : ℕ) → position is_kept cs ≡ Some i → drop i cs ≡ without_front cs
front-at cs i h = ap (λ n. drop n cs) (sym (position_some is_kept cs i h).0) ∙ front-drop cs

pub front-nowhere : (cs : List ℕ) → position is_kept cs ≡ None → [] ≡ without_front cs
front-nowhere cs h = sym (drop_all (position_or_len is_kept cs) cs (position_none is_kept cs h)) ∙ front-drop cs

pub ruleset blanks = (front-at, front-nowhere)
