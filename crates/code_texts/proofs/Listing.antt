-- Lines and numbers that a loop adds one behind the other.
use Rattle.std.proofs.Common.{◌≡◌, ℕ, suc, ◌+◌, ◌<◌, List, [], ◌∷◌, ◌++◌, length, get_or, take, flat_map, sym, ap, subst, ◌∙◌, append_assoc, arith}
use Rattle.std.proofs.lemmas.List.{append-nil, get_or_default, length-take-le, take_more}
use Rattle.stack_code.specs.declared.instr.Instr.{Instr}
use Rattle.code_texts.specs.CodeText.{line_of, lines_from}
use Rattle.text_forms.specs.Forms.{Adds}
use Rattle.text_forms.proofs.Adding.{adds-both, adds-one_more}

-- for search: texts one behind the other
pub ruleset in_a_row = (append_assoc, append-nil)

lines-push : (place : ℕ) (xs : List Instr) (x : Instr) → lines_from place (xs ++ x ∷ []) ≡ lines_from place xs ++ line_of (place + length xs) x
lines-push place [] x = append-nil (line_of place x) ∙ ap (λ n. line_of n x) (omega arith)
lines-push place (y ∷ ys) x =
    ap (λ t. line_of place y ++ t) (lines-push (suc place) ys x ∙ ap (λ n. lines_from (suc place) ys ++ line_of n x) (omega arith))
    ∙ sym (append_assoc (line_of place y) (lines_from (suc place) ys) (line_of (place + length (y ∷ ys)) x))

-- a step of a loop that adds a line for each
pub adds-line_more : (xs : List Instr) (i : ℕ) (x : Instr) (a b c : List ℕ) → i < length xs → x ≡ get_or xs i x → Adds a (lines_from 0 (take i xs)) b → Adds b (line_of i x) c → Adds a (lines_from 0 (take (i + 1) xs)) c
adds-line_more xs i x a b c lt is before here =
    let done = take i xs in
    let long : 0 + length done ≡ i = omega (arith, length-take-le i xs (omega (arith, lt))) in
    let more : take (i + 1) xs ≡ done ++ x ∷ [] = take_more xs i x lt ∙ ap (λ y. done ++ y ∷ []) (sym is) in
    subst (λ t. Adds a t c) (sym (ap (lines_from 0) more ∙ lines-push 0 done x ∙ ap (λ n. lines_from 0 done ++ line_of n x) long))
    (adds-both a b c (lines_from 0 done) (line_of i x) before here)

-- a step of a loop that adds a text for each
pub adds-read_more : {X : Type 0} (f : X → List ℕ) (xs : List X) (i : ℕ) (d : X) (a b c : List ℕ) → i < length xs → Adds a (flat_map f (take i xs)) b → Adds b (f (get_or xs i d)) c
    → Adds a (flat_map f (take (i + 1) xs)) c
adds-read_more f xs i d a b c lt before here =
    let x = get_or xs i d in
    subst (λ ys. Adds a (flat_map f ys) c) (sym (take_more xs i x lt ∙ ap (λ y. take i xs ++ y ∷ []) (get_or_default xs i x d lt)))
    (adds-one_more f (take i xs) x a b c before here)
