-- The whole answer: the longest type, the place behind it, and that there is none.
use Rattle.std.proofs.Common.{◌≡◌, ℕ, ◌-◌, ◌≤◌, Bool, List, [], ◌∷◌, ◌++◌, length, take, drop, None, Some, Result, Ok, Err, IfOk, IfErr, Bor, sym, ap, ◌∙◌, arith, append_assoc}
use Rattle.std.proofs.lemmas.List.{length-append, take-append-drop}
use Rattle.std.proofs.Math.Seq.{drop-append_seam}
use Rattle.bal_base.specs.declared.stop.Stop.{Stop}
use Rattle.bal_base.specs.declared.stop.Stop.TheVariants.{Memory, Fault}
use Rattle.bal_base.specs.declared.token.Token.{Token}
use Rattle.bal_tree.specs.declared.types.TypeTree.{TypeTree}
use Rattle.bal_tree.specs.Pieces.{Pieces, nothing, token, starts, ◌&◌}
use Rattle.bal_tree.specs.Spells.{Spells, kinds_of}
use Rattle.bal_tree.specs.TypeRules.{type_end}
use Rattle.token_steps.specs.declared.steps.Missing.{Missing}
use Rattle.parse_types.specs.Reaches.{Left, union, inside}
use Rattle.parse_types.specs.Starts.{StartsType, LeavesAs, IfMissing, type_left}
use Rattle.token_steps.specs.Tokens.{Kinds}
use Rattle.parse_types.proofs.Law.{all_loops, all_loops-less}
use Rattle.parse_types.proofs.Readings.{length-kinds}
use Rattle.parse_types.proofs.WholeLaw.{type-law}

module _ (middle : Bool) (tokens : List Token) (n : ℕ) (fits : length tokens ≤ n) where
  -- the reader at a type that stands at the front
  reads-it : (behind : Kinds) → StartsType middle tokens behind → (l : Left) × (union (inside n) middle (kinds_of tokens) ≡ Some l) × (length l.rest ≤ length behind)
  reads-it behind h =
      let t = h.0 in
      let size = ap length h.2 in
      let same = length-kinds tokens in
      let at = type-law t n middle behind h.1 (omega arith) in
      let less = all_loops-less n middle at.left in
      let no_more = at.went.no_more in
      (all_loops n middle at.left, ap (union (inside n) middle) h.2 ∙ at.is, omega arith)

  pub is-longest : (rest : List Token) (in_result : Bool) → union (inside n) middle (kinds_of tokens) ≡ Some record { in_result = in_result; rest = kinds_of rest } → (behind : Kinds) → StartsType middle tokens behind → length rest ≤ length behind
  is-longest rest in_result e behind h =
      let r = reads-it behind h in
      let both : Some record { in_result = in_result; rest = kinds_of rest } ≡ Some r.0 = sym e ∙ r.1 in
      let same : record { in_result = in_result; rest = kinds_of rest } ≡ r.0 = cc both in
      let size = ap (λ (l : Left). length l.rest) same in
      let kinds = length-kinds rest in
      let less = r.2 in
      omega arith

  pub is-none : union (inside n) middle (kinds_of tokens) ≡ None → (behind : Kinds) → StartsType middle tokens behind → ⊥
  is-none e behind h =
      let r = reads-it behind h in
      let both : None ≡ Some r.0 = sym e ∙ r.1 in
      cc both

  -- ---- the same of the answer of a call

  pub longest-of : (r : Result (TypeTree × Bor (List Token)) (Stop Missing)) → LeavesAs type_left (union (inside n) middle (kinds_of tokens)) r → IfOk r (λ x. (behind : Kinds) → StartsType middle tokens behind → length x.1.now ≤ length behind)
  longest-of (Ok x) e = λ behind h. is-longest x.1.now (type_end x.0).in_result e behind h
  longest-of (Err stop) e = tt

  pub none-of : (r : Result (TypeTree × Bor (List Token)) (Stop Missing)) → LeavesAs type_left (union (inside n) middle (kinds_of tokens)) r → IfErr r (λ stop. IfMissing stop ((behind : Kinds) → StartsType middle tokens behind → ⊥))
  none-of (Ok x) e = tt
  none-of (Err (Fault f)) e = λ behind h. is-none e behind h
  none-of (Err Memory) e = tt

-- what is spelled stands before the rest
spells-front : (file : ℕ) (p : Pieces) (a b : List Token) → Spells file p a b → (front : List Token) × (a ≡ front ++ b)
spells-front file nothing a b h = ([], h)
spells-front file (token kind) a b h = (h.first ∷ [], h.splits)
spells-front file (starts at) a b h = ([], h.1)
spells-front file (p & q) a b h =
    let f = spells-front file p a h.0 h.1 in
    let g = spells-front file q h.0 b h.2 in
    (f.0 ++ g.0, f.1 ∙ ap (λ ts. f.0 ++ ts) g.1 ∙ sym (append_assoc f.0 g.0 b))

-- the place of the rest
pub rest-place : (file : ℕ) (p : Pieces) (tokens : List Token) (from : ℕ) (rest : List Token) → Spells file p (drop from tokens) rest → (length rest ≤ length tokens) × (drop (length tokens - length rest) tokens ≡ rest)
rest-place file p tokens from rest h =
    let f = spells-front file p (drop from tokens) rest h in
    let pre = take from tokens ++ f.0 in
    let whole : tokens ≡ pre ++ rest = sym (take-append-drop from tokens) ∙ ap (λ ts. take from tokens ++ ts) f.1 ∙ sym (append_assoc (take from tokens) f.0 rest) in
    let size = ap length whole ∙ length-append pre rest in
    let at : length tokens - length rest ≡ length pre = omega arith in
    (omega arith, ap (λ n. drop n tokens) at ∙ ap (drop (length pre)) whole ∙ drop-append_seam pre rest)
