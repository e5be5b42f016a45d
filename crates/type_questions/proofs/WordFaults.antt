-- What the lexer and the parser say of a word.
use Rattle.std.proofs.Common.{◌≡◌, ◌⊎◌, ℕ, ◌<◌, ◌≤◌, List, [], length, length-drop, drop, chars, IfOk, false, Result, Ok, Err, inl, inr, refl, sym, ap, subst, ◌∙◌, arith}
use Rattle.bal_base.specs.Stops.{IfFault}
use Rattle.bal_base.specs.declared.fault.Fault.{Fault}
use Rattle.bal_base.specs.declared.fault.FaultCode.TheVariants.{Depth, Syntax}
use Rattle.bal_base.specs.declared.stop.Stop.{Stop}
use Rattle.bal_base.specs.declared.stop.Stop.TheVariants.{Memory, Fault as OwnFault}
use Rattle.bal_base.specs.declared.token.Token.{Token}
use Rattle.bal_lexer.specs.Lexes.{IsRefusal, Lexes}
use Rattle.bal_tree.specs.declared.types.TypeTree.{TypeTree}
use Rattle.parse_types.specs.Starts.{IsTooDeep, HasNoType as HasNoTypeHere, StartsType}
use Rattle.token_steps.specs.Tokens.{Kinds}
use Rattle.type_questions.specs.Reading.{IsOfTokens, IsOfWord, IsTold}
use Rattle.type_questions.specs.Words.{IsShallow, at_start}

-- a word of these tokens
pub of-tokens : (file : ℕ) (text : List ℕ) (tokens : List Token) (r : Result TypeTree (Stop Fault)) → Lexes (chars text) tokens → IsOfTokens file tokens r → IsOfWord file text r
of-tokens file text tokens (Ok tree) lexes h = record { tokens = tokens; lexes = lexes; shallow = h.0; reads = h.1 }
of-tokens file text tokens (Err (OwnFault f)) lexes (inl deep) = inr (inl (tokens, lexes, deep))
of-tokens file text tokens (Err (OwnFault f)) lexes (inr none) = inr (inr (tokens, lexes, none.0, none.1, none.2))
of-tokens file text tokens (Err Memory) lexes h = tt

-- a word that is no tokens
pub of-refusal : (file : ℕ) (text : List ℕ) (stop : Stop Fault) → ((f : Fault) → stop ≡ OwnFault f → IsRefusal (chars text) file f) → IsOfWord file text (Err stop)
of-refusal file text (OwnFault f) h = inl (h f refl)
of-refusal file text Memory h = tt

module _ (file : ℕ) (tokens : List Token) where
  -- a type that leaves something is not all of the word, nor is any other one
  pub left-over : (rest : List Token) → ((left : Kinds) → StartsType false tokens left → length rest ≤ length left) → 0 < length rest → StartsType false tokens [] → ⊥
  left-over rest longest some whole = let least = longest [] whole in omega (arith, least, some)

  -- what becomes of a fault of the parser
  pub told-fault : (f told : Fault) → IsTooDeep file tokens f ⊎ HasNoTypeHere file tokens f → IsTold file f told → IsOfTokens file tokens (Err (OwnFault told))
  told-fault f told (inl deep) (inl (code, e)) = inl (subst (IsTooDeep file tokens) (sym e) deep)
  told-fault f told (inl deep) (inr (other, e)) = absurd (other (ap (λ g. g.code) deep.2))
  told-fault f told (inr none) (inl (code, e)) = let bad : Syntax ≡ Depth = sym (ap (λ g. g.code) none.2) ∙ code in let no : ⊥ = cc in absurd no
  told-fault f told (inr none) (inr (other, e)) = inr (none.0, none.1 [], e)

  some-left : (end : ℕ) → end < length tokens → 0 < length (drop end tokens)
  some-left end lt = let e = length-drop end tokens in omega (arith, e, lt)

  module _ (r : Result (TypeTree × ℕ) (Stop Fault)) where
    -- the parser read a type, and left something
    pub is-part : (tree : TypeTree) (end : ℕ) → r ≡ Ok (tree, end) → end < length tokens
        → IfOk r (λ r. (left : Kinds) → StartsType false tokens left → length (drop r.1 tokens) ≤ length left)
        → IfOk r (λ r. IsShallow tokens) → (fault : Fault) → fault ≡ at_start file → IsOfTokens file tokens (Err (OwnFault fault))
    is-part tree end is lt longest shallow fault e =
        let here : (left : Kinds) → StartsType false tokens left → length (drop end tokens) ≤ length left =
        subst (λ q. IfOk q (λ p. (left : Kinds) → StartsType false tokens left → length (drop p.1 tokens) ≤ length left)) is longest in
        let none : IsShallow tokens = subst (λ q. IfOk q (λ p. IsShallow tokens)) is shallow in
        inr (none, left-over (drop end tokens) here (some-left end lt), e)

    -- the parser refused
    pub is-refused : (f told : Fault) → r ≡ Err (OwnFault f) → IfFault r (λ g. IsTooDeep file tokens g ⊎ HasNoTypeHere file tokens g) → IsTold file f told → IsOfTokens file tokens (Err (OwnFault told))
    is-refused f told is refused h =
        told-fault f told (subst (λ q. IfFault q (λ g. IsTooDeep file tokens g ⊎ HasNoTypeHere file tokens g)) is refused) h
