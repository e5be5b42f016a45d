-- Parameters and names at the front of tokens: how far they go by the grammar, where the reader says how far it goes.
use Rattle.std.proofs.Common.{◌≡◌, ◌≤◌, Bool, true, false, List, length, Option, None, Some, Result, Ok, Err, IfOk, IfErr, Bor, refl, sym, ap, ◌∙◌, arith}
use Rattle.std.specs.Prelude.{option_map, IfSome, IfNone}
use Rattle.bal_base.specs.declared.stop.Stop.{Stop}
use Rattle.bal_base.specs.declared.stop.Stop.TheVariants.{Memory, Fault}
use Rattle.bal_base.specs.declared.token.Token.{Token}
use Rattle.bal_tree.specs.declared.name.Prefix.{Prefix}
use Rattle.bal_tree.specs.declared.name.Prefix.TheVariants.{Word as WordPrefix, Int as IntPrefix}
use Rattle.bal_tree.specs.declared.name.QualifiedName.{QualifiedName}
use Rattle.bal_tree.specs.declared.params.Params.{Params}
use Rattle.bal_tree.specs.ExprRules.{name_begins_with_word}
use Rattle.bal_tree.specs.NamePieces.{name_pieces}
use Rattle.bal_tree.specs.Spells.{onto, kinds_of}
use Rattle.bal_tree.specs.TypeRules.{name_fits}
use Rattle.token_steps.specs.declared.steps.Missing.{Missing}
use Rattle.parse_types.specs.Reaches.{name}
use Rattle.parse_types.specs.Starts.{Leaves, IfMissing}
use Rattle.token_steps.specs.Tokens.{Kinds}
use Rattle.parse_types.proofs.Readings.{length-kinds}
use Rattle.parse_expr.specs.Reaches.{primary, inside, params}
use Rattle.parse_expr.specs.Starts.{StartsParams, StartsName}
use Rattle.parse_expr.proofs.ParamsLaw.{params-law}
use Rattle.parse_expr.proofs.PrimaryLaw.{name-law}

module _ (tokens : List Token) where
  -- ---- parameters

  is-exact : (rest : List Token) → params (kinds_of tokens) ≡ Some (kinds_of rest) → (behind : Kinds) → StartsParams tokens behind → kinds_of rest ≡ behind
  is-exact rest is behind h =
      let both : Some (kinds_of rest) ≡ Some behind = sym is ∙ ap params h.2 ∙ params-law h.0 behind h.1 in
      cc both

  has-none : params (kinds_of tokens) ≡ None → (behind : Kinds) → StartsParams tokens behind → ⊥
  has-none is behind h =
      let both : None ≡ Some behind = sym is ∙ ap params h.2 ∙ params-law h.0 behind h.1 in
      cc both

  pub params-exact : (r : Result (Params × Bor (List Token)) (Stop Missing)) → Leaves (params (kinds_of tokens)) r → IfOk r (λ x. (behind : Kinds) → StartsParams tokens behind → kinds_of x.1.now ≡ behind)
  params-exact (Ok x) e = is-exact x.1.now e
  params-exact (Err stop) e = tt

  pub params-none : (r : Result (Params × Bor (List Token)) (Stop Missing)) → Leaves (params (kinds_of tokens)) r → IfErr r (λ stop. IfMissing stop ((behind : Kinds) → StartsParams tokens behind → ⊥))
  params-none (Ok x) e = tt
  params-none (Err (Fault f)) e = has-none e
  params-none (Err Memory) e = tt

-- ---- names

name-left : (n : QualifiedName) (middle : Bool) (ks : Kinds) → name_fits middle n.prefix ≡ true → name_begins_with_word n.prefix ≡ true → (left : Kinds) × (name middle (onto (name_pieces n) ks) ≡ Some left) × (length left ≤ length ks)
name-left n middle ks fits begins =
    let at = name-law n 0 middle ks fits in
    (at.rest, same n.prefix begins ∙ at.is, at.no_more)
  where
    same : (p : Option Prefix) → name_begins_with_word p ≡ true → name middle (onto (name_pieces record n { prefix = p }) ks) ≡ primary (inside 0 10 false) middle (onto (name_pieces record n { prefix = p }) ks)
    same None b = refl
    same (Some (WordPrefix w)) b = refl
    same (Some (IntPrefix at)) b = cc

module _ (middle : Bool) (tokens : List Token) where
  pub name-longest : (r : Option (QualifiedName × Bor (List Token))) → option_map (λ x. kinds_of x.1.now) r ≡ name middle (kinds_of tokens) → IfSome r (λ x. (behind : Kinds) → StartsName middle tokens behind → length x.1.now ≤ length behind)
  name-longest None e = tt
  name-longest (Some x) e = λ behind h.
      let (left, is, no_more) = name-left h.0 middle behind h.1 h.2 in
      let both : Some (kinds_of x.1.now) ≡ Some left = e ∙ ap (name middle) h.3 ∙ is in
      let same : kinds_of x.1.now ≡ left = cc both in
      let size = ap length same in
      let kinds = length-kinds x.1.now in
      omega arith

  pub name-none : (r : Option (QualifiedName × Bor (List Token))) → option_map (λ x. kinds_of x.1.now) r ≡ name middle (kinds_of tokens) → IfNone r ((behind : Kinds) → StartsName middle tokens behind → ⊥)
  name-none (Some x) e = tt
  name-none None e = λ behind h.
      let (left, is, no_more) = name-left h.0 middle behind h.1 h.2 in
      let both : None ≡ Some left = e ∙ ap (name middle) h.3 ∙ is in
      cc both
