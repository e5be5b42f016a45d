-- Where the body of a function goes wrong: its signature is read just up to its brace, and what is said of the statements behind that
-- holds of the body.
use Rattle.std.proofs.Common.{◌≡◌, ℕ, Bool, true, false, List, ◌∷◌, map, Option, None, Some, Result, Ok, Err, IfOk, Bor, refl, sym, ap, ◌∙◌, arith, inl, inr}
use Rattle.bal_base.specs.declared.stop.Memory.{Memory}
use Rattle.bal_base.specs.declared.fault.Fault.{Fault}
use Rattle.bal_base.specs.declared.token.Token.{Token}
use Rattle.bal_base.specs.declared.token.TokenKind.TheVariants.{Sign as SignKind}
use Rattle.bal_base.specs.declared.token.Keyword.TheVariants.{Public as PublicKey, Isolated as IsolatedKey, Function as FunctionKey}
use Rattle.bal_base.specs.declared.token.Sign.TheVariants.{OpenBrace}
use Rattle.bal_tree.specs.DefRules.{type_is_formed_if}
use Rattle.bal_tree.specs.NamePieces.{word_pieces}
use Rattle.bal_tree.specs.Pieces.{◌&◌, if_boxed, joined, key, key_if}
use Rattle.bal_tree.specs.Spells.{first_place, kinds_of, onto}
use Rattle.bal_tree.specs.StmtPieces.{stmt_pieces}
use Rattle.bal_tree.specs.TypePieces.{params_pieces, returning, type_pieces}
use Rattle.bal_tree.specs.TypeRules.{params_are_formed}
use Rattle.bal_tree.proofs.Spelling.{spells-onto}
use Rattle.parse_types.specs.Loops.{◌>>=◌}
use Rattle.token_steps.specs.Tokens.{Kinds, take_sign}
use Rattle.parse_types.proofs.Law.{both_pass}
use Rattle.parse_types.proofs.Readings.{length-kinds}
use Rattle.parse_expr.specs.Reaches.{params}
use Rattle.parse_stmt.specs.declared.stops.Signature.{Signature}
use Rattle.parse_stmt.specs.Reaches.{body_front, result_if}
use Rattle.parse_stmt.specs.Starts.{FrontReading, IsStop, IsWrong, StopsAt, WantsAt, WithinBody, begun_pieces, no_stmt, signature_is_formed, signature_pieces}
use Rattle.parse_stmt.specs.inner.Stops.{ComeWanting, IsLastStop, Leads, NoStmt}
use Rattle.parse_stmt.proofs.DefLaw.{brace-behind, result-law}
use Rattle.parse_stmt.proofs.FileLaw.{same-rest}
use Rattle.parse_stmt.proofs.Known.{Known}

-- there is one such place
pub one-stop : (file : ℕ) (tokens a b : List Token) → StopsAt file tokens a → StopsAt file tokens b → a ≡ b
one-stop file tokens a b x y =
    let below = x.is_last b y.wants in
    let above = y.is_last a x.wants in
    let v = x.wants.within in
    let w = y.wants.within in
    same-rest file (begun_pieces v.signature v.stmts) (begun_pieces w.signature w.stmts) tokens a b v.spells w.spells (omega arith)

-- and one fault of what goes wrong
pub one-wrong : (file : ℕ) (tokens : List Token) (f g : Fault) → IsWrong file tokens f → IsWrong file tokens g → f ≡ g
one-wrong file tokens f g (inl (a, at, e)) (inl (b, bt, h)) = e ∙ ap (λ ts. no_stmt (first_place file ts)) (one-stop file tokens a b at bt) ∙ sym h
one-wrong file tokens f g (inl (a, at, e)) (inr (never, h)) = absurd (never a at)
one-wrong file tokens f g (inr (never, e)) (inl (b, bt, h)) = absurd (never b bt)
one-wrong file tokens f g (inr (never, e)) (inr (other, h)) = e ∙ sym h

module _ (known : Known) where
  front-law : (s : Signature) (zs : Kinds) → signature_is_formed s ≡ true → body_front (onto (signature_pieces s) (SignKind OpenBrace ∷ zs)) ≡ Some zs
  front-law s zs f =
      let b = both_pass (params_are_formed s.params) (type_is_formed_if s.result) f in
      let ys = onto (if_boxed (λ t. returning (type_pieces t)) s.result) (SignKind OpenBrace ∷ zs) in
      head s.public s.isolated (onto (params_pieces s.params) ys)
      ∙ ap (λ o. o >>= result_if >>= take_sign OpenBrace) (known.params_law s.params ys b.0)
      ∙ ap (λ o. o >>= take_sign OpenBrace) (result-law known s.result (SignKind OpenBrace ∷ zs) b.1 (brace-behind zs))
    where
      head : (public isolated : Bool) (xs : Kinds) → body_front (onto (key_if public PublicKey & key_if isolated IsolatedKey & key FunctionKey & word_pieces s.name) xs) ≡ (params xs >>= result_if >>= take_sign OpenBrace)
      head true true xs = refl
      head true false xs = refl
      head false true xs = refl
      head false false xs = refl

  module _ (file : ℕ) (tokens : List Token) where
    front-of : (other : List Token) (w : WithinBody file tokens other) → body_front (kinds_of tokens) ≡ Some (onto (joined (map stmt_pieces w.stmts)) (kinds_of other))
    front-of other w = ap body_front (spells-onto file (begun_pieces w.signature w.stmts) tokens other w.spells) ∙ front-law w.signature (onto (joined (map stmt_pieces w.stmts)) (kinds_of other)) w.signature_formed

    -- where no signature and brace stand no body goes wrong
    pub no-front : body_front (kinds_of tokens) ≡ None → (rest : List Token) → StopsAt file tokens rest → ⊥
    no-front none rest at =
        let w = at.wants.within in
        let both : None ≡ Some (onto (joined (map stmt_pieces w.stmts)) (kinds_of rest)) = sym none ∙ front-of rest w in cc both

    module _ (behind : List Token) (s : Signature) (front : FrontReading s file tokens behind) (end : body_front (kinds_of tokens) ≡ Some (kinds_of behind)) where
      leads : (other : List Token) → WithinBody file tokens other → Leads (kinds_of behind) (kinds_of other)
      leads other w =
          let both : Some (kinds_of behind) ≡ Some (onto (joined (map stmt_pieces w.stmts)) (kinds_of other)) = sym end ∙ front-of other w in
          record { statements = w.stmts; formed = w.are_formed; is = cc both }

      -- no statement begins there
      none : (other : List Token) → WantsAt file tokens other → NoStmt (kinds_of other)
      none other w = λ t rest f e. w.no_statement rest (t, f, e)

      wants : (rest : List Token) → ComeWanting file behind rest → WantsAt file tokens rest
      wants rest h = record {
        within = record {
          signature = s;
          stmts = h.statements;
          signature_formed = front.formed;
          are_formed = h.formed;
          spells = (front.spells.0, front.spells.1, (behind, front.spells.2, h.spells));
        };
        goes_on = h.goes_on;
        no_statement = λ more t. h.no_stmt t.0 more t.1 t.2;
      }

      of-stop : (stop : Option (Bor (List Token))) → IsLastStop file behind stop → IsStop file tokens stop
      of-stop None h = λ rest at. h.others (kinds_of rest) (leads rest at.wants.within) at.wants.goes_on (none rest at.wants)
      of-stop (Some stop) h = record {
        wants = wants stop.now h.found;
        is_last = λ other w. let l = length-kinds other in let kept = h.others (kinds_of other) (leads other w.within) w.goes_on (none other w) in omega (arith, kept);
      }

      pub of-answer : (r : Result (Option (Bor (List Token))) Memory) → IfOk r (λ stop. IsLastStop file behind stop) → IfOk r (λ stop. IsStop file tokens stop)
      of-answer (Ok stop) h = of-stop stop h
      of-answer (Err e) h = tt
