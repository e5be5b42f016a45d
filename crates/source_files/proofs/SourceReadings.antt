-- What `lex` and `parse_file` say, as the reading of a text.
use Rattle.std.proofs.Common.{◌≡◌, ◌<◌, ◌⊎◌, ℕ, List, Option, Some, None, sym, ap, subst, ◌∙◌, inl, inr, ⊎_elim, arith, chars}
use Rattle.std.specs.Prelude.{IfOk, IfSome, IsSomeAnd, Result, Ok, Err, drop, length}
use Rattle.std.specs.Str.{IsCharBoundary}
use Rattle.bal_base.specs.Stops.{IfFault}
use Rattle.bal_base.specs.declared.fault.Fault.{Fault as FaultOf}
use Rattle.bal_base.specs.declared.fault.FaultCode.{FaultCode}
use Rattle.bal_base.specs.declared.stop.Stop.{Stop}
use Rattle.bal_base.specs.declared.stop.Stop.TheVariants.{Memory, Fault}
use Rattle.bal_base.specs.declared.place.Place.{Place}
use Rattle.bal_base.specs.declared.token.Token.{Token}
use Rattle.bal_lexer.specs.Lexes.{Lexes, AreSpans, IsFaultAt, IsRefusal, StandsIn}
use Rattle.bal_lexer.proofs.Readings.{lexes-same, lexes-no_refusal, refuses-same}
use Rattle.bal_tree.specs.declared.def.FileTree.{FileTree}
use Rattle.bal_tree.specs.Reads.{Reads}
use Rattle.bal_tree.specs.Spells.{kinds_of}
use Rattle.parse_types.specs.Nesting.{first_too_deep}
use Rattle.parse_types.specs.Starts.{refusal}
use Rattle.bal_base.specs.declared.fault.FaultCode.TheVariants.{Depth}
use Rattle.bal_tree.specs.Spells.{first_place}
use Rattle.parse_stmt.specs.Chosen.{IsChosen}
use Rattle.parse_stmt.specs.Starts.{IsBroken, IsFileTooDeep, IsNotRefused, IsRefused, IsWrong, begun_pieces, front_pieces}
use Rattle.source_files.specs.Sources.{HasNoTree, HasTokens, IsPlaced, IsText, IsTreeReading, NotText, NotTokens, ReadsAs, TooLong, fault_at}
use Rattle.source_files.proofs.TokenPlaces.{AreTokens, of-spans, behind-pieces, behind-some, first-placed}

-- ---- texts are read in one way

short-text : (file : ℕ) (text : List ℕ) (f : FaultOf) → IsText text → TooLong file text f → ⊥
short-text file text f t long = let short = t.0 in let more = long.0 in omega arith

is-text : (file : ℕ) (text : List ℕ) (f : FaultOf) → IsText text → NotText file text f → ⊥
is-text file text f t not = not.1 t.1

fault-is : (file : ℕ) (f : FaultOf) (code : FaultCode) (at : ℕ) → IsFaultAt file code at f → f ≡ fault_at file code at
fault-is file f code at h = λ i. record { code = h.0 i; at = h.1 i; kept = h.2 i }

-- ---- where `lex` refuses

module _ (file : ℕ) (text : List ℕ) (t : IsText text) where
  lex-fault : (f : FaultOf) → IsRefusal (chars text) file f → NotTokens file text f
  lex-fault f r = (t, (f.code, r.0, r.1, fault-is file f f.code r.0 r.2))

  -- and no other fault is due
  lex-only : (f g : FaultOf) → IsRefusal (chars text) file f → HasNoTree file text g → f ≡ g
  lex-only f g r (inl long) = absurd (short-text file text g t long)
  lex-only f g r (inr (inl not)) = absurd (is-text file text g t not)
  lex-only f g r (inr (inr (inl n))) =
      let other = n.1 in
      let same = refuses-same r.1 other.2 in
      fault-is file f f.code r.0 r.2 ∙ ((λ i. fault_at file (same.0 i) (same.1 i)) ∙ sym other.3)
  lex-only f g r (inr (inr (inr (inl d)))) = absurd (lexes-no_refusal d.1.1 r.1)
  lex-only f g r (inr (inr (inr (inr b)))) = absurd (lexes-no_refusal b.1.1 r.1)

  small : length text < 4294967295
  small = let short = t.0 in omega arith

  lex-placed : (f : FaultOf) → StandsIn text f → IsPlaced text f
  lex-placed f h = by f.at h
    where
      by : (o : Option Place) → IsSomeAnd o (λ (place : Place). (place.at < length text) × IsCharBoundary text place.at) → IfSome o (λ (place : Place). IsCharBoundary text place.at × (place.at < 4294967295))
      by (Some p) h = (h.1, let before = h.0 in let most = small in omega arith)
      by None h = tt

  pub lex-refuses : (r : Result FileTree (Stop FaultOf)) (f : FaultOf) → r ≡ Err (Fault f) → IsRefusal (chars text) file f → StandsIn text f → IsTreeReading file text r
  lex-refuses r f e is at =
      subst (IsTreeReading file text) (sym e) (record {
        reads = tt;
        fault = inr (inr (inl (lex-fault f is)));
        placed = lex-placed f at;
        fault_due = λ g due. lex-only f g is due;
        tree_due = λ tree h. absurd (lexes-no_refusal h.are.1 is.1);
      })

  -- ---- where `parse_file` answers

  module _ (tokens : List Token) (are : Lexes (chars text) tokens) where
    same-tokens : (others : List Token) → HasTokens text others → others ≡ tokens
    same-tokens others h = lexes-same h.1 are

    parsed-fault : (f : FaultOf) → IsFileTooDeep file tokens f ⊎ IsBroken file tokens f → HasNoTree file text f
    parsed-fault f (inl d) = inr (inr (inr (inl (tokens, (t, are), d))))
    parsed-fault f (inr b) = inr (inr (inr (inr (tokens, (t, are), b))))

    one-depth : (f g : FaultOf) → IsFileTooDeep file tokens f → IsFileTooDeep file tokens g → f ≡ g
    one-depth f g (i, d, e) (j, c, h) =
        let both : Some i ≡ Some j = sym d ∙ c in
        let same : i ≡ j = cc in
        e ∙ (ap (λ k. refusal Depth (first_place file (drop k tokens))) same ∙ sym h)

    deep-or-not : (f : FaultOf) → IsFileTooDeep file tokens f → first_too_deep (kinds_of tokens) ≡ None → ⊥
    deep-or-not f (i, some, e) none = let both : Some i ≡ None = sym some ∙ none in let bad : ⊥ = cc in bad

    -- a tree of the text is one of these tokens
    read-here : (tree : FileTree) → ReadsAs file text tree → Reads file tokens tree × (first_too_deep (kinds_of tokens) ≡ None)
    read-here tree h =
        let same = same-tokens h.tokens h.are in
        (subst (λ l. Reads file l tree) same h.reads, subst (λ l. first_too_deep (kinds_of l) ≡ None) same h.shallow)

    -- what is due of a text with these tokens is due of them
    due-here : (g : FaultOf) → HasNoTree file text g → IsFileTooDeep file tokens g ⊎ IsBroken file tokens g
    due-here g (inl long) = absurd (short-text file text g t long)
    due-here g (inr (inl not)) = absurd (is-text file text g t not)
    due-here g (inr (inr (inl n))) = absurd (lexes-no_refusal are n.1.2)
    due-here g (inr (inr (inr (inl d)))) = inl (subst (λ l. IsFileTooDeep file l g) (same-tokens d.0 d.1) d.2)
    due-here g (inr (inr (inr (inr b)))) = inr (subst (λ l. IsBroken file l g) (same-tokens b.0 b.1) b.2)

    are-tokens : AreSpans text 0 tokens → AreTokens text tokens
    are-tokens h = of-spans text 0 tokens h

    wrong-placed : (rest : List Token) (f : FaultOf) → AreTokens text rest → IsWrong file rest f → IsPlaced text f
    wrong-placed rest f here (inl (stop, at, e)) = subst (IsPlaced text) (sym e) (first-placed file text stop t.1 small (behind-pieces text file (begun_pieces at.wants.within.signature at.wants.within.stmts) rest stop at.wants.within.spells here))
    wrong-placed rest f here (inr (never, e)) = subst (IsPlaced text) (sym e) (first-placed file text rest t.1 small here)

    parsed-placed : (f : FaultOf) → AreSpans text 0 tokens → IsFileTooDeep file tokens f ⊎ IsBroken file tokens f → IsPlaced text f
    parsed-placed f spans (inl d) =
        subst (IsPlaced text) (sym d.2) (first-placed file text (drop d.0 tokens) t.1 small (behind-some text d.0 tokens (are-tokens spans)))
    parsed-placed f spans (inr b) = wrong-placed b.1.0 f (behind-pieces text file (front_pieces b.1.1.imports b.1.1.defs) tokens b.1.0 b.1.1.spells (are-tokens spans)) b.1.2

    pub parses :
        (r : Result FileTree (Stop FaultOf)) → AreSpans text 0 tokens → IfOk r (Reads file tokens) → IfOk r (λ tree. IsChosen tree)
        → IfOk r (λ tree. first_too_deep (kinds_of tokens) ≡ None)
        → IfFault r (λ f. IsFileTooDeep file tokens f ⊎ IsBroken file tokens f)
        → ((f : FaultOf) → IsBroken file tokens f → IsRefused r f)
        → ((tree : FileTree) → Reads file tokens tree → first_too_deep (kinds_of tokens) ≡ None → IsNotRefused r)
        → IsTreeReading file text r
    parses (Ok tree) spans reads chosen none refused exact complete =
        record {
          reads = record { tokens = tokens; are = (t, are); shallow = none; reads = reads; chosen = chosen };
          fault = tt;
          placed = tt;
          fault_due = λ g due. ⊎_elim (λ d. deep-or-not g d none) (λ b. exact g b) (due-here g due);
          tree_due = λ other h. tt;
        }
    parses (Err Memory) spans reads chosen none refused exact complete =
        record { reads = tt; fault = tt; placed = tt; fault_due = λ g due. tt; tree_due = λ other h. tt }
    parses (Err (Fault f)) spans reads chosen none refused exact complete =
        record {
          reads = tt;
          fault = parsed-fault f refused;
          placed = parsed-placed f spans refused;
          fault_due = λ g due. ⊎_elim (λ d. ⊎_elim (λ e. one-depth f g e d) (λ b. absurd (deep-or-not g d b.0)) refused) (λ b. exact g b) (due-here g due);
          tree_due = λ other h. let here = read-here other h in complete other here.0 here.1;
        }
