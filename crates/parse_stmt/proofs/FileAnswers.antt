-- The whole answer: the tree, or the place where the file goes wrong.
use Rattle.std.proofs.Common.{◌≡◌, ◌⊎◌, ℕ, ◌≤◌, true, List, [], ◌∷◌, length, None, Result, Ok, Err, IfOk, inr, refl, sym, ◌∙◌, subst, arith}
use Rattle.std.specs.List.{list_all}
use Rattle.bal_base.specs.declared.fault.Fault.{Fault}
use Rattle.bal_base.specs.declared.stop.Stop.{Stop}
use Rattle.bal_base.specs.declared.stop.Stop.TheVariants.{Memory, Fault as FaultOf}
use Rattle.bal_base.specs.declared.token.Token.{Token}
use Rattle.bal_tree.specs.declared.def.FileTree.{FileTree}
use Rattle.bal_tree.specs.DefPieces.{file_pieces}
use Rattle.bal_tree.specs.DefRules.{def_is_formed, file_is_formed}
use Rattle.bal_tree.specs.Reads.{Reads}
use Rattle.bal_tree.specs.Spells.{Spells, kinds_of}
use Rattle.bal_tree.proofs.Spelling.{spells-onto}
use Rattle.parse_types.specs.Nesting.{first_too_deep}
use Rattle.bal_base.specs.Stops.{IfFault}
use Rattle.parse_types.proofs.Parsing.{rest-place}
use Rattle.parse_types.proofs.Readings.{length-kinds}
use Rattle.parse_stmt.specs.Chosen.{IsChosen, IsSameFile}
use Rattle.parse_stmt.specs.Reaches.{def, import}
use Rattle.parse_stmt.specs.Starts.{BreaksAt, IsBroken, IsFileTooDeep, IsNotRefused, IsRefused, IsWrong, WholeOr, front_pieces}
use Rattle.parse_stmt.proofs.FileLaw.{breaks-there, def-never, import-never, no-def-at-end, no-import-at-end, same-front}
use Rattle.parse_stmt.proofs.Known.{Known}
use Rattle.parse_stmt.proofs.OneTree.{chosen-one}
use Rattle.parse_stmt.proofs.StopLaw.{one-wrong}

-- the imports and definitions of a tree without its place
front-of : (file : ℕ) (tokens rest : List Token) (tree : FileTree) → Spells file (file_pieces tree) tokens rest → Spells file (front_pieces tree.imports.items tree.defs.items) tokens rest
front-of file tokens rest tree spells = subst (λ t. Spells file (front_pieces tree.imports.items tree.defs.items) t rest) (sym spells.1.1) spells.2

none-left : (ts : List Token) → kinds_of ts ≡ [] → ts ≡ []
none-left [] e = refl
none-left (t ∷ ts) e = cc e

module _ (known : Known) (file : ℕ) (tokens rest : List Token) (tree : FileTree) (formed : list_all def_is_formed tree.defs.items ≡ true) (spells : Spells file (file_pieces tree) tokens rest) (no_def : def (length tokens) (kinds_of rest) ≡ None) (no_import : tree.defs.items ≡ [] → import (kinds_of rest) ≡ None) where
  short : length (kinds_of rest) ≤ length tokens
  short = let place = rest-place file (file_pieces tree) tokens 0 rest spells in let l = place.0 in let k = length-kinds rest in omega arith

  front : Spells file (front_pieces tree.imports.items tree.defs.items) tokens rest
  front = front-of file tokens rest tree spells

  breaks : (rest ≡ [] → ⊥) → BreaksAt file tokens rest
  breaks some = record {
    imports = tree.imports.items;
    defs = tree.defs.items;
    are_formed = formed;
    spells = front;
    goes_on = some;
    no_def = λ behind s. def-never known (length tokens) (kinds_of rest) short no_def s.0 behind s.1 s.2;
    no_import = λ none behind s. import-never (kinds_of rest) (no_import none) s.0 behind s.1;
  }

  pub result-refused : (r : Result FileTree (Stop Fault)) → first_too_deep (kinds_of tokens) ≡ None → WholeOr tree file rest r → IfFault r (λ f. IsFileTooDeep file tokens f ⊎ IsBroken file tokens f)
  result-refused (Ok t) shallow w = tt
  result-refused (Err Memory) shallow w = tt
  result-refused (Err (FaultOf f)) shallow w = inr (shallow, (rest, breaks w.0, w.1))

  there : (fault : Fault) → IsBroken file tokens fault → (rest ≡ [] → ⊥) × IsWrong file rest fault
  there fault b =
      let same =
      breaks-there known file tokens rest b.1.0 tree.imports.items tree.defs.items formed front
      (λ d behind f e. def-never known (length tokens) (kinds_of rest) short no_def d behind f e) (λ none i behind e. import-never (kinds_of rest) (no_import none) i behind e) b.1.1 in
      (λ none. b.1.1.goes_on (sym same ∙ none), subst (λ ts. IsWrong file ts fault) (sym same) b.1.2)

  pub result-exact : (r : Result FileTree (Stop Fault)) → WholeOr tree file rest r → (fault : Fault) → IsBroken file tokens fault → IsRefused r fault
  result-exact (Ok t) w fault b = (there fault b).0 w.1
  result-exact (Err Memory) w fault b = tt
  result-exact (Err (FaultOf f)) w fault b = one-wrong file rest f fault w.1 (there fault b).1

  -- where the tokens are those of some tree, nothing is left
  nothing-left : (other : FileTree) → Reads file tokens other → rest ≡ []
  nothing-left other reads =
      none-left rest (same-front known tree.imports.items other.imports.items tree.defs.items other.defs.items (kinds_of rest) [] formed reads.0
      (sym (spells-onto file (front_pieces tree.imports.items tree.defs.items) tokens rest front)
      ∙ spells-onto file (front_pieces other.imports.items other.defs.items) tokens [] (front-of file tokens [] other reads.1))
      (λ d behind f e. def-never known (length tokens) (kinds_of rest) short no_def d behind f e) (no-def-at-end known)
      (λ none i behind e. import-never (kinds_of rest) (no_import none) i behind e) (λ none. no-import-at-end))

  pub result-complete : (r : Result FileTree (Stop Fault)) → WholeOr tree file rest r → (other : FileTree) → Reads file tokens other → IsNotRefused r
  result-complete (Ok t) w other reads = tt
  result-complete (Err stop) w other reads = absurd (w.0 (nothing-left other reads))

-- ---- the tree is the chosen one

module _ (file : ℕ) (tokens rest : List Token) (tree : FileTree) (chosen : IsChosen tree) where
  pub result-chosen : (r : Result FileTree (Stop Fault)) → WholeOr tree file rest r → IfOk r (λ t. IsChosen t)
  result-chosen (Ok t) w = subst IsChosen (sym w.0) chosen
  result-chosen (Err stop) w = tt

  pub result-one : file_is_formed tree ≡ true → Spells file (file_pieces tree) tokens rest → (r : Result FileTree (Stop Fault)) → WholeOr tree file rest r → IfOk r (λ t. (u : FileTree) → Reads file tokens u → IsChosen u → IsSameFile t u)
  result-one formed spells (Ok t) w = λ u reads h.
      subst (λ x. IsSameFile x u) (sym w.0) (chosen-one file tokens tree u (formed, subst (λ ts. Spells file (file_pieces tree) tokens ts) w.1 spells) reads chosen h)
  result-one formed spells (Err stop) w = tt
