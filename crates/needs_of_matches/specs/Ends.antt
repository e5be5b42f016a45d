-- Where matches end, part by part.
use Rattle.std.specs.Prelude.{◌≡◌, Bool, List, Ok}
use Rattle.bal_base.specs.declared.place.Place.{Place}
use Rattle.checks.specs.Checks.{Comes, ◌▷◌}
use Rattle.flow_narrowing.specs.declared.flow.Flow.{Flow}
use Rattle.typed_tree.specs.declared.stmt.TypedClause.{TypedClause}
use Rattle.typed_tree.specs.Exprs.{type_of}
use Rattle.check_words.specs.Branches.{joins_all, with_no_clause}
use Rattle.check_words.specs.Sharing.{SameFlow}
use Rattle.check_words.specs.State.{MatchAtWork, State}
use Rattle.check_words.specs.Statements.{adds_stmt, takes_part}
use Rattle.check_words.specs.StmtViews.{IsMatch}
use Rattle.check_words.specs.Words.{Atoms, Step, new_slot, sets_flow}

-- the match is put together of the last part and these clauses; the value is kept
abbrev pub adds_match : List TypedClause → Place → Step
adds_match clauses at = takes_part ▷ λ subject. new_slot (type_of subject) ▷ λ own. adds_stmt (IsMatch own subject clauses at)

-- where its clauses meet, and where so, the way on which none is taken, this is known
abbrev pub knows_behind : MatchAtWork → Bool → Step
knows_behind m left = joins_all m.before (with_no_clause left m) ▷ λ f. sets_flow f

abbrev pub ends_match : MatchAtWork → Bool → Place → Step
ends_match m left at = joins_all m.before (with_no_clause left m) ▷ λ f. sets_flow f ▷ λ u. adds_match m.clauses at

-- where all ways of a match meet this is known, by whatever handles
abbrev pub JoinsAll : Atoms → MatchAtWork → Bool → Flow → Type 0
JoinsAll env m left g = (f : Flow) × SameFlow f g × ((s : State) → s.atoms ≡ env → Comes (joins_all m.before (with_no_clause left m)) s (Ok f) s)
