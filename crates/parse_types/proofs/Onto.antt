-- The tokens of pieces before others.
use Rattle.std.proofs.Common.{◌≤◌, length, arith}
use Rattle.bal_tree.specs.Pieces.{Pieces, nothing, token, starts, ◌&◌}
use Rattle.bal_tree.specs.Spells.{onto}
use Rattle.token_steps.specs.Tokens.{Kinds}

pub onto-longer : (p : Pieces) (rest : Kinds) → length rest ≤ length (onto p rest)
onto-longer nothing rest = omega arith
onto-longer (token k) rest = omega arith
onto-longer (starts at) rest = omega arith
onto-longer (p & q) rest = let h = onto-longer p (onto q rest) in let k = onto-longer q rest in omega arith
