-- How many parts, wanted types and other things that are open stand above those that were there where a construct began.
use Rattle.std.specs.Prelude.{ℕ, zero, suc}

-- so many, and so many more on them
abbrev pub plus : ℕ → ℕ → ℕ
plus n zero = n
plus n (suc k) = suc (plus n k)

pub record Heights : Type 0 where
  -- parts that belong to no call
  pub parts : ℕ
  pub wants : ℕ
  pub sorts : ℕ
  pub accesses : ℕ
  pub constructors : ℕ
  pub calls : ℕ
  pub choices : ℕ
  pub matches : ℕ
  pub blocks : ℕ
  pub units : ℕ
  -- statements in the block at hand, where that was there
  pub stmts : ℕ

infixr 20 ◌⊕◌
abbrev pub ◌⊕◌ : Heights → Heights → Heights
◌⊕◌ h g =
    record {
      parts = plus h.parts g.parts;
      wants = plus h.wants g.wants;
      sorts = plus h.sorts g.sorts;
      accesses = plus h.accesses g.accesses;
      constructors = plus h.constructors g.constructors;
      calls = plus h.calls g.calls;
      choices = plus h.choices g.choices;
      matches = plus h.matches g.matches;
      blocks = plus h.blocks g.blocks;
      units = plus h.units g.units;
      stmts = plus h.stmts g.stmts;
    }

abbrev pub none : Heights
none =
    record { parts = 0; wants = 0; sorts = 0; accesses = 0; constructors = 0; calls = 0; choices = 0; matches = 0; blocks = 0; units = 0; stmts = 0 }

-- so many of one of them

abbrev pub parts : ℕ → Heights
parts n = record none { parts = n }

abbrev pub wants : ℕ → Heights
wants n = record none { wants = n }

abbrev pub sorts : ℕ → Heights
sorts n = record none { sorts = n }

abbrev pub accesses : ℕ → Heights
accesses n = record none { accesses = n }

abbrev pub constructors : ℕ → Heights
constructors n = record none { constructors = n }

abbrev pub calls : ℕ → Heights
calls n = record none { calls = n }

abbrev pub choices : ℕ → Heights
choices n = record none { choices = n }

abbrev pub matches : ℕ → Heights
matches n = record none { matches = n }

abbrev pub blocks : ℕ → Heights
blocks n = record none { blocks = n }

abbrev pub units : ℕ → Heights
units n = record none { units = n }

-- with a statement more in the block at hand: it counts where that block was there
abbrev pub with_stmt : Heights → Heights
with_stmt h = by h.blocks
  where
    by : ℕ → Heights
    by zero = record h { stmts = suc h.stmts }
    by (suc k) = h
