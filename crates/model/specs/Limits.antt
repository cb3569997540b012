-- The limits of a sheet, one definition each. `src/lib.rt` has the same numbers for the code, and where the two differ, a proof fails.
use Rattle.std.specs.Prelude.{ℕ, suc, ◌^◌}

-- S4.1, S4.3: the most stages that a sheet has, and the fewest entries of its index table
abbrev pub max_states : ℕ
max_states = 4096

-- S4.2: the fewest and the most bytes that a sheet has
abbrev pub min_bytes : ℕ
min_bytes = 17

abbrev pub max_bytes : ℕ
max_bytes = 60000

-- S3.3, S3.2: the most checks that a junction has, and the most findings that a check has
abbrev pub max_actions : ℕ
max_actions = 16

abbrev pub max_successors : ℕ
max_successors = 16

-- S4.5: the largest cost of a check or an ending
abbrev pub max_cost : ℕ
max_cost = 1000000

-- S2.7: the ceiling, which a price or a least cost above it counts as
unfoldable pub ceiling : ℕ
ceiling = 1000000000

-- S2.11: the number that is written for none, 1,000,000,001: above every other value
abbrev pub no_plan : ℕ
no_plan = suc ceiling

-- S7.3, S8.8: raises are fewer than this: as many stages as there may be, times 1,000,000,001, are fewer
abbrev pub many_raises : ℕ
many_raises = 2 ^ 42
