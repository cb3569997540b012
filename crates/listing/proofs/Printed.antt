-- The definitions give the text of sheet A (S11.16), of sheet C, two of whose findings are equally dear (S11.17 to S11.19), of sheet E,
-- which lists findings several times (S11.30), of sheets G and H, which have a junction without checks (S11.41), of sheet J, which has a
-- counted one (S11.51), and each outcome's line one.
use Prim.Native.Nat.{ℕ}
use mathlib.Core.Path.{◌≡◌, refl}
use mathlib.Core.List.{List, [], ◌∷◌, ◌++◌}
use Rattle.model.specs.declared.Outcome.TheVariants.{Over, Stopped}
use Rattle.model.proofs.Computing.{computing}
use Rattle.model.specs.Limits.{max_states}
use Rattle.model.specs.Report.{largest}
use Rattle.model.specs.Problem.{worst}
use Rattle.model.specs.Rows.{sheet_a, sheet_c, sheet_e, sheet_g, sheet_h, sheet_j}
use Rattle.listing.specs.Text.{ascii, digits}
use Rattle.listing.specs.Listing.{line_one, listed, reached_below, state_lines, listing}

pub printed-A : listing sheet_a max_states ≡ ascii "settled 500 3 3\nstage 0 check 1 value 500 by 3\nstage 3 end value 0\n"
unfolding computing digits listed reached_below state_lines listing
printed-A = refl

-- of two findings of equal largest value, neither the first nor the last, the lower; on both kinds
abbrev endings_c : List ℕ
endings_c = ascii "stage 1 end value 10\nstage 2 end value 40\nstage 3 end value 40\nstage 4 end value 20\n"

pub printed-C : listing (sheet_c 0 10 40 40 20) max_states ≡ ascii "settled 50 4 7\nstage 0 check 0 value 50 by 2\n" ++ endings_c
unfolding computing digits listed reached_below state_lines listing
printed-C = refl

pub printed-C-whole : listing (sheet_c 1 10 40 40 20) max_states ≡ ascii "settled 120 6 9\nstage 0 check 0 value 120 by 2\n" ++ endings_c
unfolding computing digits listed reached_below state_lines listing
printed-C-whole = refl

-- of values that are all 0, the first
pub printed-C-free :
    listing (sheet_c 0 0 0 0 0) max_states ≡
    ascii "settled 10 2 1\nstage 0 check 0 value 10 by 1\n"
    ++ ascii "stage 1 end value 0\nstage 2 end value 0\nstage 3 end value 0\nstage 4 end value 0\n"
unfolding computing digits listed reached_below state_lines listing
printed-C-free = refl

-- S11.30: of findings that are listed several times, a line each
pub printed-E :
    listing (sheet_e (1 ∷ 1 ∷ 2 ∷ 2 ∷ 2 ∷ [])) max_states ≡
    ascii "settled 41 4 5\nstage 0 check 0 value 41 by 2\nstage 1 end value 5\nstage 2 end value 7\n"
unfolding computing digits listed reached_below state_lines listing
printed-E = refl

-- S11.41: past a check that leads to a junction without checks, and where every check does
pub printed-G :
    listing (sheet_g worst) max_states ≡ ascii "settled 130 4 5\nstage 0 check 1 value 130 by 2\nstage 2 end value 30\n"
unfolding computing digits listed reached_below state_lines listing
printed-G = refl

pub printed-H : listing sheet_h max_states ≡ ascii "none 1000000001 3 3\n"
unfolding computing digits listing
printed-H = refl

-- S11.51: that of A
pub printed-J : listing (sheet_j 2) max_states ≡ ascii "settled 500 3 3\nstage 0 check 1 value 500 by 3\nstage 3 end value 0\n"
unfolding computing digits listed reached_below state_lines listing
printed-J = refl

pub printed-refused : listing [] max_states ≡ ascii "refused 2\n"
unfolding computing digits listing
printed-refused = refl

pub printed-over :
    line_one (record { outcome = Over; price = 1000000000; passes = 10; raises = 0; budget = largest }) ≡ ascii "over 1000000000 10 0\n"
unfolding digits
printed-over = refl

pub printed-stopped : line_one (record { outcome = Stopped; price = 200; passes = 2; raises = 2; budget = 2 }) ≡ ascii "stopped 200 2 2\n"
unfolding digits
printed-stopped = refl
